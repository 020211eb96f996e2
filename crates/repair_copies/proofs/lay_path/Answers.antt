-- The steps.
use mathlib.Core.Path.{◌≡◌, refl, sym, ap, ◌∙◌}
use mathlib.Core.List.{List}
use Prim.Native.Nat.{ℕ, ◌+◌, ◌<◌}
use native.Mathlib.Omega.{arith}
use lib.ListN.{get_or, drop}
use lib.Ieee.{Float, nan, binary64, add, of_bits}
use Rattle.graph_spec.specs.Graph.{Arc, edges_at}
use Rattle.graph_adjacency.specs.Lists.{Adjacency, push}
use Rattle.graph_arrays.specs.Arrays.{edges_in}
use Rattle.repair_spec.specs.Copies.{lay_path, weight_to}
use Rattle.repair_search.proofs.Along.{Known, from_first, from_known}
use Rattle.repair_copies.specs.Laying.{laid_of}
use Rattle.repair_copies.proofs.Laying.{weight_here, weight_on, weight_end, Laying, laying_begin, laying_moved, laying_step, laying_end}
use Rattle.repair_copies.proofs.lay_path.Goals as goal
use Rattle.repair_copies.proofs.lay_path.Goals.{At-loop-k, In-loop-k}

-- the ends of the copy are nodes, and two
ends : (c : At-loop-k) → (c.from-u.result < c.args.n) × (c.from-v.result < c.args.n) × (c.from-u.result ≡ c.from-v.result → ⊥)
ends c =
    let i = c.step.i in
    let path = c.requires.first_lt_most_nodes.3 in (
      rw c.from-u.ensures (path i c.step.invariant.from c.step.invariant.most),
      rw c.from-v.ensures (path (i + 1) (omega (arith, c.step.invariant.from)) (omega arith)),
      λ e. c.requires.apart i c.step.invariant.from (omega arith) (sym c.from-u.ensures ∙ e ∙ c.from-v.ensures),
    )

abbrev arcs : At-loop-k → List Arc
arcs c = edges_at (edges_in c.loop-k.e c.loop-k.edges) c.from-u.result

-- nothing has changed yet
still : (c : At-loop-k) → Laying c.args.n c.args.path.now c.args.first c.args.m (lay_path (drop c.args.first c.args.path.now) (laid_of (edges_in c.args.m c.args.edges.now) c.args.sum)) c.loop-k.edges c.step.i c.loop-k.e c.loop-k.total
still c =
    let I = c.loop-k.invariant in
    laying_moved c.args.n c.args.path.now c.requires.first_lt_most_nodes.2 c.args.first c.args.m c.requires.first_lt_most_nodes.1 _ c.step.edges c.step.i c.step.e c.step.total c.step.invariant _ _ _ I.0 I.1 I.2

known : (c : In-loop-k) → Known c.args.n c.loop-k.edges (edges_at (edges_in c.loop-k.e c.loop-k.edges) c.from-u.result) c.from-u.result c.loop-k.k
known c =
    let I = c.loop-k.invariant in
    from_known c.args.n c.loop-k.e c.loop-k.edges (rw (I.0, I.1) c.step.invariant.linked) c.from-u.result (weight_to c.from-v.result) c.loop-k.k _ I.3 c.loop-k-test.true

-- a copy of the weight w laid
more : (c : At-loop-k) (w : Float) → w ≡ weight_to c.from-v.result (arcs c) → (a' : Adjacency) → a' ≡ push c.loop-k.e c.from-u.result c.from-v.result w c.loop-k.edges
    → Laying c.args.n c.args.path.now c.args.first c.args.m (lay_path (drop c.args.first c.args.path.now) (laid_of (edges_in c.args.m c.args.edges.now) c.args.sum)) a' (c.step.i + 1) (c.loop-k.e + 1) (add binary64 c.loop-k.total w)
more c w is a' pushed =
    let p = ends c in
    laying_step c.args.n c.args.path.now c.requires.first_lt_most_nodes.2 c.args.first c.args.m c.requires.first_lt_most_nodes.1 _ c.loop-k.edges c.step.i c.loop-k.e c.loop-k.total
    (still c) (omega arith) c.from-u.result c.from-v.result c.from-u.ensures c.from-v.ensures p.0 p.1 p.2 w is a' pushed

pub step-init : goal.step-init
step-init c = laying_begin c.args.n c.args.path.now c.requires.first_lt_most_nodes.2 c.args.first c.args.m c.requires.first_lt_most_nodes.1 c.args.edges.now c.args.sum c.requires.first_lt_most_nodes.0 c.requires.edges_linked

pub first_arc-k-requires : goal.first_arc-k-requires
first_arc-k-requires c =
    omega (arith, c.from-u.ensures, c.requires.first_lt_most_nodes.3 c.step.i c.step.invariant.from c.step.invariant.most, c.requires.edges_linked.few_nodes)

pub loop-k-init : goal.loop-k-init
loop-k-init c =
    let path = c.requires.first_lt_most_nodes.3 c.step.i c.step.invariant.from c.step.invariant.most in
    (refl, refl, refl, rw c.first_arc-k.ensures (from_first c.args.n c.step.e c.step.edges c.step.invariant.linked c.from-u.result (weight_to c.from-v.result) (omega (arith, c.requires.edges_linked.few_nodes))))

pub offset_bounds-edges-k : goal.offset_bounds-edges-k
offset_bounds-edges-k c = omega (arith, (known (goal.at.offset_bounds-edges-k c).In-loop-k).within)

pub bounds-edges-k : goal.bounds-edges-k
bounds-edges-k c = omega (arith, (known (goal.at.bounds-edges-k c).In-loop-k).within)

pub offset_bounds-edges-edge_number : goal.offset_bounds-edges-edge_number
offset_bounds-edges-edge_number c = omega (arith, (known (goal.at.offset_bounds-edges-edge_number c).In-loop-k).number)

pub bounds-edges-edge_number : goal.bounds-edges-edge_number
bounds-edges-edge_number c = omega (arith, (known (goal.at.bounds-edges-edge_number c).In-loop-k).number)

pub push_edge-requires : goal.push_edge-requires
push_edge-requires c =
    let at = (goal.at.push_edge-requires c).At-loop-k in
    let few = c.requires.edges_linked.few_nodes in
    (omega (arith, (still at).count, c.requires.first_lt_most_nodes.1), omega (arith, (ends at).0), omega (arith, (ends at).1))

pub step-preserved-then-from-v : goal.step-preserved-then-from-v
step-preserved-then-from-v c =
    let at = (goal.at.step-preserved-then-from-v c).At-loop-k in
    more at _
    (ap (λ (e : ℕ). get_or c.loop-k.edges.weights e nan) c.edge_number.ensures
    ∙ weight_here c.loop-k.edges (arcs at) c.from-u.result c.from-v.result c.loop-k.k c.loop-k.invariant.3 c.loop-k-test.true (sym c.from.ensures ∙ c.if-from-v.true))
    _ c.push_edge.ensures

pub next_arc-k-requires : goal.next_arc-k-requires
next_arc-k-requires c =
    let at = goal.at.next_arc-k-requires c in
    let K = known at.In-loop-k in
    (K.some, K.within, omega (arith, (ends at.At-loop-k).0, c.requires.edges_linked.few_nodes))

pub loop-k-smaller : goal.loop-k-smaller
loop-k-smaller c = omega (arith, c.next_arc-k.ensures, (known (goal.at.loop-k-smaller c).In-loop-k).falls)

pub loop-k-preserved : goal.loop-k-preserved
loop-k-preserved c =
    let I = c.loop-k.invariant in (
      I.0,
      I.1,
      I.2,
      rw c.next_arc-k.ensures (weight_on c.loop-k.edges (arcs (goal.at.loop-k-preserved c).At-loop-k) c.from-u.result c.from-v.result c.loop-k.k I.3 c.loop-k-test.true (λ e. c.if-from-v.false (c.from.ensures ∙ e))),
    )

pub push_edge-requires-in-step : goal.push_edge-requires-in-step
push_edge-requires-in-step c =
    let at = (goal.at.push_edge-requires-in-step c).At-loop-k in
    let few = c.requires.edges_linked.few_nodes in
    (omega (arith, (still at).count, c.requires.first_lt_most_nodes.1), omega (arith, (ends at).0), omega (arith, (ends at).1))

pub overflow_add-e : goal.overflow_add-e
overflow_add-e c = omega (arith, (still (goal.at.overflow_add-e c).At-loop-k).count, c.requires.first_lt_most_nodes.1)

pub overflow_add-e-in-step : goal.overflow_add-e-in-step
overflow_add-e-in-step c = omega (arith, (still (goal.at.overflow_add-e-in-step c).At-loop-k).count, c.requires.first_lt_most_nodes.1)

pub step-preserved : goal.step-preserved
unfolding of_bits
step-preserved c =
    let at = (goal.at.step-preserved c).At-loop-k in
    more at _ (weight_end c.loop-k.edges (arcs at) c.from-u.result c.from-v.result c.loop-k.k c.loop-k.invariant.3 c.loop-k-test.false) _ c.push_edge-in-step.ensures

pub returns : goal.returns
returns c =
    let e = laying_end c.args.n c.args.path.now c.requires.first_lt_most_nodes.2 c.args.first c.args.m c.requires.first_lt_most_nodes.1 _ c.step.edges c.step.i c.step.e c.step.total c.step.invariant (omega arith) in
    record { laid = e.0; linked = e.1 }
