-- The steps.
use mathlib.Core.Path.{◌≡◌, refl, sym, ap, ◌∙◌}
use Prim.Native.Nat.{ℕ, suc, ◌+◌, ◌-◌, ◌<◌}
use native.Mathlib.Omega.{arith}
use lib.ListN.{set}
use mathlib.Core.Bool.{true}
use Rattle.limits.specs.Limits.{most_nodes}
use Rattle.graph_spec.specs.Graph.{edges_at}
use Rattle.graph_adjacency.specs.Lists.{next_arc}
use Rattle.graph_arrays.specs.Arrays.{edges_in}
use Rattle.repair_search.proofs.Along.{Known, from_first, from_known}
use Rattle.repair_way_back.specs.Back.{fitting}
use Rattle.repair_way_back.proofs.Back.{going_begin, going_here, going_none, going_skip, going_on, going_end}
use Rattle.repair_way_back.proofs.way_back.Goals as goal
use Rattle.repair_way_back.proofs.way_back.Goals.{In-back, In-loop-k, After-fits}

-- a turn writes the place before the last that was written, and there is one
turn : (c : In-back) → (suc (1533 - c.back.step) ≡ most_nodes - c.back.step) × (most_nodes - c.args.n < most_nodes - c.back.step)
turn c = (omega (arith, c.requires.edges_linked.few_nodes), omega (arith, c.requires.edges_linked.few_nodes))

-- what is known of the arc that a turn looks at
known : (c : In-loop-k) → Known c.args.n c.args.edges.now (edges_at (edges_in c.args.m c.args.edges.now) c.back.v) c.back.v c.loop-k.k
known c = from_known c.args.n c.args.m c.args.edges.now c.requires.edges_linked c.back.v _ c.loop-k.k _ c.loop-k.invariant.1 c.loop-k-test.true

test_is : (c : After-fits) → c.fits.result ≡ fitting c.args.edges.now c.args.dist.now (set c.back.seen c.back.v true) c.back.v c.loop-k.k
test_is c = c.fits.ensures ∙ ap (λ (x : ℕ). fitting c.args.edges.now c.args.dist.now (set c.back.seen c.back.v true) x c.loop-k.k) c.loop-k.invariant.0

pub back-init : goal.back-init
back-init c = going_begin c.args.n c.args.m c.args.edges.now c.requires.edges_linked c.args.dist.now c.requires.t_lt_n.1 c.args.s c.args.t c.requires.t_lt_n.0 c.args.path.now c.requires.t_lt_n.2

pub returns-then-arrived-clause-way : goal.returns-then-arrived-clause-way
returns-then-arrived-clause-way c =
    let p = turn (goal.at.returns-then-arrived-clause-way c).In-back in
    going_here c.args.n c.args.m c.args.edges.now c.requires.edges_linked c.args.dist.now c.requires.t_lt_n.1 c.args.s c.args.t c.back.v _ c.back.path c.back.seen c.back.invariant _ p.0 p.1 c.if-arrived.true

pub loop-k-init : goal.loop-k-init
loop-k-init c =
    (refl, rw c.first_arc-k.ensures (from_first c.args.n c.args.m c.args.edges.now c.requires.edges_linked c.back.v _ (omega (arith, c.requires.edges_linked.few_nodes))))

pub fits-requires : goal.fits-requires
fits-requires c =
    let K = known (goal.at.fits-requires c).In-loop-k in
    let few = c.requires.edges_linked.few_nodes in
    (omega (arith, c.loop-k.invariant.0), K.some, K.within, K.number, omega (arith, K.to))

pub offset_bounds-edges-k : goal.offset_bounds-edges-k
offset_bounds-edges-k c = omega (arith, (known (goal.at.offset_bounds-edges-k c).In-loop-k).within)

pub bounds-edges-k : goal.bounds-edges-k
bounds-edges-k c = omega (arith, (known (goal.at.bounds-edges-k c).In-loop-k).within)

pub back-preserved : goal.back-preserved
back-preserved c =
    let at = goal.at.back-preserved c in
    let p = turn at.In-back in
    let e : 1533 - c.back.step ≡ most_nodes - (c.back.step + 1) = omega arith in
    rw (c.from-v.ensures, ← e)
    (going_on c.args.n c.args.m c.args.edges.now c.requires.edges_linked c.args.dist.now c.requires.t_lt_n.1 c.args.s c.args.t c.back.v _ c.back.path c.back.seen c.back.invariant _ p.0 p.1
    c.if-arrived.false c.loop-k.k c.loop-k.invariant.1 c.loop-k-test.true (known at.In-loop-k) (sym (test_is at.After-fits) ∙ c.if-fits.true))

pub next_arc-k-requires : goal.next_arc-k-requires
next_arc-k-requires c =
    let K = known (goal.at.next_arc-k-requires c).In-loop-k in
    let few = c.requires.edges_linked.few_nodes in
    (K.some, K.within, omega (arith, c.loop-k.invariant.0))

-- the next arc of the node that the turn began at
next_is : (c : goal.After-next_arc-k) → c.next_arc-k.result ≡ next_arc c.args.edges.now.next c.args.edges.now.heads c.back.v c.loop-k.k
next_is c = c.next_arc-k.ensures ∙ ap (λ (x : ℕ). next_arc c.args.edges.now.next c.args.edges.now.heads x c.loop-k.k) c.loop-k.invariant.0

pub loop-k-smaller : goal.loop-k-smaller
loop-k-smaller c = let at = goal.at.loop-k-smaller c in omega (arith, next_is c, (known at.In-loop-k).falls)

pub loop-k-preserved : goal.loop-k-preserved
loop-k-preserved c =
    let at = goal.at.loop-k-preserved c in
    let p = turn at.In-back in (
      c.loop-k.invariant.0,
      rw (next_is c)
          (going_skip c.args.n c.args.m c.args.edges.now c.requires.edges_linked c.args.dist.now c.requires.t_lt_n.1 c.args.s c.args.t c.back.v _ c.back.path c.back.seen c.back.invariant _ p.0 p.1
          c.if-arrived.false c.loop-k.k c.loop-k.invariant.1 c.loop-k-test.true (known at.In-loop-k) (sym (test_is at.After-fits) ∙ c.if-fits.false)),
    )

pub returns-in-back-clause-way : goal.returns-in-back-clause-way
returns-in-back-clause-way c =
    let p = turn (goal.at.returns-in-back-clause-way c).In-back in
    going_none c.args.n c.args.m c.args.edges.now c.requires.edges_linked c.args.dist.now c.requires.t_lt_n.1 c.args.s c.args.t c.back.v _ c.back.path c.back.seen c.back.invariant _ p.0 p.1
    c.if-arrived.false c.loop-k.k c.loop-k.invariant.1 c.loop-k-test.false

pub returns-clause-way : goal.returns-clause-way
returns-clause-way c =
    going_end c.args.n c.args.m c.args.edges.now c.requires.edges_linked c.args.dist.now c.requires.t_lt_n.1 c.args.s c.args.t c.back.v _ c.back.path c.back.seen c.back.invariant (omega arith)
