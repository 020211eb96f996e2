-- The steps.
use mathlib.Core.Path.{◌∙◌, refl}
use native.Mathlib.Omega.{arith}
use Rattle.graph_spec.specs.Graph.{edges_at}
use Rattle.graph_arrays.specs.Arrays.{edges_in}
use Rattle.repair_search.proofs.Along.{Known}
use Rattle.repair_sweep.proofs.Along.{looking_begin, looking_known, looking_cost, looking_turn, looking_end}
use Rattle.repair_sweep.proofs.Sweep.look_along.Goals as goal
use Rattle.repair_sweep.proofs.Sweep.look_along.Goals.{In-loop-k}

-- what is known of the arc that a turn looks at
known : (c : In-loop-k) → Known c.args.n c.args.edges.now (edges_at (edges_in c.args.m c.args.edges.now) c.args.u) c.args.u c.loop-k.k
known c =
    let l = c.loop-k in
    looking_known c.args.n c.args.m c.args.edges.now c.requires.edges_held c.args.u c.requires.u_lt_n.0 c.args.d c.requires.u_lt_n.1 c.args.self.now.dist l.k l.self.dist l.self.touched l.listed l.invariant.0 c.loop-k-test.true

pub loop-k-init : goal.loop-k-init
loop-k-init c = (
  rw c.first_arc-k.ensures (looking_begin c.args.n c.args.m c.args.edges.now c.requires.edges_held c.args.u c.requires.u_lt_n.0 c.args.d c.requires.u_lt_n.1 c.args.self.now.dist c.args.self.now.touched c.args.count c.requires.u_lt_n.2),
  refl,
)

pub edge_number-requires : goal.edge_number-requires
edge_number-requires c = (known (goal.at.edge_number-requires c).In-loop-k).some

pub offset_bounds-edges-edge_number : goal.offset_bounds-edges-edge_number
offset_bounds-edges-edge_number c = omega (arith, (known (goal.at.offset_bounds-edges-edge_number c).In-loop-k).number)

pub bounds-edges-edge_number : goal.bounds-edges-edge_number
bounds-edges-edge_number c = omega (arith, (known (goal.at.bounds-edges-edge_number c).In-loop-k).number)

pub offset_bounds-edges-k : goal.offset_bounds-edges-k
offset_bounds-edges-k c = omega (arith, (known (goal.at.offset_bounds-edges-k c).In-loop-k).within)

pub bounds-edges-k : goal.bounds-edges-k
bounds-edges-k c = omega (arith, (known (goal.at.bounds-edges-k c).In-loop-k).within)

pub offer-listed-requires : goal.offer-listed-requires
offer-listed-requires c =
    let l = c.loop-k in (
      c.requires.edges_held.edges.few_nodes,
      omega (arith, (known (goal.at.offer-listed-requires c).In-loop-k).to),
      looking_cost c.args.n c.args.m c.args.edges.now c.requires.edges_held c.args.u c.requires.u_lt_n.0 c.args.d c.requires.u_lt_n.1 c.args.self.now.dist l.k l.self.dist l.self.touched l.listed l.invariant.0 c.loop-k-test.true _ c.edge_number.ensures,
      l.invariant.0.reached,
    )

pub next_arc-k-requires : goal.next_arc-k-requires
next_arc-k-requires c =
    let a = known (goal.at.next_arc-k-requires c).In-loop-k in
    (a.some, a.within, omega (arith, c.requires.u_lt_n.0, c.requires.edges_held.edges.few_nodes))

pub loop-k-smaller : goal.loop-k-smaller
loop-k-smaller c = omega (arith, c.next_arc-k.ensures, (known (goal.at.loop-k-smaller c).In-loop-k).falls)

pub loop-k-preserved : goal.loop-k-preserved
loop-k-preserved c =
    let l = c.loop-k in (
      looking_turn c.args.n c.args.m c.args.edges.now c.requires.edges_held c.args.u c.requires.u_lt_n.0 c.args.d c.requires.u_lt_n.1 c.args.self.now.dist l.k l.self.dist l.self.touched l.listed l.invariant.0 c.loop-k-test.true
          _ _ _ c.edge_number.ensures c.from-v.ensures c.next_arc-k.ensures _ c.offer-listed.ensures.dist_after _ _ c.offer-listed.ensures.listed,
      c.offer-listed.ensures.done_after ∙ l.invariant.1,
    )

pub returns : goal.returns
returns c =
    let l = c.loop-k in
    record {
      dist_after = looking_end c.args.n c.args.m c.args.edges.now c.requires.edges_held c.args.u c.requires.u_lt_n.0 c.args.d c.requires.u_lt_n.1 c.args.self.now.dist l.k l.self.dist l.self.touched l.listed l.invariant.0 c.loop-k-test.false;
      done_after = l.invariant.1;
      reached = l.invariant.0.reached;
    }
