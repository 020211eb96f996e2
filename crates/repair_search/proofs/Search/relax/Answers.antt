-- The steps.
use native.Mathlib.Omega.{arith}
use Rattle.graph_spec.specs.Graph.{edges_at}
use Rattle.graph_arrays.specs.Arrays.{edges_in}
use Rattle.repair_search.proofs.Along.{Known}
use Rattle.repair_search.proofs.Relaxing.{relaxing_begin, relaxing_known, relaxing_cost, relaxing_turn, relaxing_end}
use Rattle.repair_search.proofs.Search.relax.Goals as goal
use Rattle.repair_search.proofs.Search.relax.Goals.{In-loop-k}

-- what is known of the arc that a turn looks at
known : (c : In-loop-k) → Known c.args.n c.args.edges.now (edges_at (edges_in c.args.m c.args.edges.now) c.args.u) c.args.u c.loop-k.k
known c =
    relaxing_known c.args.n c.args.m c.args.edges.now c.requires.edges_held c.args.u c.requires.u_lt_n.0 c.args.d c.requires.u_lt_n.1 c.args.self.now.dist c.args.self.now.tree.values c.loop-k.k c.loop-k.self.dist c.loop-k.self.tree.values
    c.loop-k.invariant.1 c.loop-k-test.true

pub loop-k-init : goal.loop-k-init
loop-k-init c = (
  c.requires.u_lt_n.3,
  rw c.first_arc-k.ensures (relaxing_begin c.args.n c.args.m c.args.edges.now c.requires.edges_held c.args.u c.requires.u_lt_n.0 c.args.d c.requires.u_lt_n.1 c.args.self.now.dist c.args.self.now.tree.values c.requires.u_lt_n.2),
)

pub edge_number-requires : goal.edge_number-requires
edge_number-requires c = (known (goal.at.edge_number-requires c).In-loop-k).some

pub offset_bounds-edges-edge_number : goal.offset_bounds-edges-edge_number
offset_bounds-edges-edge_number c = omega (arith, (known (goal.at.offset_bounds-edges-edge_number c).In-loop-k).number)

pub bounds-edges-edge_number : goal.bounds-edges-edge_number
bounds-edges-edge_number c = omega (arith, (known (goal.at.bounds-edges-edge_number c).In-loop-k).number)

pub offset_bounds-edges-k : goal.offset_bounds-edges-k
offset_bounds-edges-k c = omega (arith, (known (goal.at.offset_bounds-edges-k c).In-loop-k).within)

pub bounds-edges-k : goal.bounds-edges-k
bounds-edges-k c = omega (arith, (known (goal.at.bounds-edges-k c).In-loop-k).within)

pub offer-listed-requires-clause-n_le_most_nodes : goal.offer-listed-requires-clause-n_le_most_nodes
offer-listed-requires-clause-n_le_most_nodes c =
    let at = goal.at.offer-listed-requires-clause-n_le_most_nodes c in (
      c.requires.edges_held.edges.few_nodes,
      omega (arith, (known at.In-loop-k).to),
      c.loop-k.invariant.1.held,
      relaxing_cost c.args.n c.args.m c.args.edges.now c.requires.edges_held c.args.u c.requires.u_lt_n.0 c.args.d c.requires.u_lt_n.1 c.args.self.now.dist c.args.self.now.tree.values c.loop-k.k c.loop-k.self.dist c.loop-k.self.tree.values
          c.loop-k.invariant.1 c.loop-k-test.true _ c.edge_number.ensures,
    )

pub next_arc-k-requires : goal.next_arc-k-requires
next_arc-k-requires c =
    let a = known (goal.at.next_arc-k-requires c).In-loop-k in
    (a.some, a.within, omega (arith, c.requires.u_lt_n.0, c.requires.edges_held.edges.few_nodes))

pub loop-k-smaller : goal.loop-k-smaller
loop-k-smaller c = omega (arith, c.next_arc-k.ensures, (known (goal.at.loop-k-smaller c).In-loop-k).falls)

pub loop-k-preserved : goal.loop-k-preserved
loop-k-preserved c = (
  c.offer-listed.ensures.listed_2,
  relaxing_turn c.args.n c.args.m c.args.edges.now c.requires.edges_held c.args.u c.requires.u_lt_n.0 c.args.d c.requires.u_lt_n.1 c.args.self.now.dist c.args.self.now.tree.values c.loop-k.k c.loop-k.self.dist c.loop-k.self.tree.values
      c.loop-k.invariant.1 c.loop-k-test.true _ _ _ c.edge_number.ensures c.from-v.ensures c.next_arc-k.ensures _ _ c.offer-listed.ensures.offered,
)

pub returns-clause-relaxed : goal.returns-clause-relaxed
returns-clause-relaxed c =
    relaxing_end c.args.n c.args.m c.args.edges.now c.requires.edges_held c.args.u c.requires.u_lt_n.0 c.args.d c.requires.u_lt_n.1 c.args.self.now.dist c.args.self.now.tree.values c.loop-k.k _ _ c.loop-k.invariant.1 c.loop-k-test.false
