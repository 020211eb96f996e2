-- The steps.
use Prim.Native.Nat.{◌<◌}
use native.Mathlib.Omega.{arith}
use lib.Ieee.{of_bits}
use Rattle.limits.specs.Limits.{most_nodes}
use Rattle.graph_arrays.specs.Arrays.{edges_in}
use Rattle.repair_spec.specs.Distance.{zero_length}
use Rattle.repair_search.proofs.Touched.{listed_none, zero_below}
use Rattle.repair_sweep.proofs.Sweeps.{unswept_long, looked_begin, sweeping_begin, settled_found}
use Rattle.repair_sweep.proofs.Sweep.sweep_from.Goals as goal
use Rattle.repair_sweep.proofs.Sweep.sweep_from.Goals.{Start}

-- s is a place of the arrays
in_room : (c : Start) → c.args.s < most_nodes
in_room c = omega (arith, c.requires.s_lt_n.0, c.requires.edges_held.edges.few_nodes)

pub touch-count-requires : goal.touch-count-requires
touch-count-requires c =
    let N = c.requires.s_lt_n.1 in
    (c.requires.edges_held.edges.few_nodes, c.requires.s_lt_n.0, unswept_long c.args.s (in_room (goal.at.touch-count-requires c).Start) _ _ _ N, rw N.none (listed_none c.args.n c.args.self.now.touched N.room))

pub loop-init : goal.loop-init
unfolding of_bits
loop-init c =
    let N = c.requires.s_lt_n.1 in
    let s = in_room (goal.at.loop-init c).Start in (
      looked_begin c.args.s s _ _ _ N c.args.n _ c.touch-count.result (c.touch-count.ensures zero_length zero_below),
      sweeping_begin c.args.s s _ _ _ N (edges_in c.args.m c.args.edges.now) c.requires.edges_held.searchable.weights,
    )

pub returns-then-settled : goal.returns-then-settled
returns-then-settled c =
    let r = c.sweep-count.ensures in
    record {
      distances = λ t. settled_found c.args.n c.args.m c.args.edges.now c.requires.edges_held c.args.s _ _ _ c.sweep-count.result r.looked_2 (r.goes_on c.args.s c.loop.invariant.1) (c.settled.ensures c.if-settled.true) most_nodes;
      reached = r.looked_2;
    }

pub loop-preserved : goal.loop-preserved
loop-preserved c = (c.sweep-count.ensures.looked_2, c.sweep-count.ensures.goes_on c.args.s c.loop.invariant.1)
