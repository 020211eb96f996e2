-- The steps.
use Rattle.std.proofs.Common.{arith}
use Rattle.graph_arrays.specs.Arrays.{edges_in}
use Rattle.repair_spec.specs.Distance.{zero_length}
use Rattle.repair_spec.specs.PairsIn.{listed}
use Rattle.phases.specs.Ends.{searched}
use Rattle.phases.proofs.Ends.{searching_begin, searching_step, searching_end}
use Rattle.phases.proofs.search_pairs.Goals as goal

pub loop-i-init : goal.loop-i-init
unfolding lib.Ieee.of_bits
loop-i-init c =
    let p = c.args.pairs.now in (c.new-search.ensures c.args.n c.requires.edges_held.edges.few_nodes, searching_begin c.args.n (edges_in c.args.m c.args.edges.now) p.firsts p.seconds p.count)

pub add_distance-sum-requires : goal.add_distance-sum-requires
add_distance-sum-requires c =
    let p = c.requires.pairs_le_most_pairs.1.among c.loop-i.i c.loop-i-test.true in
    record { from_lt_n = (omega (arith, c.from-from.ensures, p.0), omega (arith, c.from-to.ensures, p.1), c.loop-i.invariant.0); edges_held = c.requires.edges_held }

pub loop-i-preserved : goal.loop-i-preserved
loop-i-preserved c =
    let p = c.args.pairs.now in
    let es = edges_in c.args.m c.args.edges.now in
    (c.add_distance-sum.ensures.kept, searching_step c.args.n es p.firsts p.seconds p.count (searched c.args.n es (listed p) zero_length) c.loop-i.i c.loop-i.sum c.loop-i.invariant.1 c.loop-i-test.true _ _ c.from-from.ensures c.from-to.ensures _ c.add_distance-sum.ensures.added)

pub returns : goal.returns
returns c =
    let p = c.args.pairs.now in
    let es = edges_in c.args.m c.args.edges.now in
    searching_end c.args.n es p.firsts p.seconds p.count (searched c.args.n es (listed p) zero_length) c.loop-i.i c.loop-i.sum c.loop-i.invariant.1 c.loop-i-test.false
