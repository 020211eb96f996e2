-- The steps.
use Rattle.std.proofs.Common.{refl, arith}
use Rattle.repair_greedy.proofs.Bounds.{bounds_zero}
use Rattle.repair_greedy.proofs.Rounds.{writing_start, writing_round, writing_end, writing_paired}
use Rattle.repair_greedy.proofs.nearest_pairs.Goals as goal

pub loop-working-init : goal.loop-working-init
loop-working-init g c =
    let cost = g.C.Cost.cost c.args.costs.now in
    (bounds_zero cost c.args.nodes.now c.args.count 1534, writing_start cost c.args.count c.args.nodes.now _ refl c.requires.1 c.requires.2)

pub loop-working-preserved : goal.loop-working-preserved
loop-working-preserved g c =
    let cost = g.C.Cost.cost c.args.costs.now in
    let at = c.loop-working in
    let done = c.pair_nearest.ensures in
    (done.1, rw done.0 (writing_round cost c.args.count c.args.nodes.now at.working.left at.working.nodes at.pairs at.invariant.1 _ _ (omega arith) (omega arith) done.2))

pub returns : goal.returns
returns g c =
    let cost = g.C.Cost.cost c.args.costs.now in
    let at = c.loop-working in (
      writing_end cost c.args.count c.args.nodes.now at.working.left at.working.nodes at.pairs at.invariant.1 c.loop-working-test.false,
      writing_paired cost c.args.count c.args.nodes.now at.working.left at.working.nodes at.pairs at.invariant.1 c.requires.1.fits,
    )
