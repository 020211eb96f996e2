-- The steps.
use Rattle.std.proofs.Common.{◌≤◌, ◌^◌, arith}
use Rattle.repair_masks.specs.Table.{least}
use Rattle.repair_optimal.proofs.Turns.{leave_turn, leave_over}
use Rattle.repair_optimal.proofs.leave_from.Goals as goal

pub overflow_sub-m : goal.overflow_sub-m
overflow_sub-m c =
    let h : 2 ^ c.loop-v.v ≤ c.args.mask = c.requires.by_index c.loop-v.v c.loop-v.auto.v (omega arith) in
    omega arith

pub loop-v-preserved : goal.loop-v-preserved
loop-v-preserved c =
    leave_turn c.args.table.now c.args.n c.args.mask _ _ (least c.loop-v.best.cost c.loop-v.best.at) _ _ (omega arith) c.power.ensures.0 c.loop-v.invariant c.take_lesser-best.ensures

pub returns : goal.returns
returns c =
    leave_over c.args.table.now c.args.n c.args.mask c.loop-v.v _ _ (omega arith) c.loop-v.invariant
