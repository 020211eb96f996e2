-- The steps.
use Rattle.repair_table.proofs.Turns.{tries_begin, tries_turn, tries_over, lesser_below}
use native.Mathlib.Omega.{arith}
use Prim.Native.Nat.{◌<◌}
use Rattle.repair_masks.specs.Table.{least}
use Rattle.repair_table.proofs.try_partners.Goals as goal

pub loop-rest-init : goal.loop-rest-init
loop-rest-init c = (omega arith, tries_begin c.args.table.now c.args.row c.args.others _ _ c.lowest-first.ensures.place c.power.ensures.0, omega arith)

pub loop-rest-preserved : goal.loop-rest-preserved
loop-rest-preserved c =
    let some : 0 < c.loop-rest.rest = omega arith in
    (omega arith, tries_turn c.args.table.now c.args.row c.args.others _ _ _ _ _ _ some c.lowest-j.ensures.place c.power-q.ensures.0 c.loop-rest.invariant.1 c.take_lesser-b.ensures, lesser_below _ (least c.loop-rest.b.cost c.loop-rest.b.at) (least c.take_lesser-b.result.cost c.take_lesser-b.result.at) _ _ c.loop-rest.invariant.2 (omega arith) c.take_lesser-b.ensures)

pub returns : goal.returns
returns c =
    (tries_over c.args.table.now c.args.row c.args.others c.loop-rest.rest _ _ c.loop-rest.rest (omega arith) c.loop-rest.invariant.1, c.loop-rest.invariant.2)
