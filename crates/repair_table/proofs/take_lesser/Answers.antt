-- `repair_table::take_lesser` meets its contract.
use Rattle.repair_table.proofs.Turns.{lesser_taken, lesser_kept}
use Rattle.repair_masks.specs.Table.{least}
use Rattle.repair_table.proofs.take_lesser.Goals as goal

pub returns-then-c-b : goal.returns-then-c-b
returns-then-c-b c = lesser_taken (least c.args.b.cost c.args.b.at) _ _ c.if-c-b.true

pub returns : goal.returns
returns c = lesser_kept (least c.args.b.cost c.args.b.at) _ _ c.if-c-b.false
