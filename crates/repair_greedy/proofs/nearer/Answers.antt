-- `repair_greedy::nearer` meets its contract.
use Rattle.repair_greedy.proofs.Rows.{closer_taken, closer_left}
use Rattle.repair_greedy.proofs.nearer.Goals as goal

pub returns-then-cost-best : goal.returns-then-cost-best
returns-then-cost-best c = closer_taken c.args.best.from c.args.best.to c.args.best.cost c.args.from c.args.to c.args.cost c.if-cost-best.true

pub returns : goal.returns
returns c = closer_left c.args.best.from c.args.best.to c.args.best.cost c.args.from c.args.to c.args.cost c.if-cost-best.false
