-- `repair_tournament::differ` meets its contract.
use Rattle.repair_tournament.proofs.Tree.{equal}
use Rattle.repair_tournament.proofs.differ.Goals as goal

pub returns-else-x-y : goal.returns-else-x-y
returns-else-x-y c h = equal _ _ c.requires.0 c.requires.1 c.if-x-y.false h
