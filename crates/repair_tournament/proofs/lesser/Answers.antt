-- `repair_tournament::lesser` meets its contract.
use mathlib.Core.Path.{sym}
use Rattle.repair_tournament.proofs.Tree.{lesser_first, lesser_second}
use Rattle.repair_tournament.proofs.lesser.Goals as goal

pub returns-then-below : goal.returns-then-below
returns-then-below c = sym (lesser_second _ _ c.if-below.true)

pub returns-else-below : goal.returns-else-below
returns-else-below c = sym (lesser_first _ _ c.if-below.false)
