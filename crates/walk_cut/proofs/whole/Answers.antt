-- All is copied from the first place on.
use Rattle.walk_cut.proofs.CutLaws.{whole_nodes}
use Rattle.walk_cut.proofs.whole.Goals as goal

pub returns : goal.returns
returns c = record { line_after = c.copy.ensures.is; nodes = whole_nodes _ _ _ _ _ c.copy.ensures }
