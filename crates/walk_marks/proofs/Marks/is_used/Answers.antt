-- The mark of an edge is its bit.
use mathlib.Core.Path.{sym}
use mathlib.Core.Bool.{false}
use Rattle.walk_marks.proofs.MarksLaws.{mark_at_lem}
use Rattle.walk_marks.proofs.Marks.is_used.Goals as goal

pub returns : goal.returns
returns c = sym (mark_at_lem c.args.self.now.words c.args.i false c.requires)
