-- With no bit set no edge is marked.
use Rattle.walk_marks.proofs.MarksLaws.{marks_none}
use Rattle.walk_marks.proofs.Marks.new.Goals as goal

pub returns-clause-none : goal.returns-clause-none
returns-clause-none c = marks_none
