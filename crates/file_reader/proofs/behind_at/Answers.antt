-- By the test for a whole record.
use Rattle.file_reader.proofs.Part.{behind_whole, behind_none}
use Rattle.file_reader.proofs.behind_at.Goals as goal

pub returns-then-not-whole_at : goal.returns-then-not-whole_at
returns-then-not-whole_at c = behind_none c.args.file.now c.args.at _ c.whole_at.ensures c.if-not-whole_at.true

pub returns : goal.returns
returns c = behind_whole c.args.file.now c.args.at _ c.whole_at.ensures _ c.if-not-whole_at.false c.size_at.ensures
