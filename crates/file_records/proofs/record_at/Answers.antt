-- `file_records::record_at` meets its contract.
use mathlib.Core.Path.{sym, ◌∙◌}
use lib.ListN.{length}
use borrow.Author.Tests.{leb-true}
use Rattle.file_records.specs.Walk.{next_at}
use Rattle.file_records.proofs.Made.{record_whole, record_none}
use Rattle.file_records.proofs.record_at.Goals as goal

pub body_at-body-requires : goal.body_at-body-requires
body_at-body-requires c = leb-true (next_at c.args.file.now c.args.at) (length c.args.file.now) (sym c.whole_at.ensures ∙ c.if-whole_at.true)

pub returns-then-whole_at : goal.returns-then-whole_at
returns-then-whole_at c = record_whole c.args.file.now c.args.at _ c.whole_at.ensures _ c.if-whole_at.true c.body_at-body.ensures

pub returns-else-whole_at : goal.returns-else-whole_at
returns-else-whole_at c = record_none c.args.file.now c.args.at _ c.whole_at.ensures c.if-whole_at.false
