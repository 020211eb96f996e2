-- `repair_table::fill_mask` meets its contract.
use mathlib.Core.Path.{sym, ◌∙◌}
use Rattle.repair_table.proofs.FillLaws.{not_filled, due_filled, due_true}
use borrow.Author.Rules.{rules}
use Rattle.repair_table.proofs.fill_mask.Goals as goal

pub returns-then-not-is_due : goal.returns-then-not-is_due
returns-then-not-is_due c =
    not_filled _ _ c.args.table.now c.args.partners.now
    (sym c.is_due.ensures ∙ c.if-not-is_due.true)

pub choose-b-requires : goal.choose-b-requires
choose-b-requires c =
    let due = due_true c.args.n c.args.m (sym c.is_due.ensures ∙ c.if-not-is_due.false) in
    search rules

pub returns : goal.returns
returns c =
    due_filled _ _ c.args.table.now c.args.partners.now _ _
    (sym c.is_due.ensures ∙ c.if-not-is_due.false)
    c.choose-b.ensures.0
