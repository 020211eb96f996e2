-- The steps.
use mathlib.Core.Path.{◌≡◌, refl, sym, ap, ◌∙◌}
use native.Mathlib.Omega.{arith}
use lib.ListN.{length}
use borrow.Author.Tests.{leb-false}
use Rattle.file_records.specs.Walk.{next_at, cut_from}
use Rattle.file_records.proofs.Walk.{cut_here, not_here, end_not_cut}
use Rattle.file_reader.proofs.Part.{within, behind_next}
use Rattle.file_checks.proofs.heads.is_cut.Goals as goal

pub loop-at-init : goal.loop-at-init
loop-at-init c = (omega arith, refl)

pub returns-then-not-whole_at : goal.returns-then-not-whole_at
returns-then-not-whole_at c =
    let file = c.args.file.now in
    let at = c.loop-at.at in
    let cut = leb-false (next_at file at) (length file) (sym c.whole_at.ensures ∙ c.if-not-whole_at.true) in
    sym (cut_here file at c.loop-at-test.true cut) ∙ c.loop-at.invariant.1

pub loop-at-smaller : goal.loop-at-smaller
loop-at-smaller c =
    let file = c.args.file.now in
    omega (arith, c.place_behind-at.ensures, behind_next file c.loop-at.at _ c.whole_at.ensures (c.if-not-whole_at.false))

pub loop-at-preserved : goal.loop-at-preserved
loop-at-preserved c =
    let file = c.args.file.now in
    let at = c.loop-at.at in
    let whole = c.if-not-whole_at.false in
    let r = within file at _ c.whole_at.ensures whole in
    let next : c.place_behind-at.result ≡ next_at file at = c.place_behind-at.ensures ∙ behind_next file at _ c.whole_at.ensures whole in
    (omega arith, ap (cut_from file) next ∙ sym (not_here file at c.loop-at-test.true r) ∙ c.loop-at.invariant.1)

pub returns : goal.returns
returns c = sym (end_not_cut c.args.file.now c.loop-at.at c.loop-at-test.false) ∙ c.loop-at.invariant.1
