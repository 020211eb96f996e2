-- Each turn counts one record.
use mathlib.Core.Path.{refl, ap, ◌∙◌}
use native.Mathlib.Omega.{arith}
use Rattle.file_records.specs.Kind.{kind_of}
use Rattle.file_records.proofs.Walk.{room}
use Rattle.file_reader.proofs.Part.{behind_is}
use Rattle.file_checks.proofs.TallyLaws.{count_none, count_on, count_end}
use Rattle.file_checks.proofs.heads.tally_of.Goals as goal

pub loop-at-init : goal.loop-at-init
loop-at-init c = count_none c.args.file.now _ c.requires.1 refl

pub kind_at-requires : goal.kind_at-requires
kind_at-requires c = omega (arith, room c.args.file.now c.loop-at.at c.loop-at-test.true c.loop-at.invariant.is_whole)

pub size_at-size-requires : goal.size_at-size-requires
size_at-size-requires c = omega (arith, room c.args.file.now c.loop-at.at c.loop-at-test.true c.loop-at.invariant.is_whole)

pub counted-t-requires : goal.counted-t-requires
counted-t-requires c =
    let inv = c.loop-at.invariant in
    let r = room c.args.file.now c.loop-at.at c.loop-at-test.true inv.is_whole in
    let n = c.size_at-size.ensures in
    (omega arith, omega arith, omega arith)

pub loop-at-smaller : goal.loop-at-smaller
loop-at-smaller c = omega (arith, c.place_behind-at.ensures, behind_is c.args.file.now c.loop-at.at c.loop-at-test.true c.loop-at.invariant.is_whole)

pub loop-at-preserved : goal.loop-at-preserved
loop-at-preserved c = count_on c.args.file.now c.loop-at.at c.loop-at.t _ _ _ c.loop-at.invariant c.loop-at-test.true (c.from-kind.ensures ∙ ap kind_of c.kind_at.ensures) c.size_at-size.ensures c.counted-t.ensures _ c.place_behind-at.ensures

pub returns : goal.returns
returns c = count_end c.args.file.now c.loop-at.at _ c.loop-at.invariant c.loop-at-test.false
