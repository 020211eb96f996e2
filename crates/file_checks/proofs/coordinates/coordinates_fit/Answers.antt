-- The steps.
use mathlib.Core.Path.{sym, ap, ◌∙◌}
use native.Mathlib.Omega.{arith}
use Rattle.file_records.specs.Kind.{kind_of}
use Rattle.file_records.proofs.Walk.{room}
use Rattle.file_reader.proofs.Part.{behind_is}
use Rattle.file_checks.proofs.CoordinatesLaws.{check_start, check_on, check_off, check_end, body_fits}
use Rattle.file_checks.proofs.coordinates.coordinates_fit.Goals as goal

pub loop-at-init : goal.loop-at-init
loop-at-init c = check_start c.args.file.now c.requires.0 c.requires.1

pub kind_at-requires : goal.kind_at-requires
kind_at-requires c = omega (arith, room c.args.file.now c.loop-at.at c.loop-at-test.true c.loop-at.invariant.is_whole)

pub body_on_grid-requires : goal.body_on_grid-requires
body_on_grid-requires c = body_fits c.args.file.now c.loop-at.at _ _ c.loop-at.invariant c.loop-at-test.true (c.from-kind.ensures ∙ ap kind_of c.kind_at.ensures) c.body_of-body.ensures

pub returns-then-not-body_on_grid : goal.returns-then-not-body_on_grid
returns-then-not-body_on_grid c = check_off c.args.file.now c.loop-at.at _ _ c.loop-at.invariant c.loop-at-test.true (c.from-kind.ensures ∙ ap kind_of c.kind_at.ensures) c.body_of-body.ensures (sym c.body_on_grid.ensures ∙ c.if-not-body_on_grid.true)

pub loop-at-smaller : goal.loop-at-smaller
loop-at-smaller c = omega (arith, c.place_behind-at.ensures, behind_is c.args.file.now c.loop-at.at c.loop-at-test.true c.loop-at.invariant.is_whole)

pub loop-at-preserved : goal.loop-at-preserved
loop-at-preserved c = check_on c.args.file.now c.loop-at.at _ _ c.loop-at.invariant c.loop-at-test.true (c.from-kind.ensures ∙ ap kind_of c.kind_at.ensures) c.body_of-body.ensures (sym c.body_on_grid.ensures ∙ c.if-not-body_on_grid.false) _ c.place_behind-at.ensures

pub returns : goal.returns
returns c = check_end c.args.file.now c.loop-at.at c.loop-at.invariant c.loop-at-test.false
