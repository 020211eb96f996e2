-- The checks before check 8 refuse the file, or check 8 does, or none.
use mathlib.Core.Bool.{true, false}
use Rattle.std.proofs.lemmas.Result.{err_from_is_err_and}
use Rattle.drawing_spec.proofs.Accepted.{passes}
use Rattle.file.proofs.ReadingLaws.{refused_early, refused_links_lem, accepted_as}
use Rattle.file.proofs.Whole.{drawing_few, links_tell}
use Rattle.file.proofs.read_into.Goals as goal

pub returns-in_err-first_refusal : goal.returns-in_err-first_refusal
returns-in_err-first_refusal c =
    let p = err_from_is_err_and c.from_residual.result c.from_residual.ensures.1 in
    rw (p.1, p.2) (refused_early c.args.file.now _ c.in_err-first_refusal.ensures)

pub fill-requires : goal.fill-requires
fill-requires c = record { passed = passes c.args.file.now c.in_ok-first_refusal.ensures; empty = c.requires }

pub links_fit-requires : goal.links_fit-requires
links_fit-requires c = drawing_few c.args.file.now (passes c.args.file.now c.in_ok-first_refusal.ensures) c.fill.new.drawing c.fill.ensures

pub returns-then-not-links_fit : goal.returns-then-not-links_fit
returns-then-not-links_fit c = refused_links_lem c.args.file.now (passes c.args.file.now c.in_ok-first_refusal.ensures) (links_tell c.args.file.now (passes c.args.file.now c.in_ok-first_refusal.ensures) c.fill.new.drawing c.fill.ensures _ false c.links_fit.ensures c.if-not-links_fit.true)

pub returns : goal.returns
returns c = record {
  verdict_is = accepted_as c.args.file.now (passes c.args.file.now c.in_ok-first_refusal.ensures) (links_tell c.args.file.now (passes c.args.file.now c.in_ok-first_refusal.ensures) c.fill.new.drawing c.fill.ensures _ true c.links_fit.ensures c.if-not-links_fit.false);
  drawing_is = c.fill.ensures;
}
