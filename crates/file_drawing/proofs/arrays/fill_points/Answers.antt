-- One point after the other.
use Rattle.drawing_spec.specs.Drawing.{Point}
use Rattle.file_drawing.proofs.LinesLaws.{place_none, placing, placed}
use Rattle.file_drawing.proofs.arrays.fill_points.Goals as goal

pub loop-i-init : goal.loop-i-init
loop-i-init c = (place_none (λ (p : Point). p.x) c.args.body.now c.args.count c.args.first c.args.xs.now, place_none (λ (p : Point). p.y) c.args.body.now c.args.count c.args.first c.args.ys.now)

pub loop-i-preserved : goal.loop-i-preserved
loop-i-preserved c = (
  placing (λ (p : Point). p.x) c.args.body.now c.args.count c.args.first c.args.xs.now c.loop-i.i _ c.loop-i.xs c.loop-i.invariant.0 c.loop-i-test.true c.place_at.ensures,
  placing (λ (p : Point). p.y) c.args.body.now c.args.count c.args.first c.args.ys.now c.loop-i.i _ c.loop-i.ys c.loop-i.invariant.1 c.loop-i-test.true c.place_at-in-loop-i.ensures,
)

pub returns-clause-xs_filled : goal.returns-clause-xs_filled
returns-clause-xs_filled c = placed (λ (p : Point). p.x) c.args.body.now c.args.count c.args.first c.args.xs.now c.loop-i.i c.loop-i.xs c.loop-i.invariant.0 c.loop-i-test.false

pub returns-clause-ys_filled : goal.returns-clause-ys_filled
returns-clause-ys_filled c = placed (λ (p : Point). p.y) c.args.body.now c.args.count c.args.first c.args.ys.now c.loop-i.i c.loop-i.ys c.loop-i.invariant.1 c.loop-i-test.false
