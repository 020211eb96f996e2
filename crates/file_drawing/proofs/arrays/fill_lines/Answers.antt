-- One line after the other.
use native.Mathlib.Omega.{arith}
use Rattle.file_drawing.specs.Lines.{arrays}
use Rattle.file_drawing.proofs.LinesLaws.{fill_start, fill_on, fill_end, within, has_room}
use Rattle.file_drawing.proofs.arrays.fill_lines.Goals as goal

pub loop-line-init : goal.loop-line-init
loop-line-init c = fill_start c.args.file.now c.args.start c.args.count (arrays c.args.starts.now c.args.xs.now c.args.ys.now) c.requires

pub fill_points-requires : goal.fill_points-requires
fill_points-requires c = (
  within c.args.file.now c.args.start c.args.count (arrays c.args.starts.now c.args.xs.now c.args.ys.now) c.loop-line.at c.loop-line.line c.loop-line.filled c.loop-line.starts c.loop-line.xs c.loop-line.ys c.loop-line.invariant c.loop-line-test.true c.record_at-found.result c.record_at-found.ensures c.points_of-points.result c.points_of-points.ensures _ c.body_of.ensures,
  has_room c.args.file.now c.args.start c.args.count (arrays c.args.starts.now c.args.xs.now c.args.ys.now) c.loop-line.at c.loop-line.line c.loop-line.filled c.loop-line.starts c.loop-line.xs c.loop-line.ys c.loop-line.invariant c.loop-line-test.true c.record_at-found.result c.record_at-found.ensures c.points_of-points.result c.points_of-points.ensures _ c.body_of.ensures,
)

pub overflow_add-filled : goal.overflow_add-filled
overflow_add-filled c = omega (arith, has_room c.args.file.now c.args.start c.args.count (arrays c.args.starts.now c.args.xs.now c.args.ys.now) c.loop-line.at c.loop-line.line c.loop-line.filled c.loop-line.starts c.loop-line.xs c.loop-line.ys c.loop-line.invariant c.loop-line-test.true c.record_at-found.result c.record_at-found.ensures c.points_of-points.result c.points_of-points.ensures _ c.body_of.ensures)

pub overflow_cast-starts : goal.overflow_cast-starts
overflow_cast-starts c = omega (arith, has_room c.args.file.now c.args.start c.args.count (arrays c.args.starts.now c.args.xs.now c.args.ys.now) c.loop-line.at c.loop-line.line c.loop-line.filled c.loop-line.starts c.loop-line.xs c.loop-line.ys c.loop-line.invariant c.loop-line-test.true c.record_at-found.result c.record_at-found.ensures c.points_of-points.result c.points_of-points.ensures _ c.body_of.ensures)

pub loop-line-preserved : goal.loop-line-preserved
loop-line-preserved c = fill_on c.args.file.now c.args.start c.args.count (arrays c.args.starts.now c.args.xs.now c.args.ys.now) c.loop-line.at c.loop-line.line c.loop-line.filled c.loop-line.starts c.loop-line.xs c.loop-line.ys c.loop-line.invariant c.loop-line-test.true c.record_at-found.result c.record_at-found.ensures c.points_of-points.result c.points_of-points.ensures _ c.body_of.ensures _ _ c.fill_points.ensures.xs_filled c.fill_points.ensures.ys_filled _ c.place_behind-at.ensures

pub returns : goal.returns
returns c = fill_end c.args.file.now c.args.start c.args.count (arrays c.args.starts.now c.args.xs.now c.args.ys.now) c.loop-line.at c.loop-line.line c.loop-line.filled c.loop-line.starts c.loop-line.xs c.loop-line.ys c.loop-line.invariant c.loop-line-test.false
