-- An empty line is nothing. Else a turn traces the segment from the point g.
use Rattle.std.proofs.Common.{◌≡◌, ◌+◌, ◌<◌, ap, ◌∙◌, arith}
use Rattle.drawing_spec.specs.Drawing.{Point}
use Rattle.graph_strokes.specs.Step.{begun}
use Rattle.graph_splits.specs.Points.{points, point_in}
use Rattle.graph_line.proofs.Lines.{ready_first, line_empty, line_begins, line_answer, next_ready, next_drawn, line_ends}
use Rattle.graph_line.proofs.trace_line.Goals as goal
use Rattle.graph_line.proofs.trace_line.Goals.{After-begin}

-- what `begin` did is to go to the line's first point
begins : (c : After-begin) → c.begin.new.self ≡ begun (point_in (points c.args.drawing.now.xs c.args.drawing.now.ys) c.args.first) c.args.traced.now
begins c = c.begin.ensures ∙ ap (λ (p : Point). begun p c.args.traced.now) c.point_at.ensures

pub returns-then-stop-first-clause-graph : goal.returns-then-stop-first-clause-graph
returns-then-stop-first-clause-graph c = line_empty _ _ _ _ _ c.if-stop-first.true

pub begin-requires : goal.begin-requires
begin-requires c = ready_first _ _ _ _ _ _ c.if-stop-first.false c.point_at.ensures c.requires.traceable

pub loop-g-init : goal.loop-g-init
loop-g-init c = (c.requires.scratch, line_begins _ _ _ _ _ _ c.if-stop-first.false c.requires.traceable (begins (goal.at.loop-g-init c).After-begin))

pub trace_segment-requires-clause-traceable : goal.trace_segment-requires-clause-traceable
trace_segment-requires-clause-traceable c =
    let low : c.loop-g.g + 1 < c.args.stop = omega arith in
    next_ready _ _ _ _ _ _ c.loop-g.invariant.1 low _ c.from.ensures _ _ c.point_at-a.ensures c.point_at-b.ensures

pub loop-g-preserved : goal.loop-g-preserved
loop-g-preserved c = let low : c.loop-g.g + 1 < c.args.stop = omega arith in (
  c.trace_segment.ensures.scratch,
  next_drawn _ _ _ _ _ _ c.loop-g.invariant.1 low _ c.from.ensures _ _ c.point_at-a.ensures c.point_at-b.ensures _ c.trace_segment.ensures.graph,
)

pub returns-clause-graph : goal.returns-clause-graph
returns-clause-graph c =
    line_answer _ _ _ _ _ _ _ c.if-stop-first.false (begins (goal.at.returns-clause-graph c).After-begin) (line_ends _ _ _ _ _ _ c.loop-g.invariant.1 (omega arith))
