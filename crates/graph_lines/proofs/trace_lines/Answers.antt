-- A turn traces line i.
use Rattle.graph_lines.proofs.All.{start_low, lines_begin, line_ready, line_drawn, lines_end}
use Rattle.graph_lines.proofs.trace_lines.Goals as goal

pub loop-i-init : goal.loop-i-init
loop-i-init c = (c.requires.scratch, lines_begin _ _ _ _ _ c.requires.traceable)

pub trace_line-requires-clause-inside : goal.trace_line-requires-clause-inside
trace_line-requires-clause-inside c = start_low _ c.requires.inside _ _ c.from-stop.ensures

pub trace_line-requires-clause-traceable : goal.trace_line-requires-clause-traceable
trace_line-requires-clause-traceable c = line_ready _ _ _ _ _ _ _ c.loop-i.invariant.1 c.loop-i-test.true _ _ c.from-first.ensures c.from-stop.ensures

pub loop-i-preserved : goal.loop-i-preserved
loop-i-preserved c = (
  c.trace_line.ensures.scratch,
  line_drawn _ _ _ _ _ _ _ c.loop-i.invariant.1 c.loop-i-test.true _ _ c.from-first.ensures c.from-stop.ensures _ c.trace_line.ensures.graph,
)

pub returns : goal.returns
returns c = lines_end _ _ _ _ _ _ _ c.loop-i.invariant.1 c.loop-i-test.false
