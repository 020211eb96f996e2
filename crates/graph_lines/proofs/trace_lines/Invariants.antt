-- Before line i, what is to come leads to the answer.
use Rattle.graph_splits.specs.Points.{points}
use Rattle.graph_chain.specs.Along.{traced_along}
use Rattle.graph_line.specs.Follow.{Scratch}
use Rattle.graph_line.specs.Lines.{filing_from, anywhere}
use Rattle.graph_lines.specs.All.{lines_in}
use Rattle.graph_lines.proofs.All.{OnLines}
use Rattle.graph_lines.proofs.trace_lines.Given as goal

abbrev pub invariant-loop-i : goal.invariant-loop-i
invariant-loop-i l =
    let f = filing_from l.ends in
    let ps = points l.drawing.xs l.drawing.ys in
    Scratch l.splits
    × OnLines f ps l.drawing.starts l.drawing.lines l.i l.traced (traced_along anywhere (lines_in f ps l.drawing.starts l.drawing.lines 0) l.initial.traced)
