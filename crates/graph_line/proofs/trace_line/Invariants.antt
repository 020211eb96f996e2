-- At the point g, what is to come of the line leads to the answer.
use Rattle.graph_splits.specs.Points.{points, point_in}
use Rattle.graph_chain.specs.Along.{traced_along}
use Rattle.graph_line.specs.Follow.{Scratch}
use Rattle.graph_line.specs.Lines.{filing_from, segments_from}
use Rattle.graph_line.proofs.Lines.{OnLine}
use Rattle.graph_line.proofs.trace_line.Given as goal

abbrev pub invariant-loop-g : goal.invariant-loop-g
invariant-loop-g l =
    let f = filing_from l.ends in
    let ps = points l.drawing.xs l.drawing.ys in
    Scratch l.splits × OnLine f ps l.stop l.g l.traced (traced_along (point_in ps l.first) (segments_from f ps l.stop l.first) l.initial.traced)
