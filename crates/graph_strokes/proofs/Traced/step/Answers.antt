-- At q's node, the edge to it.
use Rattle.std.proofs.Common.{arith}
use Rattle.graph_strokes.proofs.StepLaws.{begun_low, begun_edges, step_is}
use Rattle.graph_strokes.proofs.Traced.step.Goals as goal

pub draw-self-requires-clause-room : goal.draw-self-requires-clause-room
draw-self-requires-clause-room c =
    let p = c.requires in
    (omega (arith, p.edges_fit, (begun_edges _ _ _ c.begin.ensures).1), p.node_fits, begun_low _ _ _ c.begin.ensures p.node_ready)

pub returns : goal.returns
returns c = step_is _ _ _ c.begin.ensures _ _ _ c.draw-self.ensures
