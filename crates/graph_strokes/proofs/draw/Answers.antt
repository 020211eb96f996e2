-- From a point to itself nothing is drawn; else the edge is as long as the way.
use Rattle.graph_splits.specs.Next.{at}
use Rattle.graph_strokes.proofs.Trace.{drawn_nothing, drawn_edge}
use Rattle.graph_strokes.proofs.draw.Goals as goal

pub returns-then-eq : goal.returns-then-eq
returns-then-eq c = drawn_nothing c.args.m c.args.u c.args.v (at c.args.p.x c.args.p.y) (at c.args.q.x c.args.q.y) c.args.edges.now _ c.eq.ensures c.if-eq.true

pub returns : goal.returns
returns c = drawn_edge c.args.m c.args.u c.args.v (at c.args.p.x c.args.p.y) (at c.args.q.x c.args.q.y) c.args.edges.now _ c.eq.ensures c.if-eq.false _ c.squared.ensures _ c.length-weight.ensures.value _ c.push_edge.ensures
