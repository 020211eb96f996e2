-- The node is q's.
use Rattle.graph_strokes.proofs.StepLaws.{node_is, begin_is}
use Rattle.graph_strokes.proofs.Traced.begin.Goals as goal

pub returns : goal.returns
returns c = begin_is _ c.args.self.now _ (node_is _ _ _ _ c.get_or_insert-node.ensures.number _ c.get_or_insert-node.ensures.nodes _ c.count_with-self.ensures)
