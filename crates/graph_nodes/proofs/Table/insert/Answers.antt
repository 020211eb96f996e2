-- The stores are those of `inserted`.
use Rattle.graph_nodes.proofs.TableLaws.{inserted_is}
use Rattle.graph_nodes.proofs.Table.insert.Goals as goal

pub returns : goal.returns
returns c = inserted_is _ _ _ _ _ c.hash-bucket.ensures.0
