-- A turn files link i: what is left then is one link fewer, on what it leaves. At the end nothing is left.
use Rattle.std.proofs.Common.{arith}
use Rattle.graph_filing.proofs.Stored.{links_turn, links_done}
use Rattle.graph_filing_lent.proofs.file_lent.Goals as goal

pub loop-i-preserved : goal.loop-i-preserved
loop-i-preserved c = links_turn _ _ _ _ _ _ _ (omega arith) c.file_link.ensures c.loop-i.invariant

pub returns : goal.returns
returns c = links_done _ _ _ _ _ _ (omega arith) c.loop-i.invariant
