-- Both ends are stored.
use Rattle.graph_filing.proofs.Stored.{link_stored_lem}
use Rattle.graph_filing.proofs.file_link.Goals as goal

pub returns : goal.returns
returns c = link_stored_lem _ _ _ _ _ _ _ _ c.point_of-a.ensures c.point_of-b.ensures c.file_one.ensures c.file_one-2.ensures
