-- `writer_records::write_links` meets its contract.
use Rattle.writer_records.proofs.StoredLaws.{linking_none, linking_more, linking_all}
use Rattle.writer_records.proofs.write_links.Goals as goal

pub loop-link-init : goal.loop-link-init
loop-link-init c = linking_none _ _ _ _

pub loop-link-preserved : goal.loop-link-preserved
loop-link-preserved c = linking_more _ _ _ _ _ _ _ c.requires c.loop-link-test.true c.write_link.ensures c.loop-link.invariant

pub returns : goal.returns
returns c = linking_all _ _ _ _ _ _ c.loop-link-test.false c.loop-link.invariant
