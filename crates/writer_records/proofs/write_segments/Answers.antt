-- `writer_records::write_segments` meets its contract.
use Rattle.writer_records.proofs.StoredLaws.{put_none, put_more}
use Rattle.writer_records.proofs.write_segments.Goals as goal

pub loop-k-init : goal.loop-k-init
loop-k-init c = put_none 2 _ _ c.args.segments.now

pub loop-k-preserved : goal.loop-k-preserved
loop-k-preserved c = put_more 2 _ _ c.args.segments.now _ _ _ _ c.loop-k-test.true c.from.ensures c.write_number.ensures c.loop-k.invariant
