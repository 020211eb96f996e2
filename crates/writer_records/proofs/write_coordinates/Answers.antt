-- `writer_records::write_coordinates` meets its contract.
use Rattle.writer_records.proofs.StoredLaws.{put_none, put_more, clean_at}
use Rattle.std.proofs.Common.{map, arith}
use Rattle.grid.specs.Grid.{clean}
use Rattle.std.proofs.Math.ListN.{length-map}
use Rattle.writer_records.proofs.write_coordinates.Goals as goal

pub loop-k-init : goal.loop-k-init
loop-k-init c = put_none 8 _ _ (map clean c.args.words.now)

pub loop-k-preserved : goal.loop-k-preserved
loop-k-preserved c =
    let words = c.args.words.now in
    let same = length-map words clean in
    put_more 8 _ _ (map clean words) _ _ _ _ (omega arith) (clean_at words c.loop-k.k _ c.clean.ensures) c.write_number.ensures c.loop-k.invariant
