-- `writer_records::write_lines` meets its contract.
use Rattle.std.proofs.Common.{refl, arith}
use Rattle.writer_records.proofs.StoredLaws.{lining_more, lining_all, line_within}
use Rattle.writer_records.proofs.write_lines.Goals as goal

pub write_line-requires : goal.write_line-requires
write_line-requires c =
    let w = line_within _ _ _ _ _ _ _ _ _ c.loop-points-test.true refl c.loop-points.invariant c.requires in
    let l = c.loop-points.invariant.long in
    (omega arith, w.1)

pub loop-points-preserved : goal.loop-points-preserved
loop-points-preserved c = lining_more _ _ _ _ _ _ _ _ _ c.loop-points-test.true refl c.loop-points.invariant c.requires _ c.write_line.ensures

pub returns : goal.returns
returns c = lining_all _ _ _ _ _ _ _ _ c.loop-points-test.false c.loop-points.invariant
