-- `writer_again::put_segments` meets its contract.
use Rattle.writer_again.proofs.Filled.{four_sets}
use Rattle.writer_again.proofs.put_segments.Goals as goal

pub returns : goal.returns
returns c = let a = c.args in four_sets a.segments.now a.at _ _ _ _ _ _ _ _ c.from.ensures c.from-2.ensures c.from-3.ensures c.from-4.ensures
