-- The invariant: the first numbers are stored.
use Rattle.writer_records.proofs.StoredLaws.{Putting}
use Rattle.writer_records.proofs.write_segments.Given as goal

abbrev pub invariant-loop-k : goal.invariant-loop-k
invariant-loop-k l = Putting 2 l.initial.destination l.at l.segments l.destination l.k
