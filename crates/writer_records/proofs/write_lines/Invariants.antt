-- The invariant: the lines that are left, stored from here on, give all.
use Rattle.writer_records.proofs.StoredLaws.{Lining}
use Rattle.writer_records.proofs.write_lines.Given as goal

abbrev pub invariant-loop-points : goal.invariant-loop-points
invariant-loop-points l = Lining l.initial.destination l.at l.sizes l.coordinates l.destination l.place l.from l.points-index
