-- The bytes that are left, stored from here on, give all.
use Rattle.number_bytes.proofs.Stored.{Storing}
use Rattle.number_bytes.proofs.write_number.Given as goal

abbrev pub invariant-loop-place : goal.invariant-loop-place
invariant-loop-place l = Storing l.initial.output l.at l.size l.n l.output l.place l.rest
