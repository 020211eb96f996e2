-- The invariant: the links that are left, stored from here on, give all.
use Rattle.writer_records.proofs.StoredLaws.{Linking}
use Rattle.writer_records.proofs.write_links.Given as goal

abbrev pub invariant-loop-link : goal.invariant-loop-link
invariant-loop-link l = Linking l.initial.destination l.at l.segments l.ends l.destination l.link
