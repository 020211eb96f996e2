-- The invariant: the first coordinates are stored, each cleaned.
use mathlib.Core.List.{map}
use Rattle.grid.specs.Grid.{clean}
use Rattle.writer_records.proofs.StoredLaws.{Putting}
use Rattle.writer_records.proofs.write_coordinates.Given as goal

abbrev pub invariant-loop-k : goal.invariant-loop-k
invariant-loop-k l = Putting 8 l.initial.destination l.at (map clean l.words) l.destination l.k
