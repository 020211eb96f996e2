-- Marks in the bits of words: the edge i has the bit i % 64 of the word i / 64, where 0 is the lowest bit.
use Rattle.std.specs.Prelude.{List, Bool, ℕ, ◌+◌, ◌/◌, ◌%◌, ◌^◌, get_or, eqb}
use Rattle.limits.specs.Limits.{edge_room}
use Rattle.lists.specs.Tabulate.{tabulate}

abbrev pub words : ℕ
words = edge_room / 64 + 1

abbrev pub bit : ℕ → ℕ → Bool
bit w k = eqb (w / 2 ^ k % 2) 1

abbrev pub mark_at : List ℕ → ℕ → Bool
mark_at ws i = bit (get_or ws (i / 64) 0) (i % 64)

-- the mark of each edge that there is room for
abbrev pub marks_in : List ℕ → List Bool
marks_in ws = tabulate (mark_at ws) edge_room 0
