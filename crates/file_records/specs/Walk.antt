-- A file's records from a place on: what every pass over them needs.
use Rattle.std.specs.Prelude.{ℕ, ◌+◌, List, Bool, take, drop}
use Rattle.limits.specs.Limits.{head_size}
use Rattle.drawing_spec.specs.Bytes.{number}
use Rattle.drawing_spec.specs.Read.{Record, records_of, is_cut}

-- ---- the record at a place

abbrev pub size_at : List ℕ → ℕ → ℕ
size_at file at = number 4 (drop at file)

abbrev pub kind_at : List ℕ → ℕ → ℕ
kind_at file at = number 2 (drop (at + 4) file)

abbrev pub body_at : List ℕ → ℕ → List ℕ
body_at file at = take (size_at file at) (drop (at + head_size) file)

-- where the next record starts
abbrev pub next_at : List ℕ → ℕ → ℕ
next_at file at = at + (head_size + size_at file at)

-- the records from a place on, and whether one of them passes the end of the file
abbrev pub records_from : List ℕ → ℕ → List Record
records_from file at = records_of (drop at file)

abbrev pub cut_from : List ℕ → ℕ → Bool
cut_from file at = is_cut (drop at file)
