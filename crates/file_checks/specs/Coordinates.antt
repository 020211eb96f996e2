-- Check 7, record by record.
use Rattle.std.specs.Prelude.{ℕ, zero, suc, ◌/◌, List, [], ◌∷◌, Bool, true, length, drop}
use Rattle.grid.specs.Grid.{read_place, on_grid}
use Rattle.drawing_spec.specs.Bytes.{number}
use Rattle.drawing_spec.specs.Read.{every}
use Rattle.file_records.specs.declared.Kind.{Kind}
use Rattle.file_records.specs.declared.Kind.TheVariants as kind

-- n whole numbers of 8 bytes each
unfoldable pub words : ℕ → List ℕ → List ℕ
words zero bs = []
words (suc n) bs = number 8 bs ∷ words n (drop 8 bs)

-- the coordinates in a row from a place on
unfoldable pub words_on : List ℕ → ℕ → ℕ → Bool
words_on file at n = every (λ (w : ℕ). on_grid (read_place w)) (words n (drop at file))

-- a line's body is coordinates, and so is a link's from its ninth byte on
abbrev pub body_on : Kind → List ℕ → Bool
body_on kind.Settings b = true
body_on kind.Line b = words_on b 0 (length b / 8)
body_on kind.Link b = words_on b 8 4
body_on kind.Other b = true
