-- Coordinates stored: two of four, the first of them a minus zero.
use mathlib.Core.Path.{◌≡◌, refl}
use mathlib.Core.List.{[], ◌∷◌, ◌++◌}
use lib.ListN.{replicate}
use Rattle.grid.specs.Grid.{minus_zero, clean}
use Rattle.drawing_spec.specs.Bytes.{bytes}
use Rattle.writer_records.specs.Stored.{numbers_bytes, coordinates_stored}

stored : coordinates_stored (5 ∷ minus_zero ∷ 7 ∷ 9 ∷ []) 1 2 ≡ replicate 8 0 ++ (7 ∷ replicate 7 0)
unfolding numbers_bytes bytes clean
stored = refl
