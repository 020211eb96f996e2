-- Worked examples of what is printed.
use mathlib.Core.Path.{◌≡◌, refl}
use mathlib.Core.List.{[], ◌∷◌}
use Prim.Native.Nat.{ℕ, ◌+◌, ◌-◌}
use Rattle.grid.specs.Grid.{origin}
use Rattle.drawing_spec.specs.Drawing.{Point}
use Rattle.planner_spec.specs.LineRecord.{line_record}
use Rattle.planner_spec.specs.Plan.{refusal, planned}
use Rattle.planner_text.specs.Text.{printed}

-- the point x and y grid steps from 0, where neither is negative
abbrev at : ℕ → ℕ → Point
at x y = record { x = origin + x; y = origin + y }

-- document 01's example: `ok 0000000000000000 2 2 2`, `0 0` and `3072 4096`
segment : printed (planned (record { retrace = 0; before = 2; after = 2; points = 2 })) (line_record (at 0 0 ∷ at 3072 4096 ∷ []))
    ≡ 111 ∷ 107 ∷ 32 ∷ 48 ∷ 48 ∷ 48 ∷ 48 ∷ 48 ∷ 48 ∷ 48 ∷ 48 ∷ 48 ∷ 48 ∷ 48 ∷ 48 ∷ 48 ∷ 48 ∷ 48 ∷ 48 ∷ 32 ∷ 50 ∷ 32 ∷ 50 ∷ 32 ∷ 50 ∷ 10 ∷ 48 ∷ 32 ∷ 48 ∷ 10 ∷ 51 ∷ 48 ∷ 55 ∷ 50 ∷ 32 ∷ 52 ∷ 48 ∷ 57 ∷ 54 ∷ 10 ∷ []
unfolding printed line_record
segment = refl

-- `-12 5`: a retrace of 5.0 and a point left of 0
left_of_0 : printed (planned (record { retrace = 4617315517961601024; before = 0; after = 0; points = 1 })) (line_record (record { x = origin - 12; y = origin + 5 } ∷ []))
    ≡ 111 ∷ 107 ∷ 32 ∷ 52 ∷ 48 ∷ 49 ∷ 52 ∷ 48 ∷ 48 ∷ 48 ∷ 48 ∷ 48 ∷ 48 ∷ 48 ∷ 48 ∷ 48 ∷ 48 ∷ 48 ∷ 48 ∷ 32 ∷ 48 ∷ 32 ∷ 48 ∷ 32 ∷ 49 ∷ 10 ∷ 45 ∷ 49 ∷ 50 ∷ 32 ∷ 53 ∷ 10 ∷ []
unfolding printed line_record
left_of_0 = refl

-- `refused 13`
refused : printed (refusal 13) [] ≡ 114 ∷ 101 ∷ 102 ∷ 117 ∷ 115 ∷ 101 ∷ 100 ∷ 32 ∷ 49 ∷ 51 ∷ 10 ∷ []
unfolding printed
refused = refl
