-- Check 7 worked out on patterns at its edges, and what stands for a coordinate that is off the grid.
use Rattle.std.specs.Prelude.{Some, None}
use Prim.Native.Nat.{◌+◌, ◌-◌, ◌*◌, ◌<◌}
use mathlib.Core.Path.{◌≡◌, refl}
use mathlib.Core.List.{[], ◌∷◌, map}
use mathlib.Core.Bool.{true, false}
use lib.Dec.{lit<}
use Rattle.grid.specs.Grid.{origin, origin_of_grid, nowhere, place_at, on_grid, minus_zero, clean, read_on_grid, read_place}

-- 0, 1/1024, -1, 4096 and -4096
on_the_grid : map read_place (0 ∷ 0x3F50000000000000 ∷ 0xBFF0000000000000 ∷ 0x40B0000000000000 ∷ 0xC0B0000000000000 ∷ [])
    ≡ Some origin ∷ Some (origin + 1) ∷ Some (origin - 1024) ∷ Some (2 * origin) ∷ Some 0 ∷ []
unfolding read_on_grid
on_the_grid = refl

-- minus zero, and a step below it
minus_zero_lem : map read_place (minus_zero ∷ 0xBF50000000000000 ∷ []) ≡ Some origin ∷ Some (origin - 1) ∷ []
unfolding read_on_grid
minus_zero_lem = refl

-- minus zero cleaned; plain zero, the patterns beside minus zero, and -1, which stay
cleaned : map clean (0x8000000000000000 ∷ 0 ∷ 0x7FFFFFFFFFFFFFFF ∷ 0x8000000000000001 ∷ 0xBFF0000000000000 ∷ []) ≡ 0 ∷ 0 ∷ 0x7FFFFFFFFFFFFFFF ∷ 0x8000000000000001 ∷ 0xBFF0000000000000 ∷ []
unfolding clean
cleaned = refl

-- 1/2048; 1 and -1 with the lowest of the 52 digits set
between_steps : map read_place (0x3F40000000000000 ∷ 0x3FF0000000000001 ∷ 0xBFF0000000000001 ∷ []) ≡ None ∷ None ∷ None ∷ []
unfolding read_on_grid
between_steps = refl

-- a step past 4096 and past -4096, infinity, and a NaN
past_the_grid : map read_place (0x40B0000040000000 ∷ 0xC0B0000040000000 ∷ 0x7FF0000000000000 ∷ 0x7FF8000000000000 ∷ []) ≡ None ∷ None ∷ None ∷ None ∷ []
unfolding read_on_grid
past_the_grid = refl

-- a place is its own number; what is off the grid is no place of one, down to steps of 1 / 2 ^ 18
as_numbers : map place_at (Some 0 ∷ Some 5 ∷ None ∷ []) ≡ 0 ∷ 5 ∷ nowhere ∷ []
as_numbers = refl

past_the_grids : 2 * origin_of_grid 18 < nowhere
past_the_grids = lit< tt

tested : map on_grid (Some 0 ∷ None ∷ []) ≡ true ∷ false ∷ []
tested = refl
