-- Coordinates on the grid of document 01, and their places. Definitions only.
-- A file holds a coordinate as the 64 bits of an f64. On a grid of 1 / 2 ^ g it is a whole number of steps of that size, from -reach to reach. Its place is its number of
-- steps from -reach, which is never negative: the signed number of grid steps that document 01 speaks of is the place less the origin, the place of 0. Minus zero is a zero.
use Rattle.std.specs.Prelude.{ℕ, ◌+◌, ◌-◌, ◌*◌, ◌/◌, ◌%◌, ◌^◌, Bool, true, false, ◌&&◌, cond, leb, ltb, eqb, Float, Option, Some, None}
use Rattle.std.specs.Float.{nan, inf, fin, binary64}
use Rattle.std.specs.Float.Ieee.{up, down, round, of_bits, to_bits}

-- the grid of every file: its steps are 1 / 1,024
abbrev pub grid_exponent : ℕ
grid_exponent = 10

-- the largest coordinate
abbrev pub reach : ℕ
reach = 4096

-- ---- for any grid of 1 / 2 ^ g

-- the place of 0, and the most steps that a coordinate is from 0
abbrev pub origin_of_grid : ℕ → ℕ
origin_of_grid g = reach * 2 ^ g

-- The place of ±a / c steps, for a c above 0, with the origin at o. It is check 7: a / c is a whole number, and is at most o. Both zeros lie at the origin.
abbrev pub place_of_steps : ℕ → Bool → ℕ → ℕ → Option ℕ
place_of_steps o s a c = cond (eqb (a % c) 0 && leb (a / c) o) (Some (cond s (o - a / c) (o + a / c))) None

-- the place of a float: m * up e / down e in size, and so 2 ^ g times that many steps
unfoldable pub place_on_grid : ℕ → Float → Option ℕ
place_on_grid g nan = None
place_on_grid g (inf s) = None
place_on_grid g (fin s m e) = place_of_steps (origin_of_grid g) s (m * up e * 2 ^ g) (down e)

-- the place of a 64-bit pattern
unfoldable pub read_on_grid : ℕ → ℕ → Option ℕ
unfolding place_on_grid of_bits
read_on_grid g b = place_on_grid g (of_bits binary64 b)

-- no place of a grid with steps of 1 / 2 ^ 18 or more, since each of these ends before it: the largest 32-bit number
abbrev pub nowhere : ℕ
nowhere = 0xFFFFFFFF

-- A place as one number. What is off the grid is nowhere, so that it can't be taken for a place of the grid.
abbrev pub place_at : Option ℕ → ℕ
place_at (Some p) = p
place_at None = nowhere

abbrev pub on_grid : Option ℕ → Bool
on_grid (Some p) = true
on_grid None = false

-- ---- minus zero

-- its pattern: the sign, and nothing else
abbrev pub minus_zero : ℕ
minus_zero = 2 ^ 63

-- a pattern, with that of plain zero in place of that of minus zero
unfoldable pub clean : ℕ → ℕ
clean b = cond (eqb b minus_zero) 0 b

-- ---- from a place to its float and its pattern

-- how far apart two numbers are
abbrev pub gap : ℕ → ℕ → ℕ
gap a b = (a - b) + (b - a)

-- the float at a place: its steps from the origin, divided by 2 ^ g, and negative below the origin. At the origin it is +0.
unfoldable pub coordinate_on_grid : ℕ → ℕ → Float
unfolding round
coordinate_on_grid g p = round binary64 (ltb p (origin_of_grid g)) (gap p (origin_of_grid g)) (2 ^ g)

-- the 64-bit pattern of that float
unfoldable pub write_on_grid : ℕ → ℕ → ℕ
unfolding coordinate_on_grid to_bits
write_on_grid g p = to_bits binary64 (coordinate_on_grid g p)

-- ---- for the grid of every file

abbrev pub origin : ℕ
origin = origin_of_grid grid_exponent

abbrev pub place_of : Float → Option ℕ
place_of x = place_on_grid grid_exponent x

abbrev pub read_place : ℕ → Option ℕ
read_place b = read_on_grid grid_exponent b

abbrev pub coordinate : ℕ → Float
coordinate p = coordinate_on_grid grid_exponent p

abbrev pub write_place : ℕ → ℕ
write_place p = write_on_grid grid_exponent p
