-- The definitions: document 01's stand-in for `hypot`. All of them compute.
use Rattle.std.specs.Prelude.{false, cond, ℕ, zero, suc, ◌+◌, ◌-◌, ◌*◌, ◌/◌, ◌^◌, leb, ltb, pos, Float}
use Rattle.std.specs.Float.{fin, Format, binary64}
use Rattle.std.specs.Float.Ieee.{prec, size, round, div}
use Rattle.grid.specs.Grid.{grid_exponent, gap}

abbrev pub square : ℕ → ℕ
square n = n * n

-- the squared distance of the points (ax, ay) and (bx, by), all in grid steps
abbrev pub squared_of : ℕ → ℕ → ℕ → ℕ → ℕ
squared_of ax ay bx by = square (gap ax bx) + square (gap ay by)

-- The whole part of the root of an n below 4 ^ d, by binary digits, as on paper: n / 4 has one digit less in its root. That root is doubled, and one is added where the
-- square still fits.
unfoldable pub whole_root : ℕ → ℕ → ℕ
whole_root zero n = 0
whole_root (suc d) n = let r = 2 * whole_root d (n / 4) in cond (leb (square (r + 1)) n) (r + 1) r

-- The whole number nearest to that root. (r + 1/2)² is r² + r + 1/4 and no whole number, so it is never reached: no root lies half way.
unfoldable pub near_root : ℕ → ℕ → ℕ
unfolding whole_root
near_root d n = let r = whole_root d n in cond (ltb r (n - square r)) (r + 1) r

-- how many binary places the root needs below the point, so that it has as many digits as the format keeps
unfoldable pub places : Format → ℕ → ℕ
unfolding size
places f n = (2 * prec f - size n) / 2

unfoldable pub significand : Format → ℕ → ℕ
unfolding near_root places
significand f n = near_root (prec f) (n * 4 ^ places f n)

-- the value of the format f that is nearest to the root of n, for an n of at most twice as many digits as f keeps
unfoldable pub root : Format → ℕ → Float
unfolding significand places round
root f n = round f false (significand f n) (2 ^ places f n)

-- that, divided by the float 2 ^ e
unfoldable pub root_over : Format → ℕ → ℕ → Float
unfolding root div
root_over f e n = div f (root f n) (fin false 1 (pos e))

-- the length whose square is n squared steps, on a grid of 2 ^ e steps to a unit
abbrev pub length_at : ℕ → ℕ → Float
length_at e n = root_over binary64 e n

abbrev pub length_of : ℕ → Float
length_of n = length_at grid_exponent n
