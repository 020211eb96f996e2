-- What 'the value of the format that is nearest to the exact root' means, with no root in it: all sides are squared whole numbers of the format's smallest units.
-- The value x is nearest to √n / 2 ^ e where, for every other value y, the middle of x and y lies on y's side of √n / 2 ^ e. With keys for values that is
-- (X + Y) / 2 units against √n * 2 ^ low / 2 ^ e units; both sides are doubled, multiplied by 2 ^ e and squared. Each order is strict, so no tie occurs.
use Rattle.std.specs.Prelude.{Bool, false, ℕ, ◌+◌, ◌-◌, ◌*◌, ◌^◌, ◌<◌, T, Float}
use Rattle.std.specs.Float.{nan, inf, fin, Format}
use Rattle.std.specs.Float.Ieee.{low, fits}
use Rattle.sums.specs.Key.{Nonneg, key}
use Rattle.length.specs.Root.{square}

-- below zero, or -0
abbrev pub negative : Float → Bool
negative nan = false
negative (inf s) = s
negative (fin s m e) = s

pub record Negative (f : Format) (y : Float) : Type 0 where
  pub fit : T (fits f y)
  pub sign : T (negative y)

-- the doubled root of n in units, squared
abbrev pub exact_squared : Format → ℕ → ℕ
exact_squared f n = 4 * n * square (2 ^ low f)

-- the doubled middle, 2 ^ e times and squared, of two values whose keys' sum or difference is s
abbrev pub middle_squared : ℕ → ℕ → ℕ
middle_squared e s = square s * 4 ^ e

pub record NearestRoot (f : Format) (e n : ℕ) (x : Float) : Type 0 where
  pub nonneg : Nonneg f x
  pub above : (y : Float) → Nonneg f y → key f x < key f y → exact_squared f n < middle_squared e (key f x + key f y)
  pub below : (y : Float) → Nonneg f y → key f y < key f x → middle_squared e (key f x + key f y) < exact_squared f n
  pub negative : (y : Float) → Negative f y → middle_squared e (key f x - key f y) < exact_squared f n
