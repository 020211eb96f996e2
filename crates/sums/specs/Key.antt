-- Floats that are not negative, by whole numbers: the key of a value is how many of the format's smallest units it is, with infinity at 2 ^ (emax + 1) as IEEE 754's
-- rounding has it. Keys order such floats as `lt` does, and two floats with one key are one float. So what is claimed of their order is arithmetic.
use Rattle.std.specs.Prelude.{Bool, false, not, ℕ, ◌*◌, ◌/◌, ◌^◌, T, Float}
use Rattle.std.specs.Float.{nan, inf, fin, Format}
use Rattle.std.specs.Float.Ieee.{low, up, down, fits}
use Rattle.std.specs.Float.Ieee.Scale.{overflow}

-- not below zero, not -0 and no NaN: infinity is among these
abbrev pub nonneg : Float → Bool
nonneg nan = false
nonneg (inf s) = not s
nonneg (fin s m e) = not s

pub record Nonneg (f : Format) (x : Float) : Type 0 where
  pub fit : T (fits f x)
  pub sign : T (nonneg x)

-- how many times 2 ^ -low the value is in size, its sign left out
abbrev pub key : Format → Float → ℕ
key f nan = 0
key f (inf s) = overflow f
key f (fin s m e) = m * up e * 2 ^ low f / down e
