-- The test by the magnitude of a difference.
use mathlib.Core.Path.{◌≡◌, refl}
use mathlib.Core.Bool.{false}
use lib.Ieee.{Float, nan, inf, fin, binary64, of_bits, round}
use Rattle.std.specs.Float.{float_with_sign}
use Rattle.repair_spec.specs.Retrace.{magnitude, tolerance}

-- the code's 1e-10
pub tolerance_bits : of_bits binary64 4457293557087583675 ≡ tolerance
unfolding of_bits round
tolerance_bits = refl

-- without its sign
pub magnitude_is : (x : Float) → float_with_sign false x ≡ magnitude x
unfolding float_with_sign
magnitude_is nan = refl
magnitude_is (inf s) = refl
magnitude_is (fin s m e) = refl
