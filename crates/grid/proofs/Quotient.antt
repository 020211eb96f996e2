-- Quotients of floats by their fractions. A whole number of an f64's 53 digits, divided by a power of two or by its negative, is the fraction. Assumes nothing.
use mathlib.Core.Path.{◌≡◌, refl, ap, ◌∙◌}
use Prim.Native.Nat.{ℕ, zero, suc, ◌*◌, ◌^◌, ◌<◌}
use native.Mathlib.Nat.{mul-pos, mul-one, one-mul, zero-lt-suc}
use native.Mathlib.Omega.{arith}
use mathlib.Core.Bool.{Bool, true, false}
use lib.Dec.{lit≤, eqb-suc-zero}
use lib.IntN.{pos}
use lib.Pow.{pow_pos}
use lib.Ieee.{Float, nan, inf, fin, Format, binary64, up, down, unlike, round, div, of_int}
use lib.Ieee.Fits.{up_pos, down_pos}
use lib.Ieee.Exact.{HasValue}
use lib.Ieee.Scale.{round_same}
use Rattle.grid.proofs.Back.{exact_fraction}

positive_by : (t : Bool) → unlike false t ≡ t
positive_by true = refl
positive_by false = refl

-- a quotient by any fractions that the two values equal
pub div_value : (f : Format) (x y : Float) (s t : Bool) (a c b d : ℕ) → 0 < c → 0 < b → HasValue x s a c → HasValue y t b d → div f x y ≡ round f (unlike s t) (a * d) (c * b)
unfolding div
div_value f nan y s t a c b d C B v w = absurd v
div_value f (inf r) y s t a c b d C B v w = absurd v
div_value f (fin r m e) nan s t a c b d C B v w = absurd w
div_value f (fin r m e) (inf q) s t a c b d C B v w = absurd w
div_value f (fin r m e) (fin q zero g) s t a c b d C B v w = absurd (omega (arith, w.1, mul-pos B (down_pos g)))
div_value f (fin r m e) (fin q (suc n) g) s t a c b d C B v w =
    rw (eqb-suc-zero n, v.0, w.0)
    (round_same f (unlike s t) (m * up e * down g) (suc n * up g * down e) (a * d) (c * b) (mul-pos (mul-pos (zero-lt-suc n) (up_pos g)) (down_pos e)) (mul-pos C B)
    (omega (arith, ap (λ (z : ℕ). z * (suc n * up g * d)) v.1, ap (λ (z : ℕ). z * (m * up e * c)) w.1)))

pub quotient : (t : Bool) (n g : ℕ) → n < 2 ^ 53 → div binary64 (of_int binary64 (pos n)) (fin t 1 (pos g)) ≡ round binary64 t n (2 ^ g)
unfolding of_int
quotient t n g h =
    div_value binary64 (round binary64 false n 1) (fin t 1 (pos g)) false t n 1 (2 ^ g) 1 (lit≤ tt) (pow_pos g) (exact_fraction binary64 false n 0 (lit≤ tt) h) (refl, omega arith)
    ∙ rw (positive_by t, mul-one n, one-mul (2 ^ g))
