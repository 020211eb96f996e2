-- The root and its quotient by 2 ^ e are exact: each is the significand over a power of two, with nothing rounded on the way.
use mathlib.Core.Path.{◌≡◌, refl, sym, ap, ◌∙◌}
use mathlib.Core.Bool.{false}
use mathlib.Core.Logic.{inl, inr}
use Prim.Native.Nat.{ℕ, ◌+◌, ◌-◌, ◌*◌, ◌^◌, ◌≤◌, ◌<◌, zero-le}
use native.Mathlib.Nat.{eq-or-lt_of_le, mul-pos, mul_assoc, mul-one, add-zero, one-mul, eq_of_mul-eq-mul_right}
use native.Mathlib.Omega.{arith}
use lib.IntN.{pos}
use lib.Dec.{lit<, lit≤}
use lib.Pow.{pow_pos, pow-add, pow-lt}
use lib.Ieee.{Float, fin, Format, binary32, binary64, prec, low, size, round, of_int, div}
use lib.Ieee.Fits.{two, two-le_pos, round-fits}
use lib.Ieee.Back.{round_whole}
use lib.Ieee.Exact.{HasValue, round_exact}
use Rattle.sums.specs.Key.{key}
use Rattle.sums.proofs.KeyLaws.{key_value}
use Rattle.grid.proofs.Back.{split, room_above, exact_fraction}
use Rattle.grid.proofs.Quotient.{div_value}
use Rattle.length.specs.Root.{square, places, significand, root, root_over}
use Rattle.length.specs.Nearest.{exact_squared}
use Rattle.length.proofs.DigitsLaws.{four, four_pos, places_is, significand_le}

-- every format has room for twice its digits below the point
room_below : (f : Format) → prec f + prec f ≤ low f
room_below binary32 = lit≤ tt
room_below binary64 = lit≤ tt

-- a / 2 ^ j, for an a of the format's digits, is one of its values
pub exact_value : (f : Format) (a j : ℕ) → j ≤ low f → a ≤ 2 ^ prec f → HasValue (round f false a (2 ^ j)) false a (2 ^ j)
exact_value f a j J A =
    let t = low f - j in
    elim (eq-or-lt_of_le A) [
      | inr l ↦ exact_fraction f false a j J l
      | inl q ↦
          round_exact f false a (2 ^ j) 1 (prec f + t) (pow_pos j) (pow-lt (two-le_pos (prec f) (two f)))
          (rw (one-mul (2 ^ (prec f + t))) (pow-lt (omega (arith, room_above f))))
          (rw (q, split (low f) j J, one-mul, pow-add 2 (prec f) t) (sym (mul_assoc (2 ^ prec f) (2 ^ t) (2 ^ j))))
    ]

-- the quotient of two whole numbers that are floats
pub whole_quotient : (f : Format) (a b : ℕ) → a ≤ 2 ^ prec f → b ≤ 2 ^ prec f → 0 < b → div f (of_int f (pos a)) (of_int f (pos b)) ≡ round f false a b
unfolding of_int
whole_quotient f a b A B P =
    div_value f (round f false a 1) (round f false b 1) false false a 1 b 1 (lit< tt) P (round_whole f false a A) (round_whole f false b B) ∙ rw (mul-one a, one-mul b)

-- one of the significand's last digit, over 2 ^ e, in units
abbrev pub step : Format → ℕ → ℕ → ℕ
step f e n = 2 ^ (low f - (places f n + e))

-- the significand over 2 ^ (places + e)
abbrev pub scaled : Format → ℕ → ℕ → Float
scaled f e n = round f false (significand f n) (2 ^ (places f n + e))

pub root_rounds : (f : Format) (n : ℕ) → root f n ≡ round f false (significand f n) (2 ^ places f n)
unfolding root
root_rounds f n = refl

pub root_over_divides : (f : Format) (e n : ℕ) → root_over f e n ≡ div f (root f n) (fin false 1 (pos e))
unfolding root_over
root_over_divides f e n = refl

pub root_is : (f : Format) (n : ℕ) → root f n ≡ scaled f 0 n
root_is f n = rw (add-zero (places f n)) (root_rounds f n)

module _ (f : Format) (n : ℕ) (short : size n ≤ 2 * prec f) where
  pub fits_below : (e : ℕ) → e ≤ prec f → places f n + e ≤ low f
  fits_below e small = omega (arith, places_is f n, room_below f)

  pub scaled_value : (e : ℕ) → e ≤ prec f → HasValue (scaled f e n) false (significand f n) (2 ^ (places f n + e))
  scaled_value e small = exact_value f (significand f n) (places f n + e) (fits_below e small) (significand_le f n short)

  pub root_over_is : (e : ℕ) → e ≤ prec f → root_over f e n ≡ scaled f e n
  root_over_is e small =
      root_over_divides f e n ∙ ap (λ (x : Float). div f x (fin false 1 (pos e))) (root_is f n)
      ∙ div_value f (scaled f 0 n) (fin false 1 (pos e)) false false (significand f n) (2 ^ (places f n + 0)) (2 ^ e) 1 (pow_pos (places f n + 0)) (pow_pos e) (scaled_value 0 zero-le) (refl, omega arith)
      ∙ rw (mul-one, add-zero, pow-add 2 (places f n) e)

  pub scaled_key : (e : ℕ) → e ≤ prec f → key f (scaled f e n) ≡ significand f n * step f e n
  scaled_key e small =
      let j = places f n + e in
      eq_of_mul-eq-mul_right (2 ^ j) (pow_pos j) (key f (scaled f e n)) (significand f n * 2 ^ (low f - j))
      (key_value f (scaled f e n) (significand f n) (2 ^ j) (round-fits f false (significand f n) (2 ^ j)) (scaled_value e small)
      ∙ ap (λ (x : ℕ). significand f n * x) (split (low f) j (fits_below e small)) ∙ sym (mul_assoc (significand f n) (2 ^ (low f - j)) (2 ^ j)))

  -- 1, and what `NearestRoot` compares, in squared steps
  pub one_in_steps : (e : ℕ) → e ≤ prec f → square (2 ^ low f) ≡ 4 ^ places f n * (square (step f e n) * 4 ^ e)
  one_in_steps e small =
      let j = places f n + e in
      let units : 2 ^ low f ≡ step f e n * (2 ^ places f n * 2 ^ e) = split (low f) j (fits_below e small) ∙ ap (λ (x : ℕ). step f e n * x) (pow-add 2 (places f n) e) in
      rw (units, four (places f n), four e) (omega arith)

  pub in_steps : (e : ℕ) → e ≤ prec f → exact_squared f n ≡ 4 * (n * 4 ^ places f n) * (square (step f e n) * 4 ^ e)
  in_steps e small = rw (one_in_steps e small) (omega arith)

pub step_pos : (f : Format) (e n : ℕ) → 0 < step f e n
step_pos f e n = pow_pos (low f - (places f n + e))

pub steps_pos : (f : Format) (e n : ℕ) → 0 < square (step f e n) * 4 ^ e
steps_pos f e n = mul-pos (mul-pos (step_pos f e n) (step_pos f e n)) (four_pos e)
