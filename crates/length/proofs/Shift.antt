-- A u64 that is shifted up by an even number of places until it has 63 or 64 digits, and what that says of its root's places.
use mathlib.Core.Path.{◌≡◌, sym, ap, ◌∙◌}
use Prim.Native.Nat.{ℕ, suc, ◌+◌, ◌*◌, ◌/◌, ◌%◌, ◌^◌, ◌≤◌, ◌<◌, suc-le-suc}
use native.Mathlib.Nat.{le_trans, le_of_eq, lt_of_lt_of_le, lt_of_not-le, not-le_of_lt, mul-le-mul_right, mod-eq_of_lt, one-mul, le_antisymm}
use native.Mathlib.Omega.{arith}
use lib.Count.{count_leading_zeros, leading_top}
use lib.Dec.{T, le→leb, lit≤}
use lib.IntN.{pos}
use lib.Pow.{pow_pos, pow-add, pow_mono, pow-lt, shl_lt}
use lib.Ieee.{binary64, size, of_int, in_float, div}
use lib.Ieee.Digits.{size-lt, size-le}
use Rattle.length.specs.Root.{places, significand, near_root, root}
use Rattle.length.proofs.DigitsLaws.{four, places_is, significand_is, significand_le}
use Rattle.length.proofs.Value.{whole_quotient, root_rounds}

-- what a cast of a whole number to an f64 asks
pub in_float_lem : (a b : ℕ) → a ≡ b → b ≤ 2 ^ 53 → T (in_float binary64 (pos a))
unfolding in_float
in_float_lem a b e h = le→leb a (2 ^ 53) (le_trans (le_of_eq e) h)

pub power_in_float : (k : ℕ) → k ≤ 53 → T (in_float binary64 (pos (1 * 2 ^ k % 2 ^ 64)))
power_in_float k h = in_float_lem (1 * 2 ^ k % 2 ^ 64) (2 ^ k) (rw (one-mul (2 ^ k)) (mod-eq_of_lt (pow-lt {j = 64} (le_trans (suc-le-suc h) (lit≤ tt))))) (pow_mono h)

module _ (n : ℕ) (positive : 0 < n) (word : n < 2 ^ 64) where
  -- half the zeros above n's highest digit
  abbrev half : ℕ
  half = count_leading_zeros 64 n / 2

  pub half_le : half ≤ 31
  half_le = let t = leading_top 64 n positive word in omega (arith, t.1)

  pub shifted_lt : n * 2 ^ (2 * half) < 2 ^ 64
  shifted_lt = let t = leading_top 64 n positive word in lt_of_lt_of_le (shl_lt (suc t.0) (2 * half) t.3) (pow_mono {j = 64} (omega (arith, t.1)))

  pub shifted_ge : 2 ^ 62 ≤ n * 2 ^ (2 * half)
  shifted_ge =
      let t = leading_top 64 n positive word in
      le_trans (pow_mono {i = 62} (omega (arith, t.1))) (le_trans (le_of_eq (pow-add 2 t.0 (2 * half))) (mul-le-mul_right (2 ^ (2 * half)) t.2))

  pub shifted : n * 2 ^ (2 * half) % 2 ^ 64 ≡ n * 2 ^ (2 * half)
  shifted = mod-eq_of_lt shifted_lt

  size_is : (j : ℕ) → 2 ^ j ≤ n → n < 2 ^ suc j → size n ≡ suc j
  size_is j l h = le_antisymm (size-le n (suc j) h) (lt_of_not-le (λ g. not-le_of_lt (lt_of_lt_of_le (size-lt n) (pow_mono g)) l))

  pub places_half : places binary64 n ≡ 21 + half
  places_half = let t = leading_top 64 n positive word in omega (arith, places_is binary64 n, size_is t.0 t.2 t.3, t.1)

  -- what the code shifts, takes the root of and divides by
  pub significand_is_digits : near_root 53 (n * 2 ^ (2 * half) % 2 ^ 64 * 4 ^ 21) ≡ significand binary64 n
  significand_is_digits =
      let twice : half + half ≡ 2 * half = omega arith in
      let e : 4 ^ half ≡ 2 ^ (2 * half) = four half ∙ sym (pow-add 2 half half) ∙ ap (λ (x : ℕ). 2 ^ x) twice in
      rw (shifted, significand_is binary64 n) (ap (λ (x : ℕ). near_root 53 x) (rw (places_half, pow-add 4 21 half, e) (omega arith)))

  pub power_is_places : 1 * 2 ^ (21 + half) % 2 ^ 64 ≡ 2 ^ places binary64 n
  power_is_places = rw (one-mul, places_half) (mod-eq_of_lt (pow-lt {j = 64} (omega (arith, half_le))))

  pub digits_fit : significand binary64 n ≤ 2 ^ 53
  digits_fit = significand_le binary64 n (le_trans (size-le n 64 word) (lit≤ tt))

  pub quotient_is_root : div binary64 (of_int binary64 (pos (significand binary64 n))) (of_int binary64 (pos (2 ^ places binary64 n))) ≡ root binary64 n
  quotient_is_root = whole_quotient binary64 (significand binary64 n) (2 ^ places binary64 n) digits_fit (pow_mono {j = 53} (omega (arith, places_half, half_le))) (pow_pos (places binary64 n)) ∙ sym (root_rounds binary64 n)
