-- What the planner uses of lengths, for every u64 that is a number of squared grid steps, on a grid of 2 ^ e steps to a unit. A length is the f64 that is nearest to the
-- exact one. Lengths are in the order of the whole numbers that they are roots of, so those may be compared in their place. No length is negative or infinite.
use mathlib.Core.Path.{◌≡◌, refl, sym, ◌∙◌}
use mathlib.Core.Bool.{false, not}
use Prim.Native.Nat.{ℕ, ◌*◌, ◌^◌, ◌≤◌, ◌<◌, zero-le}
use native.Mathlib.Nat.{le_trans, le_of_eq, lt_of_le_of_lt, lt_of_not-le, mul-le-mul, eq-zero-or-pos}
use native.Mathlib.Decide.{dec_le}
use native.Mathlib.Omega.{arith}
use mathlib.Core.Logic.{inl, inr}
use lib.Dec.{T, ltb, lit≤}
use lib.IntN.{pos, negsuc}
use lib.Ieee.{fin, of_bits, binary64, prec, size, lt, is_nan}
use lib.Ieee.Digits.{size-le}
use lib.Ieee.Scale.{finite}
use borrow.Author.Tests.{lt-ltb, le-ltb}
use Rattle.sums.specs.Key.{Nonneg, key}
use Rattle.sums.proofs.KeyLaws.{lt_key, nonneg_number}
use Rattle.sums.proofs.Sum.{plus_zero, zero_key}
use Rattle.grid.specs.Grid.{gap}
use Rattle.length.specs.Root.{square, squared_of, root, root_over, length_at, length_of}
use Rattle.length.specs.Nearest.{NearestRoot}
use Rattle.length.proofs.Nearest.{nearest_mono}
use Rattle.length.proofs.Value.{root_is, root_over_is}
use Rattle.length.proofs.Proved.{root_over_nearest, root_over_nonneg, root_over_finite, root_over_zero}
use Rattle.length.proofs.Order.{root_over_order}

pub short : (n : ℕ) → n < 2 ^ 64 → size n ≤ 2 * prec binary64
short n h = le_trans (size-le n 64 h) (lit≤ tt)

-- every squared length on a grid of up to 2 ^ 24 steps each way
gap_le : (a b : ℕ) → a ≤ 2 ^ 24 → b ≤ 2 ^ 24 → gap a b ≤ 2 ^ 24
gap_le a b A B = omega arith

pub square_le : (a b : ℕ) → a ≤ 2 ^ 24 → b ≤ 2 ^ 24 → square (gap a b) ≤ 2 ^ 48
square_le a b A B = mul-le-mul {n₂ = 2 ^ 24} {m₂ = 2 ^ 24} (gap_le a b A B) (gap_le a b A B)

pub squared_lt : (ax ay bx by : ℕ) → ax ≤ 2 ^ 24 → ay ≤ 2 ^ 24 → bx ≤ 2 ^ 24 → by ≤ 2 ^ 24 → squared_of ax ay bx by < 2 ^ 50
squared_lt ax ay bx by A B C D = omega (arith, square_le ax bx A C, square_le ay by B D)

-- the root itself, not divided
pub root_nearest : (n : ℕ) → 0 < n → n < 2 ^ 64 → NearestRoot binary64 0 n (root binary64 n)
root_nearest n p h = rw (root_is binary64 n) (rw (root_over_is binary64 n (short n h) 0 zero-le) at (root_over_nearest binary64 0 n p (short n h) zero-le))

module _ (e : ℕ) (small : e ≤ prec binary64) where
  pub length_nearest : (n : ℕ) → 0 < n → n < 2 ^ 64 → NearestRoot binary64 e n (length_at e n)
  length_nearest n p h = root_over_nearest binary64 e n p (short n h) small

  pub length_zero : length_at e 0 ≡ plus_zero
  length_zero = root_over_zero binary64 e small

  pub length_nonneg : (n : ℕ) → n < 2 ^ 64 → Nonneg binary64 (length_at e n)
  length_nonneg n h = root_over_nonneg binary64 e n (short n h) small

  pub length_number : (n : ℕ) → n < 2 ^ 64 → T (not (is_nan (length_at e n)))
  length_number n h = nonneg_number binary64 (length_at e n) (length_nonneg n h)

  pub length_finite : (n : ℕ) → n < 2 ^ 64 → T (finite (length_at e n))
  length_finite n h = root_over_finite binary64 e n (short n h) small

  pub length_mono : (n m : ℕ) → n ≤ m → m < 2 ^ 64 → key binary64 (length_at e n) ≤ key binary64 (length_at e m)
  length_mono n m l h =
      elim (eq-zero-or-pos n) [
        | inl z ↦ rw (z, length_zero) (le_trans (le_of_eq (zero_key binary64)) zero-le)
        | inr p ↦ nearest_mono binary64 e n m (length_at e n) (length_at e m) l (length_nearest n p (lt_of_le_of_lt l h)) (length_nearest m (le_trans p l) h)
      ]

  -- Strictly so below 2 ^ 50. The sum of the squares of two differences of grid places, up to 2 ^ 24 each, is below that.
  pub length_strict : (n m : ℕ) → n < m → m < 2 ^ 50 → key binary64 (length_at e n) < key binary64 (length_at e m)
  length_strict n m l h = root_over_order binary64 e small n m l (omega (arith, size-le m 50 h))

  -- so whole numbers may be compared in place of lengths
  pub length_order : (n m : ℕ) → n < 2 ^ 50 → m < 2 ^ 50 → lt (length_at e n) (length_at e m) ≡ ltb n m
  length_order n m N M =
      let x = length_at e n in
      let y = length_at e m in
      let wide : 2 ^ 50 ≤ 2 ^ 64 = lit≤ tt in
      lt_key binary64 x y (length_nonneg n (le_trans N wide)) (length_nonneg m (le_trans M wide))
      ∙ elim (dec_le m n) [
        | yes g ↦ le-ltb (key binary64 x) (key binary64 y) (length_mono m n g (le_trans N wide)) ∙ sym (le-ltb n m g)
        | no g ↦ lt-ltb (key binary64 x) (key binary64 y) (length_strict n m (lt_of_not-le g) M) ∙ sym (lt-ltb n m (lt_of_not-le g))
      ]

-- no steps, one step, three steps and one, and document 01's line from (0, 0) to (3, 4)
pub samples : (length_of 0 ≡ plus_zero) × (length_of 1 ≡ fin false 1 (negsuc 9)) × (length_of 10 ≡ of_bits binary64 0x3f69_4c58_3ada_5b53) × (length_of (squared_of 0 0 3072 4096) ≡ fin false 5 (pos 0))
unfolding root_over of_bits
samples = (refl, refl, refl, refl)
