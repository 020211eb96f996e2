-- Differences of floats that are not negative, in keys, and how little rounding loses. Stated for either format.
use mathlib.Core.Path.{◌≡◌, refl, ap, ◌∙◌}
use mathlib.Core.Bool.{Bool, true, false, cond}
use Prim.Native.Nat.{ℕ, suc, ◌+◌, ◌-◌, ◌*◌, ◌/◌, ◌^◌, ◌≤◌, ◌<◌}
use native.Mathlib.Nat.{le_trans, le_of_eq, lt_of_lt_of_le, lt_of_le_of_lt, mul-pos, mul-le-mul_right, le_of_mul-le-mul_right, eq_of_mul-eq-mul_right, div-mul-le_self, lt-div-mul-add}
use native.Mathlib.Omega.{arith}
use lib.IntN.{ℤ}
use lib.Dec.{T}
use lib.Pow.{pow_pos, pow_mono, shr_lt}
use lib.Ieee.{fin, Format, prec, emax, low, up, down, fits, round, sub}
use lib.Ieee.Fits.{down_pos, round-fits}
use lib.Ieee.Exact.{HasValue, round_exact}
use lib.Ieee.Scale.{overflow, round_same}
use borrow.Author.Tests.{le-ltb}
use Rattle.sums.specs.Key.{key}
use Rattle.sums.proofs.KeyLaws.{key_exact, key_value}
use Rattle.sums.proofs.Sum.{rounded, round_key}

module _ (f : Format) where
  -- ---- rounding

  -- a number of few digits is kept
  pub round_keeps : (q j : ℕ) → q < 2 ^ prec f → q * 2 ^ j < overflow f → key f (rounded f (q * 2 ^ j)) ≡ q * 2 ^ j
  round_keeps q j small fine =
      let u = q * 2 ^ j in
      let v : HasValue (rounded f u) false u (2 ^ low f) = round_exact f false u (2 ^ low f) q j (pow_pos (low f)) small fine refl in
      eq_of_mul-eq-mul_right (2 ^ low f) (pow_pos (low f)) (key f (rounded f u)) u (key_value f (rounded f u) u (2 ^ low f) (round-fits f false u (2 ^ low f)) v)

  -- what is no more than a number of few digits is rounded to no more than it
  pub round_most : (u q j : ℕ) → q < 2 ^ prec f → q * 2 ^ j < overflow f → u ≤ q * 2 ^ j → key f (rounded f u) ≤ q * 2 ^ j
  round_most u q j small fine h = le_trans (round_key f u (q * 2 ^ j) h) (le_of_eq (round_keeps q j small fine))

  -- less is lost than the last digit that is kept: below 2 ^ (prec + j) every multiple of 2 ^ j is kept, and there is one less than 2 ^ j below u
  pub round_near : (u j : ℕ) → u < 2 ^ (prec f + j) → prec f + j ≤ low f + suc (emax f) → u < key f (rounded f u) + 2 ^ j
  round_near u j small fine =
      let q = u / 2 ^ j in
      let under : q * 2 ^ j ≤ u = div-mul-le_self u (2 ^ j) in
      let kept = round_keeps q j (shr_lt (prec f) j small) (lt_of_lt_of_le (lt_of_le_of_lt under small) (pow_mono fine)) in
      omega (arith, kept, round_key f (q * 2 ^ j) u under, lt-div-mul-add {a = u} (pow_pos j))

  -- ---- differences

  -- fractions a / p and b / q of u and v units, l units in 1
  order_units : (a p b q u v l : ℕ) → 0 < l → u * p ≡ a * l → v * q ≡ b * l → v ≤ u → b * p ≤ a * q
  order_units a p b q u v l L h k c = le_of_mul-le-mul_right (omega (arith, ap (λ (x : ℕ). x * q) h, ap (λ (x : ℕ). x * p) k, mul-le-mul_right (p * q) c)) L

  difference_units : (a p b q u v l : ℕ) → u * p ≡ a * l → v * q ≡ b * l → v ≤ u → b * p ≤ a * q → (a * q - b * p) * l ≡ (u - v) * (p * q)
  difference_units a p b q u v l h k c r =
      let x = a * q - b * p in
      let y = u - v in
      let e : x + b * p ≡ a * q = omega arith in
      let g : y + v ≡ u = omega arith in
      omega (arith, ap (λ (z : ℕ). z * l) e, ap (λ (z : ℕ). z * (p * q)) g, ap (λ (z : ℕ). z * q) h, ap (λ (z : ℕ). z * p) k)

  opened : (m : ℕ) (e : ℤ) (n : ℕ) (d : ℤ) → n * up d * down e ≤ m * up e * down d
      → sub f (fin false m e) (fin false n d) ≡ round f false (m * up e * down d - n * up d * down e) (down e * down d)
  unfolding sub
  opened m e n d h =
      ap (λ (b : Bool). cond b (round f true (n * up d * down e - m * up e * down d) (down e * down d)) (round f false (m * up e * down d - n * up d * down e) (down e * down d)))
      (le-ltb (m * up e * down d) (n * up d * down e) h)

  -- a difference is that of the keys, rounded
  pub sub_is : (m : ℕ) (e : ℤ) (n : ℕ) (d : ℤ) → T (fits f (fin false m e)) → T (fits f (fin false n d)) → key f (fin false n d) ≤ key f (fin false m e)
      → sub f (fin false m e) (fin false n d) ≡ rounded f (key f (fin false m e) - key f (fin false n d))
  sub_is m e n d h k c =
      let x = key_exact f false m e h in
      let y = key_exact f false n d k in
      let u = key f (fin false m e) in
      let v = key f (fin false n d) in
      let r : n * up d * down e ≤ m * up e * down d = order_units (m * up e) (down e) (n * up d) (down d) u v (2 ^ low f) (pow_pos (low f)) x y c in
      opened m e n d r
      ∙ round_same f false (m * up e * down d - n * up d * down e) (down e * down d) (u - v) (2 ^ low f) (mul-pos (down_pos e) (down_pos d)) (pow_pos (low f))
      (difference_units (m * up e) (down e) (n * up d) (down d) u v (2 ^ low f) x y c r)
