-- Laws of specs/Key.
use mathlib.Core.Path.{◌≡◌, refl, sym, ap, ◌∙◌}
use mathlib.Core.Bool.{Bool, true, false, not, ◌&&◌}
use Prim.Native.Nat.{ℕ, zero, suc, ◌+◌, ◌-◌, ◌*◌, ◌/◌, ◌%◌, ◌^◌, ◌≤◌, ◌<◌, zero-le}
use native.Mathlib.Nat.{le_refl, le_trans, le_of_eq, le_of_lt, lt_of_not-le, not-le_of_lt, lt_of_mul-lt-mul_right, le_of_mul-le-mul_right, eq_of_mul-eq-mul_right, mul_assoc, mul-one, one-mul, mul-pos, mul-div_cancel, mul-le-mul_right, mul-lt-mul_of_pos_right, zero-mul}
use native.Mathlib.Decide.{dec_le}
use native.Mathlib.Omega.{arith}
use lib.IntN.{ℤ, pos, negsuc}
use lib.Dec.{T, ltb, eqb, leb, eqb→eq, ltb→lt, leb→le, lit<}
use borrow.Author.Tests.{lt-ltb, le-ltb, ltb-true, ltb-false}
use lib.Pow.{pow_pos, pow-add, pow-lt}
use lib.Ieee.{Float, nan, inf, fin, Format, binary64, prec, emax, low, up, down, size, fits, is_nan, lt, to_bits, of_bits}
use lib.Ieee.Fits.{up_pos, down_pos, and_l, and_r, two}
use lib.Ieee.Bits.{of_bits-to_bits}
use lib.Ieee.Exact.{HasValue}
use lib.Ieee.Scale.{overflow, finite}
use Rattle.sums.specs.Key.{Nonneg, key}

pub nonneg_number : (f : Format) (x : Float) → Nonneg f x → T (not (is_nan x))
unfolding is_nan
nonneg_number f nan p = absurd p.sign
nonneg_number f (inf s) p = tt
nonneg_number f (fin s m e) p = tt

-- what holds of infinity and of the finite ones holds of all, and so of any two
module _ (f : Format) where
  each : (P : Float → Type 0) → P (inf false) → ((m : ℕ) (e : ℤ) → T (fits f (fin false m e)) → P (fin false m e)) → (x : Float) → Nonneg f x → P x
  each P top whole nan p = absurd p.sign
  each P top whole (inf true) p = absurd p.sign
  each P top whole (inf false) p = top
  each P top whole (fin true m e) p = absurd p.sign
  each P top whole (fin false m e) p = whole m e p.fit

  pub any_two : (P : Float → Float → Type 0)
      → P (inf false) (inf false)
      → ((n : ℕ) (d : ℤ) → T (fits f (fin false n d)) → P (inf false) (fin false n d))
      → ((m : ℕ) (e : ℤ) → T (fits f (fin false m e)) → P (fin false m e) (inf false))
      → ((m : ℕ) (e : ℤ) (n : ℕ) (d : ℤ) → T (fits f (fin false m e)) → T (fits f (fin false n d)) → P (fin false m e) (fin false n d))
      → (x y : Float) → Nonneg f x → Nonneg f y → P x y
  any_two P tops first second wholes x y p q =
      each (λ (x : Float). P x y) (each (P (inf false)) tops first y q) (λ m e h. each (P (fin false m e)) (second m e h) (λ n d k. wholes m e n d h k) y q) x p

-- ---- what `fits` says of a finite value
module _ (f : Format) (s : Bool) where
  few_digits : (m : ℕ) (e : ℤ) → T (fits f (fin s m e)) → m < 2 ^ prec f
  unfolding fits
  few_digits zero e h = pow_pos (prec f)
  few_digits (suc m) e h =
      let digits = eqb (suc m % 2) 1 && ltb (suc m) (2 ^ prec f) in
      ltb→lt (suc m) (2 ^ prec f) (and_r (eqb (suc m % 2) 1) _ (and_l digits _ (and_l (digits && leb (down e) (2 ^ low f)) _ h)))

  whole_units : (m : ℕ) (e : ℤ) → T (fits f (fin s m e)) → down e ≤ 2 ^ low f
  unfolding fits
  whole_units zero e h =
      let one : up e * down e ≡ 1 = eqb→eq (up e * down e) 1 h in
      omega (arith, mul-le-mul_right (down e) (up_pos e), pow_pos (low f))
  whole_units (suc m) e h =
      let digits = eqb (suc m % 2) 1 && ltb (suc m) (2 ^ prec f) in
      leb→le (down e) (2 ^ low f) (and_r digits _ (and_l (digits && leb (down e) (2 ^ low f)) _ h))

  below_overflow : (m : ℕ) (e : ℤ) → T (fits f (fin s m e)) → m * up e < 2 ^ suc (emax f) * down e
  unfolding fits
  below_overflow zero e h = omega (arith, zero-mul (up e), mul-pos (pow_pos (suc (emax f))) (down_pos e))
  below_overflow (suc m) e h =
      let digits = eqb (suc m % 2) 1 && ltb (suc m) (2 ^ prec f) in
      ltb→lt (suc m * up e) (2 ^ suc (emax f) * down e) (and_r (digits && leb (down e) (2 ^ low f)) _ h)

-- ---- a key is exact: a value is a whole number of units, the odd digits of its significand times a power of two

le_of_pow_le : (a b : ℕ) → 2 ^ a ≤ 2 ^ b → a ≤ b
le_of_pow_le a b h = elim (dec_le a b) [ yes p ↦ p | no n ↦ absurd (not-le_of_lt (pow-lt (lt_of_not-le n)) h) ]

-- 2 ^ e in units of 2 ^ -l
power : (e : ℤ) (l : ℕ) → down e ≤ 2 ^ l → (j : ℕ) × (up e * 2 ^ l ≡ 2 ^ j * down e)
power (pos k) l h = (k + l, sym (mul-one (2 ^ (k + l)) ∙ pow-add 2 k l))
power (negsuc k) l h =
    let d : suc k ≤ l = le_of_pow_le (suc k) l h in
    let b : l ≡ l - suc k + suc k = omega arith in
    (l - suc k, one-mul (2 ^ l) ∙ ap (λ (x : ℕ). 2 ^ x) b ∙ pow-add 2 (l - suc k) (suc k))

module _ (f : Format) (s : Bool) (m : ℕ) (e : ℤ) (h : T (fits f (fin s m e))) where
  in_units : (j : ℕ) × (m * up e * 2 ^ low f ≡ m * 2 ^ j * down e)
  in_units =
      let p = power e (low f) (whole_units f s m e h) in
      (p.0, mul_assoc m (up e) (2 ^ low f) ∙ ap (λ (x : ℕ). m * x) p.1 ∙ sym (mul_assoc m (2 ^ p.0) (down e)))

  key_power : (j : ℕ) × (key f (fin s m e) ≡ m * 2 ^ j)
  key_power = (in_units.0, ap (λ (x : ℕ). x / down e) in_units.1 ∙ mul-div_cancel (m * 2 ^ in_units.0) (down_pos e))

  pub key_exact : key f (fin s m e) * down e ≡ m * up e * 2 ^ low f
  unfolding key_power
  key_exact = ap (λ (x : ℕ). x * down e) key_power.1 ∙ sym in_units.1

  pub key_finite : key f (fin s m e) < overflow f
  key_finite =
      lt_of_mul-lt-mul_right (down e)
      (rw (key_exact, pow-add 2 (low f) (suc (emax f))) (omega (arith, mul-lt-mul_of_pos_right (below_overflow f s m e h) (pow_pos (low f)))))

pub key_top : (f : Format) (x : Float) → Nonneg f x → key f x ≤ overflow f
key_top f nan p = zero-le
key_top f (inf s) p = le_refl (overflow f)
key_top f (fin s m e) p = le_of_lt (key_finite f s m e p.fit)

-- infinity too is a power of two times a number of few digits
pub key_digits : (f : Format) (x : Float) → Nonneg f x → (m j : ℕ) × (m < 2 ^ prec f) × (key f x ≡ m * 2 ^ j)
key_digits f nan p = absurd p.sign
key_digits f (inf s) p = (1, low f + suc (emax f), pow-lt {i = 0} (le_trans (lit< tt) (two f)), sym (one-mul (overflow f)))
key_digits f (fin s m e) p =
    let k = key_power f s m e p.fit in
    (m, k.0, few_digits f s m e p.fit, k.1)

-- ---- the order of keys is the order of floats

-- fractions a / p and b / q of u and v units, l units in 1
pub cross→units : (a p b q u v l : ℕ) → 0 < p → 0 < q → u * p ≡ a * l → v * q ≡ b * l → a * q ≤ b * p → u ≤ v
cross→units a p b q u v l P Q h k c = le_of_mul-le-mul_right (omega (arith, ap (λ (x : ℕ). x * q) h, ap (λ (x : ℕ). x * p) k, mul-le-mul_right l c)) (mul-pos P Q)

units→cross : (a p b q u v l : ℕ) → 0 < l → u * p ≡ a * l → v * q ≡ b * l → u ≤ v → a * q ≤ b * p
units→cross a p b q u v l L h k c = le_of_mul-le-mul_right (omega (arith, ap (λ (x : ℕ). x * q) h, ap (λ (x : ℕ). x * p) k, mul-le-mul_right (p * q) c)) L

ltb_units : (a p b q u v l : ℕ) → 0 < l → 0 < p → 0 < q → u * p ≡ a * l → v * q ≡ b * l → ltb (a * q) (b * p) ≡ ltb u v
ltb_units a p b q u v l L P Q h k = elim (dec_le v u) [
  | yes g ↦ le-ltb (a * q) (b * p) (units→cross b q a p v u l L k h g) ∙ sym (le-ltb u v g)
  | no g ↦ lt-ltb (a * q) (b * p) (lt_of_not-le (λ c. g (cross→units b q a p v u l Q P k h c))) ∙ sym (lt-ltb u v (lt_of_not-le g))
]

module _ (f : Format) where
  pub lt_key : (x y : Float) → Nonneg f x → Nonneg f y → lt x y ≡ ltb (key f x) (key f y)
  unfolding lt
  lt_key =
      any_two f (λ (x y : Float). lt x y ≡ ltb (key f x) (key f y))
      (sym (le-ltb (overflow f) (overflow f) (le_refl (overflow f))))
      (λ n d k. sym (le-ltb (overflow f) (key f (fin false n d)) (le_of_lt (key_finite f false n d k))))
      (λ m e h. sym (lt-ltb (key f (fin false m e)) (overflow f) (key_finite f false m e h)))
      (λ m e n d h k. ltb_units (m * up e) (down e) (n * up d) (down d) (key f (fin false m e)) (key f (fin false n d)) (2 ^ low f) (pow_pos (low f)) (down_pos e) (down_pos d)
      (key_exact f false m e h) (key_exact f false n d k))

  -- a bit pattern is made from the key
  same_bits : (m : ℕ) (e : ℤ) (n : ℕ) (d : ℤ) → key f (fin false m e) ≡ key f (fin false n d) → to_bits f (fin false m e) ≡ to_bits f (fin false n d)
  unfolding to_bits
  same_bits m e n d k = ap (λ (w : ℕ). 0 + (size w - prec f) * 2 ^ (prec f - 1) + w / 2 ^ (size w - prec f)) k

  pub key_inj : (x y : Float) → Nonneg f x → Nonneg f y → key f x ≡ key f y → x ≡ y
  key_inj =
      any_two f (λ (x y : Float). key f x ≡ key f y → x ≡ y)
      (λ t. refl)
      (λ n d k t. absurd (not-le_of_lt (key_finite f false n d k) (le_of_eq t)))
      (λ m e h t. absurd (not-le_of_lt (key_finite f false m e h) (le_of_eq (sym t))))
      (λ m e n d h k t. sym (of_bits-to_bits f (fin false m e) h) ∙ ap (λ (b : ℕ). of_bits f b) (same_bits m e n d t) ∙ of_bits-to_bits f (fin false n d) k)

  -- ---- values as fractions: x is a / c, so its key is that many units
  pub key_value : (x : Float) (a c : ℕ) → T (fits f x) → HasValue x false a c → key f x * c ≡ a * 2 ^ low f
  key_value nan a c p v = absurd v
  key_value (inf s) a c p v = absurd v
  key_value (fin s m e) a c p v =
      eq_of_mul-eq-mul_right (down e) (down_pos e) (key f (fin s m e) * c) (a * 2 ^ low f)
      (omega (arith, ap (λ (n : ℕ). n * c) (key_exact f s m e p), ap (λ (n : ℕ). n * 2 ^ low f) v.1))

  pub value_finite : (x : Float) (a c : ℕ) → HasValue x false a c → T (finite x)
  value_finite nan a c v = absurd v
  value_finite (inf s) a c v = absurd v
  value_finite (fin s m e) a c v = tt

-- what a comparison of two lengths tells
pub lt_true : (x y : Float) → Nonneg binary64 x → Nonneg binary64 y → lt x y ≡ true → key binary64 x < key binary64 y
lt_true x y p q h = ltb-true (key binary64 x) (key binary64 y) (sym (lt_key binary64 x y p q) ∙ h)

pub lt_false : (x y : Float) → Nonneg binary64 x → Nonneg binary64 y → lt x y ≡ false → key binary64 y ≤ key binary64 x
lt_false x y p q h = ltb-false (key binary64 x) (key binary64 y) (sym (lt_key binary64 x y p q) ∙ h)
