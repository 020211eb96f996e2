-- Rounded sums of floats that are not negative, in keys: the key of a sum is the sum of the keys, rounded. So a sum grows with each argument and is never below either,
-- whatever the rounding loses, and infinity is what sums reach where they overflow.
use mathlib.Core.Path.{◌≡◌, refl, sym, ap}
use mathlib.Core.Bool.{Bool, true, false, ◌&&◌, ◌||◌, cond}
use mathlib.Core.Logic.{◌⊎◌, inl, inr}
use Prim.Native.Nat.{ℕ, zero, suc, ◌+◌, ◌*◌, ◌^◌, ◌≤◌}
use native.Mathlib.Nat.{le_refl, le_trans, le_of_eq, le_of_lt, le_antisymm, mul-pos, mul-le-mul_right, eq_of_mul-eq-mul_right}
use native.Mathlib.Omega.{arith}
use lib.IntN.{pos}
use lib.Dec.{T, ltb, eqb, ltb→lt, eqb→eq}
use lib.Pow.{pow_pos}
use lib.Ieee.{Float, nan, inf, fin, Format, binary32, binary64, prec, low, up, down, fits, round, odd, units, add, le, of_bits}
use lib.Ieee.Fits.{and_l, down_pos, add-fits, round-fits, round_is}
use lib.Ieee.Exact.{HasValue, round_exact}
use lib.Ieee.Order.{round_mono}
use lib.Ieee.Scale.{overflow, round_same}
use Rattle.sums.specs.Key.{Nonneg, nonneg, key}
use Rattle.sums.proofs.KeyLaws.{any_two, key_exact, key_finite, key_top, key_digits, key_value, cross→units}

-- u units, rounded
abbrev pub rounded : Format → ℕ → Float
rounded f u = round f false u (2 ^ low f)

module _ (f : Format) where
  -- ---- a rounded fraction is not negative
  odd_sign : (d q k l : ℕ) → T (nonneg (odd d false q k l))
  unfolding odd
  odd_sign d zero k l = tt
  odd_sign d (suc q) k l = tt

  units_sign : (q k : ℕ) → T (nonneg (units f false q k))
  unfolding units
  units_sign q k = go (ltb (q * 2 ^ k) (overflow f))
    where
      go : (b : Bool) → T (nonneg (cond b (odd (suc (prec f)) false q k (low f)) (inf false)))
      go true = odd_sign (suc (prec f)) q k (low f)
      go false = tt

  pub round_nonneg : (a c : ℕ) → Nonneg f (round f false a c)
  round_nonneg a c = record { fit = round-fits f false a c; sign = rw (round_is f false a c) (units_sign _ _) }

  -- ---- rounding keeps the order of keys, and keeps every key
  either : (a b : Bool) → T (a || b) → T a ⊎ T b
  either true b t = inl tt
  either false b t = inr t

  lt_or_eq : (a b : ℕ) → T (ltb a b || (eqb a b && true)) → a ≤ b
  lt_or_eq a b t = elim (either (ltb a b) (eqb a b && true) t) [ inl u ↦ le_of_lt (ltb→lt a b u) | inr u ↦ le_of_eq (eqb→eq a b (and_l (eqb a b) true u)) ]

  pub le→key : (x y : Float) → Nonneg f x → Nonneg f y → T (le x y) → key f x ≤ key f y
  unfolding le
  le→key =
      any_two f (λ (x y : Float). T (le x y) → key f x ≤ key f y)
      (λ t. le_refl (overflow f))
      (λ n d k t. absurd t)
      (λ m e h t. le_of_lt (key_finite f false m e h))
      (λ m e n d h k t. cross→units (m * up e) (down e) (n * up d) (down d) (key f (fin false m e)) (key f (fin false n d)) (2 ^ low f) (down_pos e) (down_pos d)
      (key_exact f false m e h) (key_exact f false n d k) (lt_or_eq (m * up e * down d) (n * up d * down e) t))

  pub round_key : (u v : ℕ) → u ≤ v → key f (rounded f u) ≤ key f (rounded f v)
  round_key u v h =
      le→key (rounded f u) (rounded f v) (round_nonneg u (2 ^ low f)) (round_nonneg v (2 ^ low f))
      (round_mono f u (2 ^ low f) v (2 ^ low f) (pow_pos (low f)) (pow_pos (low f)) (mul-le-mul_right (2 ^ low f) h))

  least_overflow : (g : Format) → key g (rounded g (overflow g)) ≡ overflow g
  unfolding round
  least_overflow binary32 = refl
  least_overflow binary64 = refl

  pub round_overflow : (u : ℕ) → overflow f ≤ u → key f (rounded f u) ≡ overflow f
  round_overflow u h = le_antisymm (key_top f (rounded f u) (round_nonneg u (2 ^ low f))) (le_trans (le_of_eq (sym (least_overflow f))) (round_key (overflow f) u h))

  pub round_own : (x : Float) → Nonneg f x → key f (rounded f (key f x)) ≡ key f x
  round_own nan p = absurd p.sign
  round_own (inf s) p = round_overflow (overflow f) (le_refl (overflow f))
  round_own (fin s m e) p =
      let d = key_digits f (fin s m e) p in
      let u = key f (fin s m e) in
      let v : HasValue (rounded f u) false u (2 ^ low f) =
      round_exact f false u (2 ^ low f) d.0 d.1 (pow_pos (low f)) d.2 (rw d.3 at (key_finite f s m e p.fit)) (ap (λ (x : ℕ). x * 2 ^ low f) d.3)
      in
      eq_of_mul-eq-mul_right (2 ^ low f) (pow_pos (low f)) (key f (rounded f u)) u (key_value f (rounded f u) u (2 ^ low f) (round-fits f false u (2 ^ low f)) v)

  -- ---- sums
  add_sign : (x y : Float) → Nonneg f x → Nonneg f y → T (nonneg (add f x y))
  unfolding add
  add_sign =
      any_two f (λ (x y : Float). T (nonneg (add f x y))) tt (λ n d k. tt) (λ m e h. tt)
      (λ m e n d h k. (round_nonneg (m * up e * down d + n * up d * down e) (down e * down d)).sign)

  pub add_nonneg : (x y : Float) → Nonneg f x → Nonneg f y → Nonneg f (add f x y)
  add_nonneg x y p q = record { fit = add-fits f x y; sign = add_sign x y p q }

  sum_units : (a p b q u v l : ℕ) → u * p ≡ a * l → v * q ≡ b * l → (a * q + b * p) * l ≡ (u + v) * (p * q)
  sum_units a p b q u v l h k = omega (arith, ap (λ (x : ℕ). x * q) h, ap (λ (x : ℕ). x * p) k)

  pub add_key : (x y : Float) → Nonneg f x → Nonneg f y → key f (add f x y) ≡ key f (rounded f (key f x + key f y))
  unfolding add
  add_key =
      any_two f (λ (x y : Float). key f (add f x y) ≡ key f (rounded f (key f x + key f y)))
      (sym (round_overflow (overflow f + overflow f) (omega arith)))
      (λ n d k. sym (round_overflow (overflow f + key f (fin false n d)) (omega arith)))
      (λ m e h. sym (round_overflow (key f (fin false m e) + overflow f) (omega arith)))
      (λ m e n d h k.
      ap (λ (z : Float). key f z)
      (round_same f false (m * up e * down d + n * up d * down e) (down e * down d) (key f (fin false m e) + key f (fin false n d)) (2 ^ low f)
      (mul-pos (down_pos e) (down_pos d)) (pow_pos (low f))
      (sum_units (m * up e) (down e) (n * up d) (down d) (key f (fin false m e)) (key f (fin false n d)) (2 ^ low f) (key_exact f false m e h) (key_exact f false n d k))))

  -- a sum grows with its left argument
  pub add_mono : (x y w : Float) → Nonneg f x → Nonneg f y → Nonneg f w → key f x ≤ key f y → key f (add f x w) ≤ key f (add f y w)
  add_mono x y w p q r h = rw (add_key x w p r, add_key y w q r) (round_key (key f x + key f w) (key f y + key f w) (omega arith))

  -- and is never below it
  pub add_above : (x y : Float) → Nonneg f x → Nonneg f y → key f x ≤ key f (add f x y)
  add_above x y p q = rw (add_key x y p q) (le_trans (le_of_eq (sym (round_own x p))) (round_key (key f x) (key f x + key f y) (omega arith)))

-- ---- the two ends: 0.0, from which sums start, and infinity
abbrev pub plus_zero : Float
plus_zero = fin false 0 (pos 0)

pub zero_nonneg : (f : Format) → Nonneg f plus_zero
unfolding fits
zero_nonneg f = record { fit = tt; sign = tt }

pub zero_key : (f : Format) → key f plus_zero ≡ 0
zero_key binary32 = refl
zero_key binary64 = refl

pub inf_nonneg : (f : Format) → Nonneg f (inf false)
unfolding fits
inf_nonneg f = record { fit = tt; sign = tt }

-- as code writes them
pub zero_bits : (f : Format) → of_bits f 0 ≡ plus_zero
unfolding of_bits
zero_bits binary32 = refl
zero_bits binary64 = refl
