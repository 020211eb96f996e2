-- Floats that are not negative are in the order of their bits: a number of smallest units keeps its 53 leading digits, behind how many it drops.
use mathlib.Core.Path.{◌≡◌, refl, sym, ap, ◌∙◌, subst}
use mathlib.Core.Bool.{true, false}
use Prim.Native.Nat.{ℕ, ◌+◌, ◌-◌, ◌*◌, ◌/◌, ◌^◌, ◌≤◌, ◌<◌}
use native.Mathlib.Omega.{arith}
use native.Mathlib.Decide.{dec_le, ℕ_discrete}
use native.Mathlib.Nat.{lt_of_not-le, not-le_of_lt, lt_of_lt_of_le, le-div_iff_mul-le, div-lt_iff_lt-mul, div-mul-le_self}
use lib.Dec.{ltb}
use lib.IntN.{ℤ}
use lib.Pow.{pow_pos, pow_mono, pow-add}
use lib.Ieee.{Float, nan, inf, fin, binary64, size, lt, of_bits, to_bits}
use lib.Ieee.Scale.{overflow}
use lib.Ieee.Digits.{size-lt, size_reaches, size-le}
use lib.Ieee.Bits.{of_bits-to_bits}
use borrow.Author.Tests.{lt-ltb, le-ltb}
use Rattle.sums.specs.Key.{Nonneg, key}
use Rattle.sums.proofs.KeyLaws.{lt_key, key_finite}

-- how many digits are dropped, and the bits
abbrev dropped : ℕ → ℕ
dropped n = size n - 53

abbrev packed : ℕ → ℕ
packed n = 0 + dropped n * 2 ^ 52 + n / 2 ^ dropped n

finite_bits : (m : ℕ) (e : ℤ) → to_bits binary64 (fin false m e) ≡ packed (key binary64 (fin false m e))
unfolding to_bits
finite_bits m e = refl

infinite_bits : to_bits binary64 (inf false) ≡ 0 + 2047 * 2 ^ 52
unfolding to_bits
infinite_bits = refl

-- the digits that are kept are at most 53, and are 53 where some are dropped
kept_few : (n : ℕ) → n / 2 ^ dropped n < 2 ^ 53
kept_few n =
    let h : n < 2 ^ (53 + dropped n) = lt_of_lt_of_le (size-lt n) (pow_mono (omega arith)) in
    (div-lt_iff_lt-mul (pow_pos (dropped n))).1 (subst (λ (x : ℕ). n < x) (pow-add 2 53 (dropped n)) h)

kept_many : (n : ℕ) → 0 < dropped n → 2 ^ 52 ≤ n / 2 ^ dropped n
kept_many n h =
    let r : 2 ^ (52 + dropped n) ≤ n = size_reaches n (52 + dropped n) (omega arith) in
    (le-div_iff_mul-le (pow_pos (dropped n))).1 (subst (λ (x : ℕ). x ≤ n) (pow-add 2 52 (dropped n)) r)

kept_mono : (a b k : ℕ) → a ≤ b → a / 2 ^ k ≤ b / 2 ^ k
kept_mono a b k h = (le-div_iff_mul-le (pow_pos k)).1 (omega (arith, div-mul-le_self a (2 ^ k)))

packed_mono : (a b : ℕ) → a ≤ b → packed a ≤ packed b
packed_mono a b h =
    let s : size a ≤ size b = size-le a (size b) (omega (arith, size-lt b)) in
    elim (dec_le (dropped b) (dropped a)) [
      | yes g ↦
          let same : dropped a ≡ dropped b = omega (arith, s, g) in
          subst (λ (k : ℕ). 0 + k * 2 ^ 52 + a / 2 ^ k ≤ packed b) (sym same) (omega (arith, kept_mono a b (dropped b) h))
      | no g ↦ omega (arith, lt_of_not-le g, kept_few a, kept_many b (omega (arith, lt_of_not-le g)))
    ]

packed_finite : (n : ℕ) → n < overflow binary64 → packed n < 2047 * 2 ^ 52
packed_finite n h = omega (arith, kept_few n, size-le n 2098 h)

pub bits_mono : (x y : Float) → Nonneg binary64 x → Nonneg binary64 y → key binary64 x ≤ key binary64 y → to_bits binary64 x ≤ to_bits binary64 y
bits_mono nan y p q h = absurd p.sign
bits_mono (inf true) y p q h = absurd p.sign
bits_mono (fin true m e) y p q h = absurd p.sign
bits_mono (inf false) nan p q h = absurd q.sign
bits_mono (inf false) (inf true) p q h = absurd q.sign
bits_mono (inf false) (inf false) p q h = omega arith
bits_mono (inf false) (fin s m e) p q h = absurd (not-le_of_lt (key_finite binary64 s m e q.fit) h)
bits_mono (fin false m e) nan p q h = absurd q.sign
bits_mono (fin false m e) (inf true) p q h = absurd q.sign
bits_mono (fin false m e) (inf false) p q h = omega (arith, finite_bits m e, infinite_bits, packed_finite (key binary64 (fin false m e)) (key_finite binary64 false m e p.fit))
bits_mono (fin false m e) (fin true n d) p q h = absurd q.sign
bits_mono (fin false m e) (fin false n d) p q h = omega (arith, finite_bits m e, finite_bits n d, packed_mono (key binary64 (fin false m e)) (key binary64 (fin false n d)) h)

-- two floats with the same bits are one float
bits_same : (x y : Float) → Nonneg binary64 x → Nonneg binary64 y → to_bits binary64 x ≡ to_bits binary64 y → x ≡ y
bits_same x y p q e = sym (of_bits-to_bits binary64 x p.fit) ∙ ap (of_bits binary64) e ∙ of_bits-to_bits binary64 y q.fit

pub bits_order : (x y : Float) → Nonneg binary64 x → Nonneg binary64 y → ltb (to_bits binary64 x) (to_bits binary64 y) ≡ lt x y
bits_order x y p q = elim (dec_le (key binary64 y) (key binary64 x)) [
  | yes h ↦ le-ltb (to_bits binary64 x) (to_bits binary64 y) (bits_mono y x q p h) ∙ sym (lt_key binary64 x y p q ∙ le-ltb (key binary64 x) (key binary64 y) h)
  | no g ↦
      let h = lt_of_not-le g in
      let below = bits_mono x y p q (omega (arith, h)) in
      let apart : to_bits binary64 x ≡ to_bits binary64 y → ⊥ = λ e. omega (arith, h, ap (key binary64) (bits_same x y p q e)) in
      elim (ℕ_discrete (to_bits binary64 x) (to_bits binary64 y)) [
        | yes e ↦ absurd (apart e)
        | no d ↦ lt-ltb (to_bits binary64 x) (to_bits binary64 y) (lt_of_not-le (λ l. d (omega (arith, l, below)))) ∙ sym (lt_key binary64 x y p q ∙ lt-ltb (key binary64 x) (key binary64 y) h)
      ]
]

-- at most those of infinity, so that there is room for one more in 64 bits
pub bits_top : (x : Float) → Nonneg binary64 x → to_bits binary64 x ≤ 2 ^ 63
bits_top nan p = absurd p.sign
bits_top (inf true) p = absurd p.sign
bits_top (inf false) p = omega (arith, infinite_bits)
bits_top (fin true m e) p = absurd p.sign
bits_top (fin false m e) p = omega (arith, finite_bits m e, packed_finite (key binary64 (fin false m e)) (key_finite binary64 false m e p.fit))
