-- A pattern's place by its fields, for every grid of 1 / 2 ^ g. With t its 52 digits and x the field of its exponent it is (2 ^ 52 + t) / 2 ^ (1075 - g - x) steps. Where the field is
-- below 1023 - g that is less than one step, and where it is above 1035 it is more than 4,096. Assumes nothing.
use Rattle.std.specs.Prelude.{None}
use mathlib.Core.Path.{◌≡◌, refl, sym, ap, ◌∙◌, subst}
use Prim.Native.Nat.{ℕ, zero, suc, ◌+◌, ◌-◌, ◌*◌, ◌/◌, ◌%◌, ◌^◌, ◌≤◌, ◌<◌}
use native.Mathlib.Nat.{mul_assoc, mul-pos, mod-eq_of_lt, div-add-mod', div-mul-le_self, le-div_iff_mul-le, mul-le-mul_right, mul-lt-mul_of_pos_right, lt_of_lt_of_le, lt_of_le_of_lt, le_trans, le_of_eq, eq-or-lt_of_le, eq-zero-or-pos}
use native.Mathlib.Omega.{arith}
use mathlib.Core.Logic.{inl, inr}
use mathlib.Core.Bool.{Bool, true, false, and-false, cond}
use lib.Dec.{leb, eqb, not_T, eqb→eq, lit<}
use lib.Pow.{pow-add, pow_pos, pow_mono, shl_lt, field}
use lib.Ieee.{nan, inf, Format, binary64, prec, low, odd, hid, ones, of_fields, of_bits}
use lib.Ieee.Exact.{odd_sign}
use lib.Ieee.Bits.{cond_no}
use borrow.Author.Tests.{lt-leb, ne_eqb}
use Rattle.grid.specs.Grid.{origin_of_grid, place_of_steps, place_on_grid, read_on_grid}
use Rattle.grid.proofs.Same.{same_steps, place_of_value}
use Rattle.grid.proofs.Back.{read_is}

-- ---- what puts a number of steps off the grid

pub part_of_step : (o : ℕ) (s : Bool) (a c : ℕ) → 0 < a % c → place_of_steps o s a c ≡ None
part_of_step o s a c h = simp (ne_eqb (a % c) 0 (λ e. omega arith))

pub too_far : (o : ℕ) (s : Bool) (a c : ℕ) → o < a / c → place_of_steps o s a c ≡ None
too_far o s a c h = simp (lt-leb (a / c) o h, and-false)

-- less than one step, and not zero
under_one : (o : ℕ) (s : Bool) (a c : ℕ) → 0 < a → a < c → place_of_steps o s a c ≡ None
under_one o s a c p h = part_of_step o s a c (subst (λ (r : ℕ). 0 < r) (sym (mod-eq_of_lt h)) p)

-- ---- a pattern's fields: its sign, its exponent's and its digits

abbrev pub negative : ℕ → Bool
negative b = leb (2 ^ 63) b

abbrev pub exponent : ℕ → ℕ
exponent b = b / 2 ^ 52 % 2048

abbrev pub digits : ℕ → ℕ
digits b = b % 2 ^ 52

by_fields : (b : ℕ) → of_bits binary64 b ≡ of_fields binary64 (negative b) (exponent b) (digits b)
unfolding of_bits
by_fields b = ap (λ (x : ℕ). of_fields binary64 (negative b) x (digits b)) (field b 11 52)

fields_low : (f : Format) (s : Bool) (t : ℕ) → of_fields f s 0 t ≡ odd (prec f) s t 0 (low f)
unfolding of_fields
fields_low f s t = refl

fields_mid : (f : Format) (s : Bool) (x t : ℕ) → suc x < ones f → of_fields f s (suc x) t ≡ odd (prec f) s (hid f + t) x (low f)
unfolding of_fields
fields_mid f s x t h =
    cond_no (eqb (suc x) (ones f)) (cond (eqb t 0) (inf s) nan) (odd (prec f) s (hid f + t) x (low f)) (not_T (eqb (suc x) (ones f)) (λ k. let e = eqb→eq (suc x) (ones f) k in omega arith))

-- an infinity or a NaN
fields_top : (g : ℕ) (s : Bool) (t : ℕ) → place_on_grid g (of_fields binary64 s 2047 t) ≡ None
unfolding place_on_grid of_fields
fields_top g s t = go (eqb t 0)
  where
    go : (u : Bool) → place_on_grid g (cond u (inf s) nan) ≡ None
    go true = refl
    go false = refl

module _ (g b : ℕ) where
  read_fields : (x : ℕ) → exponent b ≡ x → read_on_grid g b ≡ place_on_grid g (of_fields binary64 (negative b) x (digits b))
  read_fields x e = read_is g b ∙ ap (place_on_grid g) (by_fields b ∙ ap (λ (x : ℕ). of_fields binary64 (negative b) x (digits b)) e)

  -- q * 2 ^ k smallest values are as many steps, times 2 ^ g, as they are of 1
  read_odd : (q k : ℕ) → place_on_grid g (odd 53 (negative b) q k 1074) ≡ place_of_steps (origin_of_grid g) (negative b) (q * 2 ^ k * 2 ^ g) (2 ^ 1074)
  read_odd q k = place_of_value g (odd 53 (negative b) q k 1074) (negative b) (q * 2 ^ k) (2 ^ 1074) (pow_pos 1074) (odd_sign 53 (negative b) q k 1074)

  read_low : exponent b ≡ 0 → read_on_grid g b ≡ place_of_steps (origin_of_grid g) (negative b) (digits b * 2 ^ 0 * 2 ^ g) (2 ^ 1074)
  read_low e = read_fields 0 e ∙ ap (place_on_grid g) (fields_low binary64 (negative b) (digits b)) ∙ read_odd (digits b) 0

  read_mid : (x : ℕ) → exponent b ≡ suc x → suc x < 2047 → read_on_grid g b ≡ place_of_steps (origin_of_grid g) (negative b) ((2 ^ 52 + digits b) * 2 ^ x * 2 ^ g) (2 ^ 1074)
  read_mid x e h = read_fields (suc x) e ∙ ap (place_on_grid g) (fields_mid binary64 (negative b) x (digits b) h) ∙ read_odd (2 ^ 52 + digits b) x

  read_top : exponent b ≡ 2047 → read_on_grid g b ≡ None
  read_top e = read_fields 2047 e ∙ fields_top g (negative b) (digits b)

  -- ---- the three ranges of the exponent's field

  -- q * 2 ^ x is less than one step where the digits of q, x and g come to no more than 1074
  small : (n q x : ℕ) → 0 < q → q < 2 ^ n → n + x + g ≤ 1074 → place_of_steps (origin_of_grid g) (negative b) (q * 2 ^ x * 2 ^ g) (2 ^ 1074) ≡ None
  small n q x p h k =
      under_one (origin_of_grid g) (negative b) (q * 2 ^ x * 2 ^ g) (2 ^ 1074) (mul-pos (mul-pos p (pow_pos x)) (pow_pos g))
      (lt_of_lt_of_le (shl_lt (n + x) g (shl_lt n x h)) (pow_mono k))

  pub read_below : b < 2 ^ 64 → (b % 2 ^ 63 ≡ 0 → ⊥) → exponent b + g < 1023 → read_on_grid g b ≡ None
  read_below B some h = go (exponent b) (digits b) refl refl
    where
      go : (x t : ℕ) → exponent b ≡ x → digits b ≡ t → read_on_grid g b ≡ None
      go zero zero e d = absurd (omega arith)
      go zero (suc t) e d = read_low e ∙ small 52 (digits b) 0 (omega arith) (omega arith) (omega arith)
      go (suc x) t e d = read_mid x e (omega arith) ∙ small 53 (2 ^ 52 + digits b) x (omega arith) (omega arith) (omega arith)

  pub read_above : 1035 < exponent b → read_on_grid g b ≡ None
  read_above h = go (exponent b) refl
    where
      big : (x : ℕ) → 1035 ≤ x → origin_of_grid g < (2 ^ 52 + digits b) * 2 ^ x * 2 ^ g / 2 ^ 1074
      big x k =
          let e : 13 + g + 1074 ≤ 52 + x + g = omega arith in
          lt_of_lt_of_le (subst (λ (n : ℕ). origin_of_grid g < n) (sym (pow-add 2 13 g)) (mul-lt-mul_of_pos_right (lit< tt) (pow_pos g)))
          ((le-div_iff_mul-le (pow_pos 1074)).1
          (le_trans (le_of_eq (sym (pow-add 2 (13 + g) 1074)))
          (le_trans (pow_mono e)
          (le_trans (le_of_eq (pow-add 2 (52 + x) g ∙ ap (λ (n : ℕ). n * 2 ^ g) (pow-add 2 52 x)))
          (mul-le-mul_right (2 ^ g) (mul-le-mul_right (2 ^ x) (omega arith)))))))

      go : (x : ℕ) → exponent b ≡ x → read_on_grid g b ≡ None
      go zero e = absurd (omega arith)
      go (suc x) e =
          elim (eq-or-lt_of_le (le_top x e)) [
            | inl t ↦ read_top (e ∙ t)
            | inr l ↦ read_mid x e l ∙ too_far (origin_of_grid g) (negative b) ((2 ^ 52 + digits b) * 2 ^ x * 2 ^ g) (2 ^ 1074) (big x (omega arith))
          ]
        where
          le_top : (x : ℕ) → exponent b ≡ suc x → suc x ≤ 2047
          le_top x e = omega arith

  pub read_between : 0 < exponent b → exponent b + g ≤ 1075 → read_on_grid g b ≡ place_of_steps (origin_of_grid g) (negative b) (2 ^ 52 + digits b) (2 ^ (1075 - g - exponent b))
  read_between p h = go (exponent b) refl
    where
      go : (x : ℕ) → exponent b ≡ x → read_on_grid g b ≡ place_of_steps (origin_of_grid g) (negative b) (2 ^ 52 + digits b) (2 ^ (1075 - g - x))
      go zero e = absurd (omega arith)
      go (suc x) e =
          let q = 2 ^ 52 + digits b in
          let k = 1075 - g - suc x in
          let sum : x + g + k ≡ 1074 = omega arith in
          read_mid x e (omega arith)
          ∙ same_steps (origin_of_grid g) (negative b) (q * 2 ^ x * 2 ^ g) (2 ^ 1074) q (2 ^ k) (pow_pos 1074) (pow_pos k)
          (ap (λ (n : ℕ). n * 2 ^ k) (mul_assoc q (2 ^ x) (2 ^ g) ∙ ap (λ (n : ℕ). q * n) (sym (pow-add 2 x g)))
          ∙ mul_assoc q (2 ^ (x + g)) (2 ^ k)
          ∙ ap (λ (n : ℕ). q * n) (sym (pow-add 2 (x + g) k) ∙ ap (λ (n : ℕ). 2 ^ n) sum))

-- ---- a whole number of steps, as a shift down and up again shows

kept : (q c : ℕ) → q < 2 ^ 64 → q / c * c % 2 ^ 64 ≡ q / c * c
kept q c h = mod-eq_of_lt (lt_of_le_of_lt (div-mul-le_self q c) h)

pub shifts_back : (q c : ℕ) → q < 2 ^ 64 → q / c * c % 2 ^ 64 ≡ q → q % c ≡ 0
shifts_back q c h e = omega (arith, kept q c h, div-add-mod' q c)

pub shifts_off : (q c : ℕ) → q < 2 ^ 64 → (q / c * c % 2 ^ 64 ≡ q → ⊥) → 0 < q % c
shifts_off q c h n = elim (eq-zero-or-pos (q % c)) [
  | inl z ↦ absurd (n (omega (arith, kept q c h, div-add-mod' q c)))
  | inr p ↦ p
]
