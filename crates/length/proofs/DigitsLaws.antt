-- How long the root's significand is: as many digits as the format keeps, so the next value of the format on either side is one step of the last digit away.
use mathlib.Core.Path.{◌≡◌, refl, sym, ap, ◌∙◌}
use mathlib.Core.Logic.{⊎_elim}
use Prim.Native.Nat.{ℕ, zero, suc, ◌+◌, ◌-◌, ◌*◌, ◌/◌, ◌^◌, ◌≤◌, ◌<◌}
use native.Mathlib.Nat.{le_trans, le_of_eq, le_of_lt, lt_of_lt_of_le, lt_of_not-le, not-le_of_lt, mul-le-mul_right, mul-lt-mul_of_pos_right, lt_of_mul-lt-mul_right, mul_assoc, zero-mul, pow-suc}
use native.Mathlib.Decide.{dec_le}
use native.Mathlib.Omega.{arith}
use lib.Dec.{lit<}
use lib.Pow.{pow_pos, pow-add, pow_mono}
use lib.Ieee.{Format, prec, size}
use lib.Ieee.Digits.{size-lt, size_reaches}
use Rattle.grid.proofs.Back.{split}
use Rattle.length.specs.Root.{square, whole_root, near_root, places, significand}
use Rattle.length.proofs.Whole.{IsNearRoot, whole_root_lem, near_root_lem, root_lt}

pub four : (k : ℕ) → 4 ^ k ≡ square (2 ^ k)
four zero = refl
four (suc k) = rw (pow-suc 4 k, pow-suc 2 k) (omega (arith, four k))

pub four_pos : (k : ℕ) → 0 < 4 ^ k
four_pos k = rw (four k, ← pow-add 2 k k) (pow_pos (k + k))

pub places_is : (f : Format) (n : ℕ) → places f n ≡ (2 * prec f - size n) / 2
unfolding places
places_is f n = refl

pub significand_is : (f : Format) (n : ℕ) → significand f n ≡ near_root (prec f) (n * 4 ^ places f n)
unfolding significand
significand_is f n = refl

pub significand_zero : (f : Format) → significand f 0 ≡ 0
significand_zero f =
    rw (significand_is f 0, zero-mul (4 ^ places f 0))
    (⊎_elim (λ w. omega (arith, w.0, root_lt 0 (whole_root (prec f) 0) 1 w.1 (lit< tt))) (λ w. absurd (omega (arith, w.1))) (near_root_lem (prec f) 0 (four_pos (prec f))).over)

-- n with its places has 2p - 1 or 2p digits
widened_lt : (p n k : ℕ) → size n + (k + k) ≤ p + p → n * 4 ^ k < 4 ^ p
widened_lt p n k h =
    rw (four k, four p, ← pow-add 2 k k, ← pow-add 2 p p)
    (lt_of_lt_of_le (mul-lt-mul_of_pos_right (size-lt n) (pow_pos (k + k))) (le_trans (le_of_eq (sym (pow-add 2 (size n) (k + k)))) (pow_mono h)))

widened_ge : (p n k : ℕ) → 0 < n → p + p ≤ size n + (k + k) + 1 → square (2 ^ (p - 1)) ≤ n * 4 ^ k
widened_ge p n k N h =
    let z : 0 < size n = lt_of_not-le (λ g. not-le_of_lt (size-lt n) (le_trans (pow_mono g) N)) in
    let s : 2 ^ (size n - 1) ≤ n = size_reaches n (size n - 1) (omega arith) in
    rw (four k, ← pow-add 2 (p - 1) (p - 1), ← pow-add 2 k k)
    (le_trans (pow_mono (omega arith)) (le_trans (le_of_eq (pow-add 2 (size n - 1) (k + k))) (mul-le-mul_right (2 ^ (k + k)) s)))

module _ (f : Format) (n : ℕ) (short : size n ≤ 2 * prec f) where
  pub widened_fits : n * 4 ^ places f n < 4 ^ prec f
  widened_fits = widened_lt (prec f) n (places f n) (omega (arith, places_is f n))

  pub significand_near : IsNearRoot (n * 4 ^ places f n) (whole_root (prec f) (n * 4 ^ places f n)) (significand f n)
  significand_near = rw (significand_is f n) (near_root_lem (prec f) (n * 4 ^ places f n) widened_fits)

  pub significand_le : significand f n ≤ 2 ^ prec f
  significand_le =
      let N = n * 4 ^ places f n in
      let r : whole_root (prec f) N < 2 ^ prec f = root_lt N (whole_root (prec f) N) (2 ^ prec f) (whole_root_lem (prec f) N widened_fits).reached (rw (← four (prec f)) widened_fits) in
      ⊎_elim (λ w. omega (arith, w.0)) (λ w. omega (arith, w.0)) significand_near.over

  pub whole_ge : 0 < n → 2 ^ (prec f - 1) ≤ whole_root (prec f) (n * 4 ^ places f n)
  whole_ge h =
      let N = n * 4 ^ places f n in
      let b = root_lt N (2 ^ (prec f - 1)) (whole_root (prec f) N + 1) (widened_ge (prec f) n (places f n) h (omega (arith, places_is f n))) (whole_root_lem (prec f) N widened_fits).next in
      omega arith

  pub significand_ge : 0 < n → 2 ^ (prec f - 1) ≤ significand f n
  significand_ge h = let w = whole_ge h in ⊎_elim (λ v. omega (arith, v.0)) (λ v. omega (arith, v.0)) significand_near.over

-- A number of at most p digits, times a power of two, that is above b * 2 ^ t for a b of p digits at least, is a whole step 2 ^ t above it.
pub next_step : (p b t m j : ℕ) → 0 < p → 2 ^ (p - 1) ≤ b → m < 2 ^ p → b * 2 ^ t < m * 2 ^ j → (b + 1) * 2 ^ t ≤ m * 2 ^ j
next_step p b t m j P B M h = elim (dec_le t j) [ yes l ↦ multiple l | no g ↦ absurd (not-le_of_lt h (short (lt_of_not-le g))) ]
  where
    multiple : t ≤ j → (b + 1) * 2 ^ t ≤ m * 2 ^ j
    multiple l =
        let e : m * 2 ^ j ≡ m * 2 ^ (j - t) * 2 ^ t = ap (λ (x : ℕ). m * x) (split j t l) ∙ sym (mul_assoc m (2 ^ (j - t)) (2 ^ t)) in
        let c : b < m * 2 ^ (j - t) = lt_of_mul-lt-mul_right (2 ^ t) (lt_of_lt_of_le h (le_of_eq e)) in
        le_trans (mul-le-mul_right (2 ^ t) (omega arith)) (le_of_eq (sym e))

    short : j < t → m * 2 ^ j ≤ b * 2 ^ t
    short l =
        le_trans (mul-le-mul_right (2 ^ j) (le_of_lt M))
        (le_trans (le_of_eq (sym (pow-add 2 p j)))
        (le_trans (pow_mono (omega arith)) (le_trans (le_of_eq (pow-add 2 (p - 1) t)) (mul-le-mul_right (2 ^ t) B))))
