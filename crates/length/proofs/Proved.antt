-- The definitions meet the statement: `root f n` is the value of the format f that is nearest to √n, and its quotient by 2 ^ e the one that is nearest to √n / 2 ^ e.
use mathlib.Core.Path.{◌≡◌, sym, ap, ◌∙◌}
use mathlib.Core.Logic.{⊎_elim}
use Prim.Native.Nat.{ℕ, ◌+◌, ◌-◌, ◌*◌, ◌^◌, ◌≤◌, ◌<◌, zero-le}
use native.Mathlib.Nat.{le_trans, le_of_eq, lt_of_lt_of_le, lt_of_le_of_lt, le_of_suc-le-suc, lt_of_not-le, not-le_of_lt, mul-le-mul, mul-le-mul_right, mul-lt-mul_of_pos_right, mul-pos, zero-mul}
use native.Mathlib.Omega.{arith}
use lib.Pow.{pow_pos}
use lib.Dec.{T, lit<}
use lib.Ieee.{Float, Format, prec, low, size}
use lib.Ieee.Fits.{two, two-le_pos}
use lib.Ieee.Digits.{size-le}
use lib.Ieee.Scale.{finite}
use Rattle.sums.specs.Key.{Nonneg, key}
use Rattle.sums.proofs.KeyLaws.{key_digits, key_inj, value_finite}
use Rattle.sums.proofs.Sum.{round_nonneg, plus_zero, zero_nonneg, zero_key}
use Rattle.length.specs.Root.{square, whole_root, places, significand, root_over}
use Rattle.length.specs.Nearest.{NearestRoot, exact_squared, middle_squared}
use Rattle.length.proofs.Whole.{IsNearRoot}
use Rattle.length.proofs.DigitsLaws.{four_pos, significand_near, significand_ge, significand_zero, whole_ge, next_step}
use Rattle.length.proofs.Value.{scaled, step, scaled_value, scaled_key, in_steps, step_pos, steps_pos, root_over_is}

square_le : {a b : ℕ} → a ≤ b → square a ≤ square b
square_le h = mul-le-mul h h

square_lt : {a b : ℕ} → a < b → square a < square b
square_lt {a} {b} h = omega (arith, square_le h)

module _ (f : Format) (n : ℕ) (short : size n ≤ 2 * prec f) (positive : 0 < n) (e : ℕ) (small : e ≤ prec f) where
  -- the significand a is r, the whole root, or one more; its last digit is worth g units
  abbrev a : ℕ
  a = significand f n

  abbrev r : ℕ
  r = whole_root (prec f) (n * 4 ^ places f n)

  abbrev g : ℕ
  g = step f e n

  -- v steps, doubled and squared as `NearestRoot` compares them
  step_squares : (v : ℕ) → square v * (square g * 4 ^ e) ≡ middle_squared e (v * g)
  step_squares v = omega arith

  -- a value above b steps is a step above them at least, for a b with all the digits that the format keeps
  after : (b : ℕ) (y : Float) → Nonneg f y → 2 ^ (prec f - 1) ≤ b → b * g < key f y → (b + 1) * g ≤ key f y
  after b y q B h =
      let d = key_digits f y q in
      rw d.3 (next_step (prec f) b (low f - (places f n + e)) d.0 d.1 (two-le_pos (prec f) (two f)) B d.2 (rw d.3 at h))

  near : IsNearRoot (n * 4 ^ places f n) r a
  near = significand_near f n short

  -- so the middle of x and a value above it is a + 1/2 steps at least, and the root is below that
  above : (y : Float) → Nonneg f y → a * g < key f y → exact_squared f n < middle_squared e (a * g + key f y)
  above y q h =
      let next = after a y q (significand_ge f n short positive) h in
      rw (in_steps f n short e small)
      (lt_of_lt_of_le (mul-lt-mul_of_pos_right near.under (steps_pos f e n))
      (le_trans (le_of_eq (step_squares (2 * a + 1))) (mul-le-mul_right (4 ^ e) (square_le (omega arith)))))

  -- The middle of x and a value below it is below x, and the root is not if a is the whole root r. Otherwise that value is r steps at most, so the middle is r + 1/2
  -- steps at most, and the root is above that.
  below : (y : Float) → Nonneg f y → key f y < a * g → middle_squared e (a * g + key f y) < exact_squared f n
  below y q h = rw (in_steps f n short e small) (⊎_elim reached rounded_up near.over)
    where
      reached : (a ≡ r) × (square r ≤ n * 4 ^ places f n) → middle_squared e (a * g + key f y) < 4 * (n * 4 ^ places f n) * (square g * 4 ^ e)
      reached w =
          lt_of_lt_of_le (mul-lt-mul_of_pos_right (square_lt {b = 2 * a * g} (omega arith)) (four_pos e))
          (le_trans (le_of_eq (sym (step_squares (2 * a)))) (mul-le-mul_right (square g * 4 ^ e) (rw w.0 (omega (arith, w.1)))))

      rounded_up : (a ≡ r + 1) × (square (2 * r + 1) < 4 * (n * 4 ^ places f n)) → middle_squared e (a * g + key f y) < 4 * (n * 4 ^ places f n) * (square g * 4 ^ e)
      rounded_up w =
          let Y : key f y ≤ r * g = le_of_suc-le-suc (lt_of_not-le (λ l. not-le_of_lt (rw w.0 at h) (after r y q (whole_ge f n short positive) l))) in
          lt_of_le_of_lt (mul-le-mul_right (4 ^ e) (square_le {b = (2 * r + 1) * g} (rw w.0 (omega arith))))
          (lt_of_le_of_lt (le_of_eq (sym (step_squares (2 * r + 1)))) (mul-lt-mul_of_pos_right w.1 (steps_pos f e n)))

  -- a negative value is further off than 0 is
  negative : (y : Float) → middle_squared e (a * g - key f y) < exact_squared f n
  negative y =
      let Z : key f plus_zero ≡ 0 = zero_key f in
      let P : 0 < a * g = mul-pos (lt_of_lt_of_le (pow_pos (prec f - 1)) (significand_ge f n short positive)) (step_pos f e n) in
      lt_of_le_of_lt (mul-le-mul_right (4 ^ e) (square_le (omega arith))) (below plus_zero (zero_nonneg f) (omega arith))

  scaled_nearest : NearestRoot f e n (scaled f e n)
  scaled_nearest =
      let K : key f (scaled f e n) ≡ a * g = scaled_key f n short e small in
      record {
        nonneg = round_nonneg f (significand f n) (2 ^ (places f n + e));
        above = λ y q h. rw K (above y q (rw K at h));
        below = λ y q h. rw K (below y q (rw K at h));
        negative = λ y q. rw K (negative y);
      }

pub root_over_nearest : (f : Format) (e n : ℕ) → 0 < n → size n ≤ 2 * prec f → e ≤ prec f → NearestRoot f e n (root_over f e n)
root_over_nearest f e n positive short small = rw (root_over_is f n short e small) (scaled_nearest f n short positive e small)

-- ---- never negative, never infinite, and zero for 0
module _ (f : Format) (e n : ℕ) (short : size n ≤ 2 * prec f) (small : e ≤ prec f) where
  pub root_over_nonneg : Nonneg f (root_over f e n)
  root_over_nonneg = rw (root_over_is f n short e small) (round_nonneg f (significand f n) (2 ^ (places f n + e)))

  pub root_over_finite : T (finite (root_over f e n))
  root_over_finite = rw (root_over_is f n short e small) (value_finite f (scaled f e n) (significand f n) (2 ^ (places f n + e)) (scaled_value f n short e small))

  pub root_over_key : key f (root_over f e n) ≡ significand f n * step f e n
  root_over_key = rw (root_over_is f n short e small) (scaled_key f n short e small)

pub root_over_zero : (f : Format) (e : ℕ) → e ≤ prec f → root_over f e 0 ≡ plus_zero
root_over_zero f e small =
    let short : size 0 ≤ 2 * prec f = le_trans (size-le 0 0 (lit< tt)) zero-le in
    key_inj f (root_over f e 0) plus_zero (root_over_nonneg f e 0 short small) (zero_nonneg f)
    (root_over_key f e 0 short small ∙ ap (λ (a : ℕ). a * step f e 0) (significand_zero f) ∙ zero-mul (step f e 0) ∙ sym (zero_key f))
