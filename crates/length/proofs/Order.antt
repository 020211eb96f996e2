-- Different numbers of few digits have different nearest roots, in the same order: their roots lie further apart than the format's values do there.
use mathlib.Core.Path.{sym}
use Prim.Native.Nat.{ℕ, ◌+◌, ◌*◌, ◌^◌, ◌≤◌, ◌<◌}
use native.Mathlib.Nat.{le_trans, le_of_eq, le_of_lt, lt_of_lt_of_le, lt_of_not-le, mul-le-mul, mul-le-mul_right, mul-lt-mul_of_pos_right, lt_of_mul-lt-mul_right}
use native.Mathlib.Omega.{arith}
use lib.Pow.{pow_pos, pow-add, pow_mono}
use lib.Ieee.{Format, prec, low, size}
use lib.Ieee.Digits.{size-lt, size-le}
use Rattle.sums.specs.Key.{key}
use Rattle.length.specs.Root.{square, whole_root, places, significand, root_over}
use Rattle.length.specs.Nearest.{exact_squared}
use Rattle.length.proofs.Whole.{near_low}
use Rattle.length.proofs.DigitsLaws.{four, places_is, significand_near, significand_le}
use Rattle.length.proofs.Value.{scaled, step, scaled_key, one_in_steps, in_steps, steps_pos, root_over_is}

-- Two numbers n < m whose rounded roots are a steps of g units and b steps of h units, g no larger than h, and are not in order. E is 4 ^ e, and P, Q and D are the roots
-- of n, m and 1 in units, doubled and squared. Then D is small: about 8 * a squared steps, where it should be 4 * 4 ^ places.
too_near : (a g b h E P Q D : ℕ) → b * h ≤ a * g → g ≤ h → P + D ≤ Q → 4 * square a * (square g * E) ≤ P + 4 * a * (square g * E) → Q < square (2 * b + 1) * (square h * E)
    → D < (8 * a + 1) * (square h * E)
too_near a g b h E P Q D order finer apart lower upper =
    let s : square (b * h) * E ≤ square (a * g) * E = mul-le-mul_right E (mul-le-mul order order) in
    let v : b * h * (h * E) ≤ a * g * (h * E) = mul-le-mul_right (h * E) order in
    let w : g * (a * h * E) ≤ h * (a * h * E) = mul-le-mul_right (a * h * E) finer in
    let z : g * (a * g * E) ≤ h * (a * g * E) = mul-le-mul_right (a * g * E) finer in
    omega arith

module _ (f : Format) (e : ℕ) (small : e ≤ prec f) (n m : ℕ) (less : n < m) (few : size m + 3 ≤ prec f) where
  sizes : size n ≤ size m
  sizes = size-le n (size m) (lt_of_lt_of_le less (le_of_lt (size-lt m)))

  finer : step f e n ≤ step f e m
  finer = let s = sizes in pow_mono (omega (arith, places_is f n, places_is f m))

  short_n : size n ≤ 2 * prec f
  short_n = let s = sizes in omega arith

  short_m : size m ≤ 2 * prec f
  short_m = omega arith

  -- a step of m's root is small beside 1
  fine : 4 * 2 ^ prec f ≤ 4 ^ places f m
  fine = rw (four (places f m), ← pow-add 2 (places f m) (places f m)) (le_trans (le_of_eq (sym (pow-add 2 2 (prec f)))) (pow_mono (omega (arith, places_is f m))))

  scaled_order : key f (scaled f e n) < key f (scaled f e m)
  scaled_order = lt_of_not-le (λ c. clash (rw (scaled_key f n short_n e small, scaled_key f m short_m e small) at c))
    where
      clash : significand f m * step f e m ≤ significand f n * step f e n → ⊥
      clash c =
          let W = square (step f e m) * 4 ^ e in
          let lower = mul-le-mul_right (square (step f e n) * 4 ^ e) (near_low (n * 4 ^ places f n) (whole_root (prec f) (n * 4 ^ places f n)) (significand f n) (significand_near f n short_n)) in
          let upper = mul-lt-mul_of_pos_right (significand_near f m short_m).under (steps_pos f e m) in
          let near = too_near (significand f n) (step f e n) (significand f m) (step f e m) (4 ^ e) (exact_squared f n) (exact_squared f m) (4 * square (2 ^ low f)) c finer
          (omega (arith, mul-le-mul_right (square (2 ^ low f)) less)) (rw (in_steps f n short_n e small) (omega arith)) (rw (in_steps f m short_m e small) upper) in
          let one : 4 * 4 ^ places f m * W < (8 * significand f n + 1) * W = omega (arith, near, one_in_steps f m short_m e small) in
          let lim : 4 * 4 ^ places f m < 8 * significand f n + 1 = lt_of_mul-lt-mul_right W one in
          omega (arith, fine, significand_le f n short_n, pow_pos (prec f))

  pub root_over_order : key f (root_over f e n) < key f (root_over f e m)
  root_over_order = rw (root_over_is f n short_n e small, root_over_is f m short_m e small) scaled_order
