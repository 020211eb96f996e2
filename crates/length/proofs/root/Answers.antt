-- `length::root` meets its contract: the quotient of the significand by a power of two is the definition's rounded fraction, with nothing lost on the way.
use mathlib.Core.Path.{◌≡◌, refl, ap₂, ◌∙◌}
use Prim.Native.Nat.{ℕ, ◌^◌, ◌<◌}
use native.Mathlib.Omega.{arith}
use lib.IntN.{pos}
use lib.Ieee.{Float, binary64, of_bits, of_int, div}
use Rattle.length.specs.Root.{root, significand}
use Rattle.length.specs.Nearest.{NearestRoot}
use Rattle.length.proofs.LengthLaws.{root_nearest}
use Rattle.length.proofs.Shift.{in_float_lem, power_in_float, half_le, shifted, shifted_ge, significand_is_digits, power_is_places, digits_fit, quotient_is_root}
use Rattle.length.proofs.root.Goals as goal
use Rattle.length.proofs.root.Goals.{After-digits-a, Else-n-eq0}

positive : (c : Else-n-eq0) → 0 < c.args.n
positive c = omega (arith, c.if-n-eq0.false)

digits_are : (c : After-digits-a) → c.digits-a.result ≡ significand binary64 c.args.n
digits_are c = c.digits-a.ensures ∙ significand_is_digits _ (positive c.before) c.ranges.n.fits

at_zero : of_bits binary64 0 ≡ root binary64 0
unfolding of_bits root
at_zero = refl

-- what `value` says gives what `nearest` says
both : (n : ℕ) → n < 2 ^ 64 → (r : Float) → r ≡ root binary64 n → (r ≡ root binary64 n) × (0 < n → NearestRoot binary64 0 n r)
both n h r q = (q, λ p. rw q (root_nearest n p h))

pub returns-then-n-eq0 : goal.returns-then-n-eq0
returns-then-n-eq0 c = let r = both _ c.ranges.n.fits (of_bits binary64 0) (rw c.if-n-eq0.true at_zero) in record { value = r.0; nearest = r.1 }

pub overflow_mul-half : goal.overflow_mul-half
overflow_mul-half c = omega (arith, half_le _ (positive (goal.at.overflow_mul-half c).Else-n-eq0) c.ranges.n.fits)

pub overflow_cast-half : goal.overflow_cast-half
overflow_cast-half c = omega (arith, half_le _ (positive (goal.at.overflow_cast-half c).Else-n-eq0) c.ranges.n.fits)

pub overflow_shl-n : goal.overflow_shl-n
overflow_shl-n c = omega (arith, half_le _ (positive (goal.at.overflow_shl-n c).Else-n-eq0) c.ranges.n.fits)

pub digits-a-requires : goal.digits-a-requires
digits-a-requires c = rw (shifted _ (positive (goal.at.digits-a-requires c).Else-n-eq0) c.ranges.n.fits) (shifted_ge _ (positive (goal.at.digits-a-requires c).Else-n-eq0) c.ranges.n.fits)

pub int_to_float-result : goal.int_to_float-result
int_to_float-result c = in_float_lem _ _ (digits_are (goal.at.int_to_float-result c).After-digits-a) (digits_fit _ (positive (goal.at.int_to_float-result c).Else-n-eq0) c.ranges.n.fits)

pub overflow_add-result : goal.overflow_add-result
overflow_add-result c = omega (arith, half_le _ (positive (goal.at.overflow_add-result c).Else-n-eq0) c.ranges.n.fits)

pub overflow_cast-result : goal.overflow_cast-result
overflow_cast-result c = omega (arith, half_le _ (positive (goal.at.overflow_cast-result c).Else-n-eq0) c.ranges.n.fits)

pub overflow_shl-result : goal.overflow_shl-result
overflow_shl-result c = omega (arith, half_le _ (positive (goal.at.overflow_shl-result c).Else-n-eq0) c.ranges.n.fits)

pub int_to_float-result-2 : goal.int_to_float-result-2
int_to_float-result-2 c = power_in_float _ (omega (arith, half_le _ (positive (goal.at.int_to_float-result-2 c).Else-n-eq0) c.ranges.n.fits))

pub returns : goal.returns
returns c =
    let p = positive (goal.at.returns c).Else-n-eq0 in
    let w = c.ranges.n.fits in
    let r = both _ w _ (ap₂ (λ (a b : ℕ). div binary64 (of_int binary64 (pos a)) (of_int binary64 (pos b))) (digits_are (goal.at.returns c).After-digits-a) (power_is_places _ p w) ∙ quotient_is_root _ p w) in
    record { value = r.0; nearest = r.1 }
