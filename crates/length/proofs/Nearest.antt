-- Laws of specs/Nearest.
use mathlib.Core.Path.{◌≡◌}
use Prim.Native.Nat.{ℕ, ◌^◌, ◌≤◌, ◌<◌}
use native.Mathlib.Nat.{le_refl, le_antisymm, lt_of_not-le, mul-le-mul_right}
use native.Mathlib.Decide.{dec_le}
use native.Mathlib.Omega.{arith}
use lib.Ieee.{Float, Format, low}
use Rattle.sums.specs.Key.{key}
use Rattle.sums.proofs.KeyLaws.{key_inj}
use Rattle.length.specs.Root.{square}
use Rattle.length.specs.Nearest.{NearestRoot}

module _ (f : Format) (e : ℕ) where
  -- the larger of two numbers has no smaller nearest root
  pub nearest_mono : (n m : ℕ) (x y : Float) → n ≤ m → NearestRoot f e n x → NearestRoot f e m y → key f x ≤ key f y
  nearest_mono n m x y h p q = elim (dec_le (key f x) (key f y)) [ yes l ↦ l | no g ↦ absurd (clash (lt_of_not-le g)) ]
    where
      clash : key f y < key f x → ⊥
      clash l = omega (arith, p.below y q.nonneg l, q.above x p.nonneg l, mul-le-mul_right (square (2 ^ low f)) h)

  -- there is but one
  pub nearest_unique : (n : ℕ) (x y : Float) → NearestRoot f e n x → NearestRoot f e n y → x ≡ y
  nearest_unique n x y p q = key_inj f x y p.nonneg q.nonneg (le_antisymm (nearest_mono n n x y (le_refl n) p q) (nearest_mono n n y x (le_refl n) q p))
