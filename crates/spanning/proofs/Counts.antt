-- Laws of `count`.
use mathlib.Core.Path.{◌≡◌, refl, ap, ◌∙◌}
use mathlib.Core.Logic.{◌⊎◌, inl, inr}
use mathlib.Core.Bool.{Bool, true, false, false≢true}
use Prim.Native.Nat.{ℕ, zero, suc, ◌+◌, ◌≤◌, ◌<◌}
use native.Mathlib.Nat.{not-suc-le-zero}
use native.Mathlib.Omega.{arith}
use lib.Dec.{eqb}
use borrow.Author.Tests.{eqb-true, eqb-false}
use Rattle.graph_spec.specs.Odd.{one}
use Rattle.spanning.specs.Edges.{count}

-- a number is another or not
pub same_or_not : (a b : ℕ) → (a ≡ b) ⊎ (a ≡ b → ⊥)
same_or_not a b = go (eqb a b) refl
  where
    go : (t : Bool) → eqb a b ≡ t → (a ≡ b) ⊎ (a ≡ b → ⊥)
    go true e = inl (eqb-true a b e)
    go false e = inr (eqb-false a b e)

one_le : (s t : Bool) → (s ≡ true → t ≡ true) → one s ≤ one t
one_le true true h = omega arith
one_le true false h = absurd (false≢true (h refl))
one_le false t h = omega arith

pub count_le : (f g : ℕ → Bool) (n : ℕ) → ((v : ℕ) → f v ≡ true → g v ≡ true) → count f n ≤ count g n
unfolding count
count_le f g zero h = omega arith
count_le f g (suc n) h = omega (arith, one_le (f n) (g n) (h n), count_le f g n h)

pub count_same : (f g : ℕ → Bool) (n : ℕ) → ((v : ℕ) → v < n → f v ≡ g v) → count f n ≡ count g n
unfolding count
count_same f g zero h = refl
count_same f g (suc n) h = omega (arith, ap one (h n (omega arith)), count_same f g n (λ v l. h v (omega arith)))

-- a test that passes at y, where the other does not, and is the same elsewhere
pub count_less : (f g : ℕ → Bool) (n y : ℕ) → y < n → f y ≡ true → g y ≡ false → ((v : ℕ) → (v ≡ y → ⊥) → f v ≡ g v) → count f n ≡ suc (count g n)
unfolding count
count_less f g zero y l p q h = absurd (not-suc-le-zero l)
count_less f g (suc n) y l p q h = elim (same_or_not n y) [
  | inl e ↦ omega (arith, ap one (ap f e ∙ p), ap one (ap g e ∙ q), count_same f g n (λ v k. h v (λ d. omega arith)))
  | inr d ↦ omega (arith, ap one (h n d), count_less f g n y (omega arith) p q h)
]

pub count_none : (f : ℕ → Bool) (n : ℕ) → ((v : ℕ) → v < n → f v ≡ true → ⊥) → count f n ≡ 0
unfolding count
count_none f zero h = refl
count_none f (suc n) h = go (f n) refl (count_none f n (λ v l. h v (omega arith)))
  where
    go : (t : Bool) → f n ≡ t → count f n ≡ 0 → one (f n) + count f n ≡ 0
    go true e r = absurd (h n (omega arith) e)
    go false e r = omega (arith, ap one e)

pub count_one : (f : ℕ → Bool) (n : ℕ) → ((u v : ℕ) → f u ≡ true → f v ≡ true → u ≡ v) → count f n ≤ 1
unfolding count
count_one f zero h = omega arith
count_one f (suc n) h = go (f n) refl (count_one f n h)
  where
    go : (t : Bool) → f n ≡ t → count f n ≤ 1 → one (f n) + count f n ≤ 1
    go true e r = omega (arith, ap one e, count_none f n (λ v l p. omega (arith, h n v e p)))
    go false e r = omega (arith, ap one e)

pub count_some : (f : ℕ → Bool) (n v : ℕ) → v < n → f v ≡ true → 1 ≤ count f n
unfolding count
count_some f zero v l p = absurd (not-suc-le-zero l)
count_some f (suc n) v l p = elim (same_or_not n v) [
  | inl e ↦ omega (arith, ap one (ap f e ∙ p))
  | inr d ↦ omega (arith, count_some f n v (omega arith) p)
]

pub count_find : (f : ℕ → Bool) (n : ℕ) → 1 ≤ count f n → (v : ℕ) × (f v ≡ true)
unfolding count
count_find f zero h = absurd (omega arith)
count_find f (suc n) h = go (f n) refl (λ k. count_find f n k)
  where
    go : (t : Bool) → f n ≡ t → (1 ≤ count f n → (v : ℕ) × (f v ≡ true)) → (v : ℕ) × (f v ≡ true)
    go true e r = (n, e)
    go false e r = r (omega (arith, ap one e))

-- at most n of n numbers
pub count_most : (f : ℕ → Bool) (n : ℕ) → count f n ≤ n
unfolding count
count_most f zero = omega arith
count_most f (suc n) = omega (arith, one_most (f n), count_most f n)
  where
    one_most : (t : Bool) → one t ≤ 1
    one_most true = omega arith
    one_most false = omega arith
