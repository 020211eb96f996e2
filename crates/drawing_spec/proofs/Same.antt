-- Two points are the same, by the test, exactly when they are equal.
use mathlib.Core.Path.{◌≡◌, refl, sym, ap, ◌∙◌}
use mathlib.Core.Bool.{Bool, true, false, ◌&&◌, true≢false}
use lib.Dec.{eqb}
use borrow.Author.Tests.{eqb-true, eq-eqb}
use Rattle.drawing_spec.specs.Drawing.{Point, same}

pub both : (s t : Bool) → s && t ≡ true → (s ≡ true) × (t ≡ true)
both true true e = (refl, refl)
both true false e = (refl, e)
both false t e = (e, cc)

-- two tests that hold together
pub same_tests : (s t : Bool) → (s ≡ true → t ≡ true) → (t ≡ true → s ≡ true) → s ≡ t
same_tests true true f g = refl
same_tests true false f g = sym (f refl)
same_tests false true f g = g refl
same_tests false false f g = refl

pub same_true : (p q : Point) → same p q ≡ true → p ≡ q
same_true p q e = let t = both (eqb p.x q.x) (eqb p.y q.y) e in λ i. record { x = eqb-true p.x q.x t.0 i; y = eqb-true p.y q.y t.1 i }

pub same_refl : (p : Point) → same p p ≡ true
same_refl p = simp (eq-eqb p.x p.x refl, eq-eqb p.y p.y refl)

-- where the test fails they differ
pub differ : (p q : Point) → same p q ≡ false → p ≡ q → ⊥
differ p q e h = let k : same p q ≡ true = ap (λ (r : Point). same p r) (sym h) ∙ same_refl p in true≢false (sym k ∙ e)

pub same_false : (p q : Point) → (p ≡ q → ⊥) → same p q ≡ false
same_false p q h = go (same p q) refl
  where
    go : (t : Bool) → same p q ≡ t → t ≡ false
    go true e = absurd (h (same_true p q e))
    go false e = refl
