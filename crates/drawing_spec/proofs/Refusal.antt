-- Laws of specs/Refusal: of conditions by their numbers.
use mathlib.Core.Path.{◌≡◌, refl, sym, ap, ◌∙◌}
use mathlib.Core.List.{List, [], ◌∷◌, ◌++◌}
use mathlib.Core.Bool.{Bool, true, false, true≢false}
use mathlib.Core.Logic.{inl, inr}
use Prim.Native.Nat.{ℕ, ◌<◌}
use native.Mathlib.Omega.{arith}
use native.Mathlib.Nat.{eq-zero-or-pos}
use lib.Dec.{eqb, ltb}
use borrow.Author.Tests.{eqb-true, ltb-true}
use Rattle.drawing_spec.specs.Refusal.{Condition, condition, number_of, Verdict, refused, accepted, refusal_of, verdict, until, holds}
use Rattle.drawing_spec.specs.Read.{every}
use Rattle.drawing_spec.proofs.Same.{both}

-- where nothing refuses, no condition holds, whichever its number
pub fails : (cs : List Condition) → verdict cs ≡ accepted → (n : ℕ) → holds n cs ≡ false
unfolding verdict holds
fails [] e n = refl
fails (condition k true ∷ cs) e n = absurd (true≢false (cc))
fails (condition k false ∷ cs) e n = go (eqb k n) (fails cs e n)
  where
    go : (t : Bool) → holds n cs ≡ false → elim t [ true ↦ false | false ↦ holds n cs ] ≡ false
    go true h = refl
    go false h = h

-- one that does not hold changes nothing
pub one_more : (cs : List Condition) (n : ℕ) (t : Bool) → verdict cs ≡ accepted → t ≡ false → verdict (cs ++ (condition n t ∷ [])) ≡ accepted
unfolding verdict
one_more [] n t e h = rw h
one_more (condition k true ∷ cs) n t e h = e
one_more (condition k false ∷ cs) n t e h = one_more cs n t e h

-- and may as well not be there
unfoldable pub without : ℕ → List Condition → List Condition
without n [] = []
without n (condition k t ∷ cs) = elim (eqb k n) [ true ↦ cs | false ↦ condition k t ∷ without n cs ]

pub one_fewer : (n : ℕ) (cs : List Condition) → holds n cs ≡ false → verdict cs ≡ verdict (without n cs)
unfolding verdict holds without
one_fewer n [] h = refl
one_fewer n (condition k t ∷ cs) h = go (one_fewer n cs) (eqb k n) t h
  where
    go : (holds n cs ≡ false → verdict cs ≡ verdict (without n cs)) → (b t : Bool) → elim b [ true ↦ t | false ↦ holds n cs ] ≡ false → verdict (condition k t ∷ cs) ≡ verdict (elim b [ true ↦ cs | false ↦ condition k t ∷ without n cs ])
    go later true true h = absurd (true≢false h)
    go later true false h = refl
    go later false true h = refl
    go later false false h = later h

-- the first that holds: none before it does
pub first_holds : (n : ℕ) (cs : List Condition) → verdict (until n cs) ≡ accepted → holds n cs ≡ true → verdict cs ≡ refused n
unfolding verdict until holds
first_holds n [] e h = absurd (true≢false (cc))
first_holds n (condition k t ∷ cs) e h = go (first_holds n cs) (eqb k n) refl t e h
  where
    go : (verdict (until n cs) ≡ accepted → holds n cs ≡ true → verdict cs ≡ refused n) → (b : Bool) → eqb k n ≡ b → (t : Bool) → verdict (elim b [ true ↦ [] | false ↦ condition k t ∷ until n cs ]) ≡ accepted → elim b [ true ↦ t | false ↦ holds n cs ] ≡ true
        → verdict (condition k t ∷ cs) ≡ refused n
    go later true q true e h = ap refused (eqb-true k n q)
    go later true q false e h = absurd (true≢false (cc))
    go later false q true e h = absurd (true≢false (cc))
    go later false q false e h = later e h

-- ---- conditions behind others

pub behind_accepted : (cs ds : List Condition) → verdict cs ≡ accepted → verdict (cs ++ ds) ≡ verdict ds
unfolding verdict
behind_accepted [] ds e = refl
behind_accepted (condition n true ∷ cs) ds e = absurd (true≢false (cc))
behind_accepted (condition n false ∷ cs) ds e = behind_accepted cs ds e

pub refused_front : (n : ℕ) (cs ds : List Condition) → verdict cs ≡ refused n → verdict (cs ++ ds) ≡ refused n
unfolding verdict
refused_front n [] ds e = absurd (true≢false (cc))
refused_front n (condition k true ∷ cs) ds e = e
refused_front n (condition k false ∷ cs) ds e = refused_front n cs ds e

pub both_accepted : (cs ds : List Condition) → verdict (cs ++ ds) ≡ accepted → (verdict cs ≡ accepted) × (verdict ds ≡ accepted)
unfolding verdict
both_accepted [] ds e = (refl, e)
both_accepted (condition n true ∷ cs) ds e = absurd (true≢false (cc))
both_accepted (condition n false ∷ cs) ds e = both_accepted cs ds e

-- ---- conditions before others

-- what is refused before a condition is refused
pub refused_before : (n m : ℕ) (cs : List Condition) → verdict (until n cs) ≡ refused m → verdict cs ≡ refused m
unfolding verdict until
refused_before n m [] e = e
refused_before n m (condition k t ∷ cs) e = go (refused_before n m cs) (eqb k n) t e
  where
    go : (verdict (until n cs) ≡ refused m → verdict cs ≡ refused m) → (b t : Bool) → verdict (elim b [ true ↦ [] | false ↦ condition k t ∷ until n cs ]) ≡ refused m → verdict (condition k t ∷ cs) ≡ refused m
    go later true t e = absurd (true≢false (cc))
    go later false true e = e
    go later false false e = later e

-- where nothing refuses, nothing before a condition does
pub accepted_before : (n : ℕ) (cs : List Condition) → verdict cs ≡ accepted → verdict (until n cs) ≡ accepted
accepted_before n cs e = go (verdict (until n cs)) refl
  where
    go : (v : Verdict) → verdict (until n cs) ≡ v → v ≡ accepted
    go accepted h = refl
    go (refused m) h = let z : accepted ≡ refused m = sym e ∙ refused_before n m cs h in absurd (true≢false (cc))

-- ---- the verdict as a number, where 0 is none's

pub above_zero : (cs : List Condition) → every (λ (c : Condition). ltb 0 (number_of c)) cs ≡ true → refusal_of (verdict cs) ≡ 0 → verdict cs ≡ accepted
unfolding every verdict
above_zero [] a h = refl
above_zero (condition n true ∷ cs) a h = let p = ltb-true 0 n (both (ltb 0 n) _ a).0 in absurd (omega arith)
above_zero (condition n false ∷ cs) a h = above_zero cs (both (ltb 0 n) _ a).1 h

pub number_refused : (v : Verdict) (n : ℕ) → n ≡ refusal_of v → (n ≡ 0 → ⊥) → v ≡ refused n
number_refused (refused m) n e z = ap refused (sym e)
number_refused accepted n e z = absurd (z e)

-- no condition has the number 0
abbrev pub Numbered : List Condition → Type 0
Numbered cs = every (λ (c : Condition). ltb 0 (number_of c)) cs ≡ true

pub refused_numbered : (cs : List Condition) → Numbered cs → (k : ℕ) → verdict cs ≡ refused k → 0 < k
refused_numbered cs n k h = elim (eq-zero-or-pos k) [
  | inl z ↦ let e : accepted ≡ refused k = sym (above_zero cs n (ap refusal_of h ∙ z)) ∙ h in absurd (true≢false (cc))
  | inr p ↦ p
]
