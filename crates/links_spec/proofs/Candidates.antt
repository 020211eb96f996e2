-- `candidates` has every candidate and nothing else.
use mathlib.Core.Path.{◌≡◌, refl, sym, ap, ◌∙◌, subst}
use mathlib.Core.Logic.{◌⊎◌, inl, inr}
use mathlib.Core.List.{List, [], ◌++◌}
use mathlib.Core.Bool.{Bool, true, false, false≢true}
use Prim.Native.Nat.{ℕ, zero, suc, ◌+◌, ◌≤◌, ◌<◌}
use native.Mathlib.Omega.{arith}
use lib.ListN.{length, get_or-eq_default}
use lib.Dec.{leb}
use borrow.Author.Tests.{ltb-true, leb-true, leb-false}
use Rattle.lists.specs.Members.{In, All}
use Rattle.lists.proofs.Members.{in_left, in_right, all_append}
use Rattle.drawing_spec.specs.Drawing.{Point}
use Rattle.spanning.proofs.Counts.{same_or_not}
use Rattle.links_spec.specs.Candidates.{Candidate, candidate, has_points, line_at, IsCandidate, between, to_higher, among, candidates}

module _ (ls : List (List Point)) where
  -- a line that has points is there
  pub there : (l : ℕ) → has_points ls l ≡ true → l < length ls
  unfolding has_points
  there l h = go (leb (length ls) l) refl
    where
      go : (t : Bool) → leb (length ls) l ≡ t → l < length ls
      go false e = leb-false (length ls) l e
      go true e = let z : length (line_at ls l) ≡ 0 = ap length (get_or-eq_default ls [] (leb-true (length ls) l e)) in absurd (omega (arith, ltb-true 0 (length (line_at ls l)) h))

  -- ---- each is a candidate

  module _ (l : ℕ) (hl : has_points ls l ≡ true) where
    is_one : (h a b : ℕ) → has_points ls h ≡ true → l < h → a < 2 → b < 2 → IsCandidate ls (candidate l h a b)
    is_one h a b hh o p q = record { ordered = o; low_there = hl; high_there = hh; low_end = p; high_end = q }

    higher_are : (n h : ℕ) → l < h → All (IsCandidate ls) (to_higher ls l n h)
    unfolding to_higher
    higher_are zero h o = tt
    higher_are (suc n) h o = go (has_points ls h) refl (higher_are n (suc h) (omega arith))
      where
        go : (t : Bool) → has_points ls h ≡ t → All (IsCandidate ls) (to_higher ls l n (suc h)) → All (IsCandidate ls) (elim t [ true ↦ between ls l h ++ to_higher ls l n (suc h) | false ↦ to_higher ls l n (suc h) ])
        go true e r = (is_one h 0 0 e o (omega arith) (omega arith), (is_one h 0 1 e o (omega arith) (omega arith), (is_one h 1 0 e o (omega arith) (omega arith), (is_one h 1 1 e o (omega arith) (omega arith), r))))
        go false e r = r

  among_are : (n l : ℕ) → All (IsCandidate ls) (among ls n l)
  unfolding among
  among_are zero l = tt
  among_are (suc n) l = go (has_points ls l) refl (among_are n (suc l))
    where
      go : (t : Bool) → has_points ls l ≡ t → All (IsCandidate ls) (among ls n (suc l)) → All (IsCandidate ls) (elim t [ true ↦ to_higher ls l n (suc l) ++ among ls n (suc l) | false ↦ among ls n (suc l) ])
      go true e r = all_append (IsCandidate ls) (to_higher ls l n (suc l)) (among ls n (suc l)) (higher_are l e n (suc l) (omega arith)) r
      go false e r = r

  pub candidates_are : All (IsCandidate ls) (candidates ls)
  unfolding candidates
  candidates_are = among_are (length ls) 0

  -- ---- each candidate is there

  in_between : (l h a b : ℕ) → a < 2 → b < 2 → In (candidate l h a b) (between ls l h)
  in_between l h zero zero p q = inl refl
  in_between l h zero (suc zero) p q = inr (inl refl)
  in_between l h zero (suc (suc b)) p q = absurd (omega arith)
  in_between l h (suc zero) zero p q = inr (inr (inl refl))
  in_between l h (suc zero) (suc zero) p q = inr (inr (inr (inl refl)))
  in_between l h (suc zero) (suc (suc b)) p q = absurd (omega arith)
  in_between l h (suc (suc a)) b p q = absurd (omega arith)

  in_higher : (k : Candidate) → IsCandidate ls k → (n h : ℕ) → h ≤ k.high → k.high < h + n → In k (to_higher ls k.low n h)
  unfolding to_higher
  in_higher k C zero h p q = absurd (omega arith)
  in_higher k C (suc n) h p q = go (has_points ls h) refl (same_or_not h k.high) (λ r. in_higher k C n (suc h) r (omega arith))
    where
      go : (t : Bool) → has_points ls h ≡ t → (h ≡ k.high) ⊎ (h ≡ k.high → ⊥) → (suc h ≤ k.high → In k (to_higher ls k.low n (suc h)))
          → In k (elim t [ true ↦ between ls k.low h ++ to_higher ls k.low n (suc h) | false ↦ to_higher ls k.low n (suc h) ])
      go true e (inl s) r = in_left k (between ls k.low h) (to_higher ls k.low n (suc h)) (rw s (in_between k.low k.high k.low_end k.high_end C.low_end C.high_end))
      go true e (inr d) r = in_right k (between ls k.low h) (to_higher ls k.low n (suc h)) (r (omega arith))
      go false e (inl s) r = absurd (false≢true (sym e ∙ ap (has_points ls) s ∙ C.high_there))
      go false e (inr d) r = r (omega arith)

  in_among : (k : Candidate) → IsCandidate ls k → (n l : ℕ) → l ≤ k.low → k.high < l + n → In k (among ls n l)
  unfolding among
  in_among k C zero l p q = absurd (omega (arith, C.ordered))
  in_among k C (suc n) l p q = go (has_points ls l) refl (same_or_not l k.low) (λ r. in_among k C n (suc l) r (omega arith))
    where
      go : (t : Bool) → has_points ls l ≡ t → (l ≡ k.low) ⊎ (l ≡ k.low → ⊥) → (suc l ≤ k.low → In k (among ls n (suc l)))
          → In k (elim t [ true ↦ to_higher ls l n (suc l) ++ among ls n (suc l) | false ↦ among ls n (suc l) ])
      go true e (inl s) r = in_left k (to_higher ls l n (suc l)) (among ls n (suc l))
          (subst (λ (m : ℕ). In k (to_higher ls m n (suc l))) (sym s) (in_higher k C n (suc l) (omega (arith, C.ordered)) (omega arith)))
      go true e (inr d) r = in_right k (to_higher ls l n (suc l)) (among ls n (suc l)) (r (omega arith))
      go false e (inl s) r = absurd (false≢true (sym e ∙ ap (has_points ls) s ∙ C.low_there))
      go false e (inr d) r = r (omega arith)

  pub candidate_in : (k : Candidate) → IsCandidate ls k → In k (candidates ls)
  unfolding candidates
  candidate_in k C = in_among k C (length ls) 0 (omega arith) (omega (arith, there k.high C.high_there))
