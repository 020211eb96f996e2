-- Laws of specs/Kept.
use mathlib.Core.Path.{◌≡◌, refl, sym, ap, ◌∙◌}
use mathlib.Core.Bool.{Bool, true, false, cond}
use mathlib.Core.List.{List, [], ◌∷◌}
use Prim.Native.Nat.{ℕ, zero, suc, ◌+◌, ◌-◌, ◌≤◌, ◌<◌}
use native.Mathlib.Omega.{arith}
use native.Mathlib.Numerals.{add-one}
use lib.ListN.{get_or}
use Rattle.drawing_spec.specs.Drawing.{Point}
use Rattle.graph_spec.specs.Chain.{inner, changes}
use Rattle.graph_splits.specs.Next.{at, keeps, next_split}
use Rattle.graph_splits.proofs.Next.{stay, gone}
use Rattle.file_drawing.specs.Back.{points_back}
use Rattle.graph_chain.specs.Kept.{kept_from}

module _ (xs ys : List ℕ) (a b l : Point) where
  abbrev here : ℕ → Point
  here i = at (get_or xs i 0) (get_or ys i 0)

  -- it is not before the place where the search starts
  pub kept_after : (n i : ℕ) → i ≤ next_split n xs ys a b l i
  unfolding next_split
  kept_after zero i = omega arith
  kept_after (suc n) i = go (keeps a b l (here i)) (kept_after n (i + 1))
    where
      go : (t : Bool) → i + 1 ≤ next_split n xs ys a b l (i + 1) → i ≤ cond t i (next_split n xs ys a b l (i + 1))
      go true h = omega arith
      go false h = omega arith

  pub found_after : (n i j : ℕ) → j ≡ next_split n xs ys a b l i → i ≤ j
  found_after n i j e = omega (arith, kept_after n i)

  -- no point stays where none is found
  pub kept_none : (n i : ℕ) → i + n ≤ next_split n xs ys a b l i → kept_from xs ys a b l n i ≡ []
  unfolding next_split points_back inner changes
  kept_none zero i h = refl
  kept_none (suc n) i h = go (keeps a b l (here i)) refl h (kept_none n (suc i))
    where
      go : (t : Bool) → keeps a b l (here i) ≡ t → i + suc n ≤ cond t i (next_split n xs ys a b l (i + 1))
          → (suc i + n ≤ next_split n xs ys a b l (suc i) → kept_from xs ys a b l n (suc i) ≡ []) → kept_from xs ys a b l (suc n) i ≡ []
      go true e k r = absurd (omega arith)
      go false e k r =
          let on : suc i + n ≤ next_split n xs ys a b l (suc i) = omega (arith, ap (next_split n xs ys a b l) (add-one i)) in
          gone a b l (here i) (points_back n (suc i) xs ys) e ∙ r on

  -- the point found is the first that stays
  pub kept_one : (n i j : ℕ) → j ≡ next_split n xs ys a b l i → j < i + n → kept_from xs ys a b l n i ≡ here j ∷ kept_from xs ys a b (here j) (i + n - (j + 1)) (j + 1)
  unfolding next_split points_back inner changes
  kept_one zero i j e h = absurd (omega arith)
  kept_one (suc n) i j e h = go (keeps a b l (here i)) refl e (λ f. kept_one n (suc i) j f (omega arith))
    where
      go : (t : Bool) → keeps a b l (here i) ≡ t → j ≡ cond t i (next_split n xs ys a b l (i + 1))
          → (j ≡ next_split n xs ys a b l (suc i) → kept_from xs ys a b l n (suc i) ≡ here j ∷ kept_from xs ys a b (here j) (suc i + n - (j + 1)) (j + 1))
          → kept_from xs ys a b l (suc n) i ≡ here j ∷ kept_from xs ys a b (here j) (i + suc n - (j + 1)) (j + 1)
      go true k f r =
          let left : n ≡ i + suc n - (i + 1) = omega arith in
          stay a b l (here i) (points_back n (suc i) xs ys) k
          ∙ ap (λ (m : ℕ). here i ∷ kept_from xs ys a b (here i) m (suc i)) left
          ∙ ap (λ (m : ℕ). here i ∷ kept_from xs ys a b (here i) (i + suc n - (i + 1)) m) (sym (add-one i))
          ∙ ap (λ (m : ℕ). here m ∷ kept_from xs ys a b (here m) (i + suc n - (m + 1)) (m + 1)) (sym f)
      go false k f r =
          let less : suc i + n - (j + 1) ≡ i + suc n - (j + 1) = omega arith in
          gone a b l (here i) (points_back n (suc i) xs ys) k
          ∙ r (f ∙ ap (next_split n xs ys a b l) (add-one i))
          ∙ ap (λ (m : ℕ). here j ∷ kept_from xs ys a b (here j) m (j + 1)) less
