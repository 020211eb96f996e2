-- Laws of specs/Next.
use mathlib.Core.Path.{◌≡◌, refl, sym, ap, ◌∙◌}
use mathlib.Core.Bool.{Bool, true, false, ◌&&◌, not, cond}
use mathlib.Core.List.{List, [], ◌∷◌, ◌++◌}
use Prim.Native.Nat.{ℕ, zero, suc, ◌+◌, ◌<◌}
use native.Mathlib.Omega.{arith}
use lib.ListN.{get_or}
use borrow.Author.Tests.{not-true, not-false}
use Rattle.drawing_spec.proofs.Same.{both}
use Rattle.drawing_spec.specs.Drawing.{Point, same, Link}
use Rattle.graph_spec.specs.Chain.{inner, changes, distinct, chain, sort, splits}
use Rattle.graph_splits.specs.Next.{at, keeps, next_split}

-- ---- laws for the code

module _ (xs ys : List ℕ) (a b l : Point) where
  pub next_here : (fuel i : ℕ) → 0 < fuel → keeps a b l (at (get_or xs i 0) (get_or ys i 0)) ≡ true → next_split fuel xs ys a b l i ≡ i
  unfolding next_split
  next_here zero i f h = absurd (omega arith)
  next_here (suc fuel) i f h = ap (λ (t : Bool). cond t i (next_split fuel xs ys a b l (i + 1))) h

  pub next_on : (fuel more i : ℕ) → fuel ≡ suc more → keeps a b l (at (get_or xs i 0) (get_or ys i 0)) ≡ false → next_split more xs ys a b l (i + 1) ≡ next_split fuel xs ys a b l i
  unfolding next_split
  next_on fuel more i f h =
      sym (ap (λ (k : ℕ). next_split k xs ys a b l i) f ∙ ap (λ (t : Bool). cond t i (next_split more xs ys a b l (i + 1))) h)

  pub next_end : (fuel i : ℕ) → fuel ≡ 0 → next_split fuel xs ys a b l i ≡ i
  unfolding next_split
  next_end fuel i h = ap (λ (k : ℕ). next_split k xs ys a b l i) h

-- ---- what stays is what the definitions of the chain keep

-- the chain after its start a, with a as the point that stayed before its first
pub chain_is : (ks : List Link) (l s : ℕ) (a b : Point) → chain ks l s a b ≡ changes a (inner a b (sort a (splits ks l s))) ++ (b ∷ [])
unfolding chain
chain_is ks l s a b = ap (λ (ps : List Point). ps ++ (b ∷ [])) (go (sort a (splits ks l s)))
  where
    first : (s t : Bool) (qs : List Point) → distinct qs ≡ changes a qs → (p : Point) → s ≡ same p a
        → distinct (elim (not s && t) [ true ↦ p ∷ qs | false ↦ qs ]) ≡ changes a (elim (not s && t) [ true ↦ p ∷ qs | false ↦ qs ])
    first true t qs r p e = r
    first false false qs r p e = r
    first false true qs r p e = ap (λ (t : Bool). elim t [ true ↦ changes a qs | false ↦ p ∷ changes p qs ]) e

    go : (ps : List Point) → distinct (inner a b ps) ≡ changes a (inner a b ps)
    go [] = refl
    go (p ∷ ps) = first (same p a) (not (same p b)) (inner a b ps) (go ps) p refl

-- the step from one point that stays to the next
module _ (a b l : Point) where
  pub stay : (p : Point) (ps : List Point) → keeps a b l p ≡ true → changes l (inner a b (p ∷ ps)) ≡ p ∷ changes p (inner a b ps)
  unfolding keeps inner changes
  stay p ps h =
      let parts = both (not (same p a) && not (same p b)) (not (same p l)) h in
      ap (λ (s : Bool). changes l (elim s [ true ↦ p ∷ inner a b ps | false ↦ inner a b ps ])) parts.0
      ∙ ap (λ (t : Bool). elim t [ true ↦ changes l (inner a b ps) | false ↦ p ∷ changes p (inner a b ps) ]) (not-true (same p l) parts.1)

  pub gone : (p : Point) (ps : List Point) → keeps a b l p ≡ false → changes l (inner a b (p ∷ ps)) ≡ changes l (inner a b ps)
  unfolding keeps inner changes
  gone p ps h = go (not (same p a) && not (same p b)) refl h
    where
      go : (s : Bool) → not (same p a) && not (same p b) ≡ s → s && not (same p l) ≡ false → changes l (inner a b (p ∷ ps)) ≡ changes l (inner a b ps)
      go true e k =
          ap (λ (s : Bool). changes l (elim s [ true ↦ p ∷ inner a b ps | false ↦ inner a b ps ])) e
          ∙ ap (λ (t : Bool). elim t [ true ↦ changes l (inner a b ps) | false ↦ p ∷ changes p (inner a b ps) ]) (not-false (same p l) k)
      go false e k = ap (λ (s : Bool). changes l (elim s [ true ↦ p ∷ inner a b ps | false ↦ inner a b ps ])) e
