-- The rank is a strict order, and squared lengths never fall along it.
use mathlib.Core.Path.{◌≡◌, refl, sym, ap, ◌∙◌}
use mathlib.Core.Logic.{◌⊎◌, inl, inr}
use mathlib.Core.List.{List, [], ◌∷◌}
use mathlib.Core.Bool.{Bool, true, false, ◌&&◌, ◌||◌, false≢true}
use Prim.Native.Nat.{ℕ, ◌≤◌, ◌<◌}
use native.Mathlib.Omega.{arith}
use lib.ListN.{length, get_or}
use lib.Dec.{eqb, ltb}
use borrow.Author.Tests.{ltb-true, ltb-false, eqb-true, lt-ltb, le-ltb, eq-eqb}
use Rattle.drawing_spec.specs.Drawing.{Point}
use Rattle.spanning.specs.Order.{StrictOrder}
use Rattle.links_spec.specs.Candidates.{Candidate, candidate, squared_length, less, rank, ranks_before}

-- the first number is less, or it is the same and the others are less
pub less_front : (x : ℕ) (xs : List ℕ) (y : ℕ) (ys : List ℕ) → less (x ∷ xs) (y ∷ ys) ≡ true → (x < y) ⊎ ((x ≡ y) × (less xs ys ≡ true))
unfolding less
less_front x xs y ys h = go (ltb x y) refl (eqb x y) refl h
  where
    go : (s : Bool) → ltb x y ≡ s → (t : Bool) → eqb x y ≡ t → s || t && less xs ys ≡ true → (x < y) ⊎ ((x ≡ y) × (less xs ys ≡ true))
    go true e t f h = inl (ltb-true x y e)
    go false e true f h = inr (eqb-true x y f, h)
    go false e false f h = absurd (false≢true h)

pub less_now : (x : ℕ) (xs : List ℕ) (y : ℕ) (ys : List ℕ) → x < y → less (x ∷ xs) (y ∷ ys) ≡ true
unfolding less
less_now x xs y ys l = rw (lt-ltb x y l)

pub less_later : (x : ℕ) (xs : List ℕ) (y : ℕ) (ys : List ℕ) → x ≡ y → less xs ys ≡ true → less (x ∷ xs) (y ∷ ys) ≡ true
unfolding less
less_later x xs y ys e h = rw (le-ltb x y (omega arith), eq-eqb x y e) h

pub less_irreflexive : (xs : List ℕ) → less xs xs ≡ true → ⊥
unfolding less
less_irreflexive [] h = false≢true h
less_irreflexive (x ∷ xs) h = elim (less_front x xs x xs h) [ inl l ↦ omega arith | inr p ↦ less_irreflexive xs p.1 ]

less_transitive : (xs ys zs : List ℕ) → less xs ys ≡ true → less ys zs ≡ true → less xs zs ≡ true
unfolding less
less_transitive [] ys zs h k = absurd (false≢true h)
less_transitive (x ∷ xs) [] zs h k = absurd (false≢true h)
less_transitive (x ∷ xs) (y ∷ ys) [] h k = absurd (false≢true k)
less_transitive (x ∷ xs) (y ∷ ys) (z ∷ zs) h k = go (less_front x xs y ys h) (less_front y ys z zs k) (λ p q. less_transitive xs ys zs p q)
  where
    go : (x < y) ⊎ ((x ≡ y) × (less xs ys ≡ true)) → (y < z) ⊎ ((y ≡ z) × (less ys zs ≡ true)) → (less xs ys ≡ true → less ys zs ≡ true → less xs zs ≡ true)
        → less (x ∷ xs) (z ∷ zs) ≡ true
    go (inl a) (inl b) r = less_now x xs z zs (omega arith)
    go (inl a) (inr b) r = less_now x xs z zs (omega (arith, b.0))
    go (inr a) (inl b) r = less_now x xs z zs (omega (arith, a.0))
    go (inr a) (inr b) r = less_later x xs z zs (a.0 ∙ b.0) (r a.1 b.1)

less_tail : (s t : List ℕ) (u v : ℕ) → u ≡ v → less (u ∷ s) (v ∷ t) ≡ false → less s t ≡ false
unfolding less
less_tail s t u v e h = rw (le-ltb u v (omega arith), eq-eqb u v e) at h

less_total : (xs ys : List ℕ) → length xs ≡ length ys → less xs ys ≡ false → less ys xs ≡ false → xs ≡ ys
less_total [] [] l h k = refl
less_total [] (y ∷ ys) l h k = absurd (omega arith)
less_total (x ∷ xs) [] l h k = absurd (omega arith)
less_total (x ∷ xs) (y ∷ ys) l h k = go (ltb x y) refl (ltb y x) refl (λ p q. less_total xs ys (omega arith) p q)
  where
    go : (s : Bool) → ltb x y ≡ s → (t : Bool) → ltb y x ≡ t → (less xs ys ≡ false → less ys xs ≡ false → xs ≡ ys) → ◌≡◌ {A = List ℕ} (x ∷ xs) (y ∷ ys)
    go true e t f r = absurd (false≢true (sym h ∙ less_now x xs y ys (ltb-true x y e)))
    go false e true f r = absurd (false≢true (sym k ∙ less_now y ys x xs (ltb-true y x f)))
    go false e false f r =
        let q : x ≡ y = omega (arith, ltb-false x y e, ltb-false y x f) in
        λ i. q i ∷ r (less_tail xs ys x y q h) (less_tail ys xs y x (sym q) k) i

module _ (ls : List (List Point)) where
  same_rank : (j k : Candidate) → rank ls j ≡ rank ls k → j ≡ k
  same_rank j k e =
      let at : (i : ℕ) → get_or (rank ls j) i 0 ≡ get_or (rank ls k) i 0 = λ i. ap (λ (r : List ℕ). get_or r i 0) e in
      λ i. candidate (at 1 i) (at 2 i) (at 3 i) (at 4 i)

  pub rank_order : StrictOrder (ranks_before ls)
  rank_order = record {
    irreflexive = λ k h. less_irreflexive (rank ls k) h;
    transitive = λ i j k h g. less_transitive (rank ls i) (rank ls j) (rank ls k) h g;
    total = λ j k h g. same_rank j k (less_total (rank ls j) (rank ls k) refl h g);
  }

  pub rank_length : (j k : Candidate) → ranks_before ls j k ≡ true → squared_length ls j ≤ squared_length ls k
  rank_length j k h =
      elim (less_front (squared_length ls j) (j.low ∷ j.high ∷ j.low_end ∷ j.high_end ∷ []) (squared_length ls k) (k.low ∷ k.high ∷ k.low_end ∷ k.high_end ∷ []) h) [
        | inl l ↦ omega arith
        | inr p ↦ omega (arith, p.0)
      ]
