-- Prim's way keeps the same edges (Bell Syst. Tech. J. 36, 1957): the first of the edges that leave a part of the vertices is kept. What comes before it does not leave the part, so no group does, and it lies between two groups.
use mathlib.Core.Path.{◌≡◌, refl, sym, ap, subst}
use mathlib.Core.Logic.{◌⊎◌, inl, inr}
use mathlib.Core.List.{List, ◌∷◌}
use mathlib.Core.Bool.{Bool, true, false, true≢false, false≢true}
use Prim.Native.Nat.{ℕ, ◌≤◌, ◌<◌}
use lib.ListN.{length}
use Rattle.lists.specs.Members.{In, All}
use Rattle.lists.proofs.Members.{all_in}
use Rattle.spanning.specs.Greedy.{kept, kept_of}
use Rattle.spanning.specs.Order.{StrictOrder, Rising, NotLater}
use Rattle.spanning.proofs.Groups.{Groups, apart, Within, label_alike, unite_groups, unite_within}
use Rattle.spanning.proofs.Kept.{joined, Ends, step}
use Rattle.spanning.proofs.Sorted.{part_of, part_whole}

same_or_other : (s t : Bool) → (s ≡ t) ⊎ (s ≡ t → ⊥)
same_or_other true true = inl refl
same_or_other true false = inr true≢false
same_or_other false true = inr false≢true
same_or_other false false = inl refl

module _ {A : Type 0} (low high : A → ℕ) (before : A → A → Bool) (O : StrictOrder before) (n : ℕ) (is_vertex : ℕ → Bool) (inside : (v : ℕ) → is_vertex v ≡ true → v < n) (part : ℕ → Bool) where
  -- k has one end in the part and one outside it
  abbrev pub Leaves : A → Type 0
  Leaves k = part (low k) ≡ part (high k) → ⊥

  cut : (e : A) → Leaves e → (c : ℕ → ℕ) (es : List A) → Groups is_vertex c → Within c (λ (u v : ℕ). part u ≡ part v)
      → Rising before es → All (Ends low high n is_vertex inside) es → ((x : A) → In x es → Leaves x → NotLater before e x) → In e es → In e (kept low high c es)
  cut e l c mathlib.Core.List.[] P W r a h x6 = elim x6 [ ]
  cut e l c (k ∷ ks) P W r a h (inl q) = elim (step low high c k ks) [
    | inl s ↦ absurd (l (W (low e) (high e) (subst (λ (x : A). c (low x) ≡ c (high x)) (sym q) s.same)))
    | inr t ↦ rw t.more (inl q)
  ]
  cut e l c (k ∷ ks) P W r a h (inr i) =
      let first : before k e ≡ true = all_in (λ (x : A). before k x ≡ true) ks r.0 e i in
      let stays : part (low k) ≡ part (high k) = elim (same_or_other (part (low k)) (part (high k))) [
        | inl s ↦ s
        | inr d ↦ elim (h k (inl refl) d) [
          | inl q ↦ absurd (O.irreflexive k (subst (λ (x : A). before k x ≡ true) q first))
          | inr b ↦ absurd (O.irreflexive k (O.transitive k e k first b))
        ]
      ] in
      elim (step low high c k ks) [
        | inl s ↦ rw s.none (cut e l c ks P W r.1 a.1 (λ x j. h x (inr j)) i)
        | inr t ↦ rw t.more (inr (cut e l (joined low high c k) ks
            (unite_groups c (low k) (high k) is_vertex P a.0.0 a.0.1)
            (unite_within c (low k) (high k) is_vertex P (λ (u v : ℕ). part u ≡ part v) (label_alike part) W stays)
            r.1 a.1 (λ x j. h x (inr j)) i))
      ]

  pub first_leaving : (es : List A) → Rising before es → All (Ends low high n is_vertex inside) es → (e : A) → In e es → Leaves e
      → ((x : A) → In x es → Leaves x → NotLater before e x) → In e (kept_of low high es)
  first_leaving es r a e i l h = cut e l (λ (v : ℕ). v) es (apart is_vertex) (λ u v q. ap part q) r a h i

-- as many edges, all of them kept, are those that are kept
pub all_kept : {A : Type 0} (before : A → A → Bool) → StrictOrder before → (ks ts : List A) → Rising before ts → Rising before ks → ((t : A) → In t ts → In t ks) → length ks ≤ length ts → ts ≡ ks
all_kept before O ks ts rt rk h l = part_whole (part_of before O ts ks rt rk h) l
