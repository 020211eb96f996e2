-- Laws of `kept`: what is kept joins what all joins, and its size is the number of roots that go.
use mathlib.Core.Path.{◌≡◌, refl, sym, ap, ◌∙◌, subst}
use mathlib.Core.Logic.{◌⊎◌, inl, inr}
use mathlib.Core.List.{List, [], ◌∷◌}
use mathlib.Core.Bool.{Bool, true, false}
use Prim.Native.Nat.{ℕ, ◌+◌, ◌≤◌, ◌<◌}
use native.Mathlib.Omega.{arith}
use lib.Dec.{eqb}
use lib.ListN.{length}
use borrow.Author.Tests.{eqb-true, eqb-false}
use Rattle.lists.specs.Members.{In, All}
use Rattle.lists.proofs.Members.{all_in, in_all}
use Rattle.spanning.specs.Edges.{Joins, Leads, here, on}
use Rattle.spanning.specs.Greedy.{relabel, unite, kept}
use Rattle.spanning.specs.Order.{Rising}
use Rattle.spanning.proofs.Groups.{Groups, apart, roots, Within, Alike, unite_same, unite_keeps, unite_groups, unite_within, unite_less}

module _ {A : Type 0} (low high : A → ℕ) where
  -- the groups once all edges are seen
  pub groups : (ℕ → ℕ) → List A → ℕ → ℕ
  unfolding relabel
  groups c [] = c
  groups c (k ∷ ks) = elim (eqb (c (low k)) (c (high k))) [ true ↦ groups c ks | false ↦ groups (unite c (c (low k)) (c (high k))) ks ]

  -- k makes one group of two, or lies within one
  abbrev pub joined : (ℕ → ℕ) → A → ℕ → ℕ
  joined c k = unite c (c (low k)) (c (high k))

  pub record Skips (c : ℕ → ℕ) (k : A) (ks : List A) : Type 0 where
    pub same : c (low k) ≡ c (high k)
    pub none : kept low high c (k ∷ ks) ≡ kept low high c ks
    pub after : groups c (k ∷ ks) ≡ groups c ks

  pub record Takes (c : ℕ → ℕ) (k : A) (ks : List A) : Type 0 where
    pub apart : c (low k) ≡ c (high k) → ⊥
    pub more : kept low high c (k ∷ ks) ≡ k ∷ kept low high (joined c k) ks
    pub after : groups c (k ∷ ks) ≡ groups (joined c k) ks

  pub step : (c : ℕ → ℕ) (k : A) (ks : List A) → Skips c k ks ⊎ Takes c k ks
  unfolding kept groups
  step c k ks = go (eqb (c (low k)) (c (high k))) refl
    where
      go : (t : Bool) → eqb (c (low k)) (c (high k)) ≡ t → Skips c k ks ⊎ Takes c k ks
      go true e = inl (record {
        same = eqb-true (c (low k)) (c (high k)) e;
        none = ap (λ (t : Bool). elim t [ true ↦ kept low high c ks | false ↦ k ∷ kept low high (joined c k) ks ]) e;
        after = ap (λ (t : Bool). elim t [ true ↦ groups c ks | false ↦ groups (joined c k) ks ]) e;
      })
      go false e = inr (record {
        apart = eqb-false (c (low k)) (c (high k)) e;
        more = ap (λ (t : Bool). elim t [ true ↦ kept low high c ks | false ↦ k ∷ kept low high (joined c k) ks ]) e;
        after = ap (λ (t : Bool). elim t [ true ↦ groups c ks | false ↦ groups (joined c k) ks ]) e;
      })

  pub kept_none : (c : ℕ → ℕ) → kept low high c [] ≡ []
  unfolding kept
  kept_none c = refl

  groups_none : (c : ℕ → ℕ) → groups c [] ≡ c
  unfolding groups
  groups_none c = refl

  -- ---- what is in one group stays in one

  groups_keep : (c : ℕ → ℕ) (ks : List A) (u v : ℕ) → c u ≡ c v → groups c ks u ≡ groups c ks v
  groups_keep c [] u v e = rw (groups_none c) e
  groups_keep c (k ∷ ks) u v e = elim (step c k ks) [
    | inl s ↦ rw s.after (groups_keep c ks u v e)
    | inr t ↦ rw t.after (groups_keep (joined c k) ks u v (unite_keeps c (low k) (high k) u v e))
  ]

  groups_join : (c : ℕ → ℕ) (ks : List A) (k : A) → In k ks → groups c ks (low k) ≡ groups c ks (high k)
  groups_join c [] k x' = elim x' [ ]
  groups_join c (j ∷ ks) k (inl e) = elim (step c j ks) [
    | inl s ↦ rw (s.after, e) (groups_keep c ks (low j) (high j) s.same)
    | inr t ↦ rw (t.after, e) (groups_keep (joined c j) ks (low j) (high j) (unite_same c (low j) (high j)))
  ]
  groups_join c (j ∷ ks) k (inr i) = elim (step c j ks) [
    | inl s ↦ rw s.after (groups_join c ks k i)
    | inr t ↦ rw t.after (groups_join (joined c j) ks k i)
  ]

  -- so vertices to which edges lead are in one group
  pub leads_group : (c : ℕ → ℕ) (ks : List A) (u v : ℕ) → Leads low high ks u v → groups c ks u ≡ groups c ks v
  leads_group c ks u v here = refl
  leads_group c ks u v (on {u = w} k l i j) = leads_group c ks u w l ∙ go j
    where
      go : Joins low high k w v → groups c ks w ≡ groups c ks v
      go (inl p) = rw (← p.0, ← p.1) (groups_join c ks k i)
      go (inr p) = rw (← p.0, ← p.1) (sym (groups_join c ks k i))

  -- ---- what is kept

  pub kept_in : (c : ℕ → ℕ) (ks : List A) (k : A) → In k (kept low high c ks) → In k ks
  kept_in c [] k i = rw (kept_none c) at i
  kept_in c (j ∷ ks) k i = elim (step c j ks) [
    | inl s ↦ inr (kept_in c ks k (subst (In k) s.none i))
    | inr t ↦ elim (subst (In k) t.more i) [ inl e ↦ inl e | inr h ↦ inr (kept_in (joined c j) ks k h) ]
  ]

  pub kept_groups : (c : ℕ → ℕ) (ks : List A) → groups c (kept low high c ks) ≡ groups c ks
  kept_groups c [] = ap (groups c) (kept_none c)
  kept_groups c (k ∷ ks) = elim (step c k ks) [
    | inl s ↦ ap (groups c) s.none ∙ kept_groups c ks ∙ sym s.after
    | inr t ↦ ap (groups c) t.more ∙ again t (step c k (kept low high (joined c k) ks)) ∙ kept_groups (joined c k) ks ∙ sym t.after
  ]
    where
      again : Takes c k ks → Skips c k (kept low high (joined c k) ks) ⊎ Takes c k (kept low high (joined c k) ks)
          → groups c (k ∷ kept low high (joined c k) ks) ≡ groups (joined c k) (kept low high (joined c k) ks)
      again t (inl s) = absurd (t.apart s.same)
      again t (inr r) = r.after

  pub kept_le : (c : ℕ → ℕ) (ks : List A) → length (kept low high c ks) ≤ length ks
  kept_le c [] = rw (kept_none c) (omega arith)
  kept_le c (k ∷ ks) = elim (step c k ks) [
    | inl s ↦ omega (arith, ap length s.none, kept_le c ks)
    | inr t ↦ omega (arith, ap length t.more, kept_le (joined c k) ks)
  ]

  module _ (before : A → A → Bool) where
    pub kept_rising : (c : ℕ → ℕ) (ks : List A) → Rising before ks → Rising before (kept low high c ks)
    kept_rising c [] r = rw (kept_none c) tt
    kept_rising c (k ∷ ks) r = elim (step c k ks) [
      | inl s ↦ rw s.none (kept_rising c ks r.1)
      | inr t ↦ rw t.more (
        in_all (λ (x : A). before k x ≡ true) (kept low high (joined c k) ks) (λ x i. all_in (λ (x : A). before k x ≡ true) ks r.0 x (kept_in (joined c k) ks x i)),
        kept_rising (joined c k) ks r.1,
      )
    ]

  module _ (n : ℕ) (is_vertex : ℕ → Bool) (inside : (v : ℕ) → is_vertex v ≡ true → v < n) where
    -- both ends are vertices
    abbrev pub Ends : A → Type 0
    Ends k = (is_vertex (low k) ≡ true) × (is_vertex (high k) ≡ true)

    pub groups_groups : (c : ℕ → ℕ) (ks : List A) → Groups is_vertex c → All Ends ks → Groups is_vertex (groups c ks)
    groups_groups c [] P a = rw (groups_none c) P
    groups_groups c (k ∷ ks) P a = elim (step c k ks) [
      | inl s ↦ rw s.after (groups_groups c ks P a.1)
      | inr t ↦ rw t.after (groups_groups (joined c k) ks (unite_groups c (low k) (high k) is_vertex P a.0.0 a.0.1) a.1)
    ]

    -- vertices of one group are alike where the ends of each edge are
    pub groups_within : (R : ℕ → ℕ → Type 0) → Alike R → (c : ℕ → ℕ) (ks : List A) → Groups is_vertex c → All Ends ks → Within c R
        → All (λ (k : A). R (low k) (high k)) ks → Within (groups c ks) R
    groups_within R E c [] P a W h = rw (groups_none c) W
    groups_within R E c (k ∷ ks) P a W h = elim (step c k ks) [
      | inl s ↦ rw s.after (groups_within R E c ks P a.1 W h.1)
      | inr t ↦ rw t.after
          (groups_within R E (joined c k) ks (unite_groups c (low k) (high k) is_vertex P a.0.0 a.0.1) a.1 (unite_within c (low k) (high k) is_vertex P R E W h.0) h.1)
    ]

    pub kept_size : (c : ℕ → ℕ) (ks : List A) → Groups is_vertex c → All Ends ks → length (kept low high c ks) + roots n is_vertex (groups c ks) ≡ roots n is_vertex c
    kept_size c [] P a = rw (kept_none c, groups_none c) (omega arith)
    kept_size c (k ∷ ks) P a = elim (step c k ks) [
      | inl s ↦ rw (s.none, s.after) (kept_size c ks P a.1)
      | inr t ↦ rw (t.more, t.after)
          (omega (
            arith,
            kept_size (joined c k) ks (unite_groups c (low k) (high k) is_vertex P a.0.0 a.0.1) a.1,
            unite_less c (low k) (high k) is_vertex P n inside a.0.0 a.0.1 t.apart,
          ))
    ]
