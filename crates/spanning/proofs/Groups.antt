-- Groups: a labelling of the vertices in which each group has the number of its lowest vertex. Two groups become one, one root less; the finer of two labellings has the roots of the other.
use mathlib.Core.Path.{◌≡◌, refl, sym, ap, ◌∙◌, subst}
use mathlib.Core.Logic.{◌⊎◌, inl, inr}
use mathlib.Core.Bool.{Bool, true, false, ◌&&◌, false≢true}
use Prim.Native.Nat.{ℕ, suc, ◌≤◌, ◌<◌, min, max}
use native.Mathlib.Nat.{min-eq_left, min-eq_right, max-eq_left, max-eq_right}
use native.Mathlib.Omega.{arith}
use lib.Dec.{eqb, leb}
use borrow.Author.Tests.{eqb-true, eq-eqb, ne_eqb, leb-true, leb-false}
use Rattle.spanning.specs.Edges.{count}
use Rattle.spanning.specs.Greedy.{relabel, unite}
use Rattle.spanning.proofs.Counts.{same_or_not, count_le, count_less, count_same, count_one, count_some, count_find}

-- each group has the number of one of its vertices, the lowest
pub record Groups (is_vertex : ℕ → Bool) (c : ℕ → ℕ) : Type 0 where
  pub low : (v : ℕ) → c v ≤ v
  pub root : (v : ℕ) → c (c v) ≡ c v
  pub vertex : (v : ℕ) → is_vertex v ≡ true → is_vertex (c v) ≡ true

-- each vertex by itself
pub apart : (is_vertex : ℕ → Bool) → Groups is_vertex (λ (v : ℕ). v)
apart is_vertex = record { low = λ v. omega arith; root = λ v. refl; vertex = λ v h. h }

-- ---- y goes into x

relabel_cases : (c : ℕ → ℕ) (x y v : ℕ) → ((c v ≡ y) × (relabel c x y v ≡ x)) ⊎ ((c v ≡ y → ⊥) × (relabel c x y v ≡ c v))
unfolding relabel
relabel_cases c x y v = elim (same_or_not (c v) y) [
  | inl e ↦ inl (e, rw (eq-eqb (c v) y e, relabel))
  | inr d ↦ inr (d, rw (ne_eqb (c v) y d, relabel))
]

module _ (c : ℕ → ℕ) (x y : ℕ) where
  at_x : (v : ℕ) → c v ≡ x → relabel c x y v ≡ x
  at_x v e = elim (relabel_cases c x y v) [ inl p ↦ p.1 | inr p ↦ p.1 ∙ e ]

  at_y : (v : ℕ) → c v ≡ y → relabel c x y v ≡ x
  at_y v e = elim (relabel_cases c x y v) [ inl p ↦ p.1 | inr p ↦ absurd (p.0 e) ]

  relabel_groups : (is_vertex : ℕ → Bool) → Groups is_vertex c → c x ≡ x → x ≤ y → is_vertex x ≡ true → Groups is_vertex (relabel c x y)
  relabel_groups is_vertex P cx l vx = record {
    low = λ v. elim (relabel_cases c x y v) [ inl p ↦ omega (arith, P.low v, p.0, p.1) | inr p ↦ omega (arith, P.low v, p.1) ];
    root = λ v. elim (relabel_cases c x y v) [
      | inl p ↦ ap (relabel c x y) p.1 ∙ at_x x cx ∙ sym p.1
      | inr p ↦ ap (relabel c x y) p.1 ∙ elim (relabel_cases c x y (c v)) [ inl q ↦ absurd (p.0 (sym (P.root v) ∙ q.0)) | inr q ↦ q.1 ∙ P.root v ∙ sym p.1 ]
    ];
    vertex = λ v h. elim (relabel_cases c x y v) [ inl p ↦ rw p.1 vx | inr p ↦ rw p.1 (P.vertex v h) ];
  }

-- ---- roots, one to a group: of the numbers below n those that are vertices and have their own number

module _ (n : ℕ) (is_vertex : ℕ → Bool) where
  abbrev pub is_root : (ℕ → ℕ) → ℕ → Bool
  is_root c v = is_vertex v && eqb (c v) v

  abbrev pub roots : (ℕ → ℕ) → ℕ
  roots c = count (is_root c) n

is_root_lem : (b : Bool) (m v : ℕ) → b && eqb m v ≡ true → (b ≡ true) × (m ≡ v)
is_root_lem true m v e = (refl, eqb-true m v e)
is_root_lem false m v e = absurd (false≢true e)

root_is : (b : Bool) (m v : ℕ) → b ≡ true → m ≡ v → b && eqb m v ≡ true
root_is b m v e d = rw (e, eq-eqb m v d)

no_root : (b : Bool) (m v : ℕ) → (m ≡ v → ⊥) → b && eqb m v ≡ false
no_root true m v d = ne_eqb m v d
no_root false m v d = refl

module _ (n : ℕ) (is_vertex : ℕ → Bool) (c : ℕ → ℕ) (x y : ℕ) (cx : c x ≡ x) (cy : c y ≡ y) (l : x < y) (vertex : is_vertex y ≡ true) (inside : y < n) where
  one_less : roots n is_vertex c ≡ suc (roots n is_vertex (relabel c x y))
  one_less =
      count_less (is_root n is_vertex c) (is_root n is_vertex (relabel c x y)) n y inside
      (root_is (is_vertex y) (c y) y vertex cy)
      (no_root (is_vertex y) (relabel c x y y) y (λ e. omega (arith, at_y c x y y cy)))
      (λ v d. elim (relabel_cases c x y v) [
        | inl p ↦ no_root (is_vertex v) (c v) v (λ e. d (sym e ∙ p.0))
            ∙ sym (no_root (is_vertex v) (relabel c x y v) v (λ e. let q : v ≡ x = sym e ∙ p.1 in let r : c v ≡ x = ap c q ∙ cx in omega (arith, p.0)))
        | inr p ↦ ap (λ (m : ℕ). is_vertex v && eqb m v) (sym p.1)
      ])

-- ---- what a labelling says of two vertices, and what is known of them

-- vertices of one group are alike
abbrev pub Within : (ℕ → ℕ) → (ℕ → ℕ → Type 0) → Type 0
Within c R = (u v : ℕ) → c u ≡ c v → R u v

pub record Alike (R : ℕ → ℕ → Type 0) : Type 0 where
  pub back : (u v : ℕ) → R u v → R v u
  pub along : (u v w : ℕ) → R u v → R v w → R u w

-- two vertices are alike that have one label
pub label_alike : {B : Type 0} (d : ℕ → B) → Alike (λ (u v : ℕ). d u ≡ d v)
label_alike d = record { back = λ u v e. sym e; along = λ u v w e f. e ∙ f }

module _ (R : ℕ → ℕ → Type 0) (E : Alike R) (is_vertex : ℕ → Bool) (c : ℕ → ℕ) (P : Groups is_vertex c) (W : Within c R) where
  relabel_within : (x y : ℕ) → R x y → Within (relabel c x y) R
  relabel_within x y r u v e = E.along u (relabel c x y u) v (E.back (relabel c x y u) u (near u)) (subst (λ (k : ℕ). R k v) (sym e) (near v))
    where
      near : (w : ℕ) → R (relabel c x y w) w
      near w = elim (relabel_cases c x y w) [
        | inl p ↦ subst (λ (k : ℕ). R k w) (sym p.1) (E.along x y w r (subst (λ (k : ℕ). R k w) p.0 (W (c w) w (P.root w))))
        | inr p ↦ subst (λ (k : ℕ). R k w) (sym p.1) (W (c w) w (P.root w))
      ]

-- the coarser labelling has no root that the finer has not
pub roots_le : (n : ℕ) (is_vertex : ℕ → Bool) (c d : ℕ → ℕ) → Groups is_vertex c → Groups is_vertex d → Within c (λ (u v : ℕ). d u ≡ d v) → roots n is_vertex d ≤ roots n is_vertex c
roots_le n is_vertex c d P Q W = count_le (is_root n is_vertex d) (is_root n is_vertex c) n (λ v h.
    let r = is_root_lem (is_vertex v) (d v) v h in
    let e : d (c v) ≡ d v = W (c v) v (P.root v) in
    root_is (is_vertex v) (c v) v r.0 (omega (arith, r.1, e, P.low v, Q.low (c v))))

-- ---- the groups of two vertices become one

-- by the two orders of a and b
either_order : (c : ℕ → ℕ) (a b : ℕ) (S : (ℕ → ℕ) → Type 0) → (a ≤ b → S (relabel c a b)) → (b ≤ a → S (relabel c b a)) → S (unite c a b)
either_order c a b S f g = go (leb a b) refl
  where
    go : (t : Bool) → leb a b ≡ t → S (unite c a b)
    go true e = let l : a ≤ b = leb-true a b e in rw (min-eq_left l, max-eq_right l) (f l)
    go false e = let l : b ≤ a = omega (arith, leb-false a b e) in rw (min-eq_right l, max-eq_left l) (g l)

module _ (c : ℕ → ℕ) (u w : ℕ) where
  pub unite_same : unite c (c u) (c w) u ≡ unite c (c u) (c w) w
  unite_same = either_order c (c u) (c w) (λ (r : ℕ → ℕ). r u ≡ r w)
      (λ l. at_x c (c u) (c w) u refl ∙ sym (at_y c (c u) (c w) w refl))
      (λ l. at_y c (c w) (c u) u refl ∙ sym (at_x c (c w) (c u) w refl))

  pub unite_keeps : (p q : ℕ) → c p ≡ c q → unite c (c u) (c w) p ≡ unite c (c u) (c w) q
  unfolding relabel
  unite_keeps p q e = ap (λ (m : ℕ). elim (eqb m (max (c u) (c w))) [ true ↦ min (c u) (c w) | false ↦ m ]) e

  module _ (is_vertex : ℕ → Bool) (P : Groups is_vertex c) where
    pub unite_groups : is_vertex u ≡ true → is_vertex w ≡ true → Groups is_vertex (unite c (c u) (c w))
    unite_groups hu hw = either_order c (c u) (c w) (Groups is_vertex)
        (λ l. relabel_groups c (c u) (c w) is_vertex P (P.root u) l (P.vertex u hu))
        (λ l. relabel_groups c (c w) (c u) is_vertex P (P.root w) l (P.vertex w hw))

    pub unite_within : (R : ℕ → ℕ → Type 0) → Alike R → Within c R → R u w → Within (unite c (c u) (c w)) R
    unite_within R E W r =
        let s : R (c u) (c w) = E.along (c u) u (c w) (W (c u) u (P.root u)) (E.along u w (c w) r (W w (c w) (sym (P.root w)))) in
        either_order c (c u) (c w) (λ (d : ℕ → ℕ). Within d R)
        (λ l. relabel_within R E is_vertex c P W (c u) (c w) s)
        (λ l. relabel_within R E is_vertex c P W (c w) (c u) (E.back (c u) (c w) s))

    pub unite_less : (n : ℕ) → ((v : ℕ) → is_vertex v ≡ true → v < n) → is_vertex u ≡ true → is_vertex w ≡ true → (c u ≡ c w → ⊥)
        → roots n is_vertex c ≡ suc (roots n is_vertex (unite c (c u) (c w)))
    unite_less n inside hu hw d = either_order c (c u) (c w) (λ (r : ℕ → ℕ). roots n is_vertex c ≡ suc (roots n is_vertex r))
        (λ l. one_less n is_vertex c (c u) (c w) (P.root u) (P.root w) (strict (c u) (c w) d l) (P.vertex w hw) (inside (c w) (P.vertex w hw)))
        (λ l. one_less n is_vertex c (c w) (c u) (P.root w) (P.root u) (strict (c w) (c u) (λ e. d (sym e)) l) (P.vertex u hu) (inside (c u) (P.vertex u hu)))
      where
        strict : (a b : ℕ) → (a ≡ b → ⊥) → a ≤ b → a < b
        strict a b d l = omega arith

-- ---- how many roots there are

-- apart, each vertex is one
pub roots_apart : (n : ℕ) (is_vertex : ℕ → Bool) → roots n is_vertex (λ (v : ℕ). v) ≡ count is_vertex n
roots_apart n is_vertex = count_same (is_root n is_vertex (λ (v : ℕ). v)) is_vertex n (λ v l. self (is_vertex v) v)
  where
    self : (b : Bool) (v : ℕ) → b && eqb v v ≡ b
    self true v = eq-eqb v v refl
    self false v = refl

-- all in one group, at most one is
pub roots_one : (n : ℕ) (is_vertex : ℕ → Bool) (c : ℕ → ℕ) → ((u v : ℕ) → is_vertex u ≡ true → is_vertex v ≡ true → c u ≡ c v) → roots n is_vertex c ≤ 1
roots_one n is_vertex c h = count_one (is_root n is_vertex c) n (λ u v p q.
    let r = is_root_lem (is_vertex u) (c u) u p in
    let s = is_root_lem (is_vertex v) (c v) v q in
    sym r.1 ∙ h u v r.0 s.0 ∙ s.1)

-- and where there is a vertex, one is
pub roots_some : (n : ℕ) (is_vertex : ℕ → Bool) (c : ℕ → ℕ) → ((v : ℕ) → is_vertex v ≡ true → v < n) → Groups is_vertex c → 1 ≤ count is_vertex n → 1 ≤ roots n is_vertex c
roots_some n is_vertex c inside P h =
    let f = count_find is_vertex n h in
    let v = P.vertex f.0 f.1 in
    count_some (is_root n is_vertex c) n (c f.0) (inside (c f.0) v) (root_is (is_vertex (c f.0)) (c (c f.0)) (c f.0) v (P.root f.0))
