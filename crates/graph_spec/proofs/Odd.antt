-- Which nodes are odd: those and only those below n with an odd degree, in ascending order.
use mathlib.Core.Path.{◌≡◌, refl, subst}
use mathlib.Core.Logic.{inl, inr, ◌↔◌}
use mathlib.Core.List.{List, [], ◌∷◌}
use mathlib.Core.Bool.{Bool, true, false}
use Prim.Native.Nat.{ℕ, zero, suc, ◌+◌, ◌%◌, ◌≤◌, ◌<◌}
use native.Mathlib.Nat.{lt_of_not-le}
use native.Mathlib.Decide.{ℕ_discrete}
use native.Mathlib.Omega.{arith}
use lib.ListN.{length}
use borrow.Author.Tests.{eqb-true, eq-eqb}
use Rattle.lists.proofs.Members.{either, all_in, in_all}
use Rattle.graph_spec.specs.Graph.{Edge}
use Rattle.graph_spec.specs.Odd.{degree, is_odd, odd_from, odd_nodes}
use Rattle.graph_spec.specs.Ways.{Inside, Apart}
use Rattle.lists.specs.Members.{In, All}
use Rattle.graph_spec.proofs.Sums.{hit_other, hit_both}

-- v is one of the n nodes from u on, and odd
pub record OddFrom (es : List Edge) (n u v : ℕ) : Type 0 where
  pub low : u ≤ v
  pub high : v < u + n
  pub odd : degree es v % 2 ≡ 1

odd_from_is : (es : List Edge) (n u v : ℕ) → In v (odd_from es n u) → OddFrom es n u v
unfolding odd_from
odd_from_is es zero u v h = absurd h
odd_from_is es (suc n) u v h = go (is_odd (degree es u)) refl (odd_from_is es n (suc u) v) h
  where
    later : OddFrom es n (suc u) v → OddFrom es (suc n) u v
    later p = record { low = omega arith; high = omega arith; odd = p.odd }

    go : (t : Bool) → is_odd (degree es u) ≡ t → (In v (odd_from es n (suc u)) → OddFrom es n (suc u) v)
        → In v (elim t [ true ↦ u ∷ odd_from es n (suc u) | false ↦ odd_from es n (suc u) ]) → OddFrom es (suc n) u v
    go true t rec (inl p) = record { low = omega arith; high = omega arith; odd = rw p (eqb-true (degree es u % 2) 1 t) }
    go true t rec (inr k) = later (rec k)
    go false t rec k = later (rec k)

odd_from_has : (es : List Edge) (n u v : ℕ) → OddFrom es n u v → In v (odd_from es n u)
unfolding odd_from
odd_from_has es zero u v p = absurd (empty p.low p.high)
  where
    empty : u ≤ v → v < u + 0 → ⊥
    empty h k = omega arith
odd_from_has es (suc n) u v p =
    elim (ℕ_discrete v u) [
      | yes e ↦ rw (odd_from, here e) (inl e)
      | no e ↦
          let later = odd_from_has es n (suc u) v (record { low = omega arith; high = omega arith; odd = p.odd }) in
          either (In v) _ _ (inr later) later (is_odd (degree es u))
    ]
  where
    here : v ≡ u → is_odd (degree es u) ≡ true
    here e = eq-eqb (degree es u % 2) 1 (rw (← e) p.odd)

pub odd_nodes_member : (n : ℕ) (es : List Edge) (v : ℕ) → In v (odd_nodes n es) ↔ ((v < n) × (degree es v % 2 ≡ 1))
odd_nodes_member n es v = (
  λ h. let p = odd_from_is es n 0 v h in (omega arith, p.odd),
  λ k. odd_from_has es n 0 v (record { low = omega arith; high = omega (arith, k.0); odd = k.1 }),
)

-- each below all that come after it
abbrev pub Ascends : List ℕ → Type 0
Ascends [] = Unit {0}
Ascends (u ∷ us) = All (λ (v : ℕ). u < v) us × Ascends us

-- the odd nodes ascend
pub odd_ascends : (es : List Edge) (n u : ℕ) → Ascends (odd_from es n u)
unfolding odd_from
odd_ascends es zero u = tt
odd_ascends es (suc n) u =
    let rest = odd_ascends es n (suc u) in
    either Ascends (u ∷ odd_from es n (suc u)) (odd_from es n (suc u)) (in_all (λ (v : ℕ). u < v) (odd_from es n (suc u)) (λ v i. (odd_from_is es n (suc u) v i).low), rest) rest (is_odd (degree es u))

pub odd_nodes_ascends : (n : ℕ) (es : List Edge) (u : ℕ) (us : List ℕ) → odd_nodes n es ≡ u ∷ us → (v : ℕ) → In v us → u < v
odd_nodes_ascends n es u us e = all_in (λ (v : ℕ). u < v) us (subst Ascends e (odd_ascends es n 0)).0

-- where no edge leads from a node to itself, no node has more edges than there are
pub apart_degree : (es : List Edge) → Apart es → (v : ℕ) → degree es v ≤ length es
unfolding degree
apart_degree [] h v = omega arith
apart_degree (e ∷ es) h v = omega (arith, hit_both e.a e.b v (h e (inl refl)), apart_degree es (λ x i. h x (inr i)) v)

-- ---- all nodes, where every edge lies among the first n

pub outside_degree : (n : ℕ) (es : List Edge) (v : ℕ) → Inside n es → n ≤ v → degree es v ≡ 0
unfolding degree
outside_degree n [] v h k = refl
outside_degree n (e ∷ es) v h k =
    let l = h e (inl refl) in
    omega (arith, hit_other e.a v (λ p. omega arith), hit_other e.b v (λ p. omega arith), outside_degree n es v (λ x i. h x (inr i)) k)

-- a node that is not among the odd ones is even
pub even_else : (n : ℕ) (es : List Edge) (v : ℕ) → Inside n es → (In v (odd_nodes n es) → ⊥) → degree es v % 2 ≡ 0
even_else n es v h k =
    elim (ℕ_discrete (degree es v % 2) 1) [
      | yes e ↦ absurd (k ((odd_nodes_member n es v).1 (below e, e)))
      | no e ↦ omega arith
    ]
  where
    below : degree es v % 2 ≡ 1 → v < n
    below e = lt_of_not-le (λ l. omega (arith, outside_degree n es v h l))
