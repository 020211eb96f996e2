-- What `next` gives: an edge at the node that is not used, or nothing where the node has none left.
use mathlib.Core.Path.{◌≡◌, refl, sym, ap, ◌∙◌}
use mathlib.Core.Logic.{inl, inr}
use mathlib.Core.List.{List, [], ◌∷◌}
use mathlib.Core.Bool.{Bool, true, false, true≢false}
use Prim.Native.Nat.{ℕ, ◌+◌, ◌<◌}
use native.Mathlib.Omega.{arith}
use lib.ListN.{length, get_or}
use Rattle.graph_spec.specs.Graph.{Edge, Arc, edges_at}
use Rattle.graph_spec.specs.Odd.{hit}
use Rattle.graph_spec.specs.Ways.{Joins}
use Rattle.lists.specs.Members.{In}
use Rattle.graph_spec.proofs.Sums.{hit_other}
use Rattle.graph_spec.proofs.EdgesAt.{edge_at, edges_at_arc, edges_at_all}
use Rattle.walk_spec.specs.Walk.{Next, spent, along, next_of, next}
use Rattle.walk_spec.proofs.Free.{Weight, free_sum, is_free, free_sum_none}

-- what an edge gives to the degree of v
abbrev pub at_node : ℕ → Weight
at_node v i e = hit e.a v + hit e.b v

-- the edge i is free and leads from u to v
pub record Leads (es : List Edge) (used : List Bool) (u i v : ℕ) : Type 0 where
  pub is_edge : i < length es
  pub free : is_free used i
  pub joins : Joins (edge_at es i) u v

-- where there is none, nothing is left of the node's degree
abbrev pub Fits : List Edge → List Bool → ℕ → Next → Type 0
Fits es used u spent = free_sum (at_node u) 0 es used ≡ 0
Fits es used u (along i v) = Leads es used u i v

-- the first arc that is not used, or all are used
record FirstFree (used : List Bool) (rs : List Arc) (i v : ℕ) : Type 0 where
  arc : Arc
  is_in : In arc rs
  number_is : arc.number ≡ i
  to_is : arc.to ≡ v
  free : is_free used i

abbrev Says : List Bool → List Arc → Next → Type 0
Says used rs spent = (r : Arc) → In r rs → is_free used r.number → ⊥
Says used rs (along i v) = FirstFree used rs i v

next_of_says : (used : List Bool) (rs : List Arc) → Says used rs (next_of used rs)
unfolding next_of
next_of_says used [] = λ r h. absurd h
next_of_says used (r ∷ rs) = go (get_or used r.number true) refl (next_of used rs) (next_of_says used rs)
  where
    later : (N : Next) → get_or used r.number true ≡ true → Says used rs N → Says used (r ∷ rs) N
    later spent e h = λ x i f. elim i [
      | inl p ↦ true≢false (sym e ∙ ap (λ (y : Arc). get_or used y.number true) (sym p) ∙ f)
      | inr k ↦ h x k f
    ]
    later (along i v) e h = record { arc = h.arc; is_in = inr h.is_in; number_is = h.number_is; to_is = h.to_is; free = h.free }

    go : (t : Bool) → get_or used r.number true ≡ t → (N : Next) → Says used rs N → Says used (r ∷ rs) (elim t [ false ↦ along r.number r.to | true ↦ N ])
    go false e N h = record { arc = r; is_in = inl refl; number_is = refl; to_is = refl; free = e }
    go true e N h = later N e h

pub next_fits : (es : List Edge) (used : List Bool) (u : ℕ) → Fits es used u (next es used u)
next_fits es used u = go (next es used u) (next_of_says used (edges_at es u))
  where
    -- a free edge with u as an end would have an arc
    none : ((r : Arc) → In r (edges_at es u) → is_free used r.number → ⊥) → (j : ℕ) → j < length es → is_free used j → (w : ℕ) → Joins (edge_at es j) u w → ⊥
    none h j l f w k = let r = edges_at_all es j u w l k in h r.arc r.is_in (rw r.number_is f)

    go : (N : Next) → Says used (edges_at es u) N → Fits es used u N
    go spent h = free_sum_none (at_node u) 0 es used (λ j l f. omega (
      arith,
      hit_other (edge_at es j).a u (λ p. none h j l f (edge_at es j).b (inl (p, refl))),
      hit_other (edge_at es j).b u (λ p. none h j l f (edge_at es j).a (inr (refl, p))),
    ))
    go (along i v) h =
        let k = edges_at_arc es u h.arc h.is_in in
        record { is_edge = rw (← h.number_is) k.is_edge; free = h.free; joins = rw (← h.number_is, ← h.to_is) k.joins }
