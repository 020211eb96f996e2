-- Looking along a node's arcs in the order of its list does what a round of the search has to do.
use mathlib.Core.Path.{◌≡◌, refl, sym, ap, subst, ◌∙◌}
use mathlib.Core.Logic.{◌⊎◌, inl, inr, ◌↔◌}
use mathlib.Core.List.{List, [], ◌∷◌}
use Prim.Native.Nat.{ℕ}
use lib.Ieee.{Float, binary64, add}
use Rattle.sums.specs.Key.{Nonneg}
use Rattle.sums.proofs.Sum.{add_nonneg}
use Rattle.graph_spec.specs.Graph.{Edge, Arc, edges_at}
use Rattle.graph_spec.specs.Ways.{Joins}
use Rattle.lists.specs.Members.{In}
use Rattle.graph_spec.proofs.EdgesAt.{edge_at, number_of_lem, edges_at_all, edges_at_arc, arc_joins, other_end}
use Rattle.graph_spec.specs.Weights.{Weights}
use Rattle.repair_spec.specs.Relax.{AllNonneg}
use Rattle.repair_spec.proofs.Relax.{Improved, Next, kept, still_nonneg, offers_iff, and_then, improve_is}
use Rattle.repair_search.specs.Relaxing.{relax_arcs}

-- a cost for x by one of the arcs
abbrev ByArc : Float → List Arc → ℕ → Float → Type 0
ByArc d rs x c = (r : Arc) × In r rs × (r.to ≡ x) × (c ≡ add binary64 d r.weight)

module _ (d : Float) (n : Nonneg binary64 d) where
  by_first : (r : Arc) (rs : List Arc) (x : ℕ) (c : Float) → (((x ≡ r.to) × (c ≡ add binary64 d r.weight)) ⊎ ByArc d rs x c) ↔ ByArc d (r ∷ rs) x c
  by_first r rs x c = (to, λ o. from o.0 o.1 o.2 o.3)
    where
      to : ((x ≡ r.to) × (c ≡ add binary64 d r.weight)) ⊎ ByArc d rs x c → ByArc d (r ∷ rs) x c
      to (inl o) = (r, inl refl, sym o.0, o.1)
      to (inr o) = (o.0, inr o.1, o.2, o.3)

      from : (q : Arc) → In q (r ∷ rs) → q.to ≡ x → c ≡ add binary64 d q.weight → ((x ≡ r.to) × (c ≡ add binary64 d r.weight)) ⊎ ByArc d rs x c
      from q (inl e) h k = inl (rw (← e) (sym h, k))
      from q (inr i) h k = inr (q, i, h, k)

  relax_arcs_is : (rs : List Arc) (ds : List Float) → ((r : Arc) → In r rs → Nonneg binary64 r.weight) → AllNonneg ds → Improved (ByArc d rs) ds (relax_arcs d rs ds)
  unfolding relax_arcs
  relax_arcs_is [] ds weights g = kept (λ x c o. absurd o.1)
  relax_arcs_is (r ∷ rs) ds weights g =
      let sum = add_nonneg binary64 d r.weight n (weights r (inl refl)) in
      let I = improve_is ds r.to (add binary64 d r.weight) g sum in
      let K = relax_arcs_is rs _ (λ q i. weights q (inr i)) (still_nonneg I g (λ x c o. rw o.1 sum)) in
      offers_iff (and_then I K) (by_first r rs)

  -- the costs by a node's arcs are those by its edges
  by_edges : (es : List Edge) (u x : ℕ) (c : Float) → ByArc d (edges_at es u) x c ↔ Next u d es x c
  by_edges es u x c = (to, from)
    where
      to : ByArc d (edges_at es u) x c → Next u d es x c
      to o =
          let k = arc_joins es u o.0 o.1 in
          (k.0.by, k.0.is_in, subst (λ (y : ℕ). Joins k.0.by u y) o.2 k.0.joins, o.3 ∙ ap (add binary64 d) k.1)

      from : Next u d es x c → ByArc d (edges_at es u) x c
      from o =
          let j = number_of_lem es o.0 o.1 in
          let a = edges_at_all es j.number u x j.is_edge (rw j.is o.2) in
          let k = edges_at_arc es u a.arc a.is_in in
          let e : edge_at es a.arc.number ≡ o.0 = ap (edge_at es) a.number_is ∙ j.is in
          (a.arc, a.is_in, other_end o.0 u a.arc.to x (rw e at k.joins) o.2, o.3 ∙ ap (add binary64 d) (sym (k.weight_is ∙ ap (λ (f : Edge). f.weight) e)))

  pub relaxed : (es : List Edge) → Weights es → (u : ℕ) (ds : List Float) → AllNonneg ds → Improved (Next u d es) ds (relax_arcs d (edges_at es u) ds)
  relaxed es weights u ds g =
      offers_iff (relax_arcs_is (edges_at es u) ds (λ r i. let k = arc_joins es u r i in rw k.1 (weights k.0.by k.0.is_in)) g) (by_edges es u)
