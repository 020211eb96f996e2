-- One offer, and the loop along the arcs of the node u, which is at the distance d.
use mathlib.Core.Path.{◌≡◌, sym, ap, subst, subst₂, ◌∙◌}
use mathlib.Core.List.{List}
use mathlib.Core.Bool.{true, false}
use Prim.Native.Nat.{ℕ, ◌-◌, ◌≤◌, ◌<◌}
use native.Mathlib.Omega.{arith}
use lib.ListN.{length, get_or, set}
use lib.Ieee.{Float, nan, binary64, add, lt}
use Rattle.limits.specs.Limits.{most_nodes}
use Rattle.sums.specs.Key.{Nonneg}
use Rattle.sums.proofs.Sum.{add_nonneg}
use Rattle.graph_spec.specs.Graph.{Arc}
use Rattle.graph_adjacency.specs.Lists.{Adjacency, first_arc, next_arc, edge_number, arc_at}
use Rattle.graph_arrays.specs.Arrays.{EdgesHeld}
use Rattle.lists.proofs.Elements.{get_d_inside}
use Rattle.repair_spec.specs.Distance.{infinity, distance_at, improve}
use Rattle.repair_spec.specs.Relax.{AllNonneg}
use Rattle.repair_spec.proofs.Relax.{still_nonneg, improve_is}
use Rattle.repair_search.specs.Relaxing.{relax_arcs}
use Rattle.repair_search.specs.Touched.{Listed}
use Rattle.repair_search.proofs.OfferLaws.{improve_lower, improve_not}
use Rattle.repair_search.proofs.Touched.{below_infinity}
use Rattle.repair_search.proofs.Along.{From, Known, from_next, from_end, arcs_of, from_first, from_known, arc_nonneg}
use Rattle.repair_sweep.specs.Sweeps.{Reached}

module _ (n v : ℕ) (c : Float) (p : Nonneg binary64 c) (ds : List Float) (touched : List ℕ) (count : ℕ) (R : Reached n ds touched count) where
  module _ (few : n ≤ most_nodes) (is_node : v < n) where
    -- as code reads it
    read : distance_at ds v ≡ get_or ds v nan
    read = get_d_inside ds v infinity nan (omega (arith, R.long))

    pub offer_not : lt c (get_or ds v nan) ≡ false → ds ≡ improve ds v c
    offer_not h = sym (improve_not ds v c (ap (lt c) read ∙ h))

    module _ (h : lt c (get_or ds v nan) ≡ true) where
      lower : lt c (distance_at ds v) ≡ true
      lower = ap (lt c) read ∙ h

      pub offer_lower : set ds v c ≡ improve ds v c
      offer_lower = sym (improve_lower ds v c lower)

      pub offer_reaches : lt c infinity ≡ true
      offer_reaches = below_infinity c (distance_at ds v) p (R.nonneg v) lower

  -- distances with one that was offered are distances
  pub reached_then : (ds' : List Float) → ds' ≡ improve ds v c → (touched' : List ℕ) (count' : ℕ) → Listed n ds' touched' count' → Reached n ds' touched' count'
  reached_then ds' is touched' count' L =
      let I = improve_is ds v c R.nonneg p in
      record { long = ap length is ∙ I.same ∙ R.long; nonneg = subst AllNonneg (sym is) (still_nonneg I R.nonneg (λ x k o. rw o.1 p)); listed = L }

-- at the arc k: along the arcs from it on the distances ds become those that all arcs make of `from`
pub record Looking (n : ℕ) (a : Adjacency) (all : List Arc) (u : ℕ) (d : Float) (from : List Float) (k : ℕ) (ds : List Float) (touched : List ℕ) (count : ℕ) : Type 0 where
  pub rest : From (λ (rs : List Arc). relax_arcs d rs ds) a all u k (relax_arcs d all from)
  pub reached : Reached n ds touched count

module _ (n m : ℕ) (a : Adjacency) (H : EdgesHeld n m a) (u : ℕ) (is_node : u < n) (d : Float) (p : Nonneg binary64 d) (from : List Float) where
  abbrev all : List Arc
  all = arcs_of n m a H.edges u

  pub looking_begin : (touched : List ℕ) (count : ℕ) → Reached n from touched count → Looking n a all u d from (first_arc a.heads u) from touched count
  looking_begin touched count R = record {
    rest = from_first n m a H.edges u (λ (rs : List Arc). relax_arcs d rs from) (omega (arith, H.edges.few_nodes));
    reached = R;
  }

  module _ (k : ℕ) (ds : List Float) (touched : List ℕ) (count : ℕ) (L : Looking n a all u d from k ds touched count) where
    pub looking_known : (k ≡ 0 → ⊥) → Known n a all u k
    looking_known = from_known n m a H.edges u (λ (rs : List Arc). relax_arcs d rs ds) k (relax_arcs d all from) L.rest

    -- a cost by the arc
    pub looking_cost : (k ≡ 0 → ⊥) → (e : ℕ) → e ≡ edge_number k → Nonneg binary64 (add binary64 d (get_or a.weights e nan))
    looking_cost h e is =
        add_nonneg binary64 d (get_or a.weights e nan) p
        (subst (λ (x : ℕ). Nonneg binary64 (get_or a.weights x nan)) (sym is) (arc_nonneg n m a H.edges u H.searchable.weights k (looking_known h).is_arc))

    looking_next : (k ≡ 0 → ⊥) → (ds' : List Float) → ds' ≡ improve ds (get_or a.ends (k - 1) 0) (add binary64 d (get_or a.weights (edge_number k) nan))
        → From (λ (rs : List Arc). relax_arcs d rs ds') a all u (next_arc a.next a.heads u k) (relax_arcs d all from)
    unfolding relax_arcs arc_at
    looking_next h ds' is =
        from_next (λ (rs : List Arc). relax_arcs d rs ds) a all u k (relax_arcs d all from) L.rest h (λ (rs : List Arc). relax_arcs d rs ds') (λ rs. ap (relax_arcs d rs) (sym is))

    -- by the edge, the node and the next arc that code has read
    pub looking_turn : (h : k ≡ 0 → ⊥) → (e v k' : ℕ) → e ≡ edge_number k → v ≡ get_or a.ends (k - 1) 0 → k' ≡ next_arc a.next a.heads u k → (ds' : List Float)
        → ds' ≡ improve ds v (add binary64 d (get_or a.weights e nan)) → (touched' : List ℕ) (count' : ℕ) → Listed n ds' touched' count' → Looking n a all u d from k' ds' touched' count'
    looking_turn h e v k' he hv hk ds' is touched' count' K = record {
      rest = subst (λ (q : ℕ). From (λ (rs : List Arc). relax_arcs d rs ds') a all u q (relax_arcs d all from)) (sym hk)
          (looking_next h ds' (subst₂ (λ (x y : ℕ). ds' ≡ improve ds x (add binary64 d (get_or a.weights y nan))) hv he is));
      reached = reached_then n v (add binary64 d (get_or a.weights e nan)) (looking_cost h e he) ds touched count L.reached ds' is touched' count' K;
    }

    pub looking_end : k ≡ 0 → ds ≡ relax_arcs d all from
    unfolding relax_arcs
    looking_end h = from_end (λ (rs : List Arc). relax_arcs d rs ds) a all u k (relax_arcs d all from) L.rest h
