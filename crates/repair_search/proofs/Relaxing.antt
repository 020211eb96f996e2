-- Laws of specs/Relaxing: the loop along the arcs of the node u, which is at the distance d. Assumes nothing.
use mathlib.Core.Path.{◌≡◌, sym, ap, subst, subst₂}
use mathlib.Core.List.{List}
use Prim.Native.Nat.{ℕ, ◌-◌, ◌<◌}
use native.Mathlib.Omega.{arith}
use lib.ListN.{get_or}
use lib.Ieee.{Float, nan, binary64, add}
use Rattle.sums.specs.Key.{Nonneg}
use Rattle.sums.proofs.Sum.{add_nonneg}
use Rattle.graph_spec.specs.Graph.{Arc}
use Rattle.graph_adjacency.specs.Lists.{Adjacency, first_arc, next_arc, edge_number, arc_at}
use Rattle.graph_arrays.specs.Arrays.{EdgesHeld}
use Rattle.repair_search.specs.Offer.{Held, Together, Offered}
use Rattle.repair_search.specs.Relaxing.{relax_arcs, Relaxed}
use Rattle.repair_search.proofs.OfferLaws.{together_same, together_then}
use Rattle.repair_search.proofs.Along.{From, Known, from_next, from_end, arcs_of, from_first, from_known, arc_nonneg}

-- at the arc k: along the arcs from it on the distances ds become those that all arcs make of `from`
pub record Relaxing (n : ℕ) (a : Adjacency) (all : List Arc) (u : ℕ) (d : Float) (from tree : List Float) (k : ℕ) (ds t : List Float) : Type 0 where
  pub rest : From (λ (rs : List Arc). relax_arcs d rs ds) a all u k (relax_arcs d all from)
  pub held : Held n ds t
  pub together : Together n from tree ds t

module _ (n m : ℕ) (a : Adjacency) (H : EdgesHeld n m a) (u : ℕ) (is_node : u < n) (d : Float) (p : Nonneg binary64 d) (from tree : List Float) where
  abbrev all : List Arc
  all = arcs_of n m a H.edges u

  pub relaxing_begin : Held n from tree → Relaxing n a all u d from tree (first_arc a.heads u) from tree
  relaxing_begin K = record {
    rest = from_first n m a H.edges u (λ (rs : List Arc). relax_arcs d rs from) (omega (arith, H.edges.few_nodes));
    held = K;
    together = together_same n from tree;
  }

  module _ (k : ℕ) (ds t : List Float) (R : Relaxing n a all u d from tree k ds t) where
    pub relaxing_known : (k ≡ 0 → ⊥) → Known n a all u k
    relaxing_known = from_known n m a H.edges u (λ (rs : List Arc). relax_arcs d rs ds) k (relax_arcs d all from) R.rest

    -- a cost by the arc
    pub relaxing_cost : (k ≡ 0 → ⊥) → (e : ℕ) → e ≡ edge_number k → Nonneg binary64 (add binary64 d (get_or a.weights e nan))
    relaxing_cost h e is =
        add_nonneg binary64 d (get_or a.weights e nan) p
        (subst (λ (x : ℕ). Nonneg binary64 (get_or a.weights x nan)) (sym is) (arc_nonneg n m a H.edges u H.searchable.weights k (relaxing_known h).is_arc))

    relaxing_next : (k ≡ 0 → ⊥) → (ds' t' : List Float) → Offered n (get_or a.ends (k - 1) 0) (add binary64 d (get_or a.weights (edge_number k) nan)) ds t ds' t'
        → Relaxing n a all u d from tree (next_arc a.next a.heads u k) ds' t'
    unfolding relax_arcs arc_at
    relaxing_next h ds' t' O = record {
      rest = from_next (λ (rs : List Arc). relax_arcs d rs ds) a all u k (relax_arcs d all from) R.rest h (λ (rs : List Arc). relax_arcs d rs ds') (λ rs. ap (relax_arcs d rs) (sym O.improved));
      held = O.held;
      together = together_then n from tree ds t ds' t' R.together O.together;
    }

    -- by the edge, the node and the next arc that code has read
    pub relaxing_turn : (k ≡ 0 → ⊥) → (e v k' : ℕ) → e ≡ edge_number k → v ≡ get_or a.ends (k - 1) 0 → k' ≡ next_arc a.next a.heads u k → (ds' t' : List Float)
        → Offered n v (add binary64 d (get_or a.weights e nan)) ds t ds' t' → Relaxing n a all u d from tree k' ds' t'
    relaxing_turn h e v k' he hv hk ds' t' O =
        subst (λ (q : ℕ). Relaxing n a all u d from tree q ds' t') (sym hk)
        (relaxing_next h ds' t' (subst₂ (λ (x y : ℕ). Offered n x (add binary64 d (get_or a.weights y nan)) ds t ds' t') hv he O))

    pub relaxing_end : k ≡ 0 → Relaxed n all d from tree ds t
    unfolding relax_arcs
    relaxing_end h = record {
      improved = from_end (λ (rs : List Arc). relax_arcs d rs ds) a all u k (relax_arcs d all from) R.rest h;
      held = R.held;
      together = R.together;
    }
