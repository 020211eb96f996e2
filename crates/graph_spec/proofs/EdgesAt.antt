-- A node's edges: each of them is an edge with the node as an end, and every edge with the node as an end is among them.
use mathlib.Core.Path.{◌≡◌, refl, sym, ◌∙◌}
use mathlib.Core.Logic.{◌⊎◌, inl, inr}
use mathlib.Core.List.{List, [], ◌∷◌}
use mathlib.Core.Bool.{Bool, true, false}
use Prim.Native.Nat.{ℕ, zero, suc, ◌+◌, ◌<◌, suc-le-suc}
use native.Mathlib.Nat.{add-zero, zero-add, add-suc, suc-add, zero-lt-suc, not-suc-le-zero, le_of_suc-le-suc}
use lib.ListN.{length, get_or}
use lib.Dec.{eqb}
use lib.Ieee.{nan}
use borrow.Author.Tests.{eqb-true, eq-eqb}
use Rattle.lists.proofs.Members.{either, in_at}
use Rattle.graph_spec.specs.Graph.{Edge, edge, Arc, newest_first, edges_at}
use Rattle.graph_spec.specs.Ways.{Joins, Joined}
use Rattle.lists.specs.Members.{In}

-- the edge with the number i; past the last, some edge
abbrev pub edge_at : List Edge → ℕ → Edge
edge_at es i = get_or es i (edge 0 0 nan)

pub edge_at_in : (es : List Edge) (i : ℕ) → i < length es → In (edge_at es i) es
edge_at_in es i h = in_at es i (edge 0 0 nan) h

-- an edge joins a node with one other
pub other_end : (e : Edge) (u v w : ℕ) → Joins e u v → Joins e u w → v ≡ w
other_end e u v w (inl p) (inl q) = sym p.1 ∙ q.1
other_end e u v w (inl p) (inr q) = sym p.1 ∙ q.1 ∙ sym p.0 ∙ q.0
other_end e u v w (inr p) (inl q) = sym p.0 ∙ q.0 ∙ sym p.1 ∙ q.1
other_end e u v w (inr p) (inr q) = sym p.0 ∙ q.0

-- the number of an edge
pub record NumberOf (es : List Edge) (e : Edge) : Type 0 where
  pub number : ℕ
  pub is_edge : number < length es
  pub is : edge_at es number ≡ e

pub number_of_lem : (es : List Edge) (e : Edge) → In e es → NumberOf es e
number_of_lem [] e h = absurd h
number_of_lem (x ∷ es) e (inl p) = record { number = 0; is_edge = zero-lt-suc (length es); is = sym p }
number_of_lem (x ∷ es) e (inr h) =
    let k = number_of_lem es e h in
    record { number = suc k.number; is_edge = suc-le-suc k.is_edge; is = k.is }

-- the edge e, with the number i, seen from its end that is not the far one
abbrev pub arc_of : (Edge → ℕ) → ℕ → Edge → Arc
arc_of far i e = record { number = i; to = far e; weight = e.weight }

-- what an arc of the node v says of the edge with its number
pub record IsArc (es : List Edge) (v : ℕ) (r : Arc) : Type 0 where
  pub is_edge : r.number < length es
  pub joins : Joins (edge_at es r.number) v r.to
  pub weight_is : r.weight ≡ (edge_at es r.number).weight

-- ---- by one of the two ends

-- r is the arc of an edge of es, the first of which has the number i, and its near end is v
record Seen (near far : Edge → ℕ) (v i : ℕ) (es : List Edge) (r : Arc) : Type 0 where
  place : ℕ
  is_edge : place < length es
  is : r ≡ arc_of far (i + place) (edge_at es place)
  at : near (edge_at es place) ≡ v

module _ (near far : Edge → ℕ) (v : ℕ) where
  -- an arc was found before, or is seen from v
  newest_seen : (i : ℕ) (es : List Edge) (found : List Arc) (r : Arc) → In r (newest_first near far v i es found) → In r found ⊎ Seen near far v i es r
  unfolding newest_first
  newest_seen i [] found r h = inl h
  newest_seen i (e ∷ es) found r h = go (eqb (near e) v) refl (λ found' k. newest_seen (suc i) es found' r k) h
    where
      later : Seen near far v (suc i) es r → Seen near far v i (e ∷ es) r
      later s = record { place = suc s.place; is_edge = suc-le-suc s.is_edge; is = rw (add-suc, ← suc-add) s.is; at = s.at }

      go : (t : Bool) → eqb (near e) v ≡ t → ((found' : List Arc) → In r (newest_first near far v (suc i) es found') → In r found' ⊎ Seen near far v (suc i) es r)
          → In r (elim t [ true ↦ newest_first near far v (suc i) es (arc_of far i e ∷ found) | false ↦ newest_first near far v (suc i) es found ])
          → In r found ⊎ Seen near far v i (e ∷ es) r
      go true t rec k = elim (rec (arc_of far i e ∷ found) k) [
        | inl q ↦ elim q [
          | inl p ↦ inr (record { place = 0; is_edge = zero-lt-suc (length es); is = rw add-zero p; at = eqb-true (near e) v t })
          | inr p ↦ inl p
        ]
        | inr s ↦ inr (later s)
      ]
      go false t rec k = elim (rec found k) [ inl p ↦ inl p | inr s ↦ inr (later s) ]

  newest_keeps : (i : ℕ) (es : List Edge) (found : List Arc) (r : Arc) → In r found → In r (newest_first near far v i es found)
  unfolding newest_first
  newest_keeps i [] found r h = h
  newest_keeps i (e ∷ es) found r h =
      either (In r) _ _ (newest_keeps (suc i) es (arc_of far i e ∷ found) r (inr h)) (newest_keeps (suc i) es found r h) (eqb (near e) v)

  -- every edge whose near end is v has its arc
  newest_has : (i : ℕ) (es : List Edge) (found : List Arc) (j : ℕ) → j < length es → near (edge_at es j) ≡ v
      → In (arc_of far (i + j) (edge_at es j)) (newest_first near far v i es found)
  unfolding newest_first
  newest_has i [] found j h e = absurd (not-suc-le-zero h)
  newest_has i (x ∷ es) found zero h e =
      rw (newest_first, eq-eqb (near x) v e, add-zero) (newest_keeps (suc i) es (arc_of far i x ∷ found) (arc_of far i x) (inl refl))
  newest_has i (x ∷ es) found (suc j) h e =
      rw (add-suc, ← suc-add) (either (In (arc_of far (suc i + j) (edge_at es j))) _ _
      (newest_has (suc i) es (arc_of far i x ∷ found) j (le_of_suc-le-suc h) e) (newest_has (suc i) es found j (le_of_suc-le-suc h) e) (eqb (near x) v))

-- ---- by both

-- the arc of the edge j that a node has
pub record ArcOf (es : List Edge) (v j : ℕ) : Type 0 where
  pub arc : Arc
  pub is_in : In arc (edges_at es v)
  pub number_is : arc.number ≡ j

-- no edge of a node is missed
pub edges_at_all : (es : List Edge) (j v w : ℕ) → j < length es → Joins (edge_at es j) v w → ArcOf es v j
unfolding edges_at
edges_at_all es j v w h (inl p) = record {
  arc = arc_of (λ (e : Edge). e.b) (0 + j) (edge_at es j);
  is_in = newest_has (λ (e : Edge). e.a) (λ (e : Edge). e.b) v 0 es _ j h p.0;
  number_is = zero-add j;
}
edges_at_all es j v w h (inr p) = record {
  arc = arc_of (λ (e : Edge). e.a) (0 + j) (edge_at es j);
  is_in = newest_keeps (λ (e : Edge). e.a) (λ (e : Edge). e.b) v 0 es _ _
      (newest_has (λ (e : Edge). e.b) (λ (e : Edge). e.a) v 0 es [] j h p.1);
  number_is = zero-add j;
}

pub edges_at_arc : (es : List Edge) (v : ℕ) (r : Arc) → In r (edges_at es v) → IsArc es v r
unfolding edges_at
edges_at_arc es v r h = elim (newest_seen (λ (e : Edge). e.a) (λ (e : Edge). e.b) v 0 es _ r h) [
  | inr s ↦ rw (s.is, zero-add) (record { is_edge = s.is_edge; joins = inl (s.at, refl); weight_is = refl })
  | inl k ↦ elim (newest_seen (λ (e : Edge). e.b) (λ (e : Edge). e.a) v 0 es [] r k) [
    | inr s ↦ rw (s.is, zero-add) (record { is_edge = s.is_edge; joins = inr (refl, s.at); weight_is = refl })
    | inl n ↦ absurd n
  ]
]

-- so an arc leads along an edge of its weight
pub arc_joins : (es : List Edge) (v : ℕ) (r : Arc) → In r (edges_at es v) → (k : Joined es v r.to) × (r.weight ≡ k.by.weight)
arc_joins es v r h =
    let k = edges_at_arc es v r h in
    (record { by = edge_at es r.number; is_in = edge_at_in es r.number k.is_edge; joins = k.joins }, k.weight_is)
