-- Along a node's list of arcs, in the arrays: what code has passed of it changes nothing of what it looks for in the whole list. Assumes nothing.
use mathlib.Core.Path.{◌≡◌, refl, sym, ap, subst, ◌∙◌}
use mathlib.Core.Logic.{inl, inr}
use mathlib.Core.List.{List, [], ◌∷◌}
use Prim.Native.Nat.{ℕ, ◌-◌, ◌≤◌, ◌<◌}
use native.Mathlib.Decide.{dec_le}
use native.Mathlib.Omega.{arith}
use lib.ListN.{get_or}
use lib.Ieee.{nan, binary64}
use Rattle.limits.specs.Limits.{most_nodes, edge_room, arc_room}
use Rattle.sums.specs.Key.{Nonneg}
use Rattle.lists.specs.Members.{In}
use Rattle.graph_spec.specs.Graph.{Arc, edges_at}
use Rattle.graph_spec.specs.Weights.{Weights}
use Rattle.graph_spec.proofs.Connected.{joins_inside}
use Rattle.graph_spec.proofs.EdgesAt.{arc_joins}
use Rattle.graph_adjacency.specs.Lists.{Adjacency, first_arc, next_arc, edge_number, arc_at}
use Rattle.graph_adjacency.proofs.Lists.{number_second, number_first}
use Rattle.graph_adjacency.specs.Follow.{Follows}
use Rattle.graph_adjacency.proofs.Follow.{follows_none, follows_arc, follows_next}
use Rattle.graph_arrays.specs.Arrays.{edges_in, EdgesLinked}
use Rattle.graph_arrays.proofs.Arrays.{follows_edges}

-- The arcs of the node v from its arc k on, of which f answers x; they are among `all`.
pub record From {A : Type 0} (f : List Arc → A) (a : Adjacency) (all : List Arc) (v k : ℕ) (x : A) : Type 0 where
  pub arcs : List Arc
  pub follows : Follows a v k arcs
  pub among : (r : Arc) → In r arcs → In r all
  pub same : f arcs ≡ x

-- what code reads of the arc k
pub record Known (n : ℕ) (a : Adjacency) (all : List Arc) (v k : ℕ) : Type 0 where
  pub some : 0 < k
  pub within : k ≤ arc_room
  pub number : edge_number k < edge_room
  pub to : get_or a.ends (k - 1) 0 < n
  pub is_arc : In (arc_at a k) all
  pub falls : next_arc a.next a.heads v k < k

number_low : (k : ℕ) → 0 < k → k ≤ arc_room → edge_number k < edge_room
number_low k p h = elim (dec_le k edge_room) [ yes l ↦ omega (arith, number_second k l) | no l ↦ omega (arith, number_first k (omega arith)) ]

module _ {A : Type 0} (f : List Arc → A) (a : Adjacency) (all : List Arc) (v k : ℕ) (x : A) (F : From f a all v k x) where
  -- the arc k is the first of those that are left
  pub from_here : (k ≡ 0 → ⊥) → (rest : List Arc) × (f (arc_at a k ∷ rest) ≡ x)
  from_here h = go F.arcs F.follows F.same
    where
      go : (rs : List Arc) → Follows a v k rs → f rs ≡ x → (rest : List Arc) × (f (arc_at a k ∷ rest) ≡ x)
      go [] s e = absurd (h (follows_none a v k s))
      go (r ∷ rs) s e = (rs, ap (λ (q : Arc). f (q ∷ rs)) (follows_arc a v k r rs s).is ∙ e)

  -- past the arc k, where f of it and others is f' of the others
  pub from_next : (k ≡ 0 → ⊥) → (f' : List Arc → A) → ((rs : List Arc) → f (arc_at a k ∷ rs) ≡ f' rs) → From f' a all v (next_arc a.next a.heads v k) x
  from_next h f' skip = go F.arcs F.follows F.among F.same
    where
      go : (rs : List Arc) → Follows a v k rs → ((r : Arc) → In r rs → In r all) → f rs ≡ x → From f' a all v (next_arc a.next a.heads v k) x
      go [] s p e = absurd (h (follows_none a v k s))
      go (r ∷ rs) s p e = record {
        arcs = rs;
        follows = follows_next a v k r rs s;
        among = λ q i. p q (inr i);
        same = sym (skip rs) ∙ ap (λ (q : Arc). f (q ∷ rs)) (follows_arc a v k r rs s).is ∙ e;
      }

  pub from_end : k ≡ 0 → f [] ≡ x
  from_end h = go F.arcs F.follows F.same
    where
      go : (rs : List Arc) → Follows a v k rs → f rs ≡ x → f [] ≡ x
      go [] s e = e
      go (r ∷ rs) s e = absurd (omega (arith, (follows_arc a v k r rs s).some))

-- in the arrays of a graph, where `all` are the arcs of v
module _ (n m : ℕ) (a : Adjacency) (L : EdgesLinked n m a) (v : ℕ) where
  abbrev pub arcs_of : List Arc
  arcs_of = edges_at (edges_in m a) v

  pub from_first : {A : Type 0} (f : List Arc → A) → v < most_nodes → From f a arcs_of v (first_arc a.heads v) (f arcs_of)
  from_first f h = record { arcs = arcs_of; follows = follows_edges n m a L v h; among = λ r i. i; same = refl }

  pub from_known : {A : Type 0} (f : List Arc → A) (k : ℕ) (x : A) → From f a arcs_of v k x → (k ≡ 0 → ⊥) → Known n a arcs_of v k
  unfolding arc_at
  from_known f k x F h = go F.arcs F.follows F.among
    where
      leads : (r : Arc) → In r arcs_of → r.to < n
      leads r i = let j = (arc_joins (edges_in m a) v r i).0 in joins_inside n (edges_in m a) L.inside j.by v r.to j.is_in j.joins

      go : (rs : List Arc) → Follows a v k rs → ((r : Arc) → In r rs → In r arcs_of) → Known n a arcs_of v k
      go [] s p = absurd (h (follows_none a v k s))
      go (r ∷ rs) s p =
          let q = follows_arc a v k r rs s in
          let here : In (arc_at a k) arcs_of = subst (λ (y : Arc). In y arcs_of) (sym q.is) (p r (inl refl)) in
          record {
            some = q.some;
            within = q.within;
            number = number_low k q.some q.within;
            to = leads (arc_at a k) here;
            is_arc = here;
            falls = q.falls;
          }

  -- the weight of an arc's edge is an edge's
  pub arc_nonneg : Weights (edges_in m a) → (k : ℕ) → In (arc_at a k) arcs_of → Nonneg binary64 (get_or a.weights (edge_number k) nan)
  unfolding arc_at
  arc_nonneg weights k i = let j = arc_joins (edges_in m a) v (arc_at a k) i in rw j.1 (weights j.0.by j.0.is_in)
