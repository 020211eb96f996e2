-- Laws of specs/Arrays: whoever pushed edges into the arrays reads those edges of them, and following a node's list gives its edges.
use mathlib.Core.Path.{◌≡◌, sym, ap, subst, ◌∙◌}
use mathlib.Core.Logic.{inl, inr}
use mathlib.Core.List.{List, [], ◌∷◌, ◌++◌}
use Prim.Native.Nat.{ℕ, suc, ◌+◌, ◌≤◌, ◌<◌}
use native.Mathlib.Omega.{arith}
use lib.ListN.{length, get_or, length-append, length-take}
use lib.Seq.{get_or-take}
use lib.Ieee.{Float, nan}
use Rattle.limits.specs.Limits.{most_nodes, edge_room}
use Rattle.graph_spec.specs.Graph.{Edge, edge, edges_at}
use Rattle.graph_spec.specs.Ways.{Inside, Apart}
use Rattle.graph_spec.specs.Odd.{degree}
use Rattle.graph_spec.proofs.Odd.{apart_degree}
use Rattle.graph_spec.proofs.EdgesAt.{edge_at, edge_at_in}
use Rattle.graph_adjacency.specs.Lists.{Adjacency, push, lists, first_arc}
use Rattle.graph_adjacency.specs.Follow.{Ends, Follows}
use Rattle.graph_adjacency.proofs.Follow.{lists_follow, lists_push}
use Rattle.lists.proofs.Members.{in_append}
use Rattle.graph_arrays.specs.Arrays.{edge_in, edges_in, EdgesLinked, Front}
use Rattle.graph_arrays.proofs.Ends.{inside_ends}
use Rattle.lists.proofs.Tabulate.{tabulate_length, tabulate_at}
use Rattle.graph_arrays.proofs.Filled.{edges_are}

-- ---- reading

pub edges_count : (m : ℕ) (a : Adjacency) → length (edges_in m a) ≡ m
edges_count m a = tabulate_length (edge_in a) m 0

pub edge_at_lem : (m : ℕ) (a : Adjacency) (j : ℕ) → j < m → edge_at (edges_in m a) j ≡ edge_in a j
edge_at_lem m a j h = tabulate_at (edge_in a) m j (edge 0 0 nan) h

module _ (n m : ℕ) (a : Adjacency) (L : EdgesLinked n m a) where
  -- both ends of an edge are nodes
  pub ends_in : (j : ℕ) → j < m → (get_or a.ends j 0 < n) × (get_or a.ends (j + edge_room) 0 < n)
  ends_in j h =
      let long = edges_count m a in
      subst (λ (e : Edge). (e.a < n) × (e.b < n)) (edge_at_lem m a j h) (L.inside (edge_at (edges_in m a) j) (edge_at_in (edges_in m a) j (omega (arith, long))))

  -- and two of them
  pub ends_apart : (j : ℕ) → j < m → get_or a.ends j 0 ≡ get_or a.ends (j + edge_room) 0 → ⊥
  ends_apart j h =
      let long = edges_count m a in
      subst (λ (e : Edge). e.a ≡ e.b → ⊥) (edge_at_lem m a j h) (L.apart (edge_at (edges_in m a) j) (edge_at_in (edges_in m a) j (omega (arith, long))))

  -- so no node has more than 4,001 edges, the virtual one among them
  pub linked_degree : (v : ℕ) → degree (edges_in m a) v ≤ edge_room
  linked_degree v = omega (arith, apart_degree (edges_in m a) L.apart v, edges_count m a, L.few_edges)

  pub ends_of : Ends (edges_in m a)
  ends_of = inside_ends n (edges_in m a) L.few_nodes L.inside

  -- the list of a node is its edges in document 01's order
  pub follows_edges : (v : ℕ) → v < most_nodes → Follows a v (first_arc a.heads v) (edges_at (edges_in m a) v)
  follows_edges v h =
      let long = edges_count m a in
      let few : length (edges_in m a) ≤ edge_room = omega (arith, long, L.few_edges) in
      subst (λ (g : Adjacency). Follows g v (first_arc g.heads v) (edges_at (edges_in m a) v)) (sym L.linked) (lists_follow (edges_in m a) v few ends_of h)

-- ---- filling

module _ (n : ℕ) (es : List Edge) (a : Adjacency) (few : length es ≤ edge_room) (inside : Inside n es) (apart : Apart es) (is : a ≡ lists es) (room : n ≤ most_nodes) where
  pub lists_linked : EdgesLinked n (length es) a
  lists_linked = record {
    few_nodes = room;
    few_edges = few;
    linked = is ∙ ap lists (sym (edges_are es a few is));
    inside = subst (Inside n) (sym (edges_are es a few is)) inside;
    apart = subst Apart (sym (edges_are es a few is)) apart;
  }

-- one edge more
module _ (n m u v : ℕ) (w : Float) (a a' : Adjacency) (L : EdgesLinked n m a) (room : m < edge_room) (hu : u < n) (hv : v < n) (is : a' ≡ push m u v w a) where
  es : List Edge
  es = edges_in m a ++ (edge u v w ∷ [])

  es_count : length es ≡ suc m
  unfolding es
  es_count = length-append (edges_in m a) (edge u v w ∷ []) ∙ (let k = edges_count m a in omega arith)

  pushed_lists : a' ≡ lists es
  unfolding es
  pushed_lists =
      is ∙ ap (λ (k : ℕ). push k u v w a) (sym (edges_count m a)) ∙ ap (λ (g : Adjacency). push (length (edges_in m a)) u v w g) L.linked
      ∙ lists_push (edges_in m a) (edge u v w)

  es_inside : Inside n es
  unfolding es
  es_inside e i = elim (in_append e (edges_in m a) (edge u v w ∷ []) i) [ inl k ↦ L.inside e k | inr k ↦ elim k [ inl z ↦ last z | inr z ↦ absurd z ] ]
    where
      last : e ≡ edge u v w → (e.a < n) × (e.b < n)
      last z = subst (λ (x : Edge). (x.a < n) × (x.b < n)) (sym z) (hu, hv)

  es_apart : (u ≡ v → ⊥) → Apart es
  unfolding es
  es_apart d e i = elim (in_append e (edges_in m a) (edge u v w ∷ []) i) [ inl k ↦ L.apart e k | inr k ↦ elim k [ inl z ↦ last z | inr z ↦ absurd z ] ]
    where
      last : e ≡ edge u v w → e.a ≡ e.b → ⊥
      last z = subst (λ (x : Edge). x.a ≡ x.b → ⊥) (sym z) d

  pub pushed_edges : edges_in (suc m) a' ≡ edges_in m a ++ (edge u v w ∷ [])
  unfolding es
  pushed_edges = ap (λ (k : ℕ). edges_in k a') (sym es_count) ∙ edges_are es a' (omega (arith, es_count)) pushed_lists

  pub pushed_linked : (u ≡ v → ⊥) → EdgesLinked n (suc m) a'
  pushed_linked d = subst (λ (k : ℕ). EdgesLinked n k a') es_count (lists_linked n es a' (omega (arith, es_count)) es_inside (es_apart d) pushed_lists L.few_nodes)

-- a list of nodes at the front of an array
module _ (vs array : List ℕ) (count : ℕ) (F : Front vs array count) where
  pub front_at : (i : ℕ) → i < count → get_or array i 0 ≡ get_or vs i 0
  front_at i h = sym (get_or-take count array i 0 h) ∙ ap (λ (l : List ℕ). get_or l i 0) F.are

  pub front_long : count ≤ length array
  front_long = omega (arith, F.counts, ap length F.are, length-take count array)
