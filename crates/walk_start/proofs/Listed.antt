-- The nodes with edges: which they are, read of the arrays, and their list.
use mathlib.Core.Path.{◌≡◌, refl, sym, ap, ◌∙◌}
use mathlib.Core.Logic.{inl, inr}
use mathlib.Core.List.{List, [], ◌∷◌}
use mathlib.Core.Bool.{Bool, true, false}
use Prim.Native.Nat.{ℕ, zero, suc, ◌+◌, ◌≤◌, ◌<◌}
use native.Mathlib.Omega.{arith}
use lib.ListN.{length}
use lib.Dec.{eqb, ltb}
use borrow.Author.Tests.{lt-ltb, le-ltb, eqb-true}
use Rattle.lists.specs.Members.{In}
use Rattle.graph_spec.specs.Graph.{Edge, Arc, edges_at}
use Rattle.graph_spec.specs.Odd.{one, hit, degree}
use Rattle.graph_spec.specs.Ways.{Joins}
use Rattle.graph_spec.proofs.Sums.{hit_same}
use Rattle.graph_spec.proofs.EdgesAt.{edge_at, edge_at_in, edges_at_all, edges_at_arc}
use Rattle.graph_adjacency.specs.Lists.{Adjacency, first_arc}
use Rattle.graph_adjacency.specs.Follow.{Follows}
use Rattle.graph_adjacency.proofs.Follow.{follows_none, follows_arc}
use Rattle.graph_arrays.specs.Arrays.{EdgesLinked, edges_in}
use Rattle.graph_arrays.proofs.Arrays.{follows_edges}
use Rattle.graph_arrays.proofs.Listing.{Chosen, chosen_few}
use Rattle.walk_spec.specs.Start.{with_edges}

-- ---- they are those of all nodes that pass a test

abbrev pub edges_meet : List Edge → ℕ → Bool
edges_meet es v = ltb 0 (degree es v)

pub with_chosen : (es : List Edge) → Chosen (with_edges es) (edges_meet es)
unfolding with_edges
with_chosen es = record { nil = λ v. refl; step = λ k v. refl }

pub with_few : (es : List Edge) (n : ℕ) → length (with_edges es n 0) ≤ n
with_few es n = chosen_few (with_edges es) (edges_meet es) (with_chosen es) n

-- ---- a node has an edge where its list has a first arc

-- an edge at v counts
degree_some : (es : List Edge) (e : Edge) (v w : ℕ) → In e es → Joins e v w → 0 < degree es v
unfolding degree
degree_some [] e v w i j = absurd i
degree_some (x ∷ es) e v w (inr i) j = omega (arith, degree_some es e v w i j)
degree_some (x ∷ es) e v w (inl p) (inl j) = omega (arith, ap (λ (y : ℕ). hit y v) (ap (λ (z : Edge). z.a) (sym p) ∙ j.0), hit_same v)
degree_some (x ∷ es) e v w (inl p) (inr j) = omega (arith, ap (λ (y : ℕ). hit y v) (ap (λ (z : Edge). z.b) (sym p) ∙ j.1), hit_same v)

-- and where some counts there is one
record EdgeOf (es : List Edge) (v : ℕ) : Type 0 where
  number : ℕ
  is_edge : number < length es
  to : ℕ
  joins : Joins (edge_at es number) v to

degree_edge : (es : List Edge) (v : ℕ) → 0 < degree es v → EdgeOf es v
unfolding degree
degree_edge [] v h = absurd (omega arith)
degree_edge (e ∷ es) v h = go (eqb e.a v) (eqb e.b v) refl refl h (λ k. degree_edge es v k)
  where
    later : EdgeOf es v → EdgeOf (e ∷ es) v
    later k = record { number = suc k.number; is_edge = omega (arith, k.is_edge); to = k.to; joins = k.joins }

    go : (s t : Bool) → eqb e.a v ≡ s → eqb e.b v ≡ t → 0 < one s + one t + degree es v → (0 < degree es v → EdgeOf es v) → EdgeOf (e ∷ es) v
    go true t p q k rec = record { number = 0; is_edge = omega arith; to = e.b; joins = inl (eqb-true e.a v p, refl) }
    go false true p q k rec = record { number = 0; is_edge = omega arith; to = e.a; joins = inr (refl, eqb-true e.b v q) }
    go false false p q k rec = later (rec (omega (arith, k)))

-- in the arrays
module _ (n m : ℕ) (a : Adjacency) (L : EdgesLinked n m a) (v : ℕ) (hv : v < n) where
  follows : Follows a v (first_arc a.heads v) (edges_at (edges_in m a) v)
  follows = follows_edges n m a L v (omega (arith, L.few_nodes))

  has_arc : 0 < degree (edges_in m a) v → 0 < first_arc a.heads v
  has_arc h =
      let k = degree_edge (edges_in m a) v h in
      let r = edges_at_all (edges_in m a) k.number v k.to k.is_edge k.joins in
      go (edges_at (edges_in m a) v) r.arc r.is_in follows
    where
      go : (rs : List Arc) (x : Arc) → In x rs → Follows a v (first_arc a.heads v) rs → 0 < first_arc a.heads v
      go [] x i f = absurd i
      go (r ∷ rs) x i f = (follows_arc a v _ r rs f).some

  no_arc : degree (edges_in m a) v ≡ 0 → first_arc a.heads v ≡ 0
  no_arc h = go (edges_at (edges_in m a) v) (λ r i. i) follows
    where
      go : (rs : List Arc) → ((r : Arc) → In r rs → In r (edges_at (edges_in m a) v)) → Follows a v (first_arc a.heads v) rs → first_arc a.heads v ≡ 0
      go [] w f = follows_none a v _ f
      go (r ∷ rs) w f =
          let b = edges_at_arc (edges_in m a) v r (w r (inl refl)) in
          absurd (omega (arith, h, degree_some (edges_in m a) (edge_at (edges_in m a) r.number) v r.to (edge_at_in (edges_in m a) r.number b.is_edge) b.joins))

  pub arc_some : (first_arc a.heads v ≡ 0 → ⊥) → edges_meet (edges_in m a) v ≡ true
  arc_some d = go (degree (edges_in m a) v) refl
    where
      go : (k : ℕ) → degree (edges_in m a) v ≡ k → ltb 0 k ≡ true
      go zero e = absurd (d (no_arc e))
      go (suc k) e = lt-ltb 0 (suc k) (omega arith)

  pub arc_none : first_arc a.heads v ≡ 0 → edges_meet (edges_in m a) v ≡ false
  arc_none z = go (degree (edges_in m a) v) refl
    where
      go : (k : ℕ) → degree (edges_in m a) v ≡ k → ltb 0 k ≡ false
      go zero e = le-ltb 0 0 (omega arith)
      go (suc k) e = absurd (omega (arith, z, has_arc (omega (arith, e))))
