-- Copies laid along a path in the arrays, one by one: each is that of `lay`.
use mathlib.Core.Path.{◌≡◌, refl, sym, ap, subst, ◌∙◌}
use mathlib.Core.List.{List, [], ◌∷◌, ◌++◌}
use mathlib.Core.Bool.{Bool, true, false}
use Prim.Native.Nat.{ℕ, suc, ◌+◌, ◌-◌, ◌≤◌, ◌<◌}
use native.Mathlib.Numerals.{add-one}
use native.Mathlib.Omega.{arith}
use lib.ListN.{length, get_or, drop, drop_of_length-le}
use lib.Seq.{drop-cons}
use lib.Ieee.{Float, nan, binary64, add}
use borrow.Author.Tests.{eq-eqb, ne_eqb}
use Rattle.limits.specs.Limits.{most_nodes, edge_room}
use Rattle.graph_spec.specs.Graph.{Edge, edge, Arc, edges_at}
use Rattle.graph_adjacency.specs.Lists.{Adjacency, push, next_arc, edge_number, arc_at}
use Rattle.graph_arrays.specs.Arrays.{edges_in, EdgesLinked}
use Rattle.graph_arrays.proofs.Arrays.{pushed_edges, pushed_linked}
use Rattle.repair_spec.specs.Distance.{zero_length}
use Rattle.repair_spec.specs.Copies.{weight_to, Laid, lay, lay_path}
use Rattle.repair_spec.proofs.Copies.{laid}
use Rattle.repair_search.proofs.Along.{From, from_here, from_next, from_end}
use Rattle.repair_copies.specs.Laying.{laid_of, copies_from}

-- ---- the weight of a copy

module _ (v : ℕ) (r : Arc) (rs : List Arc) where
  weight_hit : r.to ≡ v → weight_to v (r ∷ rs) ≡ r.weight
  unfolding weight_to
  weight_hit h = ap (λ (b : Bool). elim b as (λ b. Float) [ true ↦ r.weight | false ↦ weight_to v rs ]) (eq-eqb r.to v h)

  weight_skip : (r.to ≡ v → ⊥) → weight_to v (r ∷ rs) ≡ weight_to v rs
  unfolding weight_to
  weight_skip h = ap (λ (b : Bool). elim b as (λ b. Float) [ true ↦ r.weight | false ↦ weight_to v rs ]) (ne_eqb r.to v h)

weight_none : (v : ℕ) → weight_to v [] ≡ zero_length
unfolding weight_to
weight_none v = refl

-- as code looks for the first of u's arcs that leads to v, at the arc k
module _ (a : Adjacency) (all : List Arc) (u v k : ℕ) (F : From (weight_to v) a all u k (weight_to v all)) where
  pub weight_here : (k ≡ 0 → ⊥) → get_or a.ends (k - 1) 0 ≡ v → get_or a.weights (edge_number k) nan ≡ weight_to v all
  unfolding arc_at
  weight_here h e = let here = from_here (weight_to v) a all u k (weight_to v all) F h in sym (weight_hit v (arc_at a k) here.0 e) ∙ here.1

  pub weight_on : (k ≡ 0 → ⊥) → (get_or a.ends (k - 1) 0 ≡ v → ⊥) → From (weight_to v) a all u (next_arc a.next a.heads u k) (weight_to v all)
  unfolding arc_at
  weight_on h e = from_next (weight_to v) a all u k (weight_to v all) F h (weight_to v) (λ rs. weight_skip v (arc_at a k) rs e)

  pub weight_end : k ≡ 0 → zero_length ≡ weight_to v all
  weight_end h = sym (weight_none v) ∙ from_end (weight_to v) a all u k (weight_to v all) F h

-- e edges are laid up to the node at the place i of the path: from there on the path lays what it is to lay in all
pub record Laying (n : ℕ) (path : List ℕ) (first m : ℕ) (all : Laid) (a : Adjacency) (i e : ℕ) (total : Float) : Type 0 where
  pub from : first ≤ i
  pub most : i < most_nodes
  pub count : e + copies_from i ≡ m + copies_from first
  pub linked : EdgesLinked n e a
  pub rest : lay (get_or path i 0) (drop (suc i) path) (laid_of (edges_in e a) total) ≡ all

path_from : (path : List ℕ) (first : ℕ) (l : Laid) → first < length path → lay (get_or path first 0) (drop (suc first) path) l ≡ lay_path (drop first path) l
unfolding lay_path
path_from path first l h = ap (λ (p : List ℕ). lay_path p l) (sym (drop-cons path first 0 h))

lay_on : (u v : ℕ) (vs : List ℕ) (l : Laid) → lay u (v ∷ vs) l ≡ lay v vs (laid u v l)
unfolding lay
lay_on u v vs l = refl

lay_end : (u : ℕ) (l : Laid) → lay u [] l ≡ l
unfolding lay
lay_end u l = refl

module _ (n : ℕ) (path : List ℕ) (long : length path ≡ most_nodes) (first m : ℕ) (room : m + copies_from first ≤ edge_room) where
  pub laying_begin : (a : Adjacency) (sum : Float) → first < most_nodes → EdgesLinked n m a → Laying n path first m (lay_path (drop first path) (laid_of (edges_in m a) sum)) a first m sum
  laying_begin a sum h E = record {
    from = omega arith;
    most = h;
    count = refl;
    linked = E;
    rest = path_from path first (laid_of (edges_in m a) sum) (omega arith);
  }

  module _ (all : Laid) (a : Adjacency) (i e : ℕ) (total : Float) (Y : Laying n path first m all a i e total) where
    -- the same in other words
    pub laying_moved : (a' : Adjacency) (e' : ℕ) (total' : Float) → a' ≡ a → e' ≡ e → total' ≡ total → Laying n path first m all a' i e' total'
    laying_moved a' e' total' p q r =
        subst (λ (x : Adjacency). Laying n path first m all x i e' total') (sym p)
        (subst (λ (x : ℕ). Laying n path first m all a i x total') (sym q) (subst (λ (x : Float). Laying n path first m all a i e x) (sym r) Y))

    pub laying_end : (i + 1 < most_nodes → ⊥) → (laid_of (edges_in (m + copies_from first) a) total ≡ all) × EdgesLinked n (m + copies_from first) a
    laying_end h =
        let whole : length path ≤ suc i = omega (arith, Y.most) in
        let none : e ≡ m + copies_from first = omega (arith, Y.count, Y.most) in (
          ap (λ (k : ℕ). laid_of (edges_in k a) total) (sym none) ∙ sym (lay_end (get_or path i 0) (laid_of (edges_in e a) total))
              ∙ ap (λ (vs : List ℕ). lay (get_or path i 0) vs (laid_of (edges_in e a) total)) (sym (drop_of_length-le path whole)) ∙ Y.rest,
          subst (λ (k : ℕ). EdgesLinked n k a) none Y.linked,
        )

    -- a copy more
    module _ (more : i + 1 < most_nodes) (u v : ℕ) (is_u : u ≡ get_or path i 0) (is_v : v ≡ get_or path (i + 1) 0) (hu : u < n) (hv : v < n) (apart : u ≡ v → ⊥)
        (w : Float) (is : w ≡ weight_to v (edges_at (edges_in e a) u)) (a' : Adjacency) (pushed : a' ≡ push e u v w a) where
      few : e < edge_room
      few = omega (arith, Y.count)

      -- as the definition lays it
      one_more : laid_of (edges_in (e + 1) a') (add binary64 total w) ≡ laid u v (laid_of (edges_in e a) total)
      one_more =
          ap (λ (k : ℕ). laid_of (edges_in k a') (add binary64 total w)) (add-one e)
          ∙ ap (λ (es : List Edge). laid_of es (add binary64 total w)) (pushed_edges n e u v w a a' Y.linked few hu hv pushed)
          ∙ ap (λ (x : Float). laid_of (edges_in e a ++ (edge u v x ∷ [])) (add binary64 total x)) is

      pub laying_step : Laying n path first m all a' (i + 1) (e + 1) (add binary64 total w)
      laying_step = record {
        from = omega (arith, Y.from);
        most = more;
        count = omega (arith, Y.count);
        linked = subst (λ (k : ℕ). EdgesLinked n k a') (sym (add-one e)) (pushed_linked n e u v w a a' Y.linked few hu hv pushed apart);
        rest =
            let l = laid_of (edges_in e a) total in
            let place : suc i < length path = omega arith in
            let next : i + 1 ≡ suc i = add-one i in
            let at_v : v ≡ get_or path (suc i) 0 = is_v ∙ ap (λ (j : ℕ). get_or path j 0) next in
            let vs = drop (suc (suc i)) path in
            ap (λ (x : Laid). lay (get_or path (i + 1) 0) (drop (suc (i + 1)) path) x) one_more
            ∙ ap (λ (j : ℕ). lay (get_or path j 0) (drop (suc j) path) (laid u v l)) next
            ∙ ap (λ (x : ℕ). lay x vs (laid u v l)) (sym at_v)
            ∙ sym (lay_on u v vs l)
            ∙ ap (λ (x : ℕ). lay u (x ∷ vs) l) at_v
            ∙ ap (λ (xs : List ℕ). lay u xs l) (sym (drop-cons path (suc i) 0 place))
            ∙ ap (λ (x : ℕ). lay x (drop (suc i) path) l) is_u
            ∙ Y.rest;
      }
