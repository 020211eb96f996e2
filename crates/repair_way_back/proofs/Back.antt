-- The way back in the arrays, by its steps: each is that of `way_back`.
use mathlib.Core.Path.{◌≡◌, refl, sym, ap, subst, ◌∙◌}
use mathlib.Core.List.{List, [], ◌∷◌}
use mathlib.Core.Bool.{Bool, true, false, ◌&&◌, ◌||◌, not}
use Prim.Native.Nat.{ℕ, suc, ◌-◌, ◌≤◌, ◌<◌}
use native.Mathlib.Nat.{le_antisymm}
use native.Mathlib.Decide.{dec_le}
use native.Mathlib.Omega.{arith}
use lib.ListN.{length, get_or, set, drop, replicate, length-set, length-replicate, get_or-replicate, drop_of_length-le}
use lib.Seq.{drop-cons, drop-set-lt, get_or-set_same, get_or-set_other}
use lib.Dec.{eqb}
use lib.Ieee.{Float, nan}
use borrow.Author.Tests.{eq-eqb, ne_eqb}
use Rattle.limits.specs.Limits.{most_nodes}
use Rattle.graph_spec.specs.Graph.{Edge, Arc, edges_at}
use Rattle.graph_adjacency.specs.Lists.{Adjacency, next_arc, edge_number, arc_at}
use Rattle.graph_arrays.specs.Arrays.{edges_in, EdgesLinked}
use Rattle.repair_spec.specs.Distance.{infinity, distance_at}
use Rattle.repair_spec.specs.Retrace.{Step, to, none, Path, found, error, on_way_back, member, step_back, way_back}
use Rattle.lists.proofs.Elements.{get_d_inside}
use Rattle.repair_search.proofs.Along.{From, Known, from_here, from_next, from_end}
use Rattle.repair_way_back.specs.Back.{fitting}

-- ---- laws of the definitions

abbrev test : List Float → Float → List ℕ → Arc → Bool
test ds c visited r = not (member r.to visited) && on_way_back (distance_at ds r.to) r.weight c

module _ (ds : List Float) (c : Float) (visited : List ℕ) (r : Arc) (rs : List Arc) where
  step_hit : test ds c visited r ≡ true → step_back ds c visited (r ∷ rs) ≡ to r.to
  unfolding step_back
  step_hit h = ap (λ (b : Bool). elim b as (λ b. Step) [ true ↦ to r.to | false ↦ step_back ds c visited rs ]) h

  step_skip : test ds c visited r ≡ false → step_back ds c visited (r ∷ rs) ≡ step_back ds c visited rs
  unfolding step_back
  step_skip h = ap (λ (b : Bool). elim b as (λ b. Step) [ true ↦ to r.to | false ↦ step_back ds c visited rs ]) h

step_none : (ds : List Float) (c : Float) (visited : List ℕ) → step_back ds c visited [] ≡ none
unfolding step_back
step_none ds c visited = refl

module _ (es : List Edge) (ds : List Float) (s : ℕ) where
  way_end : (v : ℕ) (after : List ℕ) → way_back 0 es ds s v after ≡ error
  unfolding way_back
  way_end v after = refl

  module _ (k v : ℕ) (after : List ℕ) where
    way_here : v ≡ s → way_back (suc k) es ds s v after ≡ found (v ∷ after)
    unfolding way_back
    way_here h =
        ap (λ (b : Bool). elim b as (λ b. Path) [
          | true ↦ found (v ∷ after)
          | false ↦ elim (step_back ds (distance_at ds v) (v ∷ after) (edges_at es v)) as (λ p. Path) [ to u ↦ way_back k es ds s u (v ∷ after) | none ↦ error ]
        ]) (eq-eqb v s h)

    way_on : (v ≡ s → ⊥) → (p : Step) → step_back ds (distance_at ds v) (v ∷ after) (edges_at es v) ≡ p
        → way_back (suc k) es ds s v after ≡ elim p [ to u ↦ way_back k es ds s u (v ∷ after) | none ↦ error ]
    unfolding way_back
    way_on h p e =
        ap (λ (b : Bool). elim b as (λ b. Path) [
          | true ↦ found (v ∷ after)
          | false ↦ elim (step_back ds (distance_at ds v) (v ∷ after) (edges_at es v)) as (λ p. Path) [ to u ↦ way_back k es ds s u (v ∷ after) | none ↦ error ]
        ]) (ne_eqb v s h)
        ∙ ap (λ (q : Step). elim q as (λ q. Path) [ to u ↦ way_back k es ds s u (v ∷ after) | none ↦ error ]) e

-- as the code finds it, by the arc's node u and its edge e
module _ (a : Adjacency) (ds : List Float) (seen : List Bool) (v k u : ℕ) (is_to : u ≡ get_or a.ends (k - 1) 0) where
  pub fitting_seen : get_or seen u false ≡ true → false ≡ fitting a ds seen v k
  unfolding fitting
  fitting_seen h = rw (← is_to, h)

  pub fitting_back : get_or seen u false ≡ false → (e : ℕ) → e ≡ edge_number k → on_way_back (get_or ds u nan) (get_or a.weights e nan) (get_or ds v nan) ≡ fitting a ds seen v k
  unfolding fitting
  fitting_back h e is_edge = rw (← is_to, ← is_edge, h)

-- the nodes seen are those on the way
abbrev Marked : List Bool → List ℕ → Type 0
Marked seen visited = (u : ℕ) → u < most_nodes → get_or seen u false ≡ member u visited

marked_none : Marked (replicate most_nodes false) []
unfolding member
marked_none u l = get_or-replicate most_nodes u false false l

marked_more : (seen : List Bool) (visited : List ℕ) (v : ℕ) → v < length seen → Marked seen visited → Marked (set seen v true) (v ∷ visited)
unfolding member
marked_more seen visited v h m u l = elim (dec_le u v) [
  | yes a ↦ elim (dec_le v u) [
    | yes b ↦
        let e : u ≡ v = le_antisymm a b in
        ap (λ (x : ℕ). get_or (set seen v true) x false) e ∙ get_or-set_same seen v true false h ∙ sym (ap (λ (b : Bool). b || member u visited) (eq-eqb u v e))
    | no b ↦ other (omega arith)
  ]
  | no a ↦ other (omega arith)
]
  where
    other : (u ≡ v → ⊥) → get_or (set seen v true) u false ≡ (eqb u v || member u visited)
    other q = get_or-set_other seen v u true false q ∙ m u l ∙ sym (ap (λ (b : Bool). b || member u visited) (ne_eqb u v q))

fitting_is : (g : Adjacency) (ds : List Float) (seen : List Bool) (visited : List ℕ) (v k : ℕ) → length ds ≡ most_nodes → Marked seen visited → v < most_nodes
    → get_or g.ends (k - 1) 0 < most_nodes → fitting g ds seen v k ≡ test ds (distance_at ds v) visited (arc_at g k)
unfolding fitting arc_at
fitting_is g ds seen visited v k long m hv hu =
    let u = get_or g.ends (k - 1) 0 in
    let w = get_or g.weights (edge_number k) nan in
    ap (λ (b : Bool). not b && on_way_back (get_or ds u nan) w (get_or ds v nan)) (m u hu)
    ∙ ap (λ (d : Float). not (member u visited) && on_way_back d w (get_or ds v nan)) (get_d_inside ds u nan infinity (omega arith))
    ∙ ap (λ (d : Float). not (member u visited) && on_way_back (distance_at ds u) w d) (get_d_inside ds v nan infinity (omega arith))

-- at the node v; the nodes after it stand in `path` from the place `at` on, and the way back from v is the one from t
pub record Going (n : ℕ) (es : List Edge) (ds : List Float) (s t v at : ℕ) (path : List ℕ) (seen : List Bool) : Type 0 where
  pub is_node : v < n
  pub most : at ≤ most_nodes
  pub path_long : length path ≡ most_nodes
  pub seen_long : length seen ≡ most_nodes
  pub marked : Marked seen (drop at path)
  pub rest : way_back (at - (most_nodes - n)) es ds s v (drop at path) ≡ way_back n es ds s t []

module _ (n m : ℕ) (a : Adjacency) (E : EdgesLinked n m a) (ds : List Float) (long : length ds ≡ most_nodes) (s t : ℕ) where
  abbrev es : List Edge
  es = edges_in m a

  abbrev few : n ≤ most_nodes
  few = E.few_nodes

  pub going_begin : t < n → (path : List ℕ) → length path ≡ most_nodes → Going n es ds s t t most_nodes path (replicate most_nodes false)
  going_begin l path p =
      let none_yet : drop most_nodes path ≡ [] = (let all : length path ≤ most_nodes = omega arith in drop_of_length-le path all) in
      let steps : most_nodes - (most_nodes - n) ≡ n = omega (arith, few) in
      record {
        is_node = l;
        most = omega arith;
        path_long = p;
        seen_long = length-replicate most_nodes false;
        marked = subst (Marked (replicate most_nodes false)) (sym none_yet) marked_none;
        rest = ap (λ (k : ℕ). way_back k es ds s t (drop most_nodes path)) steps ∙ ap (way_back n es ds s t) none_yet;
      }

  module _ (v at : ℕ) (path : List ℕ) (seen : List Bool) (W : Going n es ds s t v at path seen) where
    pub going_end : at ≤ most_nodes - n → error ≡ way_back n es ds s t []
    going_end h =
        let no_steps : at - (most_nodes - n) ≡ 0 = omega arith in
        sym (way_end es ds s v (drop at path)) ∙ ap (λ (k : ℕ). way_back k es ds s v (drop at path)) (sym no_steps) ∙ W.rest

    -- a step more: v is written down, and marked
    module _ (i : ℕ) (next : suc i ≡ at) (more : most_nodes - n < at) where
      place : i < length path
      place = omega (arith, W.path_long, W.most)

      -- the path with v
      written : drop i (set path i v) ≡ v ∷ drop at path
      written =
          let p' = set path i v in
          drop-cons p' i 0 (subst (λ (m : ℕ). i < m) (sym (length-set path i v)) place)
          ∙ ap (λ (x : ℕ). x ∷ drop (suc i) p') (get_or-set_same path i v 0 place)
          ∙ ap (λ (x : List ℕ). v ∷ x) (drop-set-lt (suc i) path i v (omega arith) ∙ ap (λ (m : ℕ). drop m path) next)

      pub going_long : length (set path i v) ≡ most_nodes
      going_long = length-set path i v ∙ W.path_long

      -- what is left, by one step
      on : way_back (suc (i - (most_nodes - n))) es ds s v (drop at path) ≡ way_back n es ds s t []
      on = let steps : suc (i - (most_nodes - n)) ≡ at - (most_nodes - n) = omega arith in ap (λ (k : ℕ). way_back k es ds s v (drop at path)) steps ∙ W.rest

      pub going_here : v ≡ s → found (drop i (set path i v)) ≡ way_back n es ds s t []
      going_here h = ap found written ∙ sym (way_here es ds s (i - (most_nodes - n)) v (drop at path) h) ∙ on

      seen_more : Marked (set seen v true) (drop i (set path i v))
      seen_more = subst (Marked (set seen v true)) (sym written) (marked_more seen (drop at path) v (omega (arith, W.seen_long, W.is_node, few)) W.marked)

      -- along the arcs of v
      abbrev pub step_from : List Arc → Step
      step_from = step_back ds (distance_at ds v) (drop i (set path i v))

      module _ (away : v ≡ s → ⊥) (k : ℕ) (F : From step_from a (edges_at es v) v k (step_from (edges_at es v))) where
        by_step : (p : Step) → step_from (edges_at es v) ≡ p → elim p [ to u ↦ way_back (i - (most_nodes - n)) es ds s u (v ∷ drop at path) | none ↦ error ] ≡ way_back n es ds s t []
        by_step p e =
            sym (way_on es ds s (i - (most_nodes - n)) v (drop at path) away p (ap (λ (x : List ℕ). step_back ds (distance_at ds v) x (edges_at es v)) (sym written) ∙ e)) ∙ on

        pub going_none : k ≡ 0 → error ≡ way_back n es ds s t []
        going_none h = by_step none (sym (from_end step_from a (edges_at es v) v k _ F h) ∙ step_none ds (distance_at ds v) _)

        module _ (some : k ≡ 0 → ⊥) (K : Known n a (edges_at es v) v k) where
          arc_test : fitting a ds (set seen v true) v k ≡ test ds (distance_at ds v) (drop i (set path i v)) (arc_at a k)
          arc_test = fitting_is a ds (set seen v true) _ v k long seen_more (omega (arith, W.is_node, few)) (omega (arith, K.to, few))

          pub going_skip : fitting a ds (set seen v true) v k ≡ false → From step_from a (edges_at es v) v (next_arc a.next a.heads v k) (step_from (edges_at es v))
          going_skip h = from_next step_from a (edges_at es v) v k _ F some step_from (λ rs. step_skip ds (distance_at ds v) _ (arc_at a k) rs (sym arc_test ∙ h))

          pub going_on : fitting a ds (set seen v true) v k ≡ true
              → Going n es ds s t (get_or a.ends (k - 1) 0) i (set path i v) (set seen v true)
          unfolding arc_at
          going_on h = record {
            is_node = K.to;
            most = omega (arith, W.most);
            path_long = going_long;
            seen_long = length-set seen v true ∙ W.seen_long;
            marked = seen_more;
            rest =
                let here = from_here step_from a (edges_at es v) v k _ F some in
                ap (way_back (i - (most_nodes - n)) es ds s (get_or a.ends (k - 1) 0)) written
                ∙ by_step (to (get_or a.ends (k - 1) 0)) (sym here.1 ∙ step_hit ds (distance_at ds v) _ (arc_at a k) here.0 (sym arc_test ∙ h));
          }
