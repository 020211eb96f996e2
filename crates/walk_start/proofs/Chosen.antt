-- The best of a list of nodes, one after the other.
use mathlib.Core.Path.{◌≡◌, refl, sym, ap, ap₂, ◌∙◌}
use mathlib.Core.List.{List, [], ◌∷◌}
use mathlib.Core.Bool.{Bool, true, false}
use Prim.Native.Nat.{ℕ, suc, ◌+◌, ◌≤◌, ◌<◌}
use native.Mathlib.Numerals.{add-one}
use native.Mathlib.Omega.{arith}
use lib.ListN.{length, get_or, take, drop_of_length-le}
use lib.Seq.{slice, slice-cons, length-take-le}
use Rattle.limits.specs.Limits.{most_nodes}
use Rattle.center.specs.Center.{from_center, better}
use Rattle.drawing_spec.specs.Drawing as drawn
use Rattle.drawing_spec.specs.OnGrid.{OnGrid}
use Rattle.graph_spec.specs.Graph.{point_at}
use Rattle.walk_spec.specs.Start.{distance, best_of, best}
use Rattle.graph_arrays.specs.Arrays.{point_in, nodes_in, NodesHeld}
use Rattle.graph_arrays.specs.NodeList.{NodeList}
use Rattle.graph_arrays.proofs.NodeList.{point_at_lem}
use Rattle.grid.specs.declared.Point.{Point}
use Rattle.walk_start.specs.Better.{point_from, point_of, lies_better, better_of}

-- the code's comparison is the definition's
pub same_better : (s : drawn.Settings) (p q : Point) (a b : ℕ) (r : Bool) → a ≡ from_center s.width s.height p.x p.y → b ≡ from_center s.width s.height q.x q.y
    → r ≡ better (drawn.inside s) a b → r ≡ lies_better s (point_of p) (point_of q)
unfolding distance
same_better s p q a b r ea eb er = er ∙ ap₂ (better (drawn.inside s)) ea eb

-- ---- of two nodes

pub held_on : (n : ℕ) (xs ys : List ℕ) (v : ℕ) (p : Point) → NodesHeld n xs ys → p ≡ point_from (point_in xs ys v) → OnGrid (point_of p)
held_on n xs ys v p h e = rw e (h.xs_on v, h.ys_on v)

module _ (s : drawn.Settings) (n : ℕ) (xs ys : List ℕ) (v u : ℕ) (p q : Point) (hv : v < n) (hu : u < n) (ep : p ≡ point_from (point_in xs ys u)) (eq : q ≡ point_from (point_in xs ys v)) where
  same_test : lies_better s (point_of p) (point_of q) ≡ lies_better s (point_at (nodes_in n xs ys) u) (point_at (nodes_in n xs ys) v)
  same_test = ap₂ (lies_better s) (ap point_of ep ∙ sym (point_at_lem n xs ys u hu)) (ap point_of eq ∙ sym (point_at_lem n xs ys v hv))

  pub better_yes : lies_better s (point_of p) (point_of q) ≡ true → u ≡ better_of s (nodes_in n xs ys) v u
  unfolding better_of
  better_yes t = sym (ap (λ (b : Bool). elim b [ true ↦ u | false ↦ v ]) (sym same_test ∙ t))

  pub better_no : lies_better s (point_of p) (point_of q) ≡ false → v ≡ better_of s (nodes_in n xs ys) v u
  unfolding better_of
  better_no t = sym (ap (λ (b : Bool). elim b [ true ↦ u | false ↦ v ]) (sym same_test ∙ t))

-- ---- of a list

best_of_step : (s : drawn.Settings) (ns : List drawn.Point) (v u : ℕ) (us : List ℕ) → best_of s ns (better_of s ns v u) us ≡ best_of s ns v (u ∷ us)
unfolding best_of better_of
best_of_step s ns v u us = go (lies_better s (point_at ns u) (point_at ns v))
  where
    go : (t : Bool) → best_of s ns (elim t [ true ↦ u | false ↦ v ]) us ≡ elim t [ true ↦ best_of s ns u us | false ↦ best_of s ns v us ]
    go true = refl
    go false = refl

best_cons : (s : drawn.Settings) (ns : List drawn.Point) (v : ℕ) (vs : List ℕ) → best s ns (v ∷ vs) ≡ best_of s ns v vs
unfolding best
best_cons s ns v vs = refl

best_of_nil : (s : drawn.Settings) (ns : List drawn.Point) (v : ℕ) → best_of s ns v [] ≡ v
unfolding best_of
best_of_nil s ns v = refl

none_left : (nodes : List ℕ) (count i : ℕ) → count ≤ length nodes → count ≤ i → slice i count nodes ≡ []
none_left nodes count i l h =
    let short : length (take count nodes) ≤ i = omega (arith, length-take-le count nodes l) in
    drop_of_length-le (take count nodes) short

-- v is the best of those before the place i: with those from there on it gives the best of all
pub record Chosen (s : drawn.Settings) (ns : List drawn.Point) (n : ℕ) (nodes : List ℕ) (count i v : ℕ) : Type 0 where
  pub is : best_of s ns v (slice i count nodes) ≡ best s ns (take count nodes)
  pub node_in : v < n

module _ (s : drawn.Settings) (ns : List drawn.Point) (n : ℕ) (nodes : List ℕ) (count : ℕ) (c : NodeList n most_nodes nodes count) where
  pub chosen_none : count ≡ 0 → 0 ≡ best s ns (take count nodes)
  unfolding best
  chosen_none h = rw h

  pub chosen_first : (v : ℕ) → 0 < count → v ≡ get_or nodes 0 0 → Chosen s ns n nodes count 1 v
  chosen_first v h e = record {
    is = rw e (sym (best_cons s ns (get_or nodes 0 0) (slice 1 count nodes)) ∙ ap (best s ns) (sym (slice-cons 0 count nodes 0 h c.long)));
    node_in = omega (arith, e, c.nodes_in_known 0 h);
  }

  pub chosen_next : (i v u r : ℕ) → i < count → u ≡ get_or nodes i 0 → r ≡ better_of s ns v u → r < n → Chosen s ns n nodes count i v → Chosen s ns n nodes count (i + 1) r
  chosen_next i v u r h e b l k = record {
    is =
        rw (b, add-one i) (best_of_step s ns v u (slice (suc i) count nodes)
        ∙ ap (best_of s ns v) (ap (λ (x : ℕ). x ∷ slice (suc i) count nodes) e ∙ sym (slice-cons i count nodes 0 h c.long)) ∙ k.is);
    node_in = l;
  }

  pub chosen_all : (i v : ℕ) → count ≤ i → Chosen s ns n nodes count i v → v ≡ best s ns (take count nodes)
  chosen_all i v h k = sym (ap (best_of s ns v) (none_left nodes count i c.long h) ∙ best_of_nil s ns v) ∙ k.is
