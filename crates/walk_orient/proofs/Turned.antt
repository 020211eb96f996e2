-- The line, turned or as it is.
use mathlib.Core.Path.{◌≡◌, refl, sym, ap, ap₂, ◌∙◌}
use mathlib.Core.List.{List, [], ◌∷◌, ◌++◌, map, map-append, reverse, reverse-cons}
use mathlib.Core.Bool.{true, false}
use Prim.Native.Nat.{ℕ, ◌≤◌}
use native.Mathlib.Omega.{arith}
use lib.ListN.{length, take}
use lib.Seq.{take-append_seam, length-take-le}
use Rattle.std.specs.Prelude.{Option, Some, None}
use Rattle.drawing_spec.specs.Drawing as drawn
use Rattle.drawing_spec.specs.OnGrid.{OnGrid}
use Rattle.graph_spec.specs.Graph.{point_at}
use Rattle.walk_spec.specs.Orient as line
use Rattle.graph_arrays.specs.Arrays.{nodes_in, NodesHeld}
use Rattle.graph_arrays.specs.NodeList.{points_along}
use Rattle.graph_arrays.proofs.NodeList.{points_on}
use Rattle.grid.specs.declared.Point.{Point}
use Rattle.walk_start.specs.Better.{point_from, point_of, lies_better}
use Rattle.walk_orient.specs.declared.EndPoints.{EndPoints}
use Rattle.walk_orient.specs.Ends.{ends_from}
use Rattle.walk_orient.proofs.Ends.{both, ends_keep}

-- ---- the definition by cases

module _ (s : drawn.Settings) (l : List drawn.Point) where
  orient_empty : line.end_points l ≡ line.empty → line.orient s l ≡ l
  unfolding line.orient
  orient_empty e = rw (line.orient, e)

  orient_turned : (p q : drawn.Point) → line.end_points l ≡ line.ends p q → lies_better s q p ≡ true → line.orient s l ≡ reverse l
  unfolding line.orient
  orient_turned p q e t = rw (line.orient, e, t)

  orient_kept : (p q : drawn.Point) → line.end_points l ≡ line.ends p q → lies_better s q p ≡ false → line.orient s l ≡ l
  unfolding line.orient
  orient_kept p q e t = rw (line.orient, e, t)

map_reverse : (f : ℕ → drawn.Point) (l : List ℕ) → map f (reverse l) ≡ reverse (map f l)
map_reverse f [] = refl
map_reverse f (x ∷ l) = ap (map f) (reverse-cons x l) ∙ map-append f (reverse l) (x ∷ []) ∙ ap (λ (m : List drawn.Point). m ++ (f x ∷ [])) (map_reverse f l) ∙ sym (reverse-cons (f x) (map f l))

-- the two points that the code found are those of the definition
record Found (e : line.EndPoints) (a b : Point) : Type 0 where
  is : e ≡ line.ends (point_of a) (point_of b)

found : (e : line.EndPoints) (a b : Point) → Some (both a b) ≡ ends_from e → Found e a b
found (line.ends p q) a b h =
    let e : both a b ≡ both (point_from p) (point_from q) = cc in
    let ea : a ≡ point_from p = ap (λ (r : EndPoints). r.first) e in
    let eb : b ≡ point_from q = ap (λ (r : EndPoints). r.last) e in
    record { is = ap₂ line.ends (ap point_of (sym ea)) (ap point_of (sym eb)) }
found line.empty a b h = absurd (let z : ◌≡◌ {A = ℕ} 0 1 = cc in omega arith)

none : (e : line.EndPoints) → None ≡ ends_from e → e ≡ line.empty
none (line.ends p q) h = absurd (let z : ◌≡◌ {A = ℕ} 0 1 = cc in omega arith)
none line.empty h = refl

module _ (s : drawn.Settings) (n : ℕ) (xs ys nodes : List ℕ) (count : ℕ) (r : Option EndPoints) (is : r ≡ ends_from (line.end_points (points_along n xs ys nodes count))) where
  pub turned_empty : r ≡ None → points_along n xs ys nodes count ≡ line.orient s (points_along n xs ys nodes count)
  turned_empty k = sym (orient_empty s (points_along n xs ys nodes count) (none (line.end_points (points_along n xs ys nodes count)) (sym k ∙ is)))

  module _ (a b : Point) (k : r ≡ Some (both a b)) where
    at_ends : line.end_points (points_along n xs ys nodes count) ≡ line.ends (point_of a) (point_of b)
    at_ends = (found (line.end_points (points_along n xs ys nodes count)) a b (sym k ∙ is)).is

    -- both are on the grid
    pub ends_on : NodesHeld n xs ys → OnGrid (point_of a) × OnGrid (point_of b)
    ends_on h = ends_keep OnGrid (points_along n xs ys nodes count) (point_of a) (point_of b) (points_on n xs ys h (take count nodes)) at_ends

    pub turned_kept : lies_better s (point_of b) (point_of a) ≡ false → points_along n xs ys nodes count ≡ line.orient s (points_along n xs ys nodes count)
    turned_kept t = sym (orient_kept s (points_along n xs ys nodes count) (point_of a) (point_of b) at_ends t)

    pub turned_round : (nodes' : List ℕ) → take count nodes' ≡ reverse (take count nodes) → lies_better s (point_of b) (point_of a) ≡ true
        → points_along n xs ys nodes' count ≡ line.orient s (points_along n xs ys nodes count)
    turned_round nodes' e t =
        ap (map (point_at (nodes_in n xs ys))) e ∙ map_reverse (point_at (nodes_in n xs ys)) (take count nodes)
        ∙ sym (orient_turned s (points_along n xs ys nodes count) (point_of a) (point_of b) at_ends t)

-- what stands in front of the rest, of what was turned
pub front_is : (nodes front rest : List ℕ) (count : ℕ) → count ≤ length nodes → length front ≡ length (take count nodes) → front ≡ reverse (take count nodes)
    → take count (front ++ rest) ≡ reverse (take count nodes)
front_is nodes front rest count h long e =
    let all : count ≡ length front = omega (arith, long, length-take-le count nodes h) in
    ap (λ (k : ℕ). take k (front ++ rest)) all ∙ take-append_seam front rest ∙ e
