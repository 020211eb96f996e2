-- Laws of specs/Ends.
use mathlib.Core.Path.{◌≡◌, refl, sym, ap, ap₂, ◌∙◌}
use mathlib.Core.List.{List, [], ◌∷◌, map}
use Prim.Native.Nat.{ℕ, zero, suc, ◌-◌, ◌≤◌, ◌<◌}
use native.Mathlib.Omega.{arith}
use lib.ListN.{length, get_or, take}
use Rattle.std.specs.Prelude.{Some, None}
use Rattle.limits.specs.Limits.{line_room}
use Rattle.drawing_spec.specs.Drawing as drawn
use Rattle.lists.specs.Members.{All}
use Rattle.graph_spec.specs.Graph.{point_at}
use Rattle.graph_spec.specs.Count.{last_from}
use Rattle.walk_spec.specs.Orient as line
use Rattle.graph_arrays.specs.Arrays.{point_in, nodes_in}
use Rattle.graph_arrays.specs.NodeList.{NodeList, points_along}
use Rattle.graph_arrays.proofs.NodeList.{point_at_lem}
use Rattle.grid.specs.declared.Point.{Point}
use Rattle.walk_start.specs.Better.{point_from}
use Rattle.walk_orient.specs.declared.EndPoints.{EndPoints}
use Rattle.walk_orient.specs.Ends.{ends_from}

abbrev pub both : Point → Point → EndPoints
both p q = record { first = p; last = q }

-- the last of the first suc n elements
last_is : (f : ℕ → drawn.Point) (x : ℕ) (l : List ℕ) (n : ℕ) → n ≤ length l → last_from (f x) (map f (take n l)) ≡ f (get_or (x ∷ l) n 0)
unfolding last_from
last_is f x l zero h = refl
last_is f x [] (suc n) h = absurd (omega arith)
last_is f x (y ∷ l) (suc n) h = last_is f y l n (omega arith)

ends_are : (f : ℕ → drawn.Point) (l : List ℕ) (n : ℕ) → suc n ≤ length l → line.end_points (map f (take (suc n) l)) ≡ line.ends (f (get_or l 0 0)) (f (get_or l n 0))
unfolding line.end_points
ends_are f [] n h = absurd (omega arith)
ends_are f (x ∷ l) n h = ap (line.ends (f x)) (last_is f x l n (omega arith))

module _ (n : ℕ) (xs ys nodes : List ℕ) (count : ℕ) (l : NodeList n line_room nodes count) where
  pub no_ends : count ≡ 0 → None ≡ ends_from (line.end_points (points_along n xs ys nodes count))
  unfolding line.end_points
  no_ends h = rw h

  -- the point of a node of the line
  at_is : (j v : ℕ) (a : Point) → j < count → v ≡ get_or nodes j 0 → a ≡ point_from (point_in xs ys v) → a ≡ point_from (point_at (nodes_in n xs ys) (get_or nodes j 0))
  at_is j v a h hv ea = ea ∙ ap (λ (u : ℕ). point_from (point_in xs ys u)) hv ∙ ap point_from (sym (point_at_lem n xs ys (get_or nodes j 0) (l.nodes_in_known j h)))

  pub some_ends : (a b : Point) (v w : ℕ) → 0 < count → v ≡ get_or nodes 0 0 → w ≡ get_or nodes (count - 1) 0 → a ≡ point_from (point_in xs ys v) → b ≡ point_from (point_in xs ys w)
      → Some (both a b) ≡ ends_from (line.end_points (points_along n xs ys nodes count))
  some_ends a b v w h hv hw ea eb =
      let one : count ≡ suc (count - 1) = omega arith in
      let long : suc (count - 1) ≤ length nodes = omega (arith, l.long) in
      ap₂ (λ (p q : Point). Some (both p q)) (at_is 0 v a h hv ea) (at_is (count - 1) w b (omega arith) hw eb)
      ∙ ap ends_from (sym (ends_are (point_at (nodes_in n xs ys)) nodes (count - 1) long) ∙ ap (λ (k : ℕ). line.end_points (points_along n xs ys nodes k)) (sym one))

-- what holds of every point holds of both ends
last_keeps : (P : drawn.Point → Type 0) (p : drawn.Point) (ps : List drawn.Point) → P p → All P ps → P (last_from p ps)
unfolding last_from
last_keeps P p [] h a = h
last_keeps P p (q ∷ ps) h a = last_keeps P q ps a.0 a.1

pub ends_keep : (P : drawn.Point → Type 0) (ps : List drawn.Point) (p q : drawn.Point) → All P ps → line.end_points ps ≡ line.ends p q → P p × P q
unfolding line.end_points
ends_keep P [] p q a e = absurd (let z : ◌≡◌ {A = ℕ} 0 1 = cc in omega arith)
ends_keep P (x ∷ ps) p q a e =
    let ep : x ≡ p = cc in
    let eq : last_from x ps ≡ q = cc in
    (rw (← ep) a.0, rw (← eq) (last_keeps P x ps a.0 a.1))
