-- Laws of specs/OnGrid: a drawing has all its points on the grid just where check 7 passes its sketch.
use Rattle.std.specs.Prelude.{Option, Some, None}
use mathlib.Core.Path.{◌≡◌, refl, ap}
use mathlib.Core.Logic.{◌↔◌}
use mathlib.Core.List.{List, [], ◌∷◌, map}
use mathlib.Core.Bool.{Bool, true, false, ◌&&◌, true≢false, cond}
use Prim.Native.Nat.{ℕ, ◌+◌, ◌-◌, ◌*◌, ◌/◌, ◌^◌, ◌≤◌}
use native.Mathlib.Omega.{arith}
use lib.Ieee.{Float, nan, inf, fin, up, down, binary64, of_bits}
use Rattle.grid.specs.Grid.{origin, origin_of_grid, grid_exponent, place_on_grid, place_of, read_on_grid, read_place, coordinate, on_grid, place_at}
use Rattle.grid.proofs.Same.{passed}
use Rattle.grid.proofs.Back.{place_coordinate}
use Rattle.lists.specs.Members.{All}
use Rattle.drawing_spec.specs.Drawing.{PointOf, LinkOf, Pattern, Sketch, over_point, over_link, over}
use Rattle.drawing_spec.specs.Read.{Record, placed, sketch_of, drawing_of, every, point_fits, coordinates_fit}
use Rattle.drawing_spec.specs.OnGrid.{AtEnds, OnGrid}
use Rattle.drawing_spec.proofs.Same.{both}

-- ---- a place is never past the grid

place_below : (g : ℕ) (x : Float) (p : ℕ) → place_on_grid g x ≡ Some p → p ≤ 2 * origin_of_grid g
unfolding place_on_grid
place_below g nan p e = absurd (true≢false (cc))
place_below g (inf s) p e = absurd (true≢false (cc))
place_below g (fin s m x) p e = let is = passed (origin_of_grid g) s (m * up x * 2 ^ g) (down x) p e in go s is.is is.near
  where
    go : (s : Bool) → p ≡ cond s (origin_of_grid g - m * up x * 2 ^ g / down x) (origin_of_grid g + m * up x * 2 ^ g / down x) → m * up x * 2 ^ g / down x ≤ origin_of_grid g → p ≤ 2 * origin_of_grid g
    go true i n = omega arith
    go false i n = omega arith

-- a coordinate that check 7 passes is read as a place of the grid
pub read_below : (b : ℕ) → on_grid (read_place b) ≡ true → place_at (read_place b) ≤ 2 * origin
unfolding read_on_grid
read_below b h = go (read_place b) refl h
  where
    go : (x : Option ℕ) → read_place b ≡ x → on_grid x ≡ true → place_at x ≤ 2 * origin
    go (Some p) e h = place_below grid_exponent (of_bits binary64 b) p e
    go None e h = absurd (true≢false (cc))

-- and the coordinate at a place is read as that place
pub place_back : (p : ℕ) → p ≤ 2 * origin → place_at (place_of (coordinate p)) ≡ p
place_back p h = ap place_at (place_coordinate p h)

-- one that it refuses is nowhere, and so past the grid
pub below_read : (b : ℕ) → place_at (read_place b) ≤ 2 * origin → on_grid (read_place b) ≡ true
below_read b h = go (read_place b) h
  where
    go : (x : Option ℕ) → place_at x ≤ 2 * origin → on_grid x ≡ true
    go (Some p) h = refl
    go None h = absurd (omega arith)

-- ---- a sketch that check 7 passes is a drawing on the grid

point_on : (p : PointOf Pattern) → point_fits p ≡ true → OnGrid (over_point placed p)
point_on p h = let t = both (on_grid (read_place p.x.bits)) (on_grid (read_place p.y.bits)) h in (read_below p.x.bits t.0, read_below p.y.bits t.1)

points_on : (l : List (PointOf Pattern)) → every (λ (p : PointOf Pattern). point_fits p) l ≡ true → All OnGrid (map (over_point placed) l)
unfolding every
points_on [] h = tt
points_on (p ∷ l) h = let t = both (point_fits p) (every (λ (p : PointOf Pattern). point_fits p) l) h in (point_on p t.0, points_on l t.1)

all_lines_on : (ls : List (List (PointOf Pattern))) → every (λ (l : List (PointOf Pattern)). every (λ (p : PointOf Pattern). point_fits p) l) ls ≡ true → All (All OnGrid) (map (map (over_point placed)) ls)
unfolding every
all_lines_on [] h = tt
all_lines_on (l ∷ ls) h =
    let t = both (every (λ (p : PointOf Pattern). point_fits p) l) (every (λ (l : List (PointOf Pattern)). every (λ (p : PointOf Pattern). point_fits p) l) ls) h in
    (points_on l t.0, all_lines_on ls t.1)

all_links_on : (ks : List (LinkOf Pattern)) → every (λ (l : LinkOf Pattern). point_fits l.first.point && point_fits l.second.point) ks ≡ true → All (AtEnds OnGrid) (map (over_link placed) ks)
unfolding every
all_links_on [] h = tt
all_links_on (k ∷ ks) h =
    let t = both (point_fits k.first.point && point_fits k.second.point) (every (λ (l : LinkOf Pattern). point_fits l.first.point && point_fits l.second.point) ks) h in
    let u = both (point_fits k.first.point) (point_fits k.second.point) t.0 in
    ((point_on k.first.point u.0, point_on k.second.point u.1), all_links_on ks t.1)

-- ---- and where the drawing is on the grid, check 7 passes the sketch

both_fit : (a b : Bool) → a ≡ true → b ≡ true → (a && b) ≡ true
both_fit a b e f = rw (e, f)

point_fits_lem : (p : PointOf Pattern) → OnGrid (over_point placed p) → point_fits p ≡ true
point_fits_lem p o = both_fit (on_grid (read_place p.x.bits)) (on_grid (read_place p.y.bits)) (below_read p.x.bits o.0) (below_read p.y.bits o.1)

points_fit : (l : List (PointOf Pattern)) → All OnGrid (map (over_point placed) l) → every (λ (p : PointOf Pattern). point_fits p) l ≡ true
unfolding every
points_fit [] o = refl
points_fit (p ∷ l) o = both_fit (point_fits p) _ (point_fits_lem p o.0) (points_fit l o.1)

all_lines_fit : (ls : List (List (PointOf Pattern))) → All (All OnGrid) (map (map (over_point placed)) ls) → every (λ (l : List (PointOf Pattern)). every (λ (p : PointOf Pattern). point_fits p) l) ls ≡ true
unfolding every
all_lines_fit [] o = refl
all_lines_fit (l ∷ ls) o = both_fit (every (λ (p : PointOf Pattern). point_fits p) l) _ (points_fit l o.0) (all_lines_fit ls o.1)

all_links_fit : (ks : List (LinkOf Pattern)) → All (AtEnds OnGrid) (map (over_link placed) ks) → every (λ (l : LinkOf Pattern). point_fits l.first.point && point_fits l.second.point) ks ≡ true
unfolding every
all_links_fit [] o = refl
all_links_fit (k ∷ ks) o =
    both_fit (point_fits k.first.point && point_fits k.second.point) _
    (both_fit (point_fits k.first.point) (point_fits k.second.point) (point_fits_lem k.first.point o.0.0) (point_fits_lem k.second.point o.0.1))
    (all_links_fit ks o.1)

pub on_grid_fits : (s : Sketch) → (coordinates_fit s ≡ true) ↔ (All (All OnGrid) (over placed s).lines × All (AtEnds OnGrid) (over placed s).links)
unfolding coordinates_fit over
on_grid_fits s = (
  λ h. (let t = both (every (λ (l : List (PointOf Pattern)). every (λ (p : PointOf Pattern). point_fits p) l) s.lines) _ h in (all_lines_on s.lines t.0, all_links_on s.links t.1)),
  λ o. both_fit (every (λ (l : List (PointOf Pattern)). every (λ (p : PointOf Pattern). point_fits p) l) s.lines) _ (all_lines_fit s.lines o.0) (all_links_fit s.links o.1),
)

pub lines_on : (rs : List Record) → coordinates_fit (sketch_of rs) ≡ true → All (All OnGrid) (drawing_of rs).lines
unfolding drawing_of
lines_on rs h = ((on_grid_fits (sketch_of rs)).0 h).0

pub links_on : (rs : List Record) → coordinates_fit (sketch_of rs) ≡ true → All (AtEnds OnGrid) (drawing_of rs).links
unfolding drawing_of
links_on rs h = ((on_grid_fits (sketch_of rs)).0 h).1
