-- The ends of a drawing's lines, taken out of its flat arrays. Line l has the points from starts[l] to starts[l + 1].
use Rattle.std.specs.Prelude.{List, true, false, ◌≡◌, ℕ, zero, suc, ◌+◌, ◌-◌, ◌/◌, ◌%◌, ◌≤◌, ◌<◌, length, get_or, set, ltb, ◌*◌}
use Rattle.limits.specs.Limits.{most_lines, most_points}
use Rattle.grid.specs.Grid.{origin}
use Rattle.grid.specs.declared.Point as code
use Rattle.file_records.specs.Body.{point_from}
use Rattle.file_records.specs.declared.MstEdge.{MstEdge}
use Rattle.links_tree.specs.declared.Ends.{Ends}
use Rattle.links_tree.specs.declared.Ranked.{Ranked}
use Rattle.links_tree.specs.Packed.{EndsOn, ends_in, end_in}
use Rattle.links_made.specs.declared.LineEnds.{LineEnds}

-- every start is a place among the points
pub record StartsIn (starts : List ℕ) : Type 0 where
  pub low : (i : ℕ) → get_or starts i 0 ≤ most_points

-- every coordinate is a place of the grid
pub record PlacesOn (vs : List ℕ) : Type 0 where
  pub on : (i : ℕ) → get_or vs i 0 ≤ 2 * origin

-- the point i
abbrev pub place_in : List ℕ → List ℕ → ℕ → code.Point
place_in xs ys i = record { x = get_or xs i 0; y = get_or ys i 0 }

abbrev pub line_ends : List ℕ → List Ends → LineEnds
line_ends has es = record { has = has; ends = es }

-- a line with points is marked
unfoldable pub mark_at : List ℕ → List ℕ → ℕ → List ℕ
mark_at starts has l = elim (ltb (get_or starts l 0) (get_or starts (l + 1) 0)) [ true ↦ set has l 1 | false ↦ has ]

-- and its ends are taken
unfoldable pub ends_at : List ℕ → List ℕ → List ℕ → List Ends → ℕ → List Ends
ends_at starts xs ys es l =
    elim (ltb (get_or starts l 0) (get_or starts (l + 1) 0)) [ true ↦ set es l (record { start = place_in xs ys (get_or starts l 0); end = place_in xs ys (get_or starts (l + 1) 0 - 1) }) | false ↦ es ]

-- the lines below i are marked where they have points, and no line from i on is
pub record Marked (starts has : List ℕ) (i : ℕ) : Type 0 where
  pub long : most_lines ≤ length has
  pub some : (l : ℕ) → l < i → get_or starts l 0 < get_or starts (l + 1) 0 → get_or has l 0 ≡ 1
  pub none : (l : ℕ) → l < i → get_or starts (l + 1) 0 ≤ get_or starts l 0 → get_or has l 0 ≡ 0
  pub rest : (l : ℕ) → i ≤ l → get_or has l 0 ≡ 0

-- the ends of those lines are taken
pub record Ended (starts xs ys : List ℕ) (es : List Ends) (i : ℕ) : Type 0 where
  pub long : most_lines ≤ length es
  pub on : EndsOn es
  pub first : (l : ℕ) → l < i → get_or starts l 0 < get_or starts (l + 1) 0 → (ends_in es l).start ≡ place_in xs ys (get_or starts l 0)
  pub last : (l : ℕ) → l < i → get_or starts l 0 < get_or starts (l + 1) 0 → (ends_in es l).end ≡ place_in xs ys (get_or starts (l + 1) 0 - 1)

-- ---- a candidate as a link

-- segment 0 at the start of the line l, the last segment at its end, 0 for a dot
unfoldable pub segment_in : List ℕ → ℕ → ℕ → ℕ
segment_in starts l zero = 0
segment_in starts l (suc e) = get_or starts (l + 1) 0 - get_or starts l 0 - 2

unfoldable pub edge_in : List ℕ → List Ends → Ranked → MstEdge
edge_in starts es r = record {
  poly_a = r.code / 1024;
  seg_a = segment_in starts (r.code / 1024) (r.code / 2 % 2);
  poly_b = r.code / 4 % 256;
  seg_b = segment_in starts (r.code / 4 % 256) (r.code % 2);
  point_a = point_from (end_in es (r.code / 1024) (r.code / 2 % 2));
  point_b = point_from (end_in es (r.code / 4 % 256) (r.code % 2));
}
