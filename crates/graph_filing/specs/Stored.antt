-- The ends of links filed by segment in flat lists, with their places.
use Rattle.std.specs.Prelude.{List, ℕ, zero, suc, ◌+◌, ◌*◌, ◌<◌, get_or, set}
use Rattle.limits.specs.Limits.{most_lines, most_points}
use Rattle.drawing_spec.specs.Drawing.{Point}
use Rattle.graph_segment_ends.specs.Ends.{filed, file_end, Store, with_filed}
use Rattle.file_records.specs.declared.MstEdge.{MstEdge}
use Rattle.file_drawing.specs.Held.{past_end}
use Rattle.file_drawing.specs.Back.{point_back}
use Rattle.graph_filing.specs.Floats.{IsCoordinate}

-- with the end e at p, of the segment g
unfoldable pub store_end : ℕ → ℕ → Point → Store → Store
store_end e g p t = with_filed (file_end e g (filed t.newest t.next)) (set t.xs e p.x) (set t.ys e p.y)

-- the place of a segment's start among the points
abbrev pub place_in : List ℕ → ℕ → ℕ → ℕ
place_in starts line segment = get_or starts line 0 + segment

-- both ends of link i
unfoldable pub store_link : List ℕ → ℕ → MstEdge → Store → Store
store_link starts i m t =
    store_end (2 * i + 1) (place_in starts m.poly_b m.seg_b) (point_back m.point_b)
    (store_end (2 * i) (place_in starts m.poly_a m.seg_a) (point_back m.point_a) t)

-- n links, from link i on
unfoldable pub store_links : List ℕ → List MstEdge → ℕ → ℕ → Store → Store
store_links starts ms zero i t = t
store_links starts ms (suc n) i t = store_links starts ms n (i + 1) (store_link starts i (get_or ms i past_end) t)

-- ---- what the code needs of the lists

pub record EndFits (starts : List ℕ) (line segment : ℕ) : Type 0 where
  pub line_low : line < most_lines + 1
  pub place_low : place_in starts line segment < most_points

pub record LinkFits (starts : List ℕ) (m : MstEdge) : Type 0 where
  pub first : EndFits starts m.poly_a m.seg_a
  pub second : EndFits starts m.poly_b m.seg_b
  pub first_x : IsCoordinate m.point_a.x
  pub first_y : IsCoordinate m.point_a.y
  pub second_x : IsCoordinate m.point_b.x
  pub second_y : IsCoordinate m.point_b.y

pub record LinksFit (starts : List ℕ) (ms : List MstEdge) (n : ℕ) : Type 0 where
  pub each : (i : ℕ) → i < n → LinkFits starts (get_or ms i past_end)
