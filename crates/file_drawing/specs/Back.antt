-- From the arrays back to the drawing.
use Rattle.std.specs.Prelude.{ℕ, zero, suc, ◌-◌, List, [], ◌∷◌, get_or}
use Rattle.grid.specs.Grid.{place_of, place_at}
use Rattle.drawing_spec.specs.Drawing as drawn
use Rattle.file_records.specs.declared.Point.{Point}
use Rattle.file_records.specs.declared.MstEdge.{MstEdge}
use Rattle.file_drawing.specs.declared.Drawing.{Drawing}
use Rattle.file_drawing.specs.Held.{past_end}
use Rattle.file_records.specs.Meaning.{settings_of}

-- ---- the way back

-- n points, from index k on
unfoldable pub points_back : ℕ → ℕ → List ℕ → List ℕ → List drawn.Point
points_back zero k xs ys = []
points_back (suc n) k xs ys = record { x = get_or xs k 0; y = get_or ys k 0 } ∷ points_back n (suc k) xs ys

-- n lines, from line i on: a line's points are those from its start to the next one's
unfoldable pub lines_back : ℕ → ℕ → List ℕ → List ℕ → List ℕ → List (List drawn.Point)
unfolding points_back
lines_back zero i starts xs ys = []
lines_back (suc n) i starts xs ys = points_back (get_or starts (suc i) 0 - get_or starts i 0) (get_or starts i 0) xs ys ∷ lines_back n (suc i) starts xs ys

abbrev pub point_back : Point → drawn.Point
point_back p = record { x = place_at (place_of p.x); y = place_at (place_of p.y) }

abbrev pub link_back : MstEdge → drawn.Link
link_back e = record {
  first = record { line = e.poly_a; segment = e.seg_a; point = point_back e.point_a };
  second = record { line = e.poly_b; segment = e.seg_b; point = point_back e.point_b };
}

unfoldable pub links_back : ℕ → ℕ → List MstEdge → List drawn.Link
links_back zero i edges = []
links_back (suc n) i edges = link_back (get_or edges i past_end) ∷ links_back n (suc i) edges

unfoldable pub drawing_from : Drawing → drawn.Drawing
unfolding lines_back links_back
drawing_from d = record {
  settings = settings_of d.settings;
  lines = lines_back d.lines 0 d.starts d.xs d.ys;
  links = links_back d.link_count 0 d.links;
}
