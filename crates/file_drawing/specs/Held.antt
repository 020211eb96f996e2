-- The values that the drawing holds, and what stands where there are none.
use Rattle.std.specs.Prelude.{ℕ, ◌+◌, ◌∷◌, map, false, pos, length, replicate}
use Rattle.std.specs.Float.{fin, nan}
use Rattle.limits.specs.Limits.{most_lines, most_points, most_links}
use Rattle.drawing_spec.specs.Drawing as drawn
use Rattle.drawing_spec.specs.Drawing.{line_points}
use Rattle.file_records.specs.Body.{settings_from, edge_from}
use Rattle.file_records.specs.declared.Point.{Point}
use Rattle.file_records.specs.declared.MstEdge.{MstEdge}
use Rattle.file_records.specs.declared.Body.{Body}
use Rattle.file_records.specs.declared.Body.TheVariants as body
use Rattle.file_drawing.specs.declared.Drawing.{Drawing}
use Rattle.file_checks.specs.Settings.{no_settings}
use Rattle.file_drawing.specs.Stores.{padded, xs_of, ys_of, ends_from}

abbrev no_point : Point
no_point = record { x = fin false 0 (pos 0); y = fin false 0 (pos 0) }

abbrev pub no_link : MstEdge
no_link = record { poly_a = 0; seg_a = 0; poly_b = 0; seg_b = 0; point_a = no_point; point_b = no_point }

-- a drawing with nothing in it
abbrev pub nothing : Drawing
nothing = record {
  settings = no_settings;
  lines = 0;
  starts = replicate (most_lines + 1) 0;
  points = 0;
  xs = replicate most_points 0;
  ys = replicate most_points 0;
  link_count = 0;
  links = replicate most_links no_link;
}

-- what the checker takes an element past the end of an array to be: no link is read there
abbrev pub past_end : MstEdge
past_end = record { poly_a = 0; seg_a = 0; poly_b = 0; seg_b = 0; point_a = record { x = nan; y = nan }; point_b = record { x = nan; y = nan } }

-- what each case of `Body` gives
abbrev pub points_of : Body → ℕ
points_of (body.Settings s) = 0
points_of (body.Line n) = n
points_of (body.Link e) = 0
points_of body.Other = 0

abbrev pub link_in : Body → MstEdge
link_in (body.Settings s) = no_link
link_in (body.Line l) = no_link
link_in (body.Link e) = e
link_in body.Other = no_link

-- a drawing in flat arrays, with zeros behind what they hold
unfoldable pub drawing_held : drawn.Drawing → Drawing
drawing_held d = record {
  settings = settings_from d.settings;
  lines = length d.lines;
  starts = padded (most_lines + 1) 0 (0 ∷ ends_from 0 d.lines);
  points = length (line_points d.lines);
  xs = padded most_points 0 (xs_of (line_points d.lines));
  ys = padded most_points 0 (ys_of (line_points d.lines));
  link_count = length d.links;
  links = padded most_links no_link (map edge_from d.links);
}
