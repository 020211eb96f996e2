-- What is known of a file that none of checks 1 to 7 and 15 refuses, and of its drawing; and what is asked of a drawing that has no file.
use Rattle.std.specs.Prelude.{◌≡◌, List, map, true, false, ℕ, ◌≤◌, length}
use Rattle.limits.specs.Limits.{most_bytes, most_lines, most_points, most_links}
use Rattle.drawing_spec.specs.Drawing.{PointOf, DrawingOf, Drawing}
use Rattle.lists.specs.Members.{All}
use Rattle.drawing_spec.specs.OnGrid.{OnGrid, AtEnds}
use Rattle.drawing_spec.specs.Read.{total, records_of, is_cut, sketch_of, kinds_fit, lengths_fit, settings_fit, counts_fit, own_links_fit, coordinates_fit}

-- ---- a file: one field for each of the checks before check 8

pub record Passed (file : List ℕ) : Type 0 where
  pub small : length file ≤ most_bytes
  pub is_whole : is_cut file ≡ false
  pub in_order : kinds_fit (records_of file) ≡ true
  pub long : lengths_fit (records_of file) ≡ true
  pub settings_fit_known : settings_fit (sketch_of (records_of file)).settings ≡ true
  pub few : counts_fit (sketch_of (records_of file)) ≡ true
  pub own_links : own_links_fit (sketch_of (records_of file)) ≡ true
  pub on_grid : coordinates_fit (sketch_of (records_of file)) ≡ true

-- ---- a drawing, or a sketch: check 6

pub record Counts {C : Type 0} (d : DrawingOf C) : Type 0 where
  pub lines : length d.lines ≤ most_lines
  pub points : total (map (λ (l : List (PointOf C)). length l) d.lines) ≤ most_points
  pub links : length d.links ≤ most_links

-- check 6, and every point on the grid, as check 7 has it
pub record InLimits (d : Drawing) : Type 0 where
  pub counts : Counts d
  pub lines_on : All (All OnGrid) d.lines
  pub links_on : All (AtEnds OnGrid) d.links
