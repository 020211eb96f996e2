-- One link of the drawing that is planned of a file, as a struct for other languages.
use Rattle.std.specs.Prelude.{List, map, ℕ, length, get_or}
use Rattle.drawing_spec.specs.Drawing.{Drawing}
use Rattle.drawing_spec.specs.Refusal.{refused, accepted, verdict}
use Rattle.drawing_spec.specs.Read.{records_of, drawing_of, read_conditions}
use Rattle.file_records.specs.declared.MstEdge.{MstEdge}
use Rattle.file_records.specs.Body.{edge_from}
use Rattle.file_drawing.specs.Held.{no_link}
use Rattle.links_spec.specs.Made.{to_plan}
use Rattle.links_c.specs.declared.MadeLink.{MadeLink}

-- a refusal's number, the number of links, and one of them
abbrev pub with_link : ℕ → ℕ → MstEdge → MadeLink
with_link refusal links e = record {
  refusal = refusal;
  links = links;
  first_line = e.poly_a;
  first_segment = e.seg_a;
  second_line = e.poly_b;
  second_segment = e.seg_b;
  first_x = e.point_a.x;
  first_y = e.point_a.y;
  second_x = e.point_b.x;
  second_y = e.point_b.y;
}

-- the j-th link of a drawing, and zeros where it has none
abbrev pub link_of : Drawing → ℕ → MadeLink
link_of d j = with_link 0 (length d.links) (get_or (map edge_from d.links) j no_link)

unfoldable pub made_link_of : List ℕ → ℕ → MadeLink
made_link_of file j = elim (verdict (read_conditions file)) [ refused k ↦ with_link k 0 no_link | accepted ↦ link_of (to_plan (drawing_of (records_of file))) j ]
