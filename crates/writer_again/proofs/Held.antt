-- The arrays of a drawing that checks 6 and 7 pass are such as the loops ask for.
use mathlib.Core.Path.{◌≡◌, subst}
use mathlib.Core.List.{List, [], ◌∷◌, ◌++◌, map}
use mathlib.Core.Bool.{not}
use Prim.Native.Nat.{ℕ, zero, suc, ◌+◌, ◌-◌, ◌*◌, ◌≤◌, ◌<◌}
use native.Mathlib.Omega.{arith}
use lib.ListN.{length, get_or, replicate}
use lib.Dec.{T}
use lib.Ieee.{is_nan}
use Rattle.limits.specs.Limits.{most_lines, most_links}
use Rattle.grid.specs.Grid.{origin, coordinate}
use Rattle.grid.proofs.Back.{coordinate_no_nan}
use Rattle.lists.specs.Members.{All}
use Rattle.drawing_spec.specs.Drawing as drawn
use Rattle.drawing_spec.specs.OnGrid.{OnGrid, AtEnds}
use Rattle.drawing_spec.specs.Accepted.{InLimits}
use Rattle.drawing_spec.proofs.Drawing.{length_line_points}
use Rattle.file_records.specs.Body.{edge_from}
use Rattle.file_records.specs.declared.MstEdge.{MstEdge}
use Rattle.file_drawing.specs.Held.{no_link, past_end, drawing_held}
use Rattle.file_drawing.specs.Stores.{padded, ends_from}
use Rattle.writer_again.specs.Filled.{Rising, Numbers, Savable}

-- ---- no line ends before it starts

ends_rise : (ls : List (List drawn.Point)) (k : ℕ) (q : List ℕ) (i : ℕ) → i < length ls → get_or (k ∷ (ends_from k ls ++ q)) i 0 ≤ get_or (k ∷ (ends_from k ls ++ q)) (suc i) 0
unfolding ends_from
ends_rise [] k q i h = absurd (omega arith)
ends_rise (l ∷ ls) k q zero h = omega arith
ends_rise (l ∷ ls) k q (suc i) h = ends_rise ls (k + length l) q i (omega arith)

starts_rise : (ls : List (List drawn.Point)) → Rising (padded (most_lines + 1) 0 (0 ∷ ends_from 0 ls)) (length ls)
starts_rise ls = record {
  up = λ i h.
      let one : suc i ≡ i + 1 = omega arith in
      let starts = padded (most_lines + 1) 0 (0 ∷ ends_from 0 ls) in
      subst (λ (j : ℕ). get_or starts i 0 ≤ get_or starts j 0) one (ends_rise ls 0 (replicate ((most_lines + 1) - length (0 ∷ ends_from 0 ls)) 0) i h);
}

-- ---- no coordinate is a NaN

coordinate_number : (p : ℕ) → p ≤ 2 * origin → T (not (is_nan (coordinate p)))
coordinate_number p h = coordinate_no_nan p (omega arith)

link_numbers : (l : drawn.Link) → AtEnds OnGrid l → Numbers (edge_from l)
link_numbers l a = record { ax = coordinate_number _ a.0.0; ay = coordinate_number _ a.0.1; bx = coordinate_number _ a.1.0; by = coordinate_number _ a.1.1 }

links_numbers : (ls : List drawn.Link) (r : List MstEdge) → All (AtEnds OnGrid) ls → (i : ℕ) → i < length ls → Numbers (get_or (map edge_from ls ++ r) i past_end)
links_numbers [] r a i h = absurd (omega arith)
links_numbers (l ∷ ls) r a zero h = link_numbers l a.0
links_numbers (l ∷ ls) r a (suc i) h = links_numbers ls r a.1 i (omega arith)

-- ---- the drawing

pub held_savable : (d : drawn.Drawing) → InLimits d → Savable (drawing_held d)
unfolding drawing_held
held_savable d l =
    let n = length_line_points d.lines in
    let p = l.counts.points in
    record {
      lines_few = l.counts.lines;
      points_few = omega arith;
      links_few = l.counts.links;
      rising = starts_rise d.lines;
      numbers = record { at = links_numbers d.links (replicate (most_links - length (map edge_from d.links)) no_link) l.links_on };
    }
