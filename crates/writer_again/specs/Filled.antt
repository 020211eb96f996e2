-- The lists that the writer is handed for a drawing in flat arrays, each filled index by index, and what is asked of the arrays. That their sketch is the file's is in proofs/Again: `read_sketch`.
use Rattle.std.specs.Prelude.{ℕ, zero, suc, ◌+◌, ◌-◌, ◌≤◌, ◌<◌, List, [], ◌∷◌, ◌++◌, not, get_or, T}
use Rattle.std.specs.Float.{binary64}
use Rattle.std.specs.Float.Ieee.{is_nan, to_bits}
use Rattle.limits.specs.Limits.{most_lines, most_points, most_links}
use Rattle.grid.specs.Grid.{write_place}
use Rattle.file_records.specs.Meaning.{settings_of}
use Rattle.file_records.specs.declared.MstEdge.{MstEdge}
use Rattle.file_drawing.specs.Held.{past_end}
use Rattle.file_drawing.specs.declared.Drawing.{Drawing}
use Rattle.writer_spec.specs.Given.{Given, given}

-- f i, f (i + 1) and so on, k of them, one behind the other
unfoldable pub appended : (ℕ → List ℕ) → ℕ → ℕ → List ℕ
appended f zero i = []
appended f (suc k) i = f i ++ appended f k (suc i)

-- ---- the lines

-- how many points line i has: those from its start to the next one's
abbrev pub size_at : List ℕ → ℕ → ℕ
size_at starts i = get_or starts (i + 1) 0 - get_or starts i 0

abbrev pub sizes_in : List ℕ → ℕ → List ℕ
sizes_in starts lines = appended (λ (i : ℕ). size_at starts i ∷ []) lines 0

-- the bits of the coordinates at two places
abbrev pub bits_of : ℕ → ℕ → List ℕ
bits_of x y = write_place x ∷ write_place y ∷ []

abbrev pub coordinates_in : List ℕ → List ℕ → ℕ → List ℕ
coordinates_in xs ys points = appended (λ (i : ℕ). bits_of (get_or xs i 0) (get_or ys i 0)) points 0

-- ---- the links

abbrev pub segments_of : MstEdge → List ℕ
segments_of e = e.poly_a ∷ e.seg_a ∷ e.poly_b ∷ e.seg_b ∷ []

abbrev pub segments_in : List MstEdge → ℕ → List ℕ
segments_in edges links = appended (λ (i : ℕ). segments_of (get_or edges i past_end)) links 0

-- the bits of the floats
abbrev pub ends_of : MstEdge → List ℕ
ends_of e = to_bits binary64 e.point_a.x ∷ to_bits binary64 e.point_a.y ∷ to_bits binary64 e.point_b.x ∷ to_bits binary64 e.point_b.y ∷ []

abbrev pub ends_in : List MstEdge → ℕ → List ℕ
ends_in edges links = appended (λ (i : ℕ). ends_of (get_or edges i past_end)) links 0

-- ---- the drawing

abbrev pub given_in : Drawing → Given
given_in d =
    given (settings_of d.settings) (sizes_in d.starts d.lines) (coordinates_in d.xs d.ys d.points) (segments_in d.links d.link_count) (ends_in d.links d.link_count)

-- no line ends before it starts
pub record Rising (starts : List ℕ) (lines : ℕ) : Type 0 where
  pub up : (i : ℕ) → i < lines → get_or starts i 0 ≤ get_or starts (i + 1) 0

-- A NaN has no bits that the language promises, so none is asked for them.
pub record Numbers (e : MstEdge) : Type 0 where
  pub ax : T (not (is_nan e.point_a.x))
  pub ay : T (not (is_nan e.point_a.y))
  pub bx : T (not (is_nan e.point_b.x))
  pub by : T (not (is_nan e.point_b.y))

pub record AreNumbers (edges : List MstEdge) (links : ℕ) : Type 0 where
  pub at : (i : ℕ) → i < links → Numbers (get_or edges i past_end)

pub record Savable (d : Drawing) : Type 0 where
  pub lines_few : d.lines ≤ most_lines
  pub points_few : d.points ≤ most_points
  pub links_few : d.link_count ≤ most_links
  pub rising : Rising d.starts d.lines
  pub numbers : AreNumbers d.links d.link_count
