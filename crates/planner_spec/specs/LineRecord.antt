-- The kind 4 record: how a line is written at the front of the output, and how it is read back from there.
use Rattle.std.specs.Prelude.{ℕ, ◌*◌, ◌/◌, ◌≤◌, ◌≡◌, List, [], ◌∷◌, ◌++◌, true, false, length, drop, eqb}
use Rattle.limits.specs.Limits.{kind_answer, head_size, point_size}
use Rattle.grid.specs.Grid.{write_place, write_on_grid}
use Rattle.drawing_spec.specs.Bytes.{number, bytes, in_front}
use Rattle.drawing_spec.specs.Drawing.{Point}
use Rattle.lists.specs.Members.{All}
use Rattle.drawing_spec.specs.OnGrid.{OnGrid}
use Rattle.drawing_spec.specs.Read.{spots, points}
use Rattle.drawing_spec.specs.Cleaned.{PointPlain}

-- ---- written

unfoldable pub point_bytes : List Point → List ℕ
unfolding bytes write_on_grid
point_bytes [] = []
point_bytes (p ∷ ps) = bytes 8 (write_place p.x) ++ bytes 8 (write_place p.y) ++ point_bytes ps

unfoldable pub line_record : List Point → List ℕ
unfolding point_bytes
line_record line = bytes 4 (point_size * length line) ++ bytes 2 kind_answer ++ point_bytes line

-- ---- read back

-- The line written is the list of points in the kind 4 record at the front of the output.
unfoldable pub line_written : List ℕ → List Point
unfolding number points
line_written output = elim (eqb (number 2 (drop 4 output)) kind_answer) [ true ↦ points (number 4 output / point_size) (drop head_size output) | false ↦ [] ]

-- no coordinate of so many points in the record at the front of the output is a minus zero
abbrev pub OutputPlain : ℕ → List ℕ → Type 0
OutputPlain n output = All PointPlain (spots n (drop head_size output))

-- ---- what it is that the output, which had these bytes before, holds the line

pub record Written (line : List Point) (before after : List ℕ) : Type 0 where
  pub on_grid : All OnGrid line
  pub room : length (line_record line) ≤ length before
  pub is : after ≡ in_front (line_record line) before
  -- so it is this line and no other
  pub back : line_written after ≡ line
