-- A link's floats are coordinates at places, so no minus zero of a file reaches them: of a link that was read, and of one that was made. Assumes nothing.
use Prim.Native.Nat.{ℕ, ◌*◌, ◌≤◌}
use native.Mathlib.Omega.{arith}
use mathlib.Core.Path.{◌≡◌, refl, ◌∙◌}
use mathlib.Core.List.{List, [], ◌∷◌, ◌++◌}
use lib.ListN.{replicate}
use lib.Ieee.{binary64, to_bits}
use Rattle.grid.specs.Grid.{grid_exponent, origin, minus_zero, coordinate, coordinate_on_grid}
use Rattle.grid.proofs.Back.{write_is, never_minus_zero}
use Rattle.drawing_spec.specs.Drawing as drawn
use Rattle.drawing_spec.specs.OnGrid.{OnGrid, AtEnds}
use Rattle.drawing_spec.specs.Read.{link_of}
use Rattle.file_records.specs.declared.MstEdge.{MstEdge}
use Rattle.file_records.specs.Body.{edge_from, EdgePlain}

float_plain : (p : ℕ) → p ≤ 2 * origin → to_bits binary64 (coordinate p) ≡ minus_zero → ⊥
float_plain p h e = never_minus_zero p (omega arith) (write_is grid_exponent p ∙ e)

-- of every link on the grid, which those of a drawing that is planned are
pub edge_plain : (l : drawn.Link) → AtEnds OnGrid l → EdgePlain (edge_from l)
edge_plain l a = record {
  ax = float_plain l.first.point.x a.0.0;
  ay = float_plain l.first.point.y a.0.1;
  bx = float_plain l.second.point.x a.1.0;
  by = float_plain l.second.point.y a.1.1;
}

-- ---- worked out: a link from (-0, 1) to (-1, -0) has the floats 0 and 1, -1 and 0

abbrev signed : List ℕ
signed = replicate 7 0 ++ (128 ∷ [])

end_bits : MstEdge → List ℕ
end_bits e = to_bits binary64 e.point_a.x ∷ to_bits binary64 e.point_a.y ∷ to_bits binary64 e.point_b.x ∷ to_bits binary64 e.point_b.y ∷ []

no_sign : end_bits (edge_from (link_of (replicate 8 0 ++ signed ++ (0 ∷ 0 ∷ 0 ∷ 0 ∷ 0 ∷ 0 ∷ 240 ∷ 63 ∷ []) ++ (0 ∷ 0 ∷ 0 ∷ 0 ∷ 0 ∷ 0 ∷ 240 ∷ 191 ∷ []) ++ signed))) ≡ 0 ∷ 0x3FF0000000000000 ∷ 0xBFF0000000000000 ∷ 0 ∷ []
unfolding end_bits link_of to_bits coordinate_on_grid
no_sign = refl
