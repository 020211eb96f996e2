-- The line through small graphs, worked out: where it starts, which step is cut, and which end comes first.
use Prim.Native.Nat.{ℕ, ◌+◌, ◌*◌, ◌^◌}
use mathlib.Core.Path.{◌≡◌, refl}
use mathlib.Core.List.{[], ◌∷◌, map}
use Rattle.grid.specs.Grid.{origin, grid_exponent}
use Rattle.drawing_spec.specs.Drawing.{Point, Settings}
use Rattle.graph_spec.specs.Graph.{Edge, edge}
use Rattle.repair_spec.specs.Distance.{zero_length}
use Rattle.walk_spec.specs.Walk.{Entry, circuit}
use Rattle.walk_spec.specs.Orient.{orient}
use Rattle.walk_spec.specs.Line.{line_of}

-- in pixels, on a canvas of 10 by 10
abbrev at : ℕ → ℕ → Point
at x y = record { x = origin + x * 2 ^ grid_exponent; y = origin + y * 2 ^ grid_exponent }

abbrev settings : ℕ → Settings
settings flags = record { width = 10; height = 10; pairing = 0; flags = flags }

abbrev joined : ℕ → ℕ → Edge
joined u v = edge u v zero_length

-- each edge is gone along once
triangle : map (λ (t : Entry). t.node) (circuit (joined 0 1 ∷ joined 1 2 ∷ joined 2 0 ∷ []) 0) ≡ 0 ∷ 1 ∷ 2 ∷ 0 ∷ []
unfolding circuit
triangle = refl

-- all four corners lie equally well: the first of them is the start, with and without Inside
square : map (λ (flags : ℕ). line_of (settings flags) (at 0 0 ∷ at 10 0 ∷ at 10 10 ∷ at 0 10 ∷ []) (joined 0 1 ∷ joined 1 2 ∷ joined 2 3 ∷ joined 3 0 ∷ [])) (0 ∷ 2 ∷ [])
    ≡ (at 0 0 ∷ at 10 0 ∷ at 10 10 ∷ at 0 10 ∷ at 0 0 ∷ []) ∷ (at 0 0 ∷ at 10 0 ∷ at 10 10 ∷ at 0 10 ∷ at 0 0 ∷ []) ∷ []
unfolding line_of
square = refl

-- The departure of docs/DIFFERENCES.md, at its smallest. The step of the one segment is between the ends of the virtual edge too, and stays. The walk starts at the first end, by the virtual edge, which is the newest there.
-- Both ends lie equally well, so the line is not turned.
segment : line_of (settings 0) (at 0 0 ∷ at 10 10 ∷ []) (joined 0 1 ∷ []) ≡ at 10 10 ∷ at 0 0 ∷ []
unfolding line_of
segment = refl

-- The walk from (0, 0) goes round a triangle, by the virtual edge to (5, 5), and back by the real one. The line is what comes after the virtual step, then what comes before
-- it; its end at (0, 0) lies better, so it is turned.
triangle_and_end : line_of (settings 0) (at 5 5 ∷ at 2 0 ∷ at 0 2 ∷ at 0 0 ∷ []) (joined 0 3 ∷ joined 3 1 ∷ joined 1 2 ∷ joined 2 3 ∷ [])
    ≡ at 0 0 ∷ at 0 2 ∷ at 2 0 ∷ at 0 0 ∷ at 5 5 ∷ []
unfolding line_of
triangle_and_end = refl

-- turned round only for an end that is strictly better, whichever way the line came
turned : map (orient (settings 0)) ((at 0 0 ∷ at 1 5 ∷ at 10 10 ∷ []) ∷ (at 10 10 ∷ at 1 5 ∷ at 0 0 ∷ []) ∷ (at 1 1 ∷ at 0 0 ∷ []) ∷ (at 5 5 ∷ []) ∷ [] ∷ [])
    ≡ (at 0 0 ∷ at 1 5 ∷ at 10 10 ∷ []) ∷ (at 10 10 ∷ at 1 5 ∷ at 0 0 ∷ []) ∷ (at 0 0 ∷ at 1 1 ∷ []) ∷ (at 5 5 ∷ []) ∷ [] ∷ []
unfolding orient
turned = refl
