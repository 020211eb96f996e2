-- The words of demand 3, as document 01 has them, of a drawing.
use Rattle.std.specs.Prelude.{ℕ, ◌+◌, List, [], map, Bool}
use Rattle.drawing_spec.specs.Drawing.{Point, Drawing}
use Rattle.graph_spec.specs.Pieces.{pieces_of, links_of}
use Rattle.graph_spec.specs.Graph.{point_at, build_graph}
use Rattle.graph_spec.specs.Odd.{is_odd}
use Rattle.graph_spec.specs.Count.{sum_over, line_sum, touches, strokes_at, steps_between, strokes_between}
use Rattle.repair_spec.specs.Repair.{Repairing, stopped, repaired}
use Rattle.planner_spec.specs.Plan.{repair_of}

-- pieces and links, counted from the drawing
unfoldable pub pieces_between : Point → Point → Drawing → ℕ
unfolding pieces_of sum_over
pieces_between p q d = strokes_between p q (pieces_of d)

unfoldable pub links_between : Point → Point → Drawing → ℕ
unfolding links_of sum_over
links_between p q d = strokes_between p q (links_of d)

-- the retraces of a repair; one that stopped has none, and its drawing is refused
abbrev pub retraces_of : Repairing → List (List ℕ)
retraces_of (stopped n) = []
retraces_of (repaired r) = r.retraces

-- the retraces that the definitions give for the drawing, each as the points it goes along
unfoldable pub retraces_in : Drawing → List (List Point)
unfolding build_graph repair_of
retraces_in d = let g = build_graph d in map (λ (way : List ℕ). map (point_at g.nodes) way) (retraces_of (repair_of g d.settings))

-- one copy for each edge of each retrace, lying between its ends
unfoldable pub copies_between : Point → Point → Drawing → ℕ
unfolding retraces_in sum_over line_sum
copies_between p q d = sum_over (λ (way : List Point). steps_between p q way) (retraces_in d)

-- how many pieces and links, and how many copies, have an end at p: each counts once for each end that is there
unfoldable pub drawn_at : Point → Drawing → ℕ
unfolding pieces_of links_of sum_over
drawn_at p d = strokes_at p (pieces_of d) + strokes_at p (links_of d)

unfoldable pub copies_at : Point → Drawing → ℕ
unfolding retraces_in sum_over line_sum
copies_at p d = sum_over (λ (way : List Point). line_sum (touches p) way) (retraces_in d)

-- A point is odd when the pieces and links with an end there are odd in number. Repair left it odd when these together with the copies that end there are.
abbrev pub odd : Point → Drawing → Bool
odd p d = is_odd (drawn_at p d)

abbrev pub left_odd : Point → Drawing → Bool
left_odd p d = is_odd (drawn_at p d + copies_at p d)
