-- The points that are left, put where the loop stands, give what all of them give.
use Rattle.drawing_spec.specs.Drawing.{Point}
use Rattle.file_drawing.proofs.LinesLaws.{Placing}
use Rattle.file_drawing.proofs.arrays.fill_points.Given as goal

abbrev pub invariant-loop-i : goal.invariant-loop-i
invariant-loop-i l = Placing (λ (p : Point). p.x) l.body l.count l.first l.initial.xs l.i l.xs × Placing (λ (p : Point). p.y) l.body l.count l.first l.initial.ys l.i l.ys
