-- The invariant: the points so far have been put.
use Rattle.planner_text.proofs.Points.{PointsPut}
use Rattle.planner_text.proofs.put_points.Given as goal

abbrev pub invariant-loop-i : goal.invariant-loop-i
invariant-loop-i l = PointsPut l.initial.text l.at l.output l.count l.text l.behind l.i
