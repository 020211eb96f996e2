-- The invariant: the points that are left, stored from here on, give all points behind the head.
use Rattle.record.proofs.Written.{Writing}
use Rattle.record.proofs.write_line.Given as goal

abbrev pub invariant-loop-i : goal.invariant-loop-i
invariant-loop-i l = Writing l.nodes.xs l.nodes.ys l.line l.count l.initial.output l.output l.i
