-- The loop keeps `Filling`.
use Rattle.file_drawing.specs.Lines.{arrays}
use Rattle.file_drawing.proofs.LinesLaws.{Filling}
use Rattle.file_drawing.proofs.arrays.fill_lines.Given as goal

abbrev pub invariant-loop-line : goal.invariant-loop-line
invariant-loop-line l = Filling l.file l.start l.count (arrays l.initial.starts l.initial.xs l.initial.ys) l.at l.line l.filled l.starts l.xs l.ys
