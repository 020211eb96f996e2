-- The links that are left fit exactly if all do.
use mathlib.Core.Path.{◌≡◌}
use Prim.Native.Nat.{◌-◌}
use Rattle.file_drawing.specs.Fit.{links_fit_in}
use Rattle.file_drawing.proofs.links.links_fit.Given as goal

abbrev pub invariant-loop-i : goal.invariant-loop-i
invariant-loop-i l = links_fit_in l.drawing.starts l.drawing.lines l.drawing.links (l.drawing.link_count - l.i) l.i ≡ links_fit_in l.drawing.starts l.drawing.lines l.drawing.links l.drawing.link_count 0
