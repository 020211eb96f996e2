-- One bit is set, and the other marks stay.
use mathlib.Core.Path.{ap, ◌∙◌}
use Prim.Native.Nat.{ℕ, ◌/◌}
use native.Mathlib.Omega.{arith}
use lib.ListN.{get_or, set}
use lib.Bits.{bit_or}
use Rattle.walk_marks.specs.Marks.{marks_in}
use Rattle.walk_marks.proofs.MarksLaws.{shifted_one, marks_set}
use Rattle.walk_marks.proofs.Marks.mark_used.Goals as goal

pub returns-clause-marks_after : goal.returns-clause-marks_after
returns-clause-marks_after c =
    let ws = c.args.self.now.words in
    let i = c.args.i in
    ap (λ (x : ℕ). marks_in (set ws (i / 64) (bit_or (get_or ws (i / 64) 0) x))) (shifted_one i) ∙ marks_set ws (omega arith) i c.requires
