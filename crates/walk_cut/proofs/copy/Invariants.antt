-- The nodes copied, and those still to come behind them, stay the same.
use Rattle.walk_cut.proofs.CopyLaws.{Copied}
use Rattle.walk_cut.proofs.copy.Given as goal

abbrev pub invariant-loop-p : goal.invariant-loop-p
invariant-loop-p l = Copied l.nodes l.from l.to l.initial.line l.n l.p l.line l.count
