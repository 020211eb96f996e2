-- No place passed was entered by b.
use Rattle.walk_cut.proofs.CutLaws.{Passed}
use Rattle.walk_cut.proofs.find_entry.Given as goal

abbrev pub invariant-loop-p : goal.invariant-loop-p
invariant-loop-p l = Passed l.entries.bys l.entries.first l.b l.p
