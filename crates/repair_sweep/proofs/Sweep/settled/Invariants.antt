-- `repair_sweep::Sweep::settled` meets its contract.
use Rattle.repair_sweep.proofs.Sweeps.{Seen}
use Rattle.repair_sweep.proofs.Sweep.settled.Given as goal

abbrev pub invariant-loop-j : goal.invariant-loop-j
invariant-loop-j l = Seen l.self.touched l.self.dist l.self.done l.j
