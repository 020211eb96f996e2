-- `repair_sweep::Sweep::clear` meets its contract.
use mathlib.Core.Path.{◌≡◌}
use Rattle.repair_sweep.proofs.Sweeps.{Clearing}
use Rattle.repair_sweep.proofs.Sweep.clear.Given as goal

abbrev pub invariant-loop-j : goal.invariant-loop-j
invariant-loop-j l = Clearing l.fn.self.touched l.count l.j l.self.dist l.self.done × (l.self.touched ≡ l.fn.self.touched)
