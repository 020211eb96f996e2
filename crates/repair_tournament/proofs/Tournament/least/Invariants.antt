-- `repair_tournament::least` meets its contract.
use mathlib.Core.Path.{◌≡◌}
use Prim.Native.Nat.{◌<◌, ◌+◌, ◌-◌}
use Rattle.repair_tournament.specs.Tree.{at}
use Rattle.repair_tournament.proofs.Tournament.least.Given as goal

abbrev pub invariant-loop-i : goal.invariant-loop-i
invariant-loop-i l = (0 < l.i) × (l.i < l.n + l.n) × (at l.self.values l.i ≡ at l.self.values 1)

abbrev pub decreases-loop-i : goal.decreases-loop-i
decreases-loop-i l = l.n - l.i
