-- `repair_tournament::store` meets its contract.
use mathlib.Core.Path.{◌≡◌}
use Prim.Native.Nat.{◌<◌, ◌+◌, ◌/◌}
use Rattle.repair_tournament.specs.Tree.{at}
use Rattle.repair_tournament.proofs.Tree.{Storing}
use Rattle.repair_tournament.proofs.Tournament.store.Given as goal

abbrev pub invariant-loop-i : goal.invariant-loop-i
invariant-loop-i l = Storing l.n l.v l.x l.initial.self.values (l.i / 2) l.self.values × (0 < l.i) × (l.i < l.n + l.n) × (at l.self.values l.i ≡ l.won)

abbrev pub decreases-loop-i : goal.decreases-loop-i
decreases-loop-i l = l.i
