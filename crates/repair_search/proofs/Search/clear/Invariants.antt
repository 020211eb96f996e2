-- `repair_search::Search::clear` meets its contract.
use mathlib.Core.Path.{◌≡◌}
use Rattle.repair_search.proofs.Touched.{Clearing}
use Rattle.repair_search.proofs.Search.clear.Given as goal

abbrev pub invariant-loop-j : goal.invariant-loop-j
invariant-loop-j l = Clearing l.n l.fn.self.touched l.count l.j l.self.dist l.self.tree.values × (l.self.touched ≡ l.fn.self.touched)
