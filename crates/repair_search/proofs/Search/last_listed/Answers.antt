-- `repair_search::Search::last_listed` meets its contract.
use Prim.Native.Nat.{◌-◌, ◌≤◌}
use native.Mathlib.Omega.{arith}
use Rattle.limits.specs.Limits.{most_nodes}
use Rattle.repair_search.proofs.Touched.{listed_few}
use Rattle.repair_search.proofs.Search.last_listed.Goals as goal
use Rattle.repair_search.proofs.Search.last_listed.Goals.{Start}

few : (c : Start) → c.args.count ≤ most_nodes
few c = listed_few c.args.n c.args.self.now.dist c.args.self.now.touched c.args.count c.requires.2 c.requires.1

pub offset_bounds-self-count : goal.offset_bounds-self-count
offset_bounds-self-count c = omega (arith, few (goal.at.offset_bounds-self-count c).Start)

pub bounds-self-count : goal.bounds-self-count
bounds-self-count c = omega (arith, few (goal.at.bounds-self-count c).Start)

pub returns : goal.returns
returns c = rw c.from.ensures (c.requires.2.nodes (c.args.count - 1) (omega arith))
