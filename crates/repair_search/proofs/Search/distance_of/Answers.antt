-- `repair_search::Search::distance_of` meets its contract.
use mathlib.Core.Path.{sym}
use native.Mathlib.Omega.{arith}
use lib.ListN.{get_or-eq_default}
use lib.Ieee.{nan, of_bits}
use Rattle.repair_spec.specs.Distance.{infinity}
use Rattle.lists.proofs.Elements.{get_d_inside}
use Rattle.repair_search.proofs.Search.distance_of.Goals as goal

pub returns-then-goal-lt-MOST_NODES : goal.returns-then-goal-lt-MOST_NODES
returns-then-goal-lt-MOST_NODES c = get_d_inside c.args.self.now.dist c.args.goal nan infinity (omega arith)

pub returns : goal.returns
unfolding of_bits
returns c = sym (get_or-eq_default c.args.self.now.dist infinity (omega arith))
