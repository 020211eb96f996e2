-- The distances are filled whole, and so is the tournament.
use Rattle.std.proofs.Common.{◌≡◌, replicate, rules}
use lib.Ieee.{of_bits}
use Rattle.limits.specs.Limits.{most_nodes}
use Rattle.repair_tournament.specs.Tree.{infinity}
use Rattle.repair_search.proofs.Touched.{unreached_new}
use Rattle.repair_search.proofs.Search.new.Goals as goal

pub returns : goal.returns
unfolding of_bits
returns c n few =
    let d : c.fill.new.self ≡ replicate most_nodes infinity = search rules in
    rw d (rw c.clear.ensures (unreached_new n few))
