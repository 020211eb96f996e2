use Rattle.std.proofs.Common.{arith}
use Rattle.std.proofs.lemmas.Bool.Decides.{nat_tests}
use Rattle.links_made.specs.Filled.{ends_at}
use Rattle.links_made.proofs.LineEnds.take_ends.Goals as goal

pub returns-then-first-end : goal.returns-then-first-end
unfolding ends_at
returns-then-first-end c = grind (arith, nat_tests)

pub returns-else-first-end : goal.returns-else-first-end
unfolding ends_at
returns-else-first-end c = grind (arith, nat_tests)
