use Rattle.std.proofs.Common.{arith}
use Rattle.std.proofs.lemmas.Bool.Decides.{nat_tests}
use Rattle.links_made.specs.Filled.{mark_at}
use Rattle.links_made.proofs.LineEnds.mark.Goals as goal

pub returns-then-first-next : goal.returns-then-first-next
unfolding mark_at
returns-then-first-next c = grind (arith, nat_tests)

pub returns-else-first-next : goal.returns-else-first-next
unfolding mark_at
returns-else-first-next c = grind (arith, nat_tests)
