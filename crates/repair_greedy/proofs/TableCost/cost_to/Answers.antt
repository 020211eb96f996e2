-- The squares of what is on the grid are small.
use Rattle.std.proofs.Common.{arith}
use Rattle.length.proofs.LengthLaws.{square_le}
use Rattle.repair_greedy.proofs.Costs.{near}
use Rattle.repair_greedy.proofs.TableCost.cost_to.Goals as goal

pub returns-clause-small : goal.returns-clause-small
returns-clause-small c =
    let H = c.requires.0 in
    let P = c.requires.1 in
    omega (arith, c.squared.ensures, square_le _ _ (near _ P.0) (near _ (H.xs_on c.from.result)), square_le _ _ (near _ P.1) (near _ (H.ys_on c.from-2.result)))
