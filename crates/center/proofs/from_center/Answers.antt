-- `center::from_center` meets its contract: neither way along an axis is more than 2 ^ 24 half steps, so the squares and their sum fit.
use Prim.Native.Nat.{◌*◌, ◌^◌, ◌≤◌}
use native.Mathlib.Nat.{mul-le-mul}
use native.Mathlib.Omega.{arith}
use Rattle.center.specs.Center.{from_center_on_grid}
use Rattle.center.proofs.from_center.Goals as goal
use Rattle.center.proofs.from_center.Goals.{After-from_middle-dy}

-- the two squares, each of a distance along an axis
dx_small : (c : After-from_middle-dy) → c.from_middle-dx.result * c.from_middle-dx.result ≤ 2 ^ 48
dx_small c = let h : c.from_middle-dx.result ≤ 2 ^ 24 = omega arith in mul-le-mul h h

dy_small : (c : After-from_middle-dy) → c.from_middle-dy.result * c.from_middle-dy.result ≤ 2 ^ 48
dy_small c = let h : c.from_middle-dy.result ≤ 2 ^ 24 = omega arith in mul-le-mul h h

pub overflow_mul-result : goal.overflow_mul-result
overflow_mul-result c = omega (arith, dx_small (goal.at.overflow_mul-result c).After-from_middle-dy)

pub overflow_mul-result-2 : goal.overflow_mul-result-2
overflow_mul-result-2 c = omega (arith, dy_small (goal.at.overflow_mul-result-2 c).After-from_middle-dy)

pub overflow_add-result : goal.overflow_add-result
overflow_add-result c = omega (arith, dx_small (goal.at.overflow_add-result c).After-from_middle-dy, dy_small (goal.at.overflow_add-result c).After-from_middle-dy)

pub returns : goal.returns
unfolding from_center_on_grid
returns c = cc (c.from_middle-dx.ensures, c.from_middle-dy.ensures)
