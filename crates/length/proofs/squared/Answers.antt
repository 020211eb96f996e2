-- `length::squared` meets its contract: the squares of differences up to 2 ^ 24 leave room for their sum.
use mathlib.Core.Path.{ap₂}
use Prim.Native.Nat.{ℕ, ◌+◌, ◌*◌, ◌^◌, ◌≤◌}
use native.Mathlib.Omega.{arith}
use Rattle.length.specs.Root.{square}
use Rattle.length.proofs.LengthLaws.{square_le}
use Rattle.length.proofs.squared.Goals as goal
use Rattle.length.proofs.squared.Goals.{After-gap-x, After-gap-y}

x_small : (c : After-gap-x) → c.gap-x.result * c.gap-x.result ≤ 2 ^ 48
x_small c = rw c.gap-x.ensures (square_le _ _ (omega arith) (omega arith))

y_small : (c : After-gap-y) → c.gap-y.result * c.gap-y.result ≤ 2 ^ 48
y_small c = rw c.gap-y.ensures (square_le _ _ (omega arith) (omega arith))

pub overflow_mul-result : goal.overflow_mul-result
overflow_mul-result c = omega (arith, x_small (goal.at.overflow_mul-result c).After-gap-x, y_small (goal.at.overflow_mul-result c).After-gap-y)

pub overflow_mul-result-2 : goal.overflow_mul-result-2
overflow_mul-result-2 c = omega (arith, x_small (goal.at.overflow_mul-result-2 c).After-gap-x, y_small (goal.at.overflow_mul-result-2 c).After-gap-y)

pub overflow_add-result : goal.overflow_add-result
overflow_add-result c = omega (arith, x_small (goal.at.overflow_add-result c).After-gap-x, y_small (goal.at.overflow_add-result c).After-gap-y)

pub returns : goal.returns
returns c = ap₂ (λ (x y : ℕ). square x + square y) c.gap-x.ensures c.gap-y.ensures
