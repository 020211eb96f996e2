-- `length::guess` meets its contract: the step's mean is no less than the root of the top half, and the quotient is below 2 ^ 19.
use Prim.Native.Nat.{◌+◌, ◌/◌, ◌^◌, ◌<◌}
use native.Mathlib.Omega.{arith}
use Rattle.length.proofs.Steps.{mean, quotient_lt}
use Rattle.length.proofs.guess.Goals as goal
use Rattle.length.proofs.guess.Goals.{After-part-s}

quotient : (c : After-part-s) → c.args.m / 2 ^ 32 / (14223 + c.part-s.result) < 2 ^ 19
quotient c = quotient_lt _ _ (2 ^ 19) (omega arith) (omega arith)

pub overflow_add-result : goal.overflow_add-result
overflow_add-result c = omega (arith, quotient (goal.at.overflow_add-result c).After-part-s)

pub overflow_mul-result : goal.overflow_mul-result
overflow_mul-result c = omega (arith, quotient (goal.at.overflow_mul-result c).After-part-s)

pub overflow_add-result-2 : goal.overflow_add-result-2
overflow_add-result-2 c = omega (arith, quotient (goal.at.overflow_add-result-2 c).After-part-s)

pub returns : goal.returns
returns c =
    let h = mean (2 ^ 15) (2 ^ 19) (c.args.m / 2 ^ 32) (14223 + c.part-s.result) (omega arith) (omega arith) (omega arith) (omega arith) in
    omega (arith, quotient (goal.at.returns c).After-part-s)
