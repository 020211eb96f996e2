-- `length::part` meets its contract: t is at most 2 ^ 16.
use native.Mathlib.Nat.{le_of_lt, mul-le-mul_right}
use native.Mathlib.Omega.{arith}
use Rattle.length.proofs.part.Goals as goal

pub overflow_mul-result : goal.overflow_mul-result
overflow_mul-result c = omega (arith, mul-le-mul_right c.args.u (le_of_lt c.requires.0))

pub returns : goal.returns
returns c = omega (arith, mul-le-mul_right c.args.u (le_of_lt c.requires.0))
