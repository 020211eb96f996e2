-- Each of the two counts that rise comes to 4,001 at most.
use mathlib.Core.Path.{ap₂}
use Prim.Native.Nat.{ℕ}
use native.Mathlib.Omega.{arith}
use Rattle.graph_odd.specs.Degrees.{bumped}
use Rattle.graph_odd.proofs.Degrees.{first_rises, second_rises}
use Rattle.graph_odd.proofs.count_edge.Goals as goal

pub overflow_add-degrees : goal.overflow_add-degrees
overflow_add-degrees c = omega (arith, first_rises _ _ _ c.requires _ _ c.from-u.ensures c.from-v.ensures)

pub overflow_add-degrees-2 : goal.overflow_add-degrees-2
overflow_add-degrees-2 c = omega (arith, second_rises _ _ _ c.requires _ _ c.from-u.ensures c.from-v.ensures)

pub returns : goal.returns
returns c = ap₂ (λ (u v : ℕ). bumped c.args.degrees.now u v) c.from-u.ensures c.from-v.ensures
