-- `center::better` meets its contract, by the flag.
use mathlib.Core.Path.{sym, ap}
use mathlib.Core.Bool.{Bool}
use Rattle.center.specs.Center.{better}
use Rattle.center.proofs.better.Goals as goal

pub returns-then-inside : goal.returns-then-inside
returns-then-inside c = sym (ap (λ (i : Bool). better i c.args.a c.args.b) c.if-inside.true)

pub returns-else-inside : goal.returns-else-inside
returns-else-inside c = sym (ap (λ (i : Bool). better i c.args.a c.args.b) c.if-inside.false)
