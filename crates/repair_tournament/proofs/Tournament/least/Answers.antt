-- The steps.
use mathlib.Core.Path.{◌≡◌, ap, ◌∙◌}
use Prim.Native.Nat.{◌+◌, ◌-◌}
use native.Mathlib.Omega.{arith}
use Rattle.repair_tournament.specs.Tree.{at}
use Rattle.repair_tournament.proofs.Tree.{down_first, down_second}
use Rattle.repair_tournament.proofs.Tournament.least.Goals as goal

pub loop-i-preserved-then-self-i : goal.loop-i-preserved-then-self-i
loop-i-preserved-then-self-i c = (omega arith, omega arith, down_second c.args.n c.args.self.now.values c.loop-i.i _ c.requires.2 c.loop-i.invariant.0 c.loop-i-test.true c.loop-i.invariant.2 c.if-self-i.true)

pub loop-i-preserved : goal.loop-i-preserved
loop-i-preserved c = (omega arith, omega arith, down_first c.args.n c.args.self.now.values c.loop-i.i _ c.requires.2 c.loop-i.invariant.0 c.loop-i-test.true c.loop-i.invariant.2 c.if-self-i.false)

pub returns : goal.returns
returns c =
    let e : c.args.n + (c.loop-i.i - c.args.n) ≡ c.loop-i.i = omega (arith, c.loop-i-test.false) in
    (omega arith, ap (at c.args.self.now.values) e ∙ c.loop-i.invariant.2)
