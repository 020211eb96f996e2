-- `planner_text::put_points` meets its contract.
use native.Mathlib.Omega.{arith}
use Rattle.planner_text.proofs.Points.{points_put_none, points_put_more, points_put_all}
use Rattle.planner_text.proofs.put_points.Goals as goal

pub loop-i-init : goal.loop-i-init
loop-i-init c = points_put_none _ _ _ _

pub put_point-behind-requires : goal.put_point-behind-requires
put_point-behind-requires c = omega (arith, c.loop-i.invariant.short)

pub loop-i-preserved : goal.loop-i-preserved
loop-i-preserved c =
    let p = c.put_point-behind.ensures in
    points_put_more _ _ _ _ _ _ _ _ _ c.loop-i-test.true p.put p.short c.loop-i.invariant

pub returns : goal.returns
returns c =
    let w = c.loop-i.invariant in
    record { put = points_put_all _ _ _ _ _ _ _ c.loop-i-test.false w; short = omega (arith, w.short, w.few) }
