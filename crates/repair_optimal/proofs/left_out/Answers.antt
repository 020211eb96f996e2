-- The steps.
use native.Mathlib.Omega.{arith}
use Prim.Native.Nat.{◌-◌}
use mathlib.Core.Path.{refl}
use Rattle.repair_optimal.proofs.Turns.{each_begin, each_turn, each_over, later_fits, power_most, four}
use Rattle.repair_masks.specs.Table.{least}
use Rattle.repair_optimal.proofs.left_out.Goals as goal

pub overflow_sub-first : goal.overflow_sub-first
overflow_sub-first c = omega (arith, four c.args.n c.requires.0)

pub bounds-table-first : goal.bounds-table-first
bounds-table-first c = omega (arith, four c.args.n c.requires.0)

pub overflow_sub-full-2 : goal.overflow_sub-full-2
overflow_sub-full-2 c = omega (arith, four c.args.n c.requires.0)

pub leave_from-best-requires : goal.leave_from-best-requires
leave_from-best-requires c =
    record { n_le_most_odd = (omega arith, omega (arith, four c.args.n c.requires.0), omega arith); by_index = λ v l. later_fits c.args.n 0 c.power-full.result 1 c.power-full.ensures.0 refl (omega arith) v (omega arith) }

pub loop-u-init : goal.loop-u-init
loop-u-init c =
    each_begin c.args.table.now c.args.n _ _ c.power-full.ensures.0 c.leave_from-best.ensures

pub overflow_sub-mask : goal.overflow_sub-mask
overflow_sub-mask c = omega (arith, power_most c.args.n c.loop-u.u (omega arith))

pub leave_from-best-requires-in-loop-u : goal.leave_from-best-requires-in-loop-u
leave_from-best-requires-in-loop-u c =
    record { n_le_most_odd = (omega arith, omega (arith, four c.args.n c.requires.0), omega arith); by_index = later_fits c.args.n c.loop-u.u c.power-full.result c.power.result c.power-full.ensures.0 c.power.ensures.0 (omega arith) }

pub loop-u-preserved : goal.loop-u-preserved
loop-u-preserved c =
    each_turn c.args.table.now c.args.n (c.power-full.result - 1) c.loop-u.u c.power.result (least c.loop-u.best.cost c.loop-u.best.at) _ _ (omega arith) c.power.ensures.0 c.loop-u.invariant c.leave_from-best-in-loop-u.ensures

pub returns : goal.returns
returns c =
    each_over c.args.table.now c.args.n (c.power-full.result - 1) c.loop-u.u (least c.loop-u.best.cost c.loop-u.best.at) _ (omega arith) c.loop-u.invariant
