-- The steps.
use native.Mathlib.Omega.{arith}
use Rattle.repair_table.proofs.FillLaws.{filled_turn, filled_first, zero_set, filled_all, filled_next, filled_enough}
use mathlib.Core.Path.{◌≡◌, refl, ◌∙◌}
use lib.ListN.{length, length-set}
use lib.Pow.{pow_pos}
use Rattle.repair_table.proofs.fill.Goals as goal

pub bounds-table-0 : goal.bounds-table-0
bounds-table-0 c = omega (arith, pow_pos c.args.n)

pub loop-m-init : goal.loop-m-init
loop-m-init c =
    (omega arith, omega arith, refl, refl, filled_first _ _ _ (zero_set c.args.table.now (omega (arith, pow_pos c.args.n))))

pub fill_mask-requires : goal.fill_mask-requires
fill_mask-requires c =
    let len : length c.loop-m.table ≡ length c.args.table.now = c.loop-m.invariant.2 ∙ simp length-set in
    omega arith

pub next_mask-m-requires : goal.next_mask-m-requires
next_mask-m-requires c = omega arith

pub loop-m-preserved : goal.loop-m-preserved
loop-m-preserved c =
    let len : length c.loop-m.table ≡ length c.args.table.now = c.loop-m.invariant.2 ∙ simp length-set in
    let t = filled_turn _ _ _ _ _ c.requires.n_nonzero.1 c.loop-m.invariant.0 (omega arith) (omega arith) (omega arith) c.loop-m.invariant.4 _ _ c.fill_mask.ensures.0 c.fill_mask.ensures.1 in
    let next = c.next_mask-m.ensures in
    let near = next.near in
    let later = next.later in
    (omega arith, omega arith, t.1 ∙ c.loop-m.invariant.2, t.2 ∙ c.loop-m.invariant.3, filled_next _ _ _ _ _ _ t.0 next)

pub shape_of-table : goal.shape_of-table
shape_of-table c = c.loop-m.invariant.2 ∙ simp length-set

pub shape_of-partners : goal.shape_of-partners
shape_of-partners c = c.loop-m.invariant.3

pub returns : goal.returns
returns c =
    filled_all _ _ c.args.table.now _ _ _ (filled_enough _ c.loop-m.m _ _ _ _ (omega arith) c.loop-m.invariant.4)
