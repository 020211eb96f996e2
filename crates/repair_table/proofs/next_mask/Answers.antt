-- `repair_table::next_mask` meets its contract.
use native.Mathlib.Omega.{arith}
use lib.Count.{ones-le}
use Rattle.repair_table.proofs.Turns.{power_small}
use Rattle.repair_table.proofs.FillLaws.{next_skip, next_one}
use Rattle.repair_table.proofs.next_mask.Goals as goal

pub overflow_cast-places : goal.overflow_cast-places
overflow_cast-places c = omega (arith, ones-le c.args.n c.args.m c.requires.1)

pub overflow_sub-half : goal.overflow_sub-half
overflow_sub-half c = omega (arith, ones-le c.args.n c.args.m c.requires.1)

pub overflow_add-result : goal.overflow_add-result
overflow_add-result c = omega (arith, power_small c.args.n c.requires.2)

pub returns-then-i-half : goal.returns-then-i-half
returns-then-i-half c =
    let low = c.lowest-i in
    next_skip c.args.n c.args.m low.result low.result _ low.ensures.place low.ensures.power (omega arith) c.power.ensures.0 (omega (arith, ones-le c.args.n c.args.m c.requires.1))

pub overflow_add-result-then-half-eq0 : goal.overflow_add-result-then-half-eq0
overflow_add-result-then-half-eq0 c = omega (arith, power_small c.args.n c.requires.2)

pub returns-then-half-eq0 : goal.returns-then-half-eq0
returns-then-half-eq0 c = next_one _ _ c.requires.0

pub overflow_add-result-2 : goal.overflow_add-result-2
overflow_add-result-2 c =
    let low = c.lowest-i in
    let next = next_skip c.args.n c.args.m low.result _ _ low.ensures.place low.ensures.power (omega arith) c.power-2.ensures.0 (omega (arith, ones-le c.args.n c.args.m c.requires.1)) in
    omega (arith, next.near, power_small c.args.n c.requires.2)

pub returns : goal.returns
returns c =
    let low = c.lowest-i in
    next_skip c.args.n c.args.m low.result _ _ low.ensures.place low.ensures.power (omega arith) c.power-2.ensures.0 (omega (arith, ones-le c.args.n c.args.m c.requires.1))
