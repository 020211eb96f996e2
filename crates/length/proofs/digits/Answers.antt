-- `length::digits` meets its contract: Zimmermann's step of `specs/Steps.antt`, rounded.
use native.Mathlib.Omega.{arith}
use Rattle.length.proofs.Steps.{InRange, in_range, rounded_up, rounded_down}
use Rattle.length.proofs.digits.Goals as goal
use Rattle.length.proofs.digits.Goals.{After-whole_root-s}

ranges : (c : After-whole_root-s) → InRange c.args.m c.whole_root-s.result.root c.whole_root-s.result.rest c.whole_root-s.ensures c.requires c.ranges.m.fits
ranges c = in_range _ _ _ c.whole_root-s.ensures c.requires c.ranges.m.fits

pub overflow_mul-n : goal.overflow_mul-n
overflow_mul-n c = let r = ranges (goal.at.overflow_mul-n c).After-whole_root-s in omega arith

pub nonzero_div-q : goal.nonzero_div-q
nonzero_div-q c = let r = ranges (goal.at.nonzero_div-q c).After-whole_root-s in omega arith

pub overflow_mul-root : goal.overflow_mul-root
overflow_mul-root c = let r = ranges (goal.at.overflow_mul-root c).After-whole_root-s in omega arith

pub overflow_add-root : goal.overflow_add-root
overflow_add-root c = let r = ranges (goal.at.overflow_add-root c).After-whole_root-s in omega arith

pub overflow_mul-q : goal.overflow_mul-q
overflow_mul-q c = let r = ranges (goal.at.overflow_mul-q c).After-whole_root-s in omega arith

pub overflow_add-root-2 : goal.overflow_add-root-2
overflow_add-root-2 c = let r = ranges (goal.at.overflow_add-root-2 c).After-whole_root-s in omega arith

pub nonzero_rem-n : goal.nonzero_rem-n
nonzero_rem-n c = let r = ranges (goal.at.nonzero_rem-n c).After-whole_root-s in omega arith

pub overflow_mul-n-2 : goal.overflow_mul-n-2
overflow_mul-n-2 c = let r = ranges (goal.at.overflow_mul-n-2 c).After-whole_root-s in omega arith

pub overflow_add-result : goal.overflow_add-result
overflow_add-result c = let r = ranges (goal.at.overflow_add-result c).After-whole_root-s in omega arith

pub returns-then-root-q : goal.returns-then-root-q
returns-then-root-q c = rounded_up _ _ _ c.whole_root-s.ensures c.requires c.ranges.m.fits c.if-root-q.true

pub returns : goal.returns
returns c = rounded_down _ _ _ c.whole_root-s.ensures c.requires c.ranges.m.fits c.if-root-q.false
