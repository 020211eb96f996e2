-- The steps.
use mathlib.Core.Path.{◌≡◌}
use Prim.Native.Nat.{ℕ, ◌+◌, ◌-◌, ◌*◌, ◌/◌, ◌^◌, ◌≤◌, ◌<◌, zero-le}
use native.Mathlib.Nat.{mul-le-mul}
use native.Mathlib.Omega.{arith}
use lib.Dec.{lit<}
use mir.Syntax.{w64}
use mir.Val.{Fits}
use Rattle.length.proofs.Whole.{root_lt}
use Rattle.length.proofs.Steps.{Mean, mean}
use Rattle.length.proofs.whole_root.Lts.{then-root-gt4294967295, else-root-gt4294967295}
use Rattle.length.proofs.whole_root.Goals as goal
use Rattle.length.proofs.whole_root.Goals.{After-guess-s, In-loop-root}

near : (c : After-guess-s) → Mean (2 ^ 31) (2 ^ 35) c.args.m ((c.guess-s.result + c.args.m / c.guess-s.result) / 2)
near c = mean (2 ^ 31) (2 ^ 35) _ _ (omega arith) (omega arith) (omega arith) (omega arith)

positive : (c : In-loop-root) → 0 < c.loop-root.root
positive c = root_lt _ 0 _ zero-le c.loop-root-test.true

fits : (x : ℕ) → x < 2 ^ 32 → Fits w64 (x * x)
fits x h = let l : x ≤ 2 ^ 32 - 1 = omega arith in omega (arith, mul-le-mul l l)

pub guess-s-requires : goal.guess-s-requires
guess-s-requires c = omega arith

pub nonzero_div-root : goal.nonzero_div-root
nonzero_div-root c = omega arith

pub overflow_add-root : goal.overflow_add-root
overflow_add-root c = omega (arith, near (goal.at.overflow_add-root c).After-guess-s)

pub loop-root-init : goal.loop-root-init
loop-root-init c =
    elim c.if-root-gt4294967295.branch [
      | then-root-gt4294967295 w ↦ rw w.root-is (lit< tt, c.ranges.m.fits)
      | else-root-gt4294967295 w ↦ rw w.root-is (omega arith, (near (goal.at.loop-root-init c).After-guess-s).reached)
    ]

pub overflow_mul-root : goal.overflow_mul-root
overflow_mul-root c = fits c.loop-root.root c.loop-root.invariant.0

pub overflow_sub-root : goal.overflow_sub-root
overflow_sub-root c = positive (goal.at.overflow_sub-root c).In-loop-root

pub loop-root-smaller : goal.loop-root-smaller
loop-root-smaller c = omega (arith, positive (goal.at.loop-root-smaller c).In-loop-root)

pub loop-root-preserved : goal.loop-root-preserved
loop-root-preserved c =
    let e : c.loop-root.root - 1 + 1 ≡ c.loop-root.root = omega (arith, positive (goal.at.loop-root-preserved c).In-loop-root) in
    (omega arith, rw e c.loop-root-test.true)

pub overflow_mul-result : goal.overflow_mul-result
overflow_mul-result c = fits c.loop-root.root c.loop-root.invariant.0

pub overflow_sub-result : goal.overflow_sub-result
overflow_sub-result c = omega arith

pub returns : goal.returns
returns c = record { whole = omega arith; small = omega arith }
