-- `planner_text::put_steps` meets its contract.
use native.Mathlib.Omega.{arith}
use Rattle.planner_text.proofs.Put.{put_as, put_both}
use Rattle.planner_text.proofs.Text.{steps_below, steps_above, steps_short}
use Rattle.planner_text.proofs.put_steps.Goals as goal

pub returns-then-place-lt-ORIGIN : goal.returns-then-place-lt-ORIGIN
returns-then-place-lt-ORIGIN c =
    let a = c.args in
    let p = put_as (steps_below a.place (omega arith)) (put_both c.put_byte-behind.ensures (rw c.from.ensures at c.put_decimal.ensures.put)) in
    record { put = p; short = omega (arith, p.ends, steps_short a.place (omega arith)) }

pub returns : goal.returns
returns c =
    let a = c.args in
    let p = put_as (steps_above a.place (omega arith)) (rw c.from-2.ensures at c.put_decimal-2.ensures.put) in
    record { put = p; short = omega (arith, p.ends, steps_short a.place (omega arith)) }
