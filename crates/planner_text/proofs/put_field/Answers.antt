-- `planner_text::put_field` meets its contract.
use native.Mathlib.Omega.{arith}
use Rattle.planner_text.specs.Text.{field}
use Rattle.planner_text.proofs.Put.{put_both}
use Rattle.planner_text.proofs.put_field.Goals as goal

pub returns : goal.returns
unfolding field
returns c =
    let d = c.put_decimal-behind.ensures in
    let b = c.put_byte.ensures in
    record { put = put_both d.put b; short = omega (arith, d.short, b.ends) }
