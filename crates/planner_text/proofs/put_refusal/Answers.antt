-- `planner_text::put_refusal` meets its contract.
use native.Mathlib.Omega.{arith}
use Rattle.planner_text.proofs.Put.{put_both}
use Rattle.planner_text.proofs.put_refusal.Goals as goal

pub returns : goal.returns
returns c =
    let w = c.put_word-behind.ensures in
    let f = c.put_field.ensures in
    record { put = put_both w (rw c.from.ensures at f.put); short = omega (arith, w.ends, f.short) }
