-- `planner_text::put_point` meets its contract.
use mathlib.Core.Path.{sym, ap, ap₂, ◌∙◌}
use mathlib.Core.List.{[], ◌∷◌, ◌++◌}
use Prim.Native.Nat.{ℕ}
use native.Mathlib.Omega.{arith}
use Rattle.planner_text.specs.Text.{blank, line_end, steps_text, point_text}
use Rattle.file_records.proofs.View.{point_at}
use Rattle.planner_text.proofs.Put.{put_as, put_both}
use Rattle.planner_text.proofs.put_point.Goals as goal

pub returns : goal.returns
unfolding point_text
returns c =
    let a = c.args in
    let x = c.place_at-x.ensures in
    let sx = c.put_steps-behind_x.ensures in
    let bx = c.put_byte-second.ensures in
    let y = c.place_at-y.ensures in
    let sy = c.put_steps-behind_y.ensures in
    let by = c.put_byte.ensures in
    record {
      put = put_as (ap₂ (λ (u v : ℕ). (steps_text u ++ (blank ∷ [])) ++ (steps_text v ++ (line_end ∷ []))) x y ∙ ap point_text (sym (point_at a.from a.output.now))) (put_both (put_both sx.put bx) (put_both sy.put by));
      short = omega (arith, sx.short, bx.ends, sy.short, by.ends);
    }
