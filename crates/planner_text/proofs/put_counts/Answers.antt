-- `planner_text::put_counts` meets its contract.
use native.Mathlib.Omega.{arith}
use Rattle.planner_text.specs.Text.{first_line}
use Rattle.planner_text.proofs.Put.{put_both}
use Rattle.planner_text.proofs.put_counts.Goals as goal

pub put_field-second-requires : goal.put_field-second-requires
put_field-second-requires c = omega (arith, c.put_word-ok.ensures.ends, c.put_bits-first.ensures.short)

pub put_field-third-requires : goal.put_field-third-requires
put_field-third-requires c = omega (arith, c.put_word-ok.ensures.ends, c.put_bits-first.ensures.short, c.put_field-second.ensures.short)

pub put_field-requires : goal.put_field-requires
put_field-requires c = omega (arith, c.put_word-ok.ensures.ends, c.put_bits-first.ensures.short, c.put_field-second.ensures.short, c.put_field-third.ensures.short)

pub returns : goal.returns
unfolding first_line
returns c =
    let w = c.put_word-ok.ensures in
    let b = c.put_bits-first.ensures in
    let f = c.put_field-second.ensures in
    let g = c.put_field-third.ensures in
    let h = c.put_field.ensures in
    record { put = put_both (put_both (put_both (put_both w b.put) f.put) g.put) h.put; short = omega (arith, w.ends, b.short, f.short, g.short, h.short) }
