-- `planner_text::text_of` meets its contract.
use mathlib.Core.Path.{refl}
use native.Mathlib.Omega.{arith}
use lib.Ieee.{binary64}
use Rattle.sums.proofs.KeyLaws.{nonneg_number}
use Rattle.planner_text.proofs.Put.{put_as, put_both}
use Rattle.planner_text.proofs.Answers.{front, refused_text, planned_text, planned_printable}
use Rattle.planner_text.proofs.text_of.Goals as goal

pub float_to_bits-bits : goal.float_to_bits-bits
float_to_bits-bits c =
    let a = c.args in
    nonneg_number binary64 c.in-Planned.retrace (planned_printable a.answer a.output.now _ _ _ _ c.in-Planned.is c.requires.answer).0

pub put_points-requires : goal.put_points-requires
put_points-requires c =
    let p = planned_printable c.args.answer c.args.output.now _ _ _ _ c.in-Planned.is c.requires.answer in
    omega (arith, c.put_counts-behind.ensures.short, p.1, p.2)

pub returns-in-Refused : goal.returns-in-Refused
returns-in-Refused c =
    let r = c.put_refusal.ensures in
    let f = front _ _ _ _ (put_as (refused_text c.args.answer c.args.output.now _ c.in-Refused.is) r.put) (omega (arith, r.short)) in
    record { text = f.0; count = f.1 }

pub returns-in-Planned : goal.returns-in-Planned
returns-in-Planned c =
    let e = c.in-Planned.is in
    let p = planned_printable c.args.answer c.args.output.now _ _ _ _ e c.requires.answer in
    let n = c.put_counts-behind.ensures in
    let q = c.put_points.ensures in
    let f = front _ _ _ _ (put_as (planned_text c.args.answer c.args.output.now _ _ _ _ e _ refl) (put_both n.put q.put)) (omega (arith, n.short, q.short, p.1)) in
    record { text = f.0; count = f.1 }
