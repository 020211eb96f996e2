-- A refusal, or a plan.
use Rattle.std.proofs.Common.{sym}
use Rattle.planner_c.proofs.ExportedLaws.{output_is, floats_are, bytes_are, refused_exported, refused_some, planned_exported, planned_demand}
use Rattle.planner_c.proofs.plan.Goals as goal

pub returns-in-Refused : goal.returns-in-Refused
unfolding lib.Ieee.of_bits
returns-in-Refused c =
    let p = c.plan_file in
    let is = p.ensures.answer in
    let met = p.ensures.demand3 in
    let number = p.ensures.retrace in
    let e = sym c.in-Refused.is in
    record {
      answer = rw c.from.ensures (refused_exported _ _ _ _ _ _ _ p.result is met number _ e);
      output = output_is _ _ _ _ _ _ _ p.result is met number;
      tables = (floats_are _ _ _ _ _ _ _ p.result is met number, bytes_are _ _ _ _ _ _ _ p.result is met number);
      demand3 = rw c.from.ensures (refused_some _ _ _ _ _ _ _ p.result is met number _ e);
    }

pub returns-in-Planned : goal.returns-in-Planned
returns-in-Planned c =
    let p = c.plan_file in
    let is = p.ensures.answer in
    let met = p.ensures.demand3 in
    let number = p.ensures.retrace in
    let e = sym c.in-Planned.is in
    record {
      answer = planned_exported _ _ _ _ _ _ _ p.result is met number _ _ _ _ e;
      output = output_is _ _ _ _ _ _ _ p.result is met number;
      tables = (floats_are _ _ _ _ _ _ _ p.result is met number, bytes_are _ _ _ _ _ _ _ p.result is met number);
      demand3 = λ z. planned_demand _ _ _ _ _ _ _ p.result is met number _ _ _ _ e;
    }
