-- `planner::plan_file` meets its contract.
use mathlib.Core.Path.{◌≡◌, ap, ◌∙◌}
use Prim.Native.Nat.{ℕ}
use lib.ListN.{length, replicate}
use borrow.Author.Rules.{rules}
use Rattle.repair_spec.specs.Distance.{zero_length}
use Rattle.planner.proofs.Answer.{after_call, demand_met}
use Rattle.planner.proofs.plan_file.Goals as goal

pub returns : goal.returns
returns c =
    let a = c.args in
    let p = c.plan_bytes-answer in
    let lf : length p.new.floats ≡ length a.floats.now = search rules in
    let lb : length p.new.bytes ≡ length a.bytes.now = search rules in
    let is = p.ensures.outcome in
    record {
      answer =
          after_call a.file.now a.floats.now a.bytes.now a.output.now p.result _ is _ _
          (c.clear_floats.ensures ∙ ap (λ (k : ℕ). replicate k zero_length) lf)
          (c.clear_bytes.ensures ∙ ap (λ (k : ℕ). replicate {A = ℕ} k 0) lb);
      demand3 = demand_met a.file.now a.floats.now a.bytes.now a.output.now p.result _ is;
      retrace = p.ensures.retrace;
    }
