-- `phases_c::plan_up_to` meets its contract.
use mathlib.Core.Path.{◌≡◌, ap, ◌∙◌}
use Prim.Native.Nat.{ℕ}
use lib.ListN.{length, replicate}
use borrow.Author.Rules.{rules}
use Rattle.repair_spec.specs.Distance.{zero_length}
use Rattle.phases_c.proofs.plan_up_to.Goals as goal

pub returns : goal.returns
returns c =
    let p = c.phase_of_bytes-answer in
    let lf : length p.new.floats ≡ length c.args.floats.now = search rules in
    let lb : length p.new.bytes ≡ length c.args.bytes.now = search rules in
    record {
      answer = p.ensures;
      tables = (c.clear_floats.ensures ∙ ap (λ (k : ℕ). replicate k zero_length) lf, c.clear_bytes.ensures ∙ ap (λ (k : ℕ). replicate {A = ℕ} k 0) lb);
    }
