-- Laws of specs/Saved: the struct says what the writer's answer says.
use mathlib.Core.Path.{◌≡◌, ap, ◌∙◌}
use mathlib.Core.List.{List}
use Prim.Native.Nat.{ℕ}
use native.Mathlib.Omega.{arith}
use lib.ListN.{take}
use Rattle.std.proofs.Common.{Ok, Err}
use Rattle.limits.specs.declared.Refusal.{Refusal}
use Rattle.limits.specs.Refused.{number_of}
use Rattle.writer_spec.specs.Save as write
use Rattle.writer_spec.specs.Given.{Given, sketch_given, save_given}
use Rattle.writer_spec.specs.OneFile.{OneFile}
use Rattle.writer_spec.proofs.Saved.{saved_numbered}
use Rattle.writer.specs.Saved.{saved_from}
use Rattle.planner_c.specs.declared.Saved.{Saved}
use Rattle.planner_c.specs.Saved.{saved_as}

module _ (g : Given) (d d' : List ℕ) where
  module _ (k : Refusal) (is : saved_from (Err k) d' ≡ save_given g d) (n : ℕ) (e : n ≡ number_of k) where
    pub refused_destination : d' ≡ (save_given g d).destination
    refused_destination = ap (λ (s : write.Saved). s.destination) is

    answer_refused : write.refusal n ≡ (save_given g d).answer
    answer_refused = ap write.refusal e ∙ ap (λ (s : write.Saved). s.answer) is

    pub refused_saved : ◌≡◌ {A = Saved} (record { refusal = n; bytes = 0 }) (saved_as (save_given g d).answer)
    refused_saved = ap saved_as answer_refused

    pub refused_no_file : n ≡ 0 → OneFile (sketch_given g) (take 0 d')
    refused_no_file z = absurd (omega (arith, saved_numbered g d n answer_refused))

  module _ (n : ℕ) (is : saved_from (Ok n) d' ≡ save_given g d) where
    pub written_destination : d' ≡ (save_given g d).destination
    written_destination = ap (λ (s : write.Saved). s.destination) is

    pub written_saved : ◌≡◌ {A = Saved} (record { refusal = 0; bytes = n }) (saved_as (save_given g d).answer)
    written_saved = ap (λ (s : write.Saved). saved_as s.answer) is
