-- Laws of specs/Answer.
use mathlib.Core.Path.{◌≡◌, sym, ap, subst}
use mathlib.Core.List.{List}
use Prim.Native.Nat.{ℕ}
use lib.ListN.{length, replicate}
use lib.Ieee.{Float}
use Rattle.repair_spec.specs.Distance.{zero_length}
use Rattle.planner_spec.specs.Plan as plan
use Rattle.planner_spec.specs.Demand3.{Demand3}
use Rattle.planner_spec.proofs.Proved.{demand3}
use Rattle.planner_graph.specs.Answer.{outcome_of, lent}
use Rattle.planner_graph.specs.declared.Answer.{Answer}
use Rattle.planner_graph.specs.declared.Answer.TheVariants.{Refused, Planned}
use Rattle.planner.specs.Answer.{call, after, DemandMet}

module _ (file : List ℕ) (floats : List Float) (bytes output : List ℕ) (r : Answer) (output' : List ℕ) (is : outcome_of r output' ≡ plan.plan file (lent floats bytes output)) where
  -- with both tables zero
  pub after_call : (floats' : List Float) (bytes' : List ℕ) → floats' ≡ replicate (length floats) zero_length → bytes' ≡ replicate (length bytes) 0
      → after r floats' bytes' output' ≡ plan.called file (call floats bytes output)
  unfolding plan.called
  after_call floats' bytes' f b =
      λ i. record { answer = (is i).answer; output = (is i).output; floats = f i; bytes = b i }

pub demand_met : (file : List ℕ) (floats : List Float) (bytes output : List ℕ) (r : Answer) (output' : List ℕ) → outcome_of r output' ≡ plan.plan file (lent floats bytes output)
    → DemandMet r file output output'
demand_met file floats bytes output (Refused k) output' is = tt
demand_met file floats bytes output (Planned x before left points) output' is =
    subst (λ (o : List ℕ). Demand3 (plan.drawing_in file) output o) (ap (λ (o : plan.Outcome). o.output) (sym is))
    (demand3 file (lent floats bytes output) _ (ap (λ (o : plan.Outcome). o.answer) (sym is)))
