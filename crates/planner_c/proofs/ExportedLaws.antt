-- Laws of specs/Exported: the struct says what the planner's answer says.
use mathlib.Core.Path.{◌≡◌, refl, sym, ap, subst, ◌∙◌}
use mathlib.Core.List.{List}
use Prim.Native.Nat.{ℕ}
use native.Mathlib.Omega.{arith}
use lib.Ieee.{Float, binary64}
use lib.Ieee.Bits.{of_bits-to_bits}
use Rattle.repair_spec.specs.Distance.{zero_length}
use Rattle.planner_spec.specs.Plan.{After, Answer, refusal, called, drawing_in, plan, lent_to}
use Rattle.planner_spec.specs.Demand3.{Demand3}
use Rattle.planner_spec.proofs.Numbered.{plan_numbered}
use Rattle.planner_graph.specs.Answer.{answer_of, RetraceNonneg}
use Rattle.planner_graph.specs.declared.Answer as code
use Rattle.planner_graph.specs.declared.Answer.TheVariants.{Refused, Planned}
use Rattle.planner.specs.Answer.{call, after, DemandMet}
use Rattle.planner_c.specs.Exported.{exported}

-- the bits of a retrace are those of its length
exported_planned : (x : Float) (before left points : ℕ) → RetraceNonneg (Planned x before left points)
    → exported (answer_of (Planned x before left points)) ≡ record { refusal = 0; retrace = x; before = before; after = left; points = points }
exported_planned x before left points n =
    ap (λ (y : Float). record { refusal = 0; retrace = y; before = before; after = left; points = points }) (of_bits-to_bits binary64 x n.fit)

module _ (file : List ℕ) (floats floats' : List Float) (bytes bytes' output output' : List ℕ) (r : code.Answer)
    (is : after r floats' bytes' output' ≡ called file (call floats bytes output)) (met : DemandMet r file output output') (nonneg : RetraceNonneg r) where
  answer_is : answer_of r ≡ (called file (call floats bytes output)).answer
  answer_is = ap (λ (c : After). c.answer) is

  pub output_is : output' ≡ (called file (call floats bytes output)).output
  output_is = ap (λ (c : After). c.output) is

  pub floats_are : floats' ≡ (called file (call floats bytes output)).floats
  floats_are = ap (λ (c : After). c.floats) is

  pub bytes_are : bytes' ≡ (called file (call floats bytes output)).bytes
  bytes_are = ap (λ (c : After). c.bytes) is

  module _ (k : ℕ) (e : Refused k ≡ r) where
    pub refused_exported : record { refusal = k; retrace = zero_length; before = 0; after = 0; points = 0 } ≡ exported (called file (call floats bytes output)).answer
    refused_exported = ap (λ (a : code.Answer). exported (answer_of a)) e ∙ ap exported answer_is

    called_answer : (called file (call floats bytes output)).answer ≡ (plan file (lent_to (call floats bytes output))).answer
    unfolding called
    called_answer = refl

    pub refused_some : k ≡ 0 → Demand3 (drawing_in file) output output'
    refused_some z =
        let some = plan_numbered file (lent_to (call floats bytes output)) k (sym (ap answer_of e ∙ answer_is ∙ called_answer)) in
        absurd (omega (arith, some))

  module _ (x : Float) (before left points : ℕ) (e : Planned x before left points ≡ r) where
    pub planned_exported : record { refusal = 0; retrace = x; before = before; after = left; points = points } ≡ exported (called file (call floats bytes output)).answer
    planned_exported =
        sym (exported_planned x before left points (subst RetraceNonneg (sym e) nonneg)) ∙ ap (λ (a : code.Answer). exported (answer_of a)) e ∙ ap exported answer_is

    pub planned_demand : Demand3 (drawing_in file) output output'
    planned_demand = subst (λ (a : code.Answer). DemandMet a file output output') (sym e) met
