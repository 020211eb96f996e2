-- What the planner answers can be printed: the output has room for the record of the line, and so for no more than 4,001 points.
use mathlib.Core.Path.{◌≡◌, sym, ap}
use mathlib.Core.List.{List}
use Prim.Native.Nat.{ℕ}
use native.Mathlib.Omega.{arith}
use lib.ListN.{length}
use lib.Ieee.{Float}
use Rattle.planner_spec.specs.Plan as spec
use Rattle.planner_spec.proofs.Plan.{planned_room}
use Rattle.planner_graph.specs.Answer.{RetraceNonneg}
use Rattle.planner_graph.specs.declared.Answer.{Answer}
use Rattle.planner_graph.specs.declared.Answer.TheVariants.{Refused, Planned}
use Rattle.planner.specs.Answer.{call, after}
use Rattle.planner_text.specs.Put.{Printable}

module _ (file : List ℕ) (floats : List Float) (bytes output : List ℕ) (floats' : List Float) (bytes' output' : List ℕ) where
  pub printable : (r : Answer) → after r floats' bytes' output' ≡ spec.called file (call floats bytes output) → RetraceNonneg r → length output ≡ 64022 → length output' ≡ 64022 → Printable r output'
  unfolding spec.called
  printable (Refused k) e w long long' = tt
  printable (Planned x before left points) e w long long' =
      let room = planned_room file (spec.lent_to (call floats bytes output)) _ (ap (λ (a : spec.After). a.answer) (sym e)) in
      (w, omega (arith, room, long), omega (arith, room, long, long'))
