-- What is said of a whole call.
use Rattle.std.specs.Prelude.{List, ℕ, Float}
use Rattle.planner_spec.specs.Plan.{Call, After, drawing_in}
use Rattle.planner_spec.specs.Demand3.{Demand3}
use Rattle.planner_graph.specs.Answer.{answer_of}
use Rattle.planner_graph.specs.declared.Answer.{Answer}
use Rattle.planner_graph.specs.declared.Answer.TheVariants.{Refused, Planned}

-- what a call is lent
abbrev pub call : List Float → List ℕ → List ℕ → Call
call floats bytes output = record { floats = floats; bytes = bytes; output = output }

-- what it answers, and what it leaves in what it was lent
abbrev pub after : Answer → List Float → List ℕ → List ℕ → After
after r floats bytes output = record { answer = answer_of r; output = output; floats = floats; bytes = bytes }

-- Demand 3 of the output's bytes before and after the call, where the file was planned.
abbrev pub DemandMet : Answer → List ℕ → List ℕ → List ℕ → Type 0
DemandMet (Refused k) file outputBefore outputAfter = Unit
DemandMet (Planned retrace before after points) file outputBefore outputAfter = Demand3 (drawing_in file) outputBefore outputAfter
