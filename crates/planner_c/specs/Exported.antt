-- The answer as a struct for other languages: document 01's number and values for each case.
use Rattle.std.specs.Float.{binary64}
use Rattle.std.specs.Float.Ieee.{of_bits}
use Rattle.repair_spec.specs.Distance.{zero_length}
use Rattle.planner_spec.specs.Plan.{Answer, refusal, planned}
use Rattle.planner_c.specs.declared.Outcome.{Outcome}

-- a refusal has its number and zeros; a plan has the number 0
abbrev pub exported : Answer → Outcome
exported (refusal k) = record { refusal = k; retrace = zero_length; before = 0; after = 0; points = 0 }
exported (planned p) = record { refusal = 0; retrace = of_bits binary64 p.retrace; before = p.before; after = p.after; points = p.points }
