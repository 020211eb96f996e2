-- What the code's answer says, and what the planner asks of a graph in arrays.
use Rattle.std.specs.Prelude.{List, ℕ, ◌≤◌, length, Float}
use Rattle.std.specs.Float.{binary64}
use Rattle.std.specs.Float.Ieee.{to_bits}
use Rattle.limits.specs.Limits.{most_side}
use Rattle.sums.specs.Key.{Nonneg}
use Rattle.file_records.specs.declared.Settings.{Settings}
use Rattle.graph_adjacency.specs.Lists.{Adjacency}
use Rattle.graph_arrays.specs.Arrays.{NodesHeld, EdgesHeld}
use Rattle.planner_spec.specs.Plan as plan
use Rattle.planner_graph.specs.declared.Answer.{Answer}
use Rattle.planner_graph.specs.declared.Answer.TheVariants.{Refused, Planned}

-- document 01's number and values for each case; the retrace by its bits
abbrev pub answer_of : Answer → plan.Answer
answer_of (Refused k) = plan.refusal k
answer_of (Planned x before after points) = plan.planned (record { retrace = to_bits binary64 x; before = before; after = after; points = points })

-- the answer, with the output as it then is
abbrev pub outcome_of : Answer → List ℕ → plan.Outcome
outcome_of r output = record { answer = answer_of r; output = output }

-- the length of the retraces is no NaN and not negative, so that its bits can be taken
abbrev pub RetraceNonneg : Answer → Type 0
RetraceNonneg (Refused k) = Unit
RetraceNonneg (Planned x before after points) = Nonneg binary64 x

-- what is lent: the lengths of the two tables, and the output's bytes
abbrev pub lent : List Float → List ℕ → List ℕ → plan.Lent
lent floats bytes output = record { floats = length floats; bytes = length bytes; output = output }

-- The arrays hold a graph of n nodes and m edges, and the canvas is none that check 5 refuses.
pub record Plannable (settings : Settings) (n m : ℕ) (xs ys : List ℕ) (a : Adjacency) : Type 0 where
  pub nodes : NodesHeld n xs ys
  pub edges : EdgesHeld n m a
  pub wide : settings.width ≤ most_side
  pub high : settings.height ≤ most_side
