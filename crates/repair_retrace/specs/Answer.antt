-- What the answers of code that retraces say.
use Rattle.std.specs.Prelude.{◌≡◌, ℕ, Result, Ok, Err}
use Rattle.graph_adjacency.specs.Lists.{Adjacency}
use Rattle.graph_arrays.specs.Arrays.{edges_in, EdgesHeld}
use Rattle.repair_spec.specs.Repair.{Repairing}
use Rattle.repair_copies.specs.Laying.{laid_of}
use Rattle.repair_retrace.specs.Outcome.{RepairOutcome, refused, done, outcome}
use Rattle.repair_retrace.specs.declared.Laid.{Laid}

-- the outcome, read off the arrays as they then are; an error is the number of a refusal
abbrev pub outcome_in : Result Laid ℕ → Adjacency → RepairOutcome
outcome_in (Ok l) a = done (laid_of (edges_in l.edges a) l.sum)
outcome_in (Err k) a = refused k

-- they still hold a graph, where nothing was refused
abbrev pub HeldAfter : ℕ → Result Laid ℕ → Adjacency → Type 0
HeldAfter n (Ok l) a = EdgesHeld n l.edges a
HeldAfter n (Err k) a = Unit

-- the answer, with the arrays a, is the repair x of a graph of n nodes
pub record Answers (n : ℕ) (x : Repairing) (answer : Result Laid ℕ) (a : Adjacency) : Type 0 where
  pub is : outcome_in answer a ≡ outcome x
  pub held : HeldAfter n answer a
