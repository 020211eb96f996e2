-- A repair as code keeps it: its edges and its sum, without the list of retraces.
use Rattle.std.specs.Prelude.{List, [], ℕ, Float}
use Rattle.graph_spec.specs.Graph.{Edge}
use Rattle.repair_spec.specs.Copies.{Laid}
use Rattle.repair_spec.specs.Repair.{Repair, Repairing, stopped, repaired}
use Rattle.repair_copies.specs.Laying.{laid_of}

-- or the number of a refusal
pub data RepairOutcome : Type 0 where
  refused : ℕ → RepairOutcome
  done : Laid → RepairOutcome

abbrev pub outcome : Repairing → RepairOutcome
outcome (stopped k) = refused k
outcome (repaired r) = done (laid_of r.edges r.sum)

-- a repair so far: these edges and this sum, no retrace listed
abbrev pub so_far : List Edge → Float → Repair
so_far es x = record { edges = es; retraces = []; sum = x }
