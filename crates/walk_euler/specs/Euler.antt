-- The line through all edges from the start s: the circuit where no node is odd, and where two are the circuit with the virtual edge, cut at its step.
use Rattle.std.specs.Prelude.{List, [], ◌∷◌, ◌++◌, ℕ, length}
use Rattle.graph_spec.specs.Graph.{Edge, edge}
use Rattle.repair_spec.specs.Distance.{zero_length}
use Rattle.walk_spec.specs.Walk.{circuit, nodes_of}
use Rattle.walk_spec.specs.VirtualStep.{cut_at}

-- no node is odd
abbrev pub closed_line : ℕ → List Edge → List ℕ
closed_line s es = nodes_of (circuit es s)

-- u and v are
abbrev pub open_line : ℕ → ℕ → ℕ → List Edge → List ℕ
open_line u v s es = nodes_of (cut_at (length es) [] (circuit (es ++ (edge u v zero_length ∷ [])) s))
