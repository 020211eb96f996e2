-- What the planner has made of a file when a call stops after a phase, by the phase's number, as in phases/specs/Ends: 0 the file is read and its links are made, where flag 4 asks for them, 1 the graph, 2 the odd nodes,
-- 3 the pairs, 4 a search for each pair, 5 repair; any other is the line.
use Rattle.std.specs.Prelude.{List, true, false, ℕ, length, eqb, ltb}
use Rattle.limits.specs.Limits.{refused_apart}
use Rattle.drawing_spec.specs.Drawing.{Settings, Drawing}
use Rattle.drawing_spec.specs.Refusal.{refused, accepted, verdict}
use Rattle.drawing_spec.specs.Read.{read_conditions}
use Rattle.graph_spec.specs.Graph.{Graph, build_graph}
use Rattle.graph_spec.specs.Reach.{all_reached}
use Rattle.repair_spec.specs.Distance.{zero_length}
use Rattle.planner_spec.specs.Plan.{drawing_in}
use Rattle.phases.specs.Ends.{refused_with, made, odd_end, pairs_end, repair_end}
use Rattle.phases.specs.declared.Phase.{Phase}

-- after check 9
unfoldable pub reached_phase : Graph → Settings → ℕ → ℕ → ℕ → Phase
unfolding odd_end pairs_end repair_end
reached_phase g s floats bytes last =
    elim (eqb last 2) [
      | true ↦ odd_end (length g.nodes) g.edges
      | false ↦ elim (ltb last 5) [ true ↦ pairs_end g s floats bytes last | false ↦ repair_end g s floats bytes last ]
    ]

-- how many nodes and edges there are, or what a later phase makes
unfoldable pub graph_phase : Graph → Settings → ℕ → ℕ → ℕ → Phase
unfolding all_reached reached_phase
graph_phase g s floats bytes last =
    elim (eqb last 1) [
      | true ↦ made (length g.nodes) (length g.edges) zero_length
      | false ↦ elim (all_reached (length g.nodes) g.edges) [ true ↦ reached_phase g s floats bytes last | false ↦ refused_with refused_apart ]
    ]

-- how many lines and links there are, or what a later phase makes
unfoldable pub drawing_phase : Drawing → ℕ → ℕ → ℕ → Phase
unfolding build_graph graph_phase
drawing_phase d floats bytes last =
    elim (eqb last 0) [ true ↦ made (length d.lines) (length d.links) zero_length | false ↦ graph_phase (build_graph d) d.settings floats bytes last ]

-- of a file, with work tables of so many entries, up to the end of the phase `last`
unfoldable pub phase_of : List ℕ → ℕ → ℕ → ℕ → Phase
unfolding verdict read_conditions drawing_in drawing_phase
phase_of file floats bytes last = elim (verdict (read_conditions file)) [ refused k ↦ refused_with k | accepted ↦ drawing_phase (drawing_in file) floats bytes last ]
