-- What Hierholzer 1873 has to say of the bytes written for a drawing: the line in them is an Euler line of the repaired graph.
use Rattle.std.specs.Prelude.{◌≡◌, ◌⊎◌, List, [], map, ℕ, ◌<◌, length}
use Rattle.lists.specs.Members.{All}
use Rattle.drawing_spec.specs.Drawing.{Point, Drawing}
use Rattle.graph_spec.specs.Graph.{point_at, build_graph}
use Rattle.repair_spec.specs.Repair.{Repair, repaired}
use Rattle.walk_spec.specs.EulerLine.{EulerLine}
use Rattle.planner_spec.specs.LineRecord.{Written}
use Rattle.planner_spec.specs.Plan.{repair_of}

-- of the output's bytes before and after the call
pub record EulerWritten (d : Drawing) (before after : List ℕ) : Type 0 where
  -- the output is the record of a line, then the bytes that were there
  pub line : List Point
  pub written : Written line before after
  -- the line's points are those of nodes of the drawing's graph
  pub way : List ℕ
  pub points : line ≡ map (point_at (build_graph d).nodes) way
  pub nodes : All (λ (v : ℕ). v < length (build_graph d).nodes) way
  -- these nodes are an Euler line of the graph with the edges of its repair; or there is no node and no line
  pub repair : Repair
  pub repairs : repair_of (build_graph d) d.settings ≡ repaired repair
  pub euler : EulerLine (length (build_graph d).nodes) repair.edges way ⊎ (((build_graph d).nodes ≡ []) × (way ≡ []))
