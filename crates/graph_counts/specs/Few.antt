-- How many nodes and edges the graph of a drawing within checks 1 to 8 has at most, and how many of its nodes are odd.
use Rattle.std.specs.Prelude.{ℕ, ◌+◌, ◌-◌, ◌*◌, ◌≤◌, length}
use Rattle.limits.specs.Limits.{most_nodes, most_lines, most_points, most_links}
use Rattle.drawing_spec.specs.Drawing.{Drawing}
use Rattle.graph_spec.specs.Graph.{build_graph}
use Rattle.graph_spec.specs.Odd.{odd_nodes}

-- 1,788: the first line has a segment fewer than points, and a link adds two split points and itself
abbrev pub most_drawn : ℕ
most_drawn = most_points - 1 + 3 * most_links

-- 1,022: a line can leave only its two ends odd, and a link its two ends
abbrev pub most_odd_nodes : ℕ
most_odd_nodes = 2 * most_lines + 2 * most_links

pub record Few (d : Drawing) : Type 0 where
  pub nodes : length (build_graph d).nodes ≤ most_nodes
  pub edges : length (build_graph d).edges ≤ most_drawn
  pub odd : length (odd_nodes (length (build_graph d).nodes) (build_graph d).edges) ≤ most_odd_nodes
