-- Which sets of candidates may be made. A set is a list of its candidates, in any order.
use Rattle.std.specs.Prelude.{List, ◌≤◌, length}
use Rattle.lists.specs.Members.{All}
use Rattle.drawing_spec.specs.Drawing.{Point}
use Rattle.graph_spec.specs.Count.{sum_over}
use Rattle.spanning.specs.Edges.{Spans}
use Rattle.links_spec.specs.Candidates.{Candidate, low_of, high_of, IsCandidate, has_points, squared_length}

-- For m lines with points m less 1 candidates, none if m is 0, which by themselves lead from each of these lines to each other. (So none of them stands in the list twice.)
pub record LinksAll (ls : List (List Point)) (ks : List Candidate) : Type 0 where
  pub are : All (IsCandidate ls) ks
  pub spans : Spans low_of high_of (length ls) (has_points ls) ks

-- and no other such set has a smaller sum of squared lengths
pub record Allowed (ls : List (List Point)) (ks : List Candidate) : Type 0 where
  pub links_all : LinksAll ls ks
  pub least : (ts : List Candidate) → LinksAll ls ts → sum_over (squared_length ls) ks ≤ sum_over (squared_length ls) ts
