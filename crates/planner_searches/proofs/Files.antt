-- For every file that passes checks 1 to 7 and 15: its graph can be searched with an early exit, before and after each retrace, and where its drawing is in one piece (check 9)
-- condition 12 never holds.
use mathlib.Core.Path.{◌≡◌, subst}
use mathlib.Core.List.{List}
use mathlib.Core.Bool.{true}
use Prim.Native.Nat.{ℕ}
use native.Mathlib.Omega.{arith}
use lib.ListN.{length}
use Rattle.limits.specs.Limits.{most_edges, refused_path, refused_edges}
use Rattle.drawing_spec.specs.Accepted.{Passed}
use Rattle.drawing_spec.specs.Read.{records_of, drawing_of}
use Rattle.drawing_spec.proofs.Accepted.{in_limits}
use Rattle.links_spec.proofs.ToPlan.{plan_within}
use Rattle.graph_spec.specs.Reach.{all_reached}
use Rattle.repair_spec.specs.Repair.{stopped}
use Rattle.graph_spec.specs.Graph.{build_graph}
use Rattle.planner_spec.specs.Plan.{drawing_in, repair_of}
use Rattle.graph_spec.specs.Weights.{Searchable}
use Rattle.graph_counts.proofs.Lengths.{drawn_searchable}
use Rattle.graph_counts.proofs.Nodes.{counted_few}
use Rattle.repair_early_exit.proofs.Never.{Sound, reached_one_piece, repair_sound}

module _ (file : List ℕ) (passes : Passed file) where
  pub graph_searchable : Searchable (length (build_graph (drawing_in file)).nodes) (build_graph (drawing_in file)).edges
  unfolding drawing_in
  graph_searchable =
      let l = plan_within (drawing_of (records_of file)) (in_limits file passes) in
      drawn_searchable (drawing_in file) l.lines_on l.links_on (omega (arith, (counted_few (drawing_in file) l.counts).nodes))

  -- where every node is reached, repair stops with 13 or not at all
  module _ (reached : all_reached (length (build_graph (drawing_in file)).nodes) (build_graph (drawing_in file)).edges ≡ true) where
    pub repair_in_sound : Sound refused_edges (length (build_graph (drawing_in file)).nodes) (repair_of (build_graph (drawing_in file)) (drawing_in file).settings)
    unfolding repair_of
    repair_in_sound =
        repair_sound most_edges refused_edges (build_graph (drawing_in file)) (drawing_in file).settings graph_searchable (reached_one_piece (length (build_graph (drawing_in file)).nodes) (build_graph (drawing_in file)).edges reached)

    pub never_stops_12 : repair_of (build_graph (drawing_in file)) (drawing_in file).settings ≡ stopped refused_path → ⊥
    never_stops_12 e = let k : refused_path ≡ refused_edges = subst (Sound refused_edges (length (build_graph (drawing_in file)).nodes)) e repair_in_sound in absurd (omega (arith, k))
