-- Arrays to which a drawing was traced hold its graph. Assumes nothing.
use mathlib.Core.Path.{◌≡◌, sym, ap, ap₂, subst, ◌∙◌}
use mathlib.Core.List.{List, map}
use Prim.Native.Nat.{ℕ, ◌≤◌}
use native.Mathlib.Omega.{arith}
use lib.ListN.{length, replicate, length-map}
use lib.Seq.{sets}
use Rattle.limits.specs.Limits.{most_nodes, edge_room}
use Rattle.file_drawing.specs.Stores.{padded}
use Rattle.file_drawing.proofs.Stores.{sets_padded}
use Rattle.drawing_spec.specs.Drawing.{Point, no_point, Drawing}
use Rattle.lists.specs.Members.{All}
use Rattle.drawing_spec.specs.OnGrid.{OnGrid, AtEnds}
use Rattle.drawing_spec.specs.Accepted.{Counts}
use Rattle.graph_spec.specs.Graph.{Edge, build_graph}
use Rattle.graph_spec.specs.Weights.{Searchable}
use Rattle.graph_spec.proofs.Built.{built_inside, built_apart, built_on}
use Rattle.graph_counts.specs.Few.{Few}
use Rattle.graph_counts.proofs.Nodes.{counted_few}
use Rattle.graph_counts.proofs.Lengths.{drawn_searchable}
use Rattle.graph_nodes.specs.Table.{Table}
use Rattle.graph_nodes.specs.Held.{Held}
use Rattle.graph_nodes.proofs.Points.{held_point}
use Rattle.graph_adjacency.specs.Lists.{Adjacency, lists}
use Rattle.graph_arrays.specs.Arrays.{point_in, nodes_in, edges_in, EdgesHeld, NodesHeld}
use Rattle.lists.proofs.Tabulate.{tabulate_is}
use Rattle.graph_arrays.proofs.Filled.{edges_are}
use Rattle.graph_arrays.proofs.Arrays.{lists_linked}
use Rattle.graph_strokes.specs.Step.{Traced, TracedTo}
use Rattle.graph.specs.Built.{Built}

module _ (d : Drawing) (c : Counts d) (lines : All (All OnGrid) d.lines) (links : All (AtEnds OnGrid) d.links) where
  ns : List Point
  ns = (build_graph d).nodes

  es : List Edge
  es = (build_graph d).edges

  few : Few d
  few = counted_few d c

  few_edges : length es ≤ edge_room
  unfolding es
  few_edges = omega (arith, few.edges)

  -- a coordinate of each node, put into an array of zeros
  nodes_padded : (f : Point → ℕ) → sets (replicate most_nodes 0) 0 (map f ns) ≡ padded most_nodes 0 (map f ns)
  unfolding ns
  nodes_padded f = sets_padded most_nodes 0 (map f ns) (omega (arith, length-map ns f, few.nodes))

  module _ (t : Table) (H : Held t ns) where
    nodes_held : NodesHeld (length ns) t.xs t.ys
    unfolding ns
    nodes_held = record {
      few = few.nodes;
      xs_on = λ v. omega (arith, ap (λ (p : Point). p.x) (held_point t ns H v), (built_on d lines links v).0);
      ys_on = λ v. omega (arith, ap (λ (p : Point). p.y) (held_point t ns H v), (built_on d lines links v).1);
    }

    nodes_are : nodes_in (length ns) t.xs t.ys ≡ ns
    nodes_are = tabulate_is (point_in t.xs t.ys) ns no_point (λ v h. held_point t ns H v)

  module _ (a : Adjacency) (is : a ≡ lists es) where
    edges_here : edges_in (length es) a ≡ es
    unfolding ns es
    edges_here = edges_are es a few_edges is

    edges_held : EdgesHeld (length ns) (length es) a
    unfolding ns es
    edges_held = record {
      edges = lists_linked (length ns) es a few_edges (built_inside d) (built_apart d) is few.nodes;
      room = omega (arith, few.edges);
      searchable = subst (Searchable (length ns)) (sym edges_here) (drawn_searchable d lines links (omega (arith, few.nodes)));
    }

  pub traced_built : (p : Point) (s : Traced) → TracedTo (build_graph d).nodes (build_graph d).edges p s
      → Built (build_graph d) s.node_count s.edge_count s.table.xs s.table.ys s.edges
  unfolding ns es
  traced_built p s T =
      let t = s.table in
      let a = s.edges in
      subst (λ (n : ℕ). Built (build_graph d) n s.edge_count t.xs t.ys a) (sym T.nodes_counted)
      (subst (λ (m : ℕ). Built (build_graph d) (length ns) m t.xs t.ys a) (sym T.edges_counted)
      (record {
        nodes = nodes_held t T.nodes_held;
        edges = edges_held a T.edges_held;
        is = ap₂ (λ (vs : List Point) (fs : List Edge). record { nodes = vs; edges = fs }) (nodes_are t T.nodes_held) (edges_here a T.edges_held);
        xs_are = T.nodes_held.xs_are ∙ nodes_padded (λ (q : Point). q.x);
        ys_are = T.nodes_held.ys_are ∙ nodes_padded (λ (q : Point). q.y);
      }))
