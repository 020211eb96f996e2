-- Where no node is odd the walk starts at the best of the nodes with edges, and else at the better of the odd ones, of which there are two or more.
use mathlib.Core.Path.{◌∙◌}
use native.Mathlib.Omega.{arith}
use Rattle.file_records.specs.Meaning.{settings_of}
use Rattle.graph_arrays.specs.Arrays.{edges_in}
use Rattle.walk.proofs.Walk.{walk_none, none_listed, odd_nodes_lem, odd_ascend, odd_two, with_nodes, walk_closed, walk_open}
use Rattle.walk.proofs.hierholzer.Goals as goal

pub returns-then-n-eq0 : goal.returns-then-n-eq0
returns-then-n-eq0 c =
    record { line_after = walk_none (settings_of c.args.settings) c.args.n c.args.nodes.now.xs c.args.nodes.now.ys (edges_in c.args.m c.args.edges.now) c.if-n-eq0.true; node_list = none_listed _ _ }

pub best-s-requires : goal.best-s-requires
best-s-requires c = record {
  sides = c.requires.sides;
  some = omega (arith, c.if-n-eq0.false);
  nodes = c.requires.nodes;
  list = with_nodes _ (edges_in c.args.m c.args.edges.now) _ _ c.requires.nodes.few c.nodes_with_edges-count.ensures;
}

pub closed_line-requires : goal.closed_line-requires
closed_line-requires c = record { start = c.best-s.ensures.upper_bound; edges = c.requires.edges.edges }

pub returns-then-odd-eq0 : goal.returns-then-odd-eq0
returns-then-odd-eq0 c = record {
  line_after =
      c.closed_line.ensures.line_after
      ∙ walk_closed (settings_of c.args.settings) c.args.n c.args.nodes.now.xs c.args.nodes.now.ys (edges_in c.args.m c.args.edges.now) (omega arith) _ _
      c.odd_nodes-odd.ensures c.if-odd-eq0.true _ _ _ c.nodes_with_edges-count.ensures c.best-s.ensures.value;
  node_list = c.closed_line.ensures.node_list;
}

pub best-s-requires-2 : goal.best-s-requires-2
best-s-requires-2 c = record {
  sides = c.requires.sides;
  some = omega arith;
  nodes = c.requires.nodes;
  list = odd_nodes_lem _ (edges_in c.args.m c.args.edges.now) c.requires.nodes.few _ _ c.odd_nodes-odd.ensures;
}

pub open_line-requires : goal.open_line-requires
open_line-requires c =
    let few = c.requires.nodes.few in
    let f = c.odd_nodes-odd.ensures in
    let two = odd_two _ (edges_in c.args.m c.args.edges.now) few _ _ f c.requires.edges.edges.inside c.if-odd-eq0.false in
    let listed = odd_nodes_lem _ (edges_in c.args.m c.args.edges.now) few _ _ f in
    let first = listed.nodes_in_known 0 (omega arith) in
    let second = listed.nodes_in_known 1 two in
    let u = c.from-u.ensures in
    let v = c.from-v.ensures in
    let s = c.best-s-2.ensures.upper_bound in
    record {
      nodes = (omega arith, omega arith, omega arith);
      apart = λ e. omega (arith, odd_ascend _ (edges_in c.args.m c.args.edges.now) few _ _ f two);
      room = omega (arith, c.requires.edges.room);
      edges = c.requires.edges.edges;
    }

pub returns : goal.returns
returns c =
    let f = c.odd_nodes-odd.ensures in
    let two = odd_two _ (edges_in c.args.m c.args.edges.now) c.requires.nodes.few _ _ f c.requires.edges.edges.inside c.if-odd-eq0.false in
    record {
      line_after =
          c.open_line.ensures.line_after
          ∙ walk_open (settings_of c.args.settings) c.args.n c.args.nodes.now.xs c.args.nodes.now.ys (edges_in c.args.m c.args.edges.now) (omega arith) _ _ f two _ _ _
          c.from-u.ensures c.from-v.ensures c.best-s-2.ensures.value;
      node_list = c.open_line.ensures.node_list;
    }
