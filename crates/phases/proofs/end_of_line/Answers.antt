-- The last node of the line, where it has one.
use Rattle.std.proofs.Common.{◌-◌, ◌<◌, refl, arith}
use Rattle.file_records.specs.Meaning.{settings_of}
use Rattle.graph_arrays.specs.Arrays.{nodes_in, edges_in}
use Rattle.walk_spec.specs.Line.{line_of}
use Rattle.phases.proofs.Ends.{line_none, line_some}
use Rattle.phases.proofs.end_of_line.Goals as goal
use Rattle.phases.proofs.end_of_line.Goals.{After-from-v}

below : (c : After-from-v) → c.from-v.result < c.args.n
below c = omega (arith, c.from-v.ensures, c.line_of-count.ensures.node_list.nodes_in_known (c.line_of-count.result - 1) (omega (arith, c.if-count-eq0.false)))

pub returns-then-count-eq0 : goal.returns-then-count-eq0
returns-then-count-eq0 c =
    let a = c.args in
    let l = c.line_of-count in
    line_none a.n a.nodes.now.xs a.nodes.now.ys l.new.line l.result (line_of (settings_of a.settings) (nodes_in a.n a.nodes.now.xs a.nodes.now.ys) (edges_in a.m a.edges.now)) l.ensures.node_list l.ensures.result_after a.retrace c.if-count-eq0.true

pub offset_bounds-nodes-v : goal.offset_bounds-nodes-v
offset_bounds-nodes-v c = omega (arith, c.requires.nodes.few, below (goal.at.offset_bounds-nodes-v c).After-from-v)

pub bounds-nodes-v : goal.bounds-nodes-v
bounds-nodes-v c = omega (arith, c.requires.nodes.few, below (goal.at.bounds-nodes-v c).After-from-v)

pub returns : goal.returns
returns c =
    let a = c.args in
    let l = c.line_of-count in
    line_some a.n a.nodes.now.xs a.nodes.now.ys l.new.line l.result (line_of (settings_of a.settings) (nodes_in a.n a.nodes.now.xs a.nodes.now.ys) (edges_in a.m a.edges.now)) l.ensures.node_list l.ensures.result_after a.retrace (omega (arith, c.if-count-eq0.false)) c.from-v.result _ c.from-v.ensures refl
