-- The drawing itself, or what is made of its graph.
use Rattle.std.proofs.Common.{◌∙◌, length}
use Rattle.planner.proofs.Drawn.{plannable}
use Rattle.phases_c.proofs.Phases.{read_stops, graph_follows}
use Rattle.phases_c.proofs.phase_of_drawing.Goals as goal

pub returns-then-last-eq-READ : goal.returns-then-last-eq-READ
returns-then-last-eq-READ c = c.made.ensures ∙ read_stops c.args.drawing.now (length c.args.floats.now) (length c.args.bytes.now) c.args.last c.if-last-eq-READ.true

pub phase_of_graph-requires : goal.phase_of_graph-requires
phase_of_graph-requires c =
    let t = c.build_graph.new.traced in plannable c.args.drawing.now c.requires t.node_count t.edge_count t.table.xs t.table.ys t.edges c.build_graph.ensures

pub returns : goal.returns
returns c =
    let t = c.build_graph.new.traced in
    graph_follows c.args.drawing.now (length c.args.floats.now) (length c.args.bytes.now) c.args.last c.if-last-eq-READ.false t.node_count t.edge_count t.table.xs t.table.ys t.edges c.build_graph.ensures _ c.phase_of_graph.ensures
