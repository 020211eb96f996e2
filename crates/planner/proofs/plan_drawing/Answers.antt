-- The graph that is planned is the drawing's.
use Rattle.planner.proofs.Drawn.{plannable, drawing_planned}
use Rattle.planner.proofs.plan_drawing.Goals as goal

pub plan_graph-requires : goal.plan_graph-requires
plan_graph-requires c =
    let t = c.build_graph.new.traced in record { graph = plannable c.args.drawing.now c.requires.sound t.node_count t.edge_count t.table.xs t.table.ys t.edges c.build_graph.ensures }

pub returns-clause-outcome : goal.returns-clause-outcome
returns-clause-outcome c =
    let t = c.build_graph.new.traced in
    drawing_planned c.args.drawing.now c.requires.sound t.node_count t.edge_count t.table.xs t.table.ys t.edges c.build_graph.ensures _ _ c.plan_graph.ensures.outcome
