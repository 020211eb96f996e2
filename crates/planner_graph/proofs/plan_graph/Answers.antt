-- Each way out is one law of Ways.
use Rattle.planner_graph.proofs.Ways.{not_reached, repair_refused, held, number, line_short, line_points}
use Rattle.planner_graph.proofs.plan_graph.Goals as goal

pub returns-then-apart : goal.returns-then-apart
returns-then-apart c =
    let a = c.args in
    record {
      outcome = not_reached a.settings a.n a.m a.nodes.now.xs a.nodes.now.ys a.edges.now c.requires.graph a.floats.now a.bytes.now a.output.now _ c.all_reached-reached.ensures c.if-apart.true;
      retrace = tt;
    }

pub emit_line-requires : goal.emit_line-requires
emit_line-requires c =
    let a = c.args in
    let r = c.fix_parity-repair in
    record {
      sides = (c.requires.graph.wide, c.requires.graph.high);
      nodes = c.requires.graph.nodes;
      edges = held a.settings a.n a.m a.nodes.now.xs a.nodes.now.ys a.edges.now c.requires.graph a.floats.now a.bytes.now a.output.now _ c.all_reached-reached.ensures
          c.if-apart.false r.new.edges r.result r.ensures.parity r.ensures.held _ _ _ c.in-Repaired.is;
    }

pub returns-in-Refused : goal.returns-in-Refused
returns-in-Refused c =
    let a = c.args in
    let r = c.fix_parity-repair in
    record {
      outcome = repair_refused a.settings a.n a.m a.nodes.now.xs a.nodes.now.ys a.edges.now c.requires.graph a.floats.now a.bytes.now a.output.now _ c.all_reached-reached.ensures
          c.if-apart.false r.new.edges r.result r.ensures.parity r.ensures.held _ c.in-Refused.is;
      retrace = tt;
    }

pub returns-in-None : goal.returns-in-None
returns-in-None c =
    let a = c.args in
    let r = c.fix_parity-repair in
    record {
      outcome = line_short a.settings a.n a.m a.nodes.now.xs a.nodes.now.ys a.edges.now c.requires.graph a.floats.now a.bytes.now a.output.now _ c.all_reached-reached.ensures
          c.if-apart.false r.new.edges r.result r.ensures.parity r.ensures.held _ _ _ c.in-Repaired.is _ _ c.emit_line.ensures.value c.emit_line.ensures.output_after c.in-None.is;
      retrace = tt;
    }

pub returns-in-Some : goal.returns-in-Some
returns-in-Some c =
    let a = c.args in
    let r = c.fix_parity-repair in
    record {
      outcome = line_points a.settings a.n a.m a.nodes.now.xs a.nodes.now.ys a.edges.now c.requires.graph a.floats.now a.bytes.now a.output.now _ c.all_reached-reached.ensures
          c.if-apart.false r.new.edges r.result r.ensures.parity r.ensures.held _ _ _ c.in-Repaired.is _ _ c.emit_line.ensures.value c.emit_line.ensures.output_after _ c.in-Some.is;
      retrace = number a.settings a.n a.m a.nodes.now.xs a.nodes.now.ys a.edges.now c.requires.graph a.floats.now a.bytes.now a.output.now _ c.all_reached-reached.ensures
          c.if-apart.false r.new.edges r.result r.ensures.parity r.ensures.held _ _ _ c.in-Repaired.is;
    }
