-- A refusal, or the plan of the drawing, with links made for it where flag 4 asks for them.
use Rattle.std.proofs.Common.{◌∙◌, sym}
use Rattle.links_made.proofs.Planned.{planned_kept}
use Rattle.planner_graph.specs.Answer.{lent}
use Rattle.planner.proofs.Drawn.{refused_plan, drawable, linkable, accepted_plan, linked_plan}
use Rattle.planner.proofs.plan_bytes.Goals as goal

pub returns-in-Err : goal.returns-in-Err
returns-in-Err c =
    record { outcome = rw c.number.ensures (refused_plan c.args.file.now c.in-Err.refusal c.in-Err.ensures (lent c.args.floats.now c.args.bytes.now c.args.output.now)); retrace = tt }

pub plan_drawing-requires : goal.plan_drawing-requires
plan_drawing-requires c = record { sound = drawable c.args.file.now c.read_into.new.drawing c.in-Ok.ensures }

pub returns-then-not-linking : goal.returns-then-not-linking
returns-then-not-linking c =
    let a = c.args in
    let d = c.read_into.new.drawing in
    let k = drawable a.file.now d c.in-Ok.ensures in
    record {
      outcome = accepted_plan a.file.now d c.in-Ok.ensures d (planned_kept d (linkable d k) c.asked-linking.result c.asked-linking.ensures c.if-not-linking.true) (lent a.floats.now a.bytes.now a.output.now) _ c.plan_drawing.ensures.outcome;
      retrace = c.plan_drawing.ensures.retrace;
    }

pub plan_linked-requires : goal.plan_linked-requires
plan_linked-requires c = record { sound = drawable c.args.file.now c.read_into.new.drawing c.in-Ok.ensures; asked = sym c.asked-linking.ensures ∙ c.if-not-linking.false }

pub returns-else-not-linking : goal.returns-else-not-linking
returns-else-not-linking c =
    let a = c.args in
    let d = c.read_into.new.drawing in
    record {
      outcome = linked_plan a.file.now d c.in-Ok.ensures (lent a.floats.now a.bytes.now a.output.now) _ c.plan_linked.ensures.outcome;
      retrace = c.plan_linked.ensures.retrace;
    }
