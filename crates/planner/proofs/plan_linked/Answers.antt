-- With its links, a drawing is as sound as it was.
use Rattle.std.proofs.Common.{◌∙◌, sym, ap, refl, true}
use Rattle.drawing_spec.specs.Drawing as drawn
use Rattle.links_made.proofs.Planned.{planned_linked}
use Rattle.planner_graph.specs.Answer.{lent}
use Rattle.planner_spec.specs.Plan.{plan_drawing}
use Rattle.planner.proofs.Drawn.{linkable, planned_drawable, planned_is}
use Rattle.planner.proofs.plan_linked.Goals as goal

pub link_ends-linked-requires : goal.link_ends-linked-requires
link_ends-linked-requires c = linkable c.args.drawing.now c.requires.sound

pub plan_drawing-requires : goal.plan_drawing-requires
plan_drawing-requires c =
    let d = c.args.drawing.now in
    let k = c.requires.sound in
    record { sound = planned_drawable d k c.link_ends-linked.result (planned_linked d (linkable d k) c.link_ends-linked.result true (sym c.requires.asked) refl c.link_ends-linked.ensures) }

pub returns-clause-outcome : goal.returns-clause-outcome
returns-clause-outcome c =
    let a = c.args in
    let d = a.drawing.now in
    let k = c.requires.sound in
    c.plan_drawing.ensures.outcome
    ∙ ap (λ (x : drawn.Drawing). plan_drawing x (lent a.floats.now a.bytes.now a.output.now)) (planned_is d k c.link_ends-linked.result (planned_linked d (linkable d k) c.link_ends-linked.result true (sym c.requires.asked) refl c.link_ends-linked.ensures))
