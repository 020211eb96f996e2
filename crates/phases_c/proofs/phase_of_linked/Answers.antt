-- With its links, a drawing is as sound as it was.
use Rattle.std.proofs.Common.{◌∙◌, sym, ap, refl, length, true}
use Rattle.drawing_spec.specs.Drawing as drawn
use Rattle.links_made.proofs.Planned.{planned_linked}
use Rattle.planner.proofs.Drawn.{linkable, planned_drawable, planned_is}
use Rattle.phases_c.specs.Phases.{drawing_phase}
use Rattle.phases_c.proofs.phase_of_linked.Goals as goal

pub link_ends-linked-requires : goal.link_ends-linked-requires
link_ends-linked-requires c = linkable c.args.drawing.now c.requires.sound

pub phase_of_drawing-requires : goal.phase_of_drawing-requires
phase_of_drawing-requires c =
    let d = c.args.drawing.now in
    let k = c.requires.sound in
    planned_drawable d k c.link_ends-linked.result (planned_linked d (linkable d k) c.link_ends-linked.result true (sym c.requires.asked) refl c.link_ends-linked.ensures)

pub returns : goal.returns
returns c =
    let a = c.args in
    let d = a.drawing.now in
    let k = c.requires.sound in
    c.phase_of_drawing.ensures
    ∙ ap (λ (x : drawn.Drawing). drawing_phase x (length a.floats.now) (length a.bytes.now) a.last) (planned_is d k c.link_ends-linked.result (planned_linked d (linkable d k) c.link_ends-linked.result true (sym c.requires.asked) refl c.link_ends-linked.ensures))
