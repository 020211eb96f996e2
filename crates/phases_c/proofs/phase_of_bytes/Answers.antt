-- A refusal, or what is made of the drawing, with links made for it where flag 4 asks for them.
use Rattle.std.proofs.Common.{◌∙◌, sym, length}
use Rattle.links_made.proofs.Planned.{planned_kept}
use Rattle.planner.proofs.Drawn.{drawable, linkable}
use Rattle.phases_c.proofs.Phases.{refused_stops, drawing_follows, linked_follows}
use Rattle.phases_c.proofs.phase_of_bytes.Goals as goal

pub returns-in-Err : goal.returns-in-Err
returns-in-Err c =
    c.refused.ensures ∙ rw c.number.ensures (refused_stops c.args.file.now (length c.args.floats.now) (length c.args.bytes.now) c.args.last c.in-Err.refusal c.in-Err.ensures)

pub phase_of_drawing-requires : goal.phase_of_drawing-requires
phase_of_drawing-requires c = drawable c.args.file.now c.read_into.new.drawing c.in-Ok.ensures

pub returns-then-not-linking : goal.returns-then-not-linking
returns-then-not-linking c =
    let d = c.read_into.new.drawing in
    let k = drawable c.args.file.now d c.in-Ok.ensures in
    drawing_follows c.args.file.now (length c.args.floats.now) (length c.args.bytes.now) c.args.last d c.in-Ok.ensures d (planned_kept d (linkable d k) c.asked-linking.result c.asked-linking.ensures c.if-not-linking.true) _
    c.phase_of_drawing.ensures

pub phase_of_linked-requires : goal.phase_of_linked-requires
phase_of_linked-requires c = record { sound = drawable c.args.file.now c.read_into.new.drawing c.in-Ok.ensures; asked = sym c.asked-linking.ensures ∙ c.if-not-linking.false }

pub returns-else-not-linking : goal.returns-else-not-linking
returns-else-not-linking c = linked_follows c.args.file.now (length c.args.floats.now) (length c.args.bytes.now) c.args.last c.read_into.new.drawing c.in-Ok.ensures _ c.phase_of_linked.ensures
