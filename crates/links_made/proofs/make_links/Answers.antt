-- The candidates of the ends that are taken are those of the drawing's lines.
use Rattle.std.proofs.Common.{◌∙◌, ap, arith}
use Rattle.links_made.specs.declared.LineEnds.{LineEnds}
use Rattle.links_made.specs.Filled.{Marked, Ended, edge_in, ends_at, line_ends}
use Rattle.links_made.proofs.Filled.{marked_start, marked_turn, ended_start, ended_turn, at_end}
use Rattle.links_made.proofs.Drawn.{writing_start, writing_turn, writing_end, count_answer, links_answer}
use Rattle.links_made.proofs.make_links.Goals as goal

pub loop-l-init : goal.loop-l-init
loop-l-init c = (marked_start _, ended_start _ _ _)

pub loop-l-preserved : goal.loop-l-preserved
loop-l-preserved c =
    let pre = c.requires in
    let inv = c.loop-l.invariant in
    let d = c.args.drawing.now in
    let i = c.loop-l.l in (
      marked_turn _ _ _ _ (omega arith) inv.0 (ap (λ (t : LineEnds). t.has) (c.take_ends.ensures ∙ ap (λ (t : LineEnds). line_ends t.has (ends_at d.starts d.xs d.ys t.ends i)) c.mark.ensures)),
      ended_turn _ _ _ pre.2 pre.3 _ _ _ (omega arith) inv.1 (ap (λ (t : LineEnds). t.ends) (c.take_ends.ensures ∙ ap (λ (t : LineEnds). line_ends t.has (ends_at d.starts d.xs d.ys t.ends i)) c.mark.ensures)),
    )

pub loop-j-init : goal.loop-j-init
loop-j-init c = writing_start (edge_in c.args.drawing.now.starts c.loop-l.taken.ends) c.grow-found.result.candidates c.grow-found.result.count _ c.no_link-links.ensures

pub loop-j-preserved : goal.loop-j-preserved
loop-j-preserved c =
    let g = c.grow-found in
    writing_turn (edge_in c.args.drawing.now.starts c.loop-l.taken.ends) g.result.candidates g.result.count _ _ _ c.loop-j-test.true (omega (arith, g.ensures.1.few, g.ensures.1.long)) c.edge_of.ensures ∙ c.loop-j.invariant

pub returns : goal.returns
returns c =
    let d = c.args.drawing.now in
    let l = c.loop-l in
    let g = c.grow-found in
    let M = at_end (Marked d.starts l.taken.has) d.lines l.l c.loop-l-test.false (omega arith) l.invariant.0 in
    let E = at_end (Ended d.starts d.xs d.ys l.taken.ends) d.lines l.l c.loop-l-test.false (omega arith) l.invariant.1 in
    let written = writing_end (edge_in d.starts l.taken.ends) g.result.candidates g.result.count _ _ c.loop-j-test.false (omega arith) (omega (arith, g.ensures.1.few, g.ensures.1.long)) ∙ c.loop-j.invariant in
    (count_answer _ _ _ _ _ _ M E _ _ g.ensures.1 g.ensures.0, links_answer _ _ _ _ _ _ M E _ _ g.ensures.1 g.ensures.0 _ written)
