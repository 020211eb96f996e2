-- A turn goes to the first end of link k, and on to its second.
use Rattle.graph_lines.proofs.All.{links_begin, first_ready, second_ready, link_drawn, links_end}
use Rattle.graph_lines.proofs.trace_links.Goals as goal

pub loop-k-init : goal.loop-k-init
loop-k-init c = links_begin _ _ _ c.requires.traceable

pub begin-requires : goal.begin-requires
begin-requires c = first_ready _ _ _ _ _ c.loop-k.invariant c.loop-k-test.true _ _ c.point-p.ensures c.point-q.ensures

pub step-requires : goal.step-requires
step-requires c = second_ready _ _ _ _ _ c.loop-k.invariant c.loop-k-test.true _ _ c.point-p.ensures c.point-q.ensures _ c.begin.ensures

pub loop-k-preserved : goal.loop-k-preserved
loop-k-preserved c = link_drawn _ _ _ _ _ c.loop-k.invariant c.loop-k-test.true _ _ c.point-p.ensures c.point-q.ensures _ c.begin.ensures _ c.step.ensures

pub returns : goal.returns
returns c = links_end _ _ _ _ _ c.loop-k.invariant c.loop-k-test.false
