-- A turn goes on to the split point that comes next; where none does, the end is what is left.
use Rattle.std.proofs.Common.{◌-◌, arith}
use Rattle.graph_chain.proofs.Kept.{found_after}
use Rattle.graph_chain.proofs.Walking.{split_ready, split_drawn, end_ready, end_drawn}
use Rattle.graph_chain.proofs.trace_chain.Goals as goal

pub step-requires : goal.step-requires
step-requires c = split_ready _ _ _ _ _ _ _ _ _ c.loop-j.invariant _ _ c.in-Some.ensures.0 c.in-Some.ensures.1 c.point-q.ensures

pub loop-j-smaller : goal.loop-j-smaller
loop-j-smaller c = let on = found_after _ _ _ _ _ (c.args.count - c.loop-j.next) c.loop-j.next _ c.in-Some.ensures.0 in omega (arith, c.in-Some.ensures.1)

pub loop-j-preserved : goal.loop-j-preserved
loop-j-preserved c = split_drawn _ _ _ _ _ _ _ _ _ c.loop-j.invariant _ _ c.in-Some.ensures.0 c.in-Some.ensures.1 c.point-q.ensures _ c.step.ensures

pub step-requires-2 : goal.step-requires-2
step-requires-2 c = end_ready _ _ _ _ _ _ _ _ _ c.loop-j.invariant c.in_default.ensures

pub returns : goal.returns
returns c = end_drawn _ _ _ _ _ _ _ _ _ c.loop-j.invariant c.in_default.ensures _ c.step-2.ensures
