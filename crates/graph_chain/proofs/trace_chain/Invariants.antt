-- At the point p, what is to come leads to the answer.
use Rattle.std.proofs.Common.{◌-◌}
use Rattle.graph_splits.specs.Next.{at}
use Rattle.graph_moves.specs.Moves.{draw_all}
use Rattle.graph_chain.specs.Kept.{chain_in}
use Rattle.graph_chain.specs.Along.{traced_along}
use Rattle.graph_chain.proofs.Walking.{Walking}
use Rattle.graph_chain.proofs.trace_chain.Given as goal

abbrev pub invariant-loop-j : goal.invariant-loop-j
invariant-loop-j l =
    Walking l.splits.xs l.splits.ys l.count (at l.a.x l.a.y) (at l.b.x l.b.y) (at l.p.x l.p.y) l.next l.traced
    (traced_along (at l.a.x l.a.y) (draw_all (chain_in l.splits.xs l.splits.ys l.count (at l.a.x l.a.y) (at l.b.x l.b.y))) l.initial.traced)

abbrev pub decreases-loop-j : goal.decreases-loop-j
decreases-loop-j l = l.count - l.next
