-- Each arc that is left leads to a node, and the arc after it has a lower number.
use native.Mathlib.Omega.{arith}
use Rattle.graph_reach.proofs.Targets.{going_start, going_arc, going_next, going_end}
use Rattle.graph_reach.proofs.Marks.mark_neighbours.Goals as goal

pub loop-k-init : goal.loop-k-init
loop-k-init c = going_start _ _ _ _ _ _ c.first_arc-k.ensures c.requires.edges c.requires.node c.requires.tidy

pub bounds-edges-k : goal.bounds-edges-k
bounds-edges-k c = let a = going_arc _ _ _ _ _ _ c.loop-k-test.true c.loop-k.invariant in omega (arith, a.0)

pub mark-requires : goal.mark-requires
mark-requires c = let a = going_arc _ _ _ _ _ _ c.loop-k-test.true c.loop-k.invariant in record { node = omega (arith, a.1, c.from-w.ensures); tidy = c.loop-k.invariant.tidy }

pub next_arc-k-requires : goal.next_arc-k-requires
next_arc-k-requires c = (c.loop-k-test.true, (going_arc _ _ _ _ _ _ c.loop-k-test.true c.loop-k.invariant).0, c.requires.node)

pub loop-k-smaller : goal.loop-k-smaller
loop-k-smaller c = let a = going_arc _ _ _ _ _ _ c.loop-k-test.true c.loop-k.invariant in omega (arith, a.2, c.next_arc-k.ensures)

pub loop-k-preserved : goal.loop-k-preserved
loop-k-preserved c = going_next _ _ _ _ _ _ c.loop-k-test.true _ _ _ c.from-w.ensures c.next_arc-k.ensures c.mark.ensures c.loop-k.invariant

pub returns : goal.returns
returns c = going_end _ _ _ _ _ _ (omega arith) c.loop-k.invariant

pub offset_bounds-edges-k : goal.offset_bounds-edges-k
offset_bounds-edges-k c = let a = going_arc _ _ _ _ _ _ c.loop-k-test.true c.loop-k.invariant in omega (arith, a.0)
