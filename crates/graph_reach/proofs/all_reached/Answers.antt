-- The nodes in front of `head` are done; at the end all that are marked are.
use native.Mathlib.Omega.{arith}
use Rattle.graph_reach.proofs.Spread.{walking_start, walking_node, walking_next, walked}
use Rattle.graph_reach.proofs.all_reached.Goals as goal

pub loop-head-init : goal.loop-head-init
loop-head-init c = walking_start _

pub mark_neighbours-requires : goal.mark_neighbours-requires
mark_neighbours-requires c = record { edges = c.requires; node = walking_node _ _ _ _ c.loop-head-test.true c.from-v.ensures c.loop-head.invariant; tidy = c.loop-head.invariant.tidy }

pub loop-head-smaller : goal.loop-head-smaller
loop-head-smaller c = omega (arith, c.loop-head.invariant.tidy.room)

pub loop-head-preserved : goal.loop-head-preserved
loop-head-preserved c = walking_next _ _ _ _ _ _ c.loop-head-test.true c.from-v.ensures c.loop-head.invariant c.requires _ c.mark_neighbours.ensures

pub all_marked-requires : goal.all_marked-requires
all_marked-requires c = c.requires.few_nodes

pub returns : goal.returns
returns c = walked _ _ _ _ _ c.requires.inside c.loop-head-test.false c.loop-head.invariant c.all_marked.ensures
