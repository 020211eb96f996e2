-- The split points gathered are those of the segment.
use Rattle.graph_splits.specs.Next.{at}
use Rattle.graph_line.proofs.Follow.{segment_ready, segment_drawn, gathered_scratch}
use Rattle.graph_line.proofs.trace_segment.Goals as goal

pub gather-count-requires : goal.gather-count-requires
gather-count-requires c = (c.requires.traceable.here, c.requires.measurable)

pub trace_chain-requires-clause-room : goal.trace_chain-requires-clause-room
trace_chain-requires-clause-room c = segment_ready _ _ _ _ _ _ _ _ c.requires.scratch c.gather-count.ensures.splits _ c.requires.traceable

pub returns-clause-graph : goal.returns-clause-graph
returns-clause-graph c = segment_drawn _ _ _ _ _ _ _ _ c.requires.scratch c.gather-count.ensures.splits _ _ c.trace_chain.ensures

pub returns-clause-scratch : goal.returns-clause-scratch
returns-clause-scratch c = gathered_scratch _ (at 0 0) _ _ _ _ _ _ c.requires.scratch c.gather-count.ensures.splits
