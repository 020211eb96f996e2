-- There is room in the queue, since each node that is not marked has its place.
use mathlib.Core.Path.{sym}
use Rattle.graph_reach.proofs.MarksLaws.{marking_old, marking_new, room_for}
use Rattle.graph_reach.proofs.Marks.mark.Goals as goal

pub returns-then-self-v : goal.returns-then-self-v
returns-then-self-v c = sym (marking_old _ _ c.if-self-v.true)

pub bounds-self-self : goal.bounds-self-self
bounds-self-self c = room_for _ c.requires.tidy _ c.requires.node c.if-self-v.false

pub returns : goal.returns
returns c = sym (marking_new _ _ c.if-self-v.false)
