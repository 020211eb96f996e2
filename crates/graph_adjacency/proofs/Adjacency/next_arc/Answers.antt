-- The next older arc by the same end; behind the last by first ends come those by second ends.
use Rattle.std.proofs.Common.{sym, ◌∙◌}
use Rattle.graph_adjacency.proofs.Lists.{next_second, next_some, next_none}
use Rattle.graph_adjacency.proofs.Adjacency.next_arc.Goals as goal

pub returns-then-k-le-EDGE_ROOM : goal.returns-then-k-le-EDGE_ROOM
returns-then-k-le-EDGE_ROOM c = c.from-older.ensures ∙ sym (next_second _ _ _ _ c.if-k-le-EDGE_ROOM.true)

pub returns-then-last : goal.returns-then-last
returns-then-last c = c.from.ensures ∙ sym (next_none _ _ _ _ c.if-k-le-EDGE_ROOM.false (sym c.from-older.ensures ∙ c.if-last.true))

pub returns : goal.returns
returns c = c.from-older.ensures ∙ sym (next_some _ _ _ _ c.if-k-le-EDGE_ROOM.false (λ z. c.if-last.false (c.from-older.ensures ∙ z)))
