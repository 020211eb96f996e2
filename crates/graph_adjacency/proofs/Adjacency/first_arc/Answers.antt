-- The newest arc by first ends, and where there is none the newest by second ends.
use Rattle.std.proofs.Common.{sym, ◌∙◌}
use Rattle.graph_adjacency.proofs.Lists.{first_some, first_none}
use Rattle.graph_adjacency.proofs.Adjacency.first_arc.Goals as goal

pub returns-then-none : goal.returns-then-none
returns-then-none c = c.from.ensures ∙ sym (first_none _ _ (sym c.from-head.ensures ∙ c.if-none.true))

pub returns : goal.returns
returns c = c.from-head.ensures ∙ sym (first_some _ _ (λ z. c.if-none.false (c.from-head.ensures ∙ z)))
