-- Arcs from second ends have the lower numbers.
use Rattle.std.proofs.Common.{sym}
use Rattle.graph_adjacency.proofs.Lists.{number_first, number_second}
use Rattle.graph_adjacency.proofs.edge_number.Goals as goal

pub returns-then-k-le-EDGE_ROOM : goal.returns-then-k-le-EDGE_ROOM
returns-then-k-le-EDGE_ROOM c = sym (number_second c.args.k c.if-k-le-EDGE_ROOM.true)

pub returns : goal.returns
returns c = sym (number_first c.args.k c.if-k-le-EDGE_ROOM.false)
