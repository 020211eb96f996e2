-- One more where the point was new.
use Rattle.std.proofs.Common.{sym}
use Rattle.graph_nodes.proofs.TableLaws.{count_new, count_old}
use Rattle.graph_nodes.proofs.count_with.Goals as goal

pub returns-then-new : goal.returns-then-new
returns-then-new c = sym (count_new c.args.n c.args.number c.if-new.true)

pub returns-else-new : goal.returns-else-new
returns-else-new c = sym (count_old c.args.n c.args.number c.if-new.false)
