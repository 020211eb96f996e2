-- What is found from here on is what was to be found.
use Rattle.std.proofs.Common.{◌≡◌, ◌-◌}
use Rattle.graph_nodes.specs.Table.{seek}
use Rattle.graph_nodes.proofs.Table.find_node.Given as goal

abbrev pub invariant-loop : goal.invariant-loop
invariant-loop l =
    seek (l.count - l.counter) l.self.xs l.self.ys l.self.next l.p.x l.p.y l.i ≡ seek l.count l.self.xs l.self.ys l.self.next l.p.x l.p.y l.start
