-- The first i nodes stand at their places.
use Rattle.repair_busy.specs.Table.{Placed}
use Rattle.repair_busy.proofs.place_nodes.Given as goal

abbrev pub invariant-loop-i : goal.invariant-loop-i
invariant-loop-i l = Placed l.odd l.count l.i l.places
