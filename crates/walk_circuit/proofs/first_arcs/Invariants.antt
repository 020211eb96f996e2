-- The nodes passed have their first arcs.
use Rattle.walk_circuit.specs.FirstArcs.{FirstArcs}
use Rattle.walk_circuit.proofs.first_arcs.Given as goal

abbrev pub invariant-loop-v : goal.invariant-loop-v
invariant-loop-v l = FirstArcs l.edges.heads l.v l.arcs
