-- One node more has its first arc.
use native.Mathlib.Omega.{arith}
use Rattle.walk_circuit.proofs.Standing.{first_arcs_none, first_arcs_more, first_arcs_all}
use Rattle.walk_circuit.proofs.Walks.{first_within}
use Rattle.walk_circuit.proofs.first_arcs.Goals as goal

pub loop-v-init : goal.loop-v-init
loop-v-init c = first_arcs_none _

pub overflow_cast-arcs : goal.overflow_cast-arcs
overflow_cast-arcs c = record { fits = omega (arith, c.first_arc.ensures, first_within _ _ _ c.requires _ c.loop-v-test.true) }

pub loop-v-preserved : goal.loop-v-preserved
loop-v-preserved c = first_arcs_more _ _ _ _ (omega arith) c.first_arc.ensures c.loop-v.invariant

pub returns : goal.returns
returns c = first_arcs_all _ _ _ _ c.loop-v-test.false c.loop-v.invariant
