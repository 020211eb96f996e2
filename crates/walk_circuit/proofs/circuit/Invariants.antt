-- At the outer loop's head, what is left of the walk from here gives the circuit; in the inner loop, besides, `k` is the cursor of the node in hand.
use Prim.Native.Nat.{◌+◌, ◌-◌, ◌*◌}
use Rattle.walk_circuit.proofs.Standing.{Within, stand}
use Rattle.walk_marks.specs.Marks.{marks_in}
use Rattle.walk_circuit.proofs.Walks.{Walks, Looks}
use Rattle.walk_circuit.proofs.circuit.Given as goal

abbrev pub invariant-walk : goal.invariant-walk
invariant-walk l =
    Within l.n l.entries.nodes l.entries.bys l.depth l.node l.place
    × Walks l.n l.m l.edges l.s (2 * l.m + 1 - l.counter) (stand (marks_in l.used.words) l.cursors l.entries.nodes l.entries.bys l.depth l.node l.by l.place)

abbrev pub invariant-loop-k : goal.invariant-loop-k
invariant-loop-k l =
    let t = stand (marks_in l.used.words) l.cursors l.entries.nodes l.entries.bys l.depth l.node l.by l.place in
    Within l.n l.entries.nodes l.entries.bys l.depth l.node l.place × Walks l.n l.m l.edges l.s (2 * l.m + 1 - (l.counter + 1) + 1) t × Looks l.n l.m l.edges l.k t

abbrev pub decreases-loop-k : goal.decreases-loop-k
decreases-loop-k l = l.k
