-- The best so far, with the candidates that are left, gives the best of all.
use Rattle.file_records.specs.Meaning.{settings_of}
use Rattle.graph_arrays.specs.Arrays.{nodes_in}
use Rattle.walk_start.proofs.Chosen.{Chosen}
use Rattle.walk_start.proofs.best.Given as goal

abbrev pub invariant-loop-i : goal.invariant-loop-i
invariant-loop-i l = Chosen (settings_of l.settings) (nodes_in l.n l.nodes.xs l.nodes.ys) l.n l.list l.count l.i l.v
