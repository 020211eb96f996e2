-- The circuit's line is the definition's.
use mathlib.Core.Path.{◌∙◌}
use Rattle.walk_euler.proofs.Euler.{closed_is}
use Rattle.walk_euler.proofs.closed_line.Goals as goal

pub returns : goal.returns
returns c =
    let walked = c.circuit.ensures in
    record { line_after = c.whole.ensures.line_after ∙ closed_is _ c.args.edges.now _ _ _ _ walked.bys_after; node_list = c.whole.ensures.nodes _ walked.entries_in }
