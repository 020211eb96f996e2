-- The circuit with the virtual edge, cut at its step, is the definition's line.
use mathlib.Core.Path.{◌∙◌}
use lib.Ieee.{of_bits}
use Rattle.walk_euler.proofs.Euler.{virtual_linked, open_is}
use Rattle.walk_euler.proofs.open_line.Goals as goal

pub circuit-requires : goal.circuit-requires
unfolding of_bits
circuit-requires c =
    record { start = c.requires.nodes.2; edges = virtual_linked _ _ _ _ c.args.edges.now _ c.requires.edges c.requires.room c.requires.nodes.0 c.requires.nodes.1 c.push_edge.ensures c.requires.apart }

pub returns : goal.returns
unfolding of_bits
returns c =
    let walked = c.circuit.ensures in
    record {
      line_after = c.cut.ensures.line_after ∙ open_is _ _ _ _ c.args.edges.now _ c.requires.edges c.requires.room c.requires.nodes.0 c.requires.nodes.1 c.push_edge.ensures _ _ _ _ walked.bys_after;
      node_list = c.cut.ensures.nodes _ walked.entries_in;
    }
