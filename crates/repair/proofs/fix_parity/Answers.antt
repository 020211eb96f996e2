-- A refusal by condition 11, or what the retraces leave.
use Rattle.std.proofs.Common.{◌∙◌, length}
use Rattle.limits.specs.Refused.{number_of}
use Rattle.file_records.specs.Meaning.{settings_of}
use Rattle.graph_arrays.specs.Arrays.{graph_in}
use Rattle.repair.proofs.ParityLaws.{parity_refused, found_usable, parity_retraced}
use Rattle.repair.proofs.fix_parity.Goals as goal

pub returns-in-Err : goal.returns-in-Err
returns-in-Err c =
    let a = c.args in
    record {
      parity = rw c.number.ensures (parity_refused a.most a.number (graph_in a.n a.m a.nodes.now.xs a.nodes.now.ys a.edges.now) (settings_of a.settings) (length a.floats.now) (length a.bytes.now) (number_of c.in-Err.refusal) c.in-Err.ensures);
      held = tt;
    }

pub retrace_pairs-laid-requires : goal.retrace_pairs-laid-requires
retrace_pairs-laid-requires c =
    let a = c.args in
    let U = found_usable a.most a.number a.n a.m a.nodes.now.xs a.nodes.now.ys a.edges.now c.requires.2 (settings_of a.settings) (length a.floats.now) (length a.bytes.now) c.in-Ok.odd c.find_pairs.new.pairs c.in-Ok.ensures in
    record { most_le_most_edges = (c.requires.0, U.few, U.nodes); edges_held = c.requires.2 }

pub returns-in-Ok : goal.returns-in-Ok
returns-in-Ok c =
    let a = c.args in
    record {
      parity =
          c.answer.ensures.parity
          ∙ parity_retraced a.most a.number a.n a.m a.nodes.now.xs a.nodes.now.ys a.edges.now c.requires.2 (settings_of a.settings) (length a.floats.now) (length a.bytes.now) c.in-Ok.odd c.find_pairs.new.pairs c.in-Ok.ensures
          _ c.retrace_pairs-laid.ensures.is;
      held = c.answer.ensures.held;
    }
