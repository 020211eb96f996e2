-- A refusal, the repair, or the line.
use Rattle.std.proofs.Common.{◌∙◌, length, arith}
use Rattle.file_records.specs.Meaning.{settings_of}
use Rattle.graph_arrays.specs.Arrays.{graph_in}
use Rattle.phases.proofs.Ends.{repair_refused, repair_done, line_done, held}
use Rattle.phases.proofs.end_of_repair.Goals as goal

pub fix_parity-repair-requires : goal.fix_parity-repair-requires
fix_parity-repair-requires c = (omega arith, c.requires.nodes, c.requires.edges)

pub returns-in-Refused : goal.returns-in-Refused
returns-in-Refused c =
    let a = c.args in
    let r = c.fix_parity-repair in
    c.refused.ensures ∙ repair_refused (graph_in a.n a.m a.nodes.now.xs a.nodes.now.ys a.edges.now) (settings_of a.settings) (length a.floats.now) (length a.bytes.now) a.last r.result r.new.edges r.ensures.parity _ c.in-Refused.is

pub returns-then-last-eq-REPAIR : goal.returns-then-last-eq-REPAIR
returns-then-last-eq-REPAIR c =
    let a = c.args in
    let r = c.fix_parity-repair in
    repair_done (graph_in a.n a.m a.nodes.now.xs a.nodes.now.ys a.edges.now) (settings_of a.settings) (length a.floats.now) (length a.bytes.now) a.last r.result r.new.edges r.ensures.parity _ _ _ c.in-Repaired.is c.if-last-eq-REPAIR.true

pub end_of_line-requires : goal.end_of_line-requires
end_of_line-requires c =
    let a = c.args in
    let r = c.fix_parity-repair in
    record {
      sides = (c.requires.wide, c.requires.high);
      nodes = c.requires.nodes;
      edges = held (graph_in a.n a.m a.nodes.now.xs a.nodes.now.ys a.edges.now) (settings_of a.settings) (length a.floats.now) (length a.bytes.now) a.last r.result r.new.edges r.ensures.parity _ _ _ c.in-Repaired.is a.n r.ensures.held;
    }

pub returns-else-last-eq-REPAIR : goal.returns-else-last-eq-REPAIR
returns-else-last-eq-REPAIR c =
    let a = c.args in
    let r = c.fix_parity-repair in
    line_done (graph_in a.n a.m a.nodes.now.xs a.nodes.now.ys a.edges.now) (settings_of a.settings) (length a.floats.now) (length a.bytes.now) a.last r.result r.new.edges r.ensures.parity _ _ _ c.in-Repaired.is c.if-last-eq-REPAIR.false
    _ c.end_of_line.ensures
