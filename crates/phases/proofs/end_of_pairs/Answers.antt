-- A refusal, the pairs, or the sum of their distances.
use Rattle.std.proofs.Common.{◌∙◌, length}
use Rattle.limits.specs.Refused.{number_of}
use Rattle.file_records.specs.Meaning.{settings_of}
use Rattle.phases.specs.Ends.{refused_with}
use Rattle.phases.proofs.Ends.{pairs_refused, pairs_found, pairs_searched, usable}
use Rattle.phases.proofs.end_of_pairs.Goals as goal

pub returns-in-Err : goal.returns-in-Err
returns-in-Err c =
    let a = c.args in
    c.refused.ensures ∙ rw c.number.ensures (pairs_refused a.n a.m a.nodes.now.xs a.nodes.now.ys a.edges.now (settings_of a.settings) (length a.floats.now) (length a.bytes.now) a.last (number_of c.in-Err.refusal) c.in-Err.ensures)

pub returns-then-last-eq-PAIRS : goal.returns-then-last-eq-PAIRS
returns-then-last-eq-PAIRS c =
    let a = c.args in
    c.made.ensures ∙ pairs_found a.n a.m a.nodes.now.xs a.nodes.now.ys a.edges.now (settings_of a.settings) (length a.floats.now) (length a.bytes.now) a.last c.in-Ok.odd c.find_pairs.new.pairs c.in-Ok.ensures c.if-last-eq-PAIRS.true

pub search_pairs-total-requires : goal.search_pairs-total-requires
search_pairs-total-requires c =
    let a = c.args in
    let U = usable a.n a.m a.nodes.now.xs a.nodes.now.ys a.edges.now (settings_of a.settings) (length a.floats.now) (length a.bytes.now) a.last c.in-Ok.odd c.find_pairs.new.pairs c.in-Ok.ensures c.requires.edges in
    record { pairs_le_most_pairs = (U.few, U.nodes); edges_held = c.requires.edges }

pub returns-else-last-eq-PAIRS : goal.returns-else-last-eq-PAIRS
returns-else-last-eq-PAIRS c =
    let a = c.args in
    pairs_searched a.n a.m a.nodes.now.xs a.nodes.now.ys a.edges.now (settings_of a.settings) (length a.floats.now) (length a.bytes.now) a.last c.in-Ok.odd c.find_pairs.new.pairs c.in-Ok.ensures c.if-last-eq-PAIRS.false
    _ c.search_pairs-total.ensures
