-- A refusal by condition 11, or the pairs.
use Rattle.std.proofs.Common.{refl, ◌∙◌, length}
use Rattle.std.proofs.lemmas.Result.{err_from_is_err_and}
use Rattle.limits.specs.Refused.{number_of}
use Rattle.file_records.specs.Meaning.{settings_of}
use Rattle.repair_pairs.proofs.Refusal.{number_some}
use Rattle.repair_pairs.proofs.PairsLaws.{same_refusal, found_refused, found_pairs}
use Rattle.repair_pairs.proofs.find_pairs.Goals as goal

pub returns-in_err-optimal_refusal : goal.returns-in_err-optimal_refusal
returns-in_err-optimal_refusal c =
    let a = c.args in
    let s = settings_of a.settings in
    let refused = c.in_err-optimal_refusal in
    let p = err_from_is_err_and c.from_residual.result c.from_residual.ensures.1 in
    rw (p.1, p.2)
    (found_refused a.n a.m a.nodes.now.xs a.nodes.now.ys a.edges.now s (length a.floats.now) (length a.bytes.now) (number_of refused.field-0.0)
    (refused.ensures ∙ same_refusal s _ _ c.odd_nodes-odd.ensures.counts) (number_some refused.field-0.0))

pub returns : goal.returns
returns c =
    let a = c.args in
    let s = settings_of a.settings in
    let odd = c.odd_nodes-odd.ensures.counts in
    found_pairs a.n a.m a.nodes.now.xs a.nodes.now.ys a.edges.now s _ _ 0 (c.in_ok-optimal_refusal.ensures ∙ same_refusal s _ _ odd) refl _ _ odd c.pairs_of.ensures
