-- The condition by the pairing, by the number of nodes, and by each table.
use Rattle.std.proofs.Common.{◌∙◌}
use Rattle.std.proofs.lemmas.Result.{err_from_is_err_and}
use Rattle.file_records.specs.Meaning.{settings_of}
use Rattle.repair_pairs.proofs.Refusal.{refused_greedy, refused_few, refused_busy, floats_first, bytes_then}
use Rattle.repair_pairs.proofs.optimal_refusal.Goals as goal

pub returns-then-settings-ne-OPTIMAL : goal.returns-then-settings-ne-OPTIMAL
returns-then-settings-ne-OPTIMAL c = let a = c.args in refused_greedy (settings_of a.settings) a.n a.floats a.bytes c.if-settings-ne-OPTIMAL.true

pub returns-then-n-lt4 : goal.returns-then-n-lt4
returns-then-n-lt4 c = let a = c.args in refused_few (settings_of a.settings) a.n a.floats a.bytes c.if-settings-ne-OPTIMAL.false c.if-n-lt4.true

pub returns-then-busy : goal.returns-then-busy
returns-then-busy c = let a = c.args in c.short_of.ensures ∙ refused_busy (settings_of a.settings) a.n a.floats a.bytes c.if-settings-ne-OPTIMAL.false c.if-busy.true

pub returns-in_err-short_of : goal.returns-in_err-short_of
returns-in_err-short_of c =
    let a = c.args in
    let p = err_from_is_err_and c.from_residual.result c.from_residual.ensures.1 in
    rw (p.1, p.2) (floats_first (settings_of a.settings) a.n a.floats a.bytes c.if-settings-ne-OPTIMAL.false c.if-n-lt4.false c.if-busy.false c.in_err-short_of.field-0.0 _ c.power-states.ensures.0 c.in_err-short_of.ensures)

pub returns : goal.returns
returns c =
    let a = c.args in
    c.short_of-3.ensures ∙ bytes_then (settings_of a.settings) a.n a.floats a.bytes c.if-settings-ne-OPTIMAL.false c.if-n-lt4.false c.if-busy.false _ c.power-states.ensures.0 c.in_ok-short_of.ensures
