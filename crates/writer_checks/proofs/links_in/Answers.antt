-- `writer_checks::links_in` meets its contract. Assumes nothing.
use Rattle.std.proofs.Common.{◌∙◌, sym, List, ℕ, ◌/◌, length, rules, tests}
use Rattle.std.proofs.lemmas.Iterator.{YieldsList-from_slice}
use Rattle.std.proofs.lemmas.Iterator.Search.{all_from_yields_List}
use Rattle.std.specs.Simd.{first_chunks}
use Rattle.writer_checks.specs.Checked.{link_in}
use Rattle.writer_checks.proofs.CheckedLaws.{links_are_all}
use Rattle.writer_checks.proofs.links_in.Goals as goal

pub returns : goal.returns
returns c =
    let a = c.args in
    let n = length a.segments.now / 4 in
    all_from_yields_List (λ (l : List ℕ). link_in a.sizes.now l 0) _ _ _ c.all.ensures.ran (YieldsList-from_slice (first_chunks 4 n a.segments.now) cc) (λ x b q k. search (rules, tests))
    ∙ sym (links_are_all a.sizes.now a.segments.now n 0)
