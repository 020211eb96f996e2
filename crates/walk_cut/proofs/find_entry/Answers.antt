-- The first place of which the test holds.
use mathlib.Core.Path.{sym, ◌∙◌}
use Rattle.walk_cut.proofs.CutLaws.{passed_none, passed_more, passed_found, passed_all}
use Rattle.walk_cut.proofs.find_entry.Goals as goal

pub loop-p-init : goal.loop-p-init
loop-p-init c = passed_none _ _ _ c.requires

pub returns-then-by-b : goal.returns-then-by-b
returns-then-by-b c = passed_found _ _ _ _ c.loop-p-test.true c.loop-p.invariant (sym c.from-by.ensures ∙ c.if-by-b.true)

pub loop-p-preserved : goal.loop-p-preserved
loop-p-preserved c = passed_more _ _ _ _ c.loop-p-test.true c.loop-p.invariant (λ e. c.if-by-b.false (c.from-by.ensures ∙ e))

pub returns : goal.returns
returns c = passed_all _ _ _ _ c.loop-p-test.false c.loop-p.invariant
