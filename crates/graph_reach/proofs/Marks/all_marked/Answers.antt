-- At a node that is not marked not all are; behind the last all are.
use mathlib.Core.Path.{refl, sym, ◌∙◌}
use mathlib.Core.Bool.{false≢true}
use native.Mathlib.Omega.{arith}
use borrow.Author.Count.{below_none, below_more}
use Rattle.graph_reach.proofs.Marks.all_marked.Goals as goal

pub loop-v-init : goal.loop-v-init
loop-v-init c = below_none _

pub returns-then-not-self-v : goal.returns-then-not-self-v
returns-then-not-self-v c = record { all = λ e. absurd (false≢true e); only = λ h. absurd (false≢true (sym (c.if-not-self-v.true) ∙ h _ c.loop-v-test.true)) }

pub loop-v-preserved : goal.loop-v-preserved
loop-v-preserved c = below_more _ _ c.loop-v.invariant c.if-not-self-v.false

pub returns : goal.returns
returns c = record { all = λ e v l. c.loop-v.invariant v (omega arith); only = λ h. refl }
