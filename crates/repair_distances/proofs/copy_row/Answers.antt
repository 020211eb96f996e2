-- The steps.
use Rattle.std.proofs.Common.{ℕ, ◌≡◌, arith, rules, subst}
use Rattle.repair_distances.specs.Rows.{Copied}
use Rattle.repair_distances.proofs.Rows.{copied_none, copied_turn}
use Rattle.repair_distances.proofs.copy_row.Goals as goal

pub loop-j-init : goal.loop-j-init
loop-j-init c = (search rules, copied_none _ _ _ _)

pub loop-j-preserved : goal.loop-j-preserved
loop-j-preserved c = (search rules, copied_turn _ _ _ _ c.from-v.result _ _ c.from-v.ensures (omega (arith, c.loop-j.invariant.0, c.loop-j-test.true)) c.loop-j.invariant.1)

pub returns : goal.returns
returns c = let all : c.loop-j.j ≡ c.args.count = omega arith in subst (λ (k : ℕ). Copied c.args.at.now c.args.odd.now k c.args.start c.args.table.now c.loop-j.table) all c.loop-j.invariant.1
