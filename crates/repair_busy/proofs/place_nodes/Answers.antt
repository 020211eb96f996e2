-- The steps.
use Rattle.std.proofs.Common.{ℕ, ◌≡◌, refl, subst, arith}
use Rattle.repair_busy.specs.Table.{Placed}
use Rattle.repair_busy.proofs.Places.{placed_none, placed_turn}
use Rattle.repair_busy.proofs.place_nodes.Goals as goal

pub loop-i-init : goal.loop-i-init
loop-i-init c = placed_none c.args.odd.now c.args.count c.requires.0

pub loop-i-preserved : goal.loop-i-preserved
loop-i-preserved c =
    placed_turn _ _ _ _ c.from-v.result _ c.loop-i-test.true c.from-v.ensures (omega (arith, c.requires.1.nodes_in_known c.loop-i.i c.loop-i-test.true, c.from-v.ensures)) refl c.loop-i.invariant

pub returns : goal.returns
returns c =
    let a = c.args in
    let all : c.loop-i.i ≡ a.count = omega arith in
    subst (λ (k : ℕ). Placed a.odd.now a.count k c.loop-i.places) all c.loop-i.invariant
