-- The steps.
use mathlib.Core.Path.{◌≡◌, ◌∙◌}
use Prim.Native.Nat.{◌+◌, ◌*◌, ◌/◌}
use native.Mathlib.Omega.{arith}
use Rattle.repair_tournament.specs.Tree.{at, lesser}
use Rattle.repair_tournament.proofs.Tree.{lesser_nonneg, lesser_beside, storing_begin, storing_step, storing_won, storing_end, storing_same, stored_since}
use Rattle.repair_tournament.proofs.Tournament.store.Goals as goal
use Rattle.repair_tournament.proofs.Tournament.store.Goals.{After-lesser-won}

pub loop-i-init : goal.loop-i-init
loop-i-init c =
    let S = storing_begin c.args.n c.args.v c.args.x c.args.self.now.values c.requires.0 c.requires.1 c.requires.2 c.requires.3 in
    (S, omega (arith, c.requires.1), omega (arith, c.requires.1), S.new)

-- the lesser of the two below the place above
won_is : (c : After-lesser-won) → c.lesser-won.result ≡ lesser (at c.loop-i.self.values (2 * (c.loop-i.i / 2))) (at c.loop-i.self.values (2 * (c.loop-i.i / 2) + 1))
won_is c =
    let I = c.loop-i.invariant in
    c.lesser-won.ensures ∙ lesser_beside c.loop-i.self.values I.0.nonneg c.loop-i.i c.loop-i-test.true (omega (arith, I.2, c.requires.0)) c.loop-i.won I.3

pub differ-requires : goal.differ-requires
differ-requires c =
    let S = c.loop-i.invariant.0 in
    let few = c.requires.0 in
    (S.nonneg _ (omega (arith, S.below, few)), rw (won_is (goal.at.differ-requires c).After-lesser-won) (lesser_nonneg _ _ (S.nonneg _ (omega (arith, S.below, few))) (S.nonneg _ (omega (arith, S.below, few)))))

pub returns-then-not-differ : goal.returns-then-not-differ
returns-then-not-differ c =
    stored_since c.args.n c.args.v c.args.x c.args.self.now.values c.requires.0 c.requires.1 _
    (storing_same c.args.n c.args.v c.args.x _ c.requires.0 c.requires.1 (c.loop-i.i / 2) c.loop-i.self.values c.loop-i.invariant.0 (c.differ.ensures (c.if-not-differ.true) ∙ won_is (goal.at.returns-then-not-differ c).After-lesser-won))

pub loop-i-preserved : goal.loop-i-preserved
loop-i-preserved c =
    let S = c.loop-i.invariant.0 in
    let taken = c.loop-i-test.true in (
      storing_step c.args.n c.args.v c.args.x _ c.requires.0 c.requires.1 (c.loop-i.i / 2) c.loop-i.self.values S (omega (arith, taken)) c.lesser-won.result (won_is (goal.at.loop-i-preserved c).After-lesser-won),
      omega (arith, taken),
      omega (arith, c.loop-i.invariant.2),
      storing_won c.args.n c.args.v c.args.x _ c.requires.0 c.requires.1 (c.loop-i.i / 2) c.loop-i.self.values S c.lesser-won.result,
    )

pub returns : goal.returns
returns c =
    stored_since c.args.n c.args.v c.args.x c.args.self.now.values c.requires.0 c.requires.1 _
    (storing_end c.args.n c.args.v c.args.x _ c.requires.0 c.requires.1 (c.loop-i.i / 2) c.loop-i.self.values c.loop-i.invariant.0 (omega (arith, c.loop-i-test.false)))
