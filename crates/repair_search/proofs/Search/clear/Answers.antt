-- The steps.
use mathlib.Core.Path.{◌≡◌, refl}
use Prim.Native.Nat.{◌≤◌, ◌<◌}
use native.Mathlib.Omega.{arith}
use lib.ListN.{get_or}
use lib.Ieee.{binary64, of_bits}
use Rattle.limits.specs.Limits.{most_nodes}
use Rattle.sums.proofs.Sum.{inf_nonneg}
use Rattle.repair_search.proofs.Touched.{clearing_begin, clearing_step, clearing_end, listed_few}
use Rattle.repair_search.proofs.Search.clear.Goals as goal
use Rattle.repair_search.proofs.Search.clear.Goals.{Start, After-from-v}

few : (c : Start) → c.args.count ≤ most_nodes
few c = listed_few c.args.n c.args.self.now.dist c.args.self.now.touched c.args.count c.requires.1.listed c.requires.1.long

-- the node that a turn clears
node : (c : After-from-v) → (c.from-v.result ≡ get_or c.args.self.now.touched c.loop-j.j 0) × (c.from-v.result < c.args.n)
node c =
    let e : c.from-v.result ≡ get_or c.args.self.now.touched c.loop-j.j 0 = rw c.loop-j.invariant.1 at c.from-v.ensures in
    (e, rw e (c.requires.1.listed.nodes c.loop-j.j c.loop-j-test.true))

pub loop-j-init : goal.loop-j-init
loop-j-init c = (clearing_begin c.args.n c.requires.0 c.args.self.now.touched c.args.count _ _ c.requires.1, refl)

pub offset_bounds-self-j : goal.offset_bounds-self-j
offset_bounds-self-j c = omega (arith, few (goal.at.offset_bounds-self-j c).Start)

pub bounds-self-j : goal.bounds-self-j
bounds-self-j c = omega (arith, few (goal.at.bounds-self-j c).Start)

pub bounds-self-v : goal.bounds-self-v
bounds-self-v c = omega (arith, (node (goal.at.bounds-self-v c).After-from-v).1)

pub store-requires : goal.store-requires
unfolding of_bits
store-requires c = (c.requires.0, (node (goal.at.store-requires c).After-from-v).1, c.loop-j.invariant.0.tree, inf_nonneg binary64)

pub loop-j-preserved : goal.loop-j-preserved
unfolding of_bits
loop-j-preserved c =
    let p = node (goal.at.loop-j-preserved c).After-from-v in
    (clearing_step c.args.n c.requires.0 c.args.self.now.touched c.args.count c.loop-j.j _ _ c.loop-j.invariant.0 c.loop-j-test.true c.from-v.result p.0 p.1 _ c.store.ensures, c.loop-j.invariant.1)

pub returns : goal.returns
returns c =
    let I = c.loop-j.invariant in
    let U = clearing_end c.args.n c.requires.0 c.args.self.now.touched c.args.count c.loop-j.j _ _ I.0 (omega arith) c.requires.1.listed.long in
    record { none = U.none; tree = U.tree; values = U.values; room = rw I.1 U.room }
