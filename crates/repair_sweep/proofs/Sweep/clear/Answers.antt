-- The steps.
use mathlib.Core.Path.{◌≡◌, refl}
use Prim.Native.Nat.{◌≤◌, ◌<◌}
use native.Mathlib.Omega.{arith}
use lib.ListN.{get_or}
use lib.Ieee.{of_bits}
use Rattle.limits.specs.Limits.{most_nodes}
use Rattle.repair_search.proofs.Touched.{listed_few}
use Rattle.repair_sweep.proofs.Sweeps.{clearing_begin, clearing_step, clearing_end}
use Rattle.repair_sweep.proofs.Sweep.clear.Goals as goal
use Rattle.repair_sweep.proofs.Sweep.clear.Goals.{Start, After-from-v}

few : (c : Start) → c.args.count ≤ most_nodes
few c = listed_few c.args.n c.args.self.now.dist c.args.self.now.touched c.args.count c.requires.1.reached.listed c.requires.1.reached.long

-- the node that a turn clears
node : (c : After-from-v) → (c.from-v.result ≡ get_or c.args.self.now.touched c.loop-j.j 0) × (c.from-v.result < most_nodes)
node c =
    let e : c.from-v.result ≡ get_or c.args.self.now.touched c.loop-j.j 0 = rw c.loop-j.invariant.1 at c.from-v.ensures in
    (e, omega (arith, e, c.requires.1.reached.listed.nodes c.loop-j.j c.loop-j-test.true))

pub loop-j-init : goal.loop-j-init
loop-j-init c = (clearing_begin c.args.n c.args.self.now.touched c.args.count _ _ c.requires.1, refl)

pub offset_bounds-self-j : goal.offset_bounds-self-j
offset_bounds-self-j c = omega (arith, few (goal.at.offset_bounds-self-j c).Start)

pub bounds-self-j : goal.bounds-self-j
bounds-self-j c = omega (arith, few (goal.at.bounds-self-j c).Start)

pub loop-j-preserved : goal.loop-j-preserved
unfolding of_bits
loop-j-preserved c =
    let p = node (goal.at.loop-j-preserved c).After-from-v in
    (clearing_step c.args.self.now.touched c.args.count c.loop-j.j _ _ c.loop-j.invariant.0 c.loop-j-test.true c.from-v.result p.0 p.1, c.loop-j.invariant.1)

pub returns : goal.returns
returns c =
    let I = c.loop-j.invariant in
    let U = clearing_end c.args.self.now.touched c.args.count c.loop-j.j _ _ I.0 (omega arith) c.requires.1.reached.listed.long in
    record { none = U.none; never = U.never; room = rw I.1 U.room }
