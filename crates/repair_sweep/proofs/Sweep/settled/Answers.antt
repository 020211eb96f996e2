-- The steps.
use Prim.Native.Nat.{ℕ, ◌≤◌, ◌<◌}
use mathlib.Core.Path.{◌≡◌, subst}
use native.Mathlib.Omega.{arith}
use Rattle.limits.specs.Limits.{most_nodes}
use Rattle.repair_search.proofs.Touched.{listed_few}
use Rattle.repair_sweep.proofs.Sweeps.{Seen, seen_none, seen_turn, seen_all}
use Rattle.repair_sweep.proofs.Sweep.settled.Goals as goal
use Rattle.repair_sweep.proofs.Sweep.settled.Goals.{Start, After-from-u}

few : (c : Start) → c.args.count ≤ most_nodes
few c = listed_few c.args.n c.args.self.now.dist c.args.self.now.touched c.args.count c.requires.1.reached.listed c.requires.1.reached.long

-- what the list has there is a node
node : (c : After-from-u) → c.from-u.result < most_nodes
node c = omega (arith, c.requires.1.reached.listed.nodes c.loop-j.j c.loop-j-test.true)

pub loop-j-init : goal.loop-j-init
loop-j-init c = seen_none c.args.self.now.touched c.args.self.now.dist c.args.self.now.done

pub offset_bounds-self-j : goal.offset_bounds-self-j
offset_bounds-self-j c = omega (arith, few (goal.at.offset_bounds-self-j c).Start)

pub bounds-self-j : goal.bounds-self-j
bounds-self-j c = omega (arith, few (goal.at.bounds-self-j c).Start)

pub loop-j-preserved : goal.loop-j-preserved
loop-j-preserved c = seen_turn _ _ _ c.loop-j.j c.from-u.result c.loop-j.invariant c.from-u.ensures c.if-self-u.false

pub returns : goal.returns
returns c = λ e.
    let s = c.args.self.now in
    let all : c.loop-j.j ≡ c.args.count = omega arith in
    seen_all c.args.n c.requires.0 s.dist s.done s.touched c.args.count c.requires.1 (subst (λ (k : ℕ). Seen s.touched s.dist s.done k) all c.loop-j.invariant)
