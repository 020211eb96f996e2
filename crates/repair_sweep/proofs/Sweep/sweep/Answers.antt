-- The steps.
use Prim.Native.Nat.{◌<◌}
use native.Mathlib.Omega.{arith}
use Rattle.limits.specs.Limits.{most_nodes}
use Rattle.repair_search.proofs.Touched.{listed_few}
use Rattle.repair_sweep.proofs.Sweep.sweep.Goals as goal
use Rattle.repair_sweep.proofs.Sweep.sweep.Goals.{In-loop-j}

-- the place is one of the list
inside : (c : In-loop-j) → c.loop-j.j < most_nodes
inside c =
    let l = c.loop-j in
    omega (arith, listed_few c.args.n l.self.dist l.self.touched l.listed l.invariant.0.reached.listed l.invariant.0.reached.long)

pub loop-j-init : goal.loop-j-init
loop-j-init c = (c.requires.looked, λ s S. S)

pub offset_bounds-self-j : goal.offset_bounds-self-j
offset_bounds-self-j c = omega (arith, inside (goal.at.offset_bounds-self-j c).In-loop-j)

pub bounds-self-j : goal.bounds-self-j
bounds-self-j c = omega (arith, inside (goal.at.bounds-self-j c).In-loop-j)

pub visit-listed-requires : goal.visit-listed-requires
visit-listed-requires c =
    let l = c.loop-j in
    record { u_lt_n = (rw c.from-u.ensures (l.invariant.0.reached.listed.nodes l.j c.loop-j-test.true), l.invariant.0); edges_held = c.requires.edges_held }

pub overflow_add-j : goal.overflow_add-j
overflow_add-j c = omega (arith, inside (goal.at.overflow_add-j c).In-loop-j)

pub loop-j-smaller : goal.loop-j-smaller
loop-j-smaller c = omega (arith, inside (goal.at.loop-j-smaller c).In-loop-j)

pub loop-j-preserved : goal.loop-j-preserved
loop-j-preserved c = (c.visit-listed.ensures.looked, λ s S. c.visit-listed.ensures.goes_on s (c.loop-j.invariant.1 s S))
