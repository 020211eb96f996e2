-- The points of the first and the last node are the definition's ends.
use Prim.Native.Nat.{◌-◌}
use native.Mathlib.Omega.{arith}
use Rattle.walk_orient.proofs.Ends.{no_ends, some_ends}
use Rattle.walk_orient.proofs.end_points.Goals as goal

pub returns-then-count-eq0 : goal.returns-then-count-eq0
returns-then-count-eq0 c = no_ends _ c.args.nodes.now.xs c.args.nodes.now.ys _ _ c.requires.line c.if-count-eq0.true

pub point_of-first-requires : goal.point_of-first-requires
point_of-first-requires c = omega (arith, c.from.ensures, c.requires.nodes.few, c.requires.line.nodes_in_known 0 (omega arith))

pub point_of-last-requires : goal.point_of-last-requires
point_of-last-requires c = omega (arith, c.from-2.ensures, c.requires.nodes.few, c.requires.line.nodes_in_known (c.args.count - 1) (omega arith))

pub returns : goal.returns
returns c =
    some_ends _ c.args.nodes.now.xs c.args.nodes.now.ys _ _ c.requires.line _ _ _ _ (omega arith) c.from.ensures c.from-2.ensures c.point_of-first.ensures
    c.point_of-last.ensures
