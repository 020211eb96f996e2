-- `repair_search::touch` meets its contract.
use Prim.Native.Nat.{◌<◌}
use native.Mathlib.Omega.{arith}
use lib.Ieee.{of_bits}
use Rattle.limits.specs.Limits.{most_nodes}
use Rattle.repair_search.proofs.Touched.{listed_again, listed_room, listed_first}
use Rattle.repair_search.proofs.touch.Goals as goal
use Rattle.repair_search.proofs.touch.Goals.{Else-dist-v}

pub returns-then-dist-v : goal.returns-then-dist-v
unfolding of_bits
returns-then-dist-v c = listed_again c.args.n c.requires.0 c.args.dist.now c.requires.2 c.args.touched.now c.args.count c.requires.3 c.args.v c.requires.1 c.if-dist-v.true

-- there is room for one node more
room : (c : Else-dist-v) → c.args.count < most_nodes
unfolding of_bits
room c = listed_room c.args.n c.requires.0 c.args.dist.now c.requires.2 c.args.touched.now c.args.count c.requires.3 c.args.v c.requires.1 c.if-dist-v.false

pub offset_bounds-touched-count : goal.offset_bounds-touched-count
offset_bounds-touched-count c = omega (arith, room (goal.at.offset_bounds-touched-count c).Else-dist-v)

pub bounds-touched-count : goal.bounds-touched-count
bounds-touched-count c = room (goal.at.bounds-touched-count c).Else-dist-v

pub overflow_add-result : goal.overflow_add-result
overflow_add-result c = omega (arith, room (goal.at.overflow_add-result c).Else-dist-v)

pub returns : goal.returns
unfolding of_bits
returns c = listed_first c.args.n c.requires.0 c.args.dist.now c.requires.2 c.args.touched.now c.args.count c.requires.3 c.args.v c.requires.1 c.if-dist-v.false
