-- `repair_table::is_due` meets its contract.
use native.Mathlib.Omega.{arith}
use lib.Count.{ones-le}
use Rattle.repair_table.proofs.FillLaws.{due_low, due_even}
use Rattle.repair_table.proofs.is_due.Goals as goal

pub overflow_cast-places : goal.overflow_cast-places
overflow_cast-places c = omega (arith, ones-le c.args.n c.args.m c.requires.1)

pub overflow_add-places : goal.overflow_add-places
overflow_add-places c = omega (arith, ones-le c.args.n c.args.m c.requires.1)

pub overflow_add-places-2 : goal.overflow_add-places-2
overflow_add-places-2 c = omega (arith, ones-le c.args.n c.args.m c.requires.1)

pub returns-then-places-lowest : goal.returns-then-places-lowest
returns-then-places-lowest c =
    due_low c.args.n c.args.m (omega arith)

pub returns : goal.returns
returns c =
    due_even c.args.n c.args.m (omega arith)
