-- The entries of all masks below m that are asked for are right, by the distances in the table, which stay.
use Prim.Native.Nat.{◌≤◌, ◌<◌, ◌-◌, ◌*◌}
use mathlib.Core.Path.{◌≡◌}
use lib.ListN.{length}
use Rattle.repair_table.specs.Tables.{Filled}
use Rattle.repair_table.proofs.fill.Given as goal

abbrev pub invariant-loop-m : goal.invariant-loop-m
invariant-loop-m l =
    (0 < l.m) × (l.m ≤ 2 * l.states) × (length l.table ≡ length l.initial.table) × (length l.partners ≡ length l.initial.partners) × Filled l.n l.m l.initial.table l.table l.partners

abbrev pub decreases-loop-m : goal.decreases-loop-m
decreases-loop-m l = l.states - l.m
