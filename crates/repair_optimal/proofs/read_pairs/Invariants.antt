-- The pairs that are read, and then those that are left, are all; the mask has two places for each that is left, and is one that is asked for.
use Rattle.std.proofs.Common.{◌≡◌, ◌<◌, ◌-◌, ◌*◌, ◌^◌}
use Rattle.std.specs.Int.Count.{ones}
use Rattle.repair_masks.specs.Table.{Needed}
use Rattle.repair_optimal.proofs.Turns.{Reading}
use Rattle.repair_optimal.proofs.read_pairs.Given as goal

abbrev pub invariant-loop : goal.invariant-loop
invariant-loop l =
    (l.m < 2 ^ l.n) × (ones l.m ≡ 2 * (l.count - l.counter)) × Needed l.n l.m × Reading l.odd l.partners l.count l.mask l.counter l.m l.pairs
