-- Both lists of distances are filled whole.
use Rattle.std.proofs.Common.{◌≡◌, replicate, rules}
use lib.Ieee.{of_bits}
use Rattle.limits.specs.Limits.{most_nodes}
use Rattle.repair_spec.specs.Distance.{infinity}
use Rattle.repair_sweep.proofs.Sweeps.{unswept_new}
use Rattle.repair_sweep.proofs.Sweep.new.Goals as goal

pub returns : goal.returns
unfolding of_bits
returns c =
    let d : c.fill.new.self ≡ replicate most_nodes infinity = search rules in
    let e : c.fill-2.new.self ≡ replicate most_nodes infinity = search rules in
    rw d (rw e unswept_new)
