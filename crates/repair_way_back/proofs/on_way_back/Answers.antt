-- `repair_way_back::on_way_back` meets its contract.
use Rattle.repair_spec.specs.Retrace.{on_way_back}
use Rattle.repair_way_back.proofs.Near.{tolerance_bits, magnitude_is}
use Rattle.repair_way_back.proofs.on_way_back.Goals as goal

pub returns : goal.returns
unfolding on_way_back
returns c = rw (← magnitude_is, ← tolerance_bits, c.abs.ensures.value)
