-- `repair_table::power` meets its contract.
use Rattle.repair_table.proofs.Turns.{shifted_one}
use Rattle.repair_table.proofs.power.Goals as goal

pub returns : goal.returns
returns c = shifted_one _ c.requires
