-- The distances are those of the definition.
use Rattle.file_records.specs.Meaning.{settings_of}
use Rattle.walk_start.proofs.Chosen.{same_better}
use Rattle.walk_start.proofs.lies_better.Goals as goal

pub returns : goal.returns
returns c = same_better (settings_of c.args.settings) _ _ _ _ _ c.from_center-a.ensures c.from_center-b.ensures c.better.ensures
