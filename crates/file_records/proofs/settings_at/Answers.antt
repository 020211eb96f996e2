-- `file_records::settings_at` meets its contract.
use Prim.Native.Nat.{◌+◌}
use mathlib.Core.Path.{sym}
use Rattle.file_records.proofs.Numbers.{number_one}
use Rattle.file_records.proofs.Made.{settings_made}
use Rattle.file_records.proofs.settings_at.Goals as goal

pub returns : goal.returns
returns c = settings_made c.args.at c.args.file.now _ _ _ _ c.number4.ensures c.number4-2.ensures (sym (number_one (c.args.at + 8) c.args.file.now)) (sym (number_one (c.args.at + 9) c.args.file.now))
