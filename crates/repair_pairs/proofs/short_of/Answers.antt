-- `repair_pairs::short_of` meets its contract.
use Rattle.repair_pairs.proofs.Refusal.{short_yes, short_none}
use Rattle.repair_pairs.proofs.short_of.Goals as goal

pub returns-then-floats-entries : goal.returns-then-floats-entries
returns-then-floats-entries c = short_yes c.args.entries c.args.floats c.if-floats-entries.true

pub returns : goal.returns
returns c = short_none c.args.entries c.args.floats c.if-floats-entries.false
