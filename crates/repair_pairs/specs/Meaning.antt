-- What the code's answer says, with the pairs of its list.
use Rattle.std.specs.Prelude.{List, ℕ, Result, Ok, Err}
use Rattle.limits.specs.declared.Refusal.{Refusal}
use Rattle.limits.specs.Refused.{number_of}
use Rattle.repair_spec.specs.Pairing.{Pair}
use Rattle.repair_pairs.specs.Pairs as found

abbrev pub found_in : Result ℕ Refusal → List Pair → found.Found
found_in (Ok odd) ps = found.pairs odd ps
found_in (Err r) ps = found.refusal (number_of r)
