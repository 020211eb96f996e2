-- `repair_tournament::least_at` meets its contract.
use native.Mathlib.Omega.{arith}
use borrow.Author.Rules.{rules}
use Rattle.repair_tournament.proofs.Tournament.least_at.Goals as goal

pub differ-requires : goal.differ-requires
differ-requires c = (c.requires.2.nonneg _ (omega (arith, c.requires.0, c.requires.1)), c.requires.2.nonneg _ (omega arith))

pub returns : goal.returns
returns c = (search rules, c.differ.ensures c.if-differ.false)
