-- The values of document 01 that each case of the code's answer stands for, with the arrays of edges as they then are.
use Rattle.std.specs.Prelude.{ℕ}
use Rattle.graph_adjacency.specs.Lists.{Adjacency}
use Rattle.graph_arrays.specs.Arrays.{edges_in, EdgesHeld}
use Rattle.repair.specs.Parity.{Value, refusal, values}
use Rattle.repair.specs.declared.Parity.{Parity}
use Rattle.repair.specs.declared.Parity.TheVariants.{Repaired, Refused}
use Rattle.repair.specs.declared.Repair.{Repair}

abbrev pub case_in : Parity → ℕ → Adjacency → Value
case_in (Repaired retrace before after) m a = values retrace before after (edges_in m a)
case_in (Refused k) m a = refusal k

-- the values that a repair answers, with its edges read off the arrays
abbrev pub parity_in : Repair → Adjacency → Value
parity_in r a = case_in r.parity r.edges a

-- where repair is not refused, the arrays hold that graph of n nodes
abbrev pub case_held : ℕ → Parity → ℕ → Adjacency → Type 0
case_held n (Repaired retrace before after) m a = EdgesHeld n m a
case_held n (Refused k) m a = Unit

-- the arrays hold the repaired graph, where the repair is not refused
abbrev pub HeldWith : ℕ → Repair → Adjacency → Type 0
HeldWith n r a = case_held n r.parity r.edges a
