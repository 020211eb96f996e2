-- One round on a working list in a flat list: the nearest two are paired, and the last nodes take their places.
use Rattle.std.specs.Prelude.{◌≡◌, List, ℕ, ◌-◌, ◌≤◌, get_or, take, set, ltb}
use Rattle.limits.specs.Limits.{most_nodes, most_pairs}
use Rattle.repair_spec.specs.Pairing.{nothing, between, closest}
use Rattle.repair_spec.specs.PairsIn.{PairList, PairRoom, PairsAmong, pushed}

-- the last of n takes the place i
abbrev pub moved : List ℕ → ℕ → ℕ → List ℕ
moved w n i = set w i (get_or w (n - 1) 0)

-- The nodes at the places `from` and `to` are the nearest two of the first n of w. They are written as the next pair, and go, the later one first.
pub record Round (cost : ℕ → ℕ → ℕ) (n : ℕ) (w w' : List ℕ) (p p' : PairList) : Type 0 where
  pub from : ℕ
  pub to : ℕ
  pub at : ℕ
  pub nearest : closest ltb cost (take n w) 0 nothing ≡ between from to at
  pub next : p' ≡ pushed (get_or w from 0) (get_or w to 0) p
  pub rest : w' ≡ moved (moved w n to) (n - 1) from

-- The pairs are pairs of nodes, and the arrays have room for as many as there can be.
pub record Paired (p : PairList) : Type 0 where
  pub room : PairRoom p.firsts p.seconds
  pub few : p.count ≤ most_pairs
  pub among : PairsAmong most_nodes p.firsts p.seconds p.count
