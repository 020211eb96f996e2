-- Pairs that stand in two arrays, read off them.
use Rattle.std.specs.Prelude.{List, [], ◌∷◌, ℕ, zero, suc, ◌+◌, ◌≤◌, ◌<◌, length, get_or, set}
use Rattle.limits.specs.Limits.{most_pairs}
use Rattle.repair_spec.specs.Pairing.{Pair, pair}
use Rattle.repair_spec.specs.declared.PairList as code

-- the pairs that two lists have from the place i on, k of them
unfoldable pub pairs_in : List ℕ → List ℕ → ℕ → ℕ → List Pair
pairs_in firsts seconds i zero = []
pairs_in firsts seconds i (suc k) = pair (get_or firsts i 0) (get_or seconds i 0) ∷ pairs_in firsts seconds (suc i) k

-- Pairs as the code holds them, and the pairs that they are.
abbrev pub PairList : Type 0
PairList = code.PairList

abbrev pub listed : PairList → List Pair
listed p = pairs_in p.firsts p.seconds 0 p.count

-- Both lists have room for the pairs of all nodes.
pub record PairRoom (firsts seconds : List ℕ) : Type 0 where
  pub firsts_long : most_pairs ≤ length firsts
  pub seconds_long : most_pairs ≤ length seconds

-- with the pair u, v after the last
abbrev pub pushed : ℕ → ℕ → PairList → PairList
pushed u v p = record { firsts = set p.firsts p.count u; seconds = set p.seconds p.count v; count = p.count + 1 }

-- The first so many pairs are pairs of the nodes of a graph that has n.
pub record PairsAmong (n : ℕ) (firsts seconds : List ℕ) (pairs : ℕ) : Type 0 where
  pub among : (j : ℕ) → j < pairs → (get_or firsts j 0 < n) × (get_or seconds j 0 < n)
