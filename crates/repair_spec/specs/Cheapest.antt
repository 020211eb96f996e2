-- No cheaper pairing: what change request 6 says of Optimal's pairs, for any edges and any nodes, each listed once. proofs/Cheapest has that it holds of the odd nodes (`no_cheaper`), Rattle.planner_searches that it holds of the pairs which a file's retraces join.
use Rattle.std.specs.Prelude.{◌≡◌, List, [], ◌∷◌, map, reverse, true, false, ℕ, ◌+◌, ◌-◌, ◌/◌, ◌≤◌, length, take, ltb, Float}
use Rattle.std.specs.Float.{binary64}
use Rattle.sums.specs.Key.{key}
use Rattle.lists.specs.Members.{In, All}
use Rattle.graph_spec.specs.Graph.{Edge}
use Rattle.graph_spec.specs.Count.{last_from}
use Rattle.repair_spec.specs.Cost.{Least}
use Rattle.repair_spec.specs.Pairing.{Pair, pair, ends, cost_of}

-- ---- the pairs taken

-- the first and the last node of a way
unfoldable pub ends_of : List ℕ → Pair
unfolding last_from
ends_of [] = pair 0 0
ends_of (u ∷ us) = pair u (last_from u us)

-- Of n odd nodes all but two are paired, and the first retraces are those of the pairs; where the line is closed, one more comes behind them.
unfoldable pub taken_by : ℕ → List (List ℕ) → List Pair
unfolding ends_of
taken_by n retraces = take (n / 2 - 1) (map ends_of retraces)

-- ---- a choice of pairs

abbrev pub NoneTwice : List ℕ → Type 0
NoneTwice [] = Unit {0}
NoneTwice (v ∷ vs) = (In v vs → ⊥) × NoneTwice vs

-- A choice of pairs that leaves two of the nodes vs out: pairs of different nodes of vs, no node twice, all but two used. The pairs may be listed in any order, and either node of a pair may stand first.
pub record LeavesTwo (vs : List ℕ) (ps : List Pair) : Type 0 where
  pub nodes : All (λ (v : ℕ). In v vs) (ends ps)
  pub once : NoneTwice (ends ps)
  pub two_left : length (ends ps) + 2 ≡ length vs

-- ---- what it costs

unfoldable pub lower_first : Pair → Pair
lower_first p = elim (ltb p.to p.from) [ true ↦ pair p.to p.from | false ↦ p ]

-- p put among pairs in rising order of their first nodes
unfoldable pub insert : Pair → List Pair → List Pair
insert p [] = p ∷ []
insert p (q ∷ qs) = elim (ltb q.from p.from) [ true ↦ q ∷ insert p qs | false ↦ p ∷ q ∷ qs ]

-- the pairs in rising order of their lower nodes, which stand first
unfoldable pub rising : List Pair → List Pair
unfolding lower_first insert
rising [] = []
rising (p ∷ ps) = insert (lower_first p) (rising ps)

-- Each pair costs d from its lower node to its higher. They are added from 0.0 on, in falling order of their lower node, each sum rounded.
unfoldable pub choice_cost : (ℕ → ℕ → Float) → List Pair → Float
unfolding rising cost_of
choice_cost d ps = cost_of d (reverse (rising ps))

-- d is the least distance, over all ways along the edges es, from each node of vs to each
abbrev pub LeastBetween : List Edge → List ℕ → (ℕ → ℕ → Float) → Type 0
LeastBetween es vs d = (u v : ℕ) → In u vs → In v vs → Least es u v (d u v)

-- ---- the statement

-- The pairs `taken` are a choice that leaves two of the nodes vs out, and no such choice costs less: so they cost just the least.
pub record NoCheaper (es : List Edge) (vs : List ℕ) (taken : List Pair) : Type 0 where
  pub choice : LeavesTwo vs taken
  -- there are least distances, and by them none costs less
  pub distances : (d : ℕ → ℕ → Float) × LeastBetween es vs d
  pub least : (d : ℕ → ℕ → Float) → LeastBetween es vs d → (ps : List Pair) → LeavesTwo vs ps → key binary64 (choice_cost d taken) ≤ key binary64 (choice_cost d ps)
