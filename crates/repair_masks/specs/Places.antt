-- Optimal's pairs of a list of nodes are those of the places 0, 1, .. in the list, each place read as its node.
use Rattle.std.specs.Prelude.{ℕ, zero, suc, List, [], ◌∷◌, get_or, Float}
use Rattle.repair_spec.specs.Pairing.{Pair, pair, optimal_pairs}

-- ---- the places in a list

-- k numbers from i on
unfoldable pub up_to : ℕ → ℕ → List ℕ
up_to zero i = []
up_to (suc k) i = i ∷ up_to k (suc i)

abbrev pub node_at : List ℕ → ℕ → ℕ
node_at vs i = get_or vs i 0

-- a pair with f of each number
abbrev pub pair_of : (ℕ → ℕ) → Pair → Pair
pair_of f p = pair (f p.from) (f p.to)

-- the pairs as places, by the distances between places
unfoldable pub optimal_places : ℕ → (ℕ → ℕ → Float) → List Pair
unfolding optimal_pairs
optimal_places n d = optimal_pairs d (up_to n 0)
