-- The nodes that a search has reached, in a list, so that only what it changed has to be reset.
use Rattle.std.specs.Prelude.{◌≡◌, ◌⊎◌, List, [], ◌∷◌, true, false, ℕ, suc, ◌<◌, length, get_or, set, replicate, Float}
use Rattle.std.specs.Float.Ieee.{lt}
use Rattle.limits.specs.Limits.{most_nodes}
use Rattle.repair_tournament.specs.Tree.{value, Tree}
use Rattle.repair_spec.specs.Distance.{infinity, distance_at}
use Rattle.repair_search.specs.declared.Search.{Search}

-- how many of the distances are less than infinity
unfoldable pub reached : List Float → ℕ
reached [] = 0
reached (d ∷ ds) = elim (lt d infinity) [ true ↦ suc (reached ds) | false ↦ reached ds ]

-- the first `count` of `touched` are nodes; every v whose distance is not infinity is among them
pub record Listed (n : ℕ) (ds : List Float) (touched : List ℕ) (count : ℕ) : Type 0 where
  pub long : length touched ≡ most_nodes
  pub counts : count ≡ reached ds
  pub nodes : (j : ℕ) → j < count → get_or touched j 0 < n
  pub covers : (v : ℕ) → (distance_at ds v ≡ infinity) ⊎ ((j : ℕ) × (j < count) × (get_or touched j 0 ≡ v))

-- so it is still when v gets a distance, whatever it be
abbrev pub ListedWith : ℕ → ℕ → List Float → List ℕ → ℕ → Type 0
ListedWith n v ds touched count = (c : Float) → lt c infinity ≡ true → Listed n (set ds v c) touched count

-- what a search leaves: a node that was not reached has no value in the tournament either
pub record Touched (n : ℕ) (s : Search) (count : ℕ) : Type 0 where
  pub listed : Listed n s.dist s.touched count
  pub long : length s.dist ≡ most_nodes
  pub tree : Tree n s.tree.values
  pub values : (w : ℕ) → w < n → distance_at s.dist w ≡ infinity → value n s.tree.values w ≡ infinity

-- what a search asks for, and what clearing leaves
pub record Unreached (n : ℕ) (s : Search) : Type 0 where
  pub none : s.dist ≡ replicate most_nodes infinity
  pub tree : Tree n s.tree.values
  pub values : (w : ℕ) → w < n → value n s.tree.values w ≡ infinity
  pub room : length s.touched ≡ most_nodes
