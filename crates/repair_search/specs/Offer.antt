-- A cost that is offered for a node: where it is lower, it becomes the node's distance and its value in the tournament.
use Rattle.std.specs.Prelude.{◌≡◌, ◌⊎◌, List, ℕ, ◌<◌, length, Float}
use Rattle.limits.specs.Limits.{most_nodes}
use Rattle.repair_tournament.specs.Tree.{value, Tree}
use Rattle.repair_spec.specs.Distance.{distance_at, improve}
use Rattle.repair_spec.specs.Relax.{key_at, AllNonneg}

-- distances and a tournament that code can go on with
pub record Held (n : ℕ) (ds t : List Float) : Type 0 where
  pub tree : Tree n t
  pub long : length ds ≡ most_nodes
  pub nonneg : AllNonneg ds

-- every node keeps its distance and its value, or has a lower distance, which is its value
abbrev pub Together : ℕ → List Float → List Float → List Float → List Float → Type 0
Together n ds t ds' t' =
    (w : ℕ) → w < n → ((distance_at ds' w ≡ distance_at ds w) × (value n t' w ≡ value n t w)) ⊎ ((value n t' w ≡ distance_at ds' w) × (key_at ds' w < key_at ds w))

-- what an offer of the cost c for the node v does
pub record Offered (n v : ℕ) (c : Float) (ds t ds' t' : List Float) : Type 0 where
  pub improved : ds' ≡ improve ds v c
  pub held : Held n ds' t'
  pub together : Together n ds t ds' t'
