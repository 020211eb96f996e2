-- Rows of distances between odd nodes, written one after the other.
use Rattle.std.specs.Prelude.{◌≡◌, List, ℕ, ◌+◌, ◌*◌, ◌<◌, get_or, Float}
use Rattle.std.specs.Float.{nan}
use Rattle.graph_spec.specs.Graph.{Edge}
use Rattle.repair_spec.specs.Distance.{distance_at, distances}

-- from ws₀ to ws the distances of `count` nodes were written from `start` on, and nothing before that
pub record Copied (at : List Float) (odd : List ℕ) (count start : ℕ) (ws₀ ws : List Float) : Type 0 where
  pub row : (j : ℕ) → j < count → get_or ws (start + j) nan ≡ get_or at (get_or odd j 0) nan
  pub before : (k : ℕ) → k < start → get_or ws k nan ≡ get_or ws₀ k nan

-- the entry of the places i and j in rows of `count` entries, which begin at `base`
abbrev pub entry_at : ℕ → ℕ → List Float → ℕ → ℕ → Float
entry_at count base ws i j = get_or ws (base + i * count + j) nan

-- from ws₀ to ws nothing before the row of the place i has changed
pub record SameBefore (count base i : ℕ) (ws₀ ws : List Float) : Type 0 where
  pub same : (k : ℕ) → k < base + i * count → get_or ws k nan ≡ get_or ws₀ k nan

-- the row of the place i has the least distances along the edges es, and what stands before it is as it was
pub record Row (n : ℕ) (es : List Edge) (odd : List ℕ) (count base i : ℕ) (ws₀ ws : List Float) : Type 0 where
  pub right : (j : ℕ) → j < count → entry_at count base ws i j ≡ distance_at (distances n es (get_or odd i 0)) (get_or odd j 0)
  pub before : SameBefore count base i ws₀ ws

-- the rows of the first i places do
abbrev pub Rows : ℕ → List Edge → List ℕ → ℕ → ℕ → ℕ → List Float → Type 0
Rows n es odd count base i ws = (a j : ℕ) → a < i → j < count → entry_at count base ws a j ≡ distance_at (distances n es (get_or odd a 0)) (get_or odd j 0)
