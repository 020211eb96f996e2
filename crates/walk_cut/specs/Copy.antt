-- Nodes copied from one array behind those of another.
use Rattle.std.specs.Prelude.{◌≡◌, List, [], ◌∷◌, ◌++◌, ℕ, zero, suc, ◌+◌, ◌-◌, length, get_or, take}
use Rattle.limits.specs.Limits.{line_room}

-- the n nodes from the place p on
unfoldable pub places_of : ℕ → ℕ → List ℕ → List ℕ
places_of zero p ns = []
places_of (suc n) p ns = get_or ns p 0 ∷ places_of n (suc p) ns

-- the nodes from the place p to the end
abbrev pub nodes_from : ℕ → List ℕ → List ℕ
nodes_from p ns = places_of (line_room - p) p ns

-- A line of n nodes, and the places of ns from p to before q that are to come behind them.
abbrev pub Copying : List ℕ → ℕ → ℕ → List ℕ → ℕ → List ℕ
Copying ns p q line n = take n line ++ places_of (q - p) p ns

pub record Copy (ns : List ℕ) (p₀ q : ℕ) (line₀ : List ℕ) (n₀ : ℕ) (line : List ℕ) (r : ℕ) : Type 0 where
  pub is : take r line ≡ Copying ns p₀ q line₀ n₀
  pub count : r ≡ n₀ + (q - p₀)
  pub long : length line ≡ line_room
