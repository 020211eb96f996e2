-- Whether the marks are on every node.
use Rattle.std.specs.Prelude.{◌≡◌, List, Bool, true, false, ℕ, ◌<◌, get_or}

-- the first n nodes are marked, or not all
pub record Tells (n : ℕ) (ms : List Bool) (r : Bool) : Type 0 where
  pub all : r ≡ true → (v : ℕ) → v < n → get_or ms v false ≡ true
  pub only : ((v : ℕ) → v < n → get_or ms v false ≡ true) → r ≡ true
