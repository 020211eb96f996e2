-- A tournament over n values. The value v stands at n + v, and each place j from 1 up to n - 1 has the lesser of what stands at 2 j and 2 j + 1, so that place 1 has the least.
-- Any n will do, not only a power of two: halving leads from every place to place 1.
use Rattle.std.specs.Prelude.{◌≡◌, List, Bool, true, false, ℕ, ◌+◌, ◌*◌, ◌<◌, length, get_or, replicate, Float}
use Rattle.std.specs.Float.{nan, inf, binary64}
use Rattle.std.specs.Float.Ieee.{lt}
use Rattle.limits.specs.Limits.{most_nodes}
use Rattle.sums.specs.Key.{Nonneg}

abbrev pub pick : Bool → Float → Float → Float
pick true x y = x
pick false x y = y

-- the lesser of two values, the first where they are equal
abbrev pub lesser : Float → Float → Float
lesser x y = pick (lt y x) y x

abbrev pub infinity : Float
infinity = inf false

-- nothing is stored yet
abbrev pub no_values : List Float
no_values = replicate (2 * most_nodes) infinity

abbrev pub at : List Float → ℕ → Float
at t i = get_or t i nan

-- the value v
abbrev pub value : ℕ → List Float → ℕ → Float
value n t v = at t (n + v)

-- place j has the lesser of the two below it
abbrev pub Won : List Float → ℕ → Type 0
Won t j = at t j ≡ lesser (at t (2 * j)) (at t (2 * j + 1))

pub record Tree (n : ℕ) (t : List Float) : Type 0 where
  pub long : length t ≡ 2 * most_nodes
  pub nonneg : (i : ℕ) → i < 2 * most_nodes → Nonneg binary64 (at t i)
  pub won : (j : ℕ) → 0 < j → j < n → Won t j

-- x is stored as the value v, and the others stay
pub record Stored (n v : ℕ) (x : Float) (t t' : List Float) : Type 0 where
  pub tree : Tree n t'
  pub new : value n t' v ≡ x
  pub others : (w : ℕ) → (w ≡ v → ⊥) → value n t' w ≡ value n t w
