-- The walk's entries in two arrays: the nodes, and how each was entered. The stack stands at the front, its top last; what was taken off stands at the back, in order.
use Rattle.std.specs.Prelude.{List, [], ◌∷◌, ℕ, zero, suc, ◌-◌, ◌≤◌, ◌<◌, get_or}
use Rattle.limits.specs.Limits.{line_room}
use Rattle.walk_spec.specs.Walk.{By, start, Entry}

-- 0 is the start, i + 1 is the edge i
unfoldable pub by_of : ℕ → By
by_of zero = start
by_of (suc i) = By.edge i

abbrev pub entry_of : ℕ → ℕ → Entry
entry_of v b = record { node = v; by = by_of b }

-- the n entries from the place p on
unfoldable pub entries_of : ℕ → ℕ → List ℕ → List ℕ → List Entry
entries_of zero p ns bs = []
entries_of (suc n) p ns bs = entry_of (get_or ns p 0) (get_or bs p 0) ∷ entries_of n (suc p) ns bs

-- the entries from the place p to the end
abbrev pub entries_from : ℕ → List ℕ → List ℕ → List Entry
entries_from p ns bs = entries_of (line_room - p) p ns bs

-- there is such an entry, and the nodes of all of them are nodes of a graph with n
pub record EntriesIn (n first : ℕ) (nodes : List ℕ) : Type 0 where
  pub some : first < line_room
  pub nodes_in_known : (j : ℕ) → first ≤ j → j < line_room → get_or nodes j 0 < n
