-- The writer's checks, on the lists that it is handed. What they say of the sketch is in proofs/CheckedLaws.
use Rattle.std.specs.Prelude.{ℕ, zero, suc, ◌+◌, ◌-◌, List, Bool, true, ◌&&◌, get_or, leb, ltb}
use Rattle.grid.specs.Grid.{read_place, on_grid}
use Rattle.drawing_spec.specs.Read.{every}

-- every coordinate is on the grid
unfoldable pub all_on : List ℕ → Bool
all_on ws = every (λ (w : ℕ). on_grid (read_place w)) ws

-- one end of a link, by the points of each line
unfoldable pub end_in : List ℕ → ℕ → ℕ → Bool
end_in sizes line segment = ltb 0 (get_or sizes line 0) && leb segment (get_or sizes line 0 - 2)

abbrev pub link_in : List ℕ → List ℕ → ℕ → Bool
link_in sizes segments from = end_in sizes (get_or segments from 0) (get_or segments (from + 1) 0) && end_in sizes (get_or segments (from + 2) 0) (get_or segments (from + 3) 0)

-- so many links, from a place among their numbers on
unfoldable pub links_in : List ℕ → List ℕ → ℕ → ℕ → Bool
links_in sizes segments zero from = true
links_in sizes segments (suc k) from = link_in sizes segments from && links_in sizes segments k (from + 4)
