-- What is said of copies laid along a path that stands at the end of an array.
use Rattle.std.specs.Prelude.{List, ℕ, ◌-◌, Float}
use Rattle.limits.specs.Limits.{most_nodes}
use Rattle.graph_spec.specs.Graph.{Edge}
use Rattle.repair_spec.specs.Copies.{Laid}

abbrev pub laid_of : List Edge → Float → Laid
laid_of es x = record { edges = es; sum = x }

-- one for each step of the path from the place `first` on
abbrev pub copies_from : ℕ → ℕ
copies_from first = most_nodes - 1 - first
