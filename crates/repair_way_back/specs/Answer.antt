-- What the answer of `way_back` says.
use Rattle.std.specs.Prelude.{List, ℕ, Option, Some, None, drop}
use Rattle.repair_spec.specs.Retrace.{Path, found, error}

-- the path that stands at the end of the list, from the place that is answered
abbrev pub way_in : List ℕ → Option ℕ → Path
way_in path (Some i) = found (drop i path)
way_in path None = error
