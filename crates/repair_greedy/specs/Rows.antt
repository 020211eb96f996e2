-- The search for the nearest two of a working list, row by row: row i has the places after i.
use Rattle.std.specs.Prelude.{ℕ, ◌≤◌}
use Rattle.repair_spec.specs.Pairing.{Closest, nothing, between}

-- what is found costs no more than e
abbrev pub AtMost : Closest ℕ → ℕ → Type 0
AtMost nothing e = ⊥
AtMost (between i j d) e = d ≤ e
