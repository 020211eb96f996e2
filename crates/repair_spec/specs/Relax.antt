-- Of distances: the key of a node's distance, and that none is negative, -0.0 or NaN.
use Rattle.std.specs.Prelude.{List, ℕ, Float}
use Rattle.std.specs.Float.{binary64}
use Rattle.sums.specs.Key.{Nonneg, key}
use Rattle.repair_spec.specs.Distance.{distance_at}

abbrev pub key_at : List Float → ℕ → ℕ
key_at ds v = key binary64 (distance_at ds v)

abbrev pub AllNonneg : List Float → Type 0
AllNonneg ds = (x : ℕ) → Nonneg binary64 (distance_at ds x)
