-- The pairs of a mask, read back from the table of partners.
use Rattle.std.specs.Prelude.{ℕ, zero, suc, ◌-◌, ◌^◌, List, [], ◌∷◌}
use Rattle.repair_spec.specs.Pairing.{Pair, pair}
use Rattle.repair_masks.specs.Table.{low}

-- k pairs: the lowest place with its partner, then those of the mask without the two
unfoldable pub follow : ℕ → (ℕ → ℕ) → ℕ → List Pair
follow zero partner m = []
follow (suc k) partner m = pair (low m) (partner m) ∷ follow k partner (m - 2 ^ low m - 2 ^ partner m)
