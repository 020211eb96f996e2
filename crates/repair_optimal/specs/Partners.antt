-- The table of partners, as the pairs are read back from it.
use Rattle.std.specs.Prelude.{ℕ, ◌-◌, ◌%◌, ◌^◌, ◌<◌, ◌≡◌, List}
use Rattle.std.specs.Int.Count.{ones}
use Rattle.repair_masks.specs.Masks.{Bit}
use Rattle.repair_masks.specs.Table.{low, Needed}
use Rattle.repair_table.specs.Tables.{partner_in}

-- each mask that is asked for, of an even number of n places, has a partner for its lowest place
abbrev pub Partnered : ℕ → List ℕ → Type 0
Partnered n bs = (m : ℕ) → 0 < m → m < 2 ^ n → ones m % 2 ≡ 0 → Needed n m → (partner_in bs m < n) × Bit (partner_in bs m) (m - 2 ^ low m)
