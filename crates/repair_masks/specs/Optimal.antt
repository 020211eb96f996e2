-- Optimal's pairs, from a table that is right at every mask that is asked for.
use Rattle.std.specs.Prelude.{ℕ, ◌%◌, ◌<◌, ◌≡◌, Float}
use Rattle.std.specs.Int.Count.{ones}
use Rattle.repair_masks.specs.Table.{Entry, Needed}

-- the entries for the masks below m that are asked for are right
abbrev pub Right : ℕ → (ℕ → ℕ → Float) → (ℕ → Float) → (ℕ → ℕ) → ℕ → Type 0
Right n d cost partner m = (m' : ℕ) → m' < m → ones m' % 2 ≡ 0 → Needed n m' → Entry n d m' (cost m') (partner m')
