-- The least cost of pairing all places of a mask, from those of smaller masks: the lowest place with each other one in turn.
use Rattle.std.specs.Prelude.{ℕ, zero, suc, ◌+◌, ◌-◌, ◌*◌, ◌^◌, ◌≤◌, ◌<◌, ◌≡◌, ◌∷◌, true, false, eqb, Float}
use Rattle.std.specs.Int.Count.{ones}
use Rattle.std.specs.Float.{binary64}
use Rattle.std.specs.Float.Ieee.{add, lt}
use Rattle.repair_spec.specs.Pairing.{pair, Matching, partner, match_all}
use Rattle.repair_masks.specs.Masks.{Bit, lowest, places_of}

-- the least cost so far, and what it is the cost of: a partner, or a mask
pub record Least : Type 0 where
  pub cost : Float
  pub at : ℕ

abbrev pub least : Float → ℕ → Least
least c a = record { cost = c; at = a }

-- a at the cost c, where that is less
unfoldable pub lesser : Least → Float → ℕ → Least
unfolding lt
lesser b c a = elim (lt c b.cost) [ true ↦ least c a | false ↦ b ]

-- of a word of 64 bits
abbrev pub low : ℕ → ℕ
low m = lowest 64 m

-- ---- the masks that are asked for

-- Of the places that m is without, apart from two, at least half are below its lowest: each pair taken out before had its lower place there.
abbrev pub Needed : ℕ → ℕ → Type 0
Needed n m = n ≤ ones m + 2 * low m + 2

-- each place of `rest` in turn as the partner: `cost` are those of the masks, `row` the distances to the partners, `others` is the mask to choose partners from
unfoldable pub tries : ℕ → (ℕ → Float) → (ℕ → Float) → ℕ → ℕ → Least → Least
unfolding lesser add
tries zero cost row others rest b = b
tries (suc k) cost row others rest b = elim (eqb rest 0) [
  | true ↦ b
  | false ↦ tries k cost row others (rest - 2 ^ low rest) (lesser b (add binary64 (cost (others - 2 ^ low rest)) (row (low rest))) (low rest))
]

-- the first partner, then the others in turn
unfoldable pub tried : (ℕ → Float) → (ℕ → Float) → ℕ → Least
unfolding tries
tried cost row others =
    let rest = others - 2 ^ low others in
    tries rest cost row others rest (least (add binary64 (cost rest) (row (low others))) (low others))

-- ---- what the definition chooses

-- all places of m, paired
abbrev pub pairing : ℕ → (ℕ → ℕ → Float) → ℕ → Matching
pairing n d m = match_all n d (places_of n m)

-- ---- the table's entries

-- j is the partner of the lowest place of m
pub record Partner (n : ℕ) (d : ℕ → ℕ → Float) (m j : ℕ) : Type 0 where
  pub below : j < n
  pub set : Bit j (m - 2 ^ low m)
  pub pairs : (pairing n d m).pairs ≡ pair (low m) j ∷ (pairing n d (m - 2 ^ low m - 2 ^ j)).pairs

-- c is the cost for m, and j the partner of its lowest place
pub record Entry (n : ℕ) (d : ℕ → ℕ → Float) (m : ℕ) (c : Float) (j : ℕ) : Type 0 where
  pub cost : c ≡ (pairing n d m).cost
  pub partner : 0 < m → Partner n d m j

-- the entry for a mask, from those of smaller masks
unfoldable pub entry : (ℕ → ℕ → Float) → (ℕ → Float) → ℕ → Least
unfolding tried
entry d cost m = tried cost (d (low m)) (m - 2 ^ low m)
