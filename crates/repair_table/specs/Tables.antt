-- What the lent tables hold, for n odd nodes: that of floats the costs of 2^n masks, then the distances between the nodes, row by row; that of bytes the partners.
use Rattle.std.specs.Prelude.{ℕ, ◌+◌, ◌*◌, ◌%◌, ◌^◌, ◌≤◌, ◌<◌, ◌≡◌, List, Bool, true, false, get_or, set, eqb, ltb, Float}
use Rattle.std.specs.Int.Count.{ones}
use Rattle.std.specs.Float.{nan}
use Rattle.repair_masks.specs.Table.{low, entry, Needed}
use Rattle.repair_masks.specs.Optimal.{Right}

abbrev pub costs : List Float → ℕ → Float
costs ws m = get_or ws m nan

abbrev pub row_at : List Float → ℕ → ℕ → Float
row_at ws row j = get_or ws (row + j) nan

abbrev pub matrix : ℕ → List Float → ℕ → ℕ → Float
matrix n ws i j = row_at ws (2 ^ n + i * n) j

abbrev pub partner_in : List ℕ → ℕ → ℕ
partner_in bs m = get_or bs m 0

-- the lowest place of a mask of n places
pub record Lowest (n m i : ℕ) : Type 0 where
  pub place : i ≡ low m
  pub below : i < n
  pub power : 2 ^ i ≤ m

-- r is a later mask than m, and none between them is asked for
pub record Next (n m r : ℕ) : Type 0 where
  pub later : m < r
  pub near : r ≤ 2 * m
  pub skipped : (k : ℕ) → m < k → k < r → Needed n k → ⊥

-- m is asked for, and has an even number of places
unfoldable pub is_due : ℕ → ℕ → Bool
is_due n m = elim (ltb (ones m + 2 * low m + 2) n) [ true ↦ false | false ↦ eqb (ones m % 2) 0 ]

-- the tables with the entry for m, where m is due
unfoldable pub filled_costs : ℕ → ℕ → List Float → List Float
unfolding entry is_due
filled_costs n m ws = elim (is_due n m) [ true ↦ set ws m (entry (matrix n ws) (costs ws) m).cost | false ↦ ws ]

unfoldable pub filled_partners : ℕ → ℕ → List Float → List ℕ → List ℕ
unfolding entry is_due
filled_partners n m ws bs = elim (is_due n m) [ true ↦ set bs m (entry (matrix n ws) (costs ws) m).at | false ↦ bs ]

-- the entries for the masks below m that are asked for are right, by the distances of ws₀, which are still there
pub record Filled (n m : ℕ) (ws₀ ws : List Float) (bs : List ℕ) : Type 0 where
  pub right : Right n (matrix n ws₀) (costs ws) (partner_in bs) m
  pub kept : matrix n ws ≡ matrix n ws₀
