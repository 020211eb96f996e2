-- The arithmetic of the code, and one turn of each loop.
use Prim.Native.Nat.{ℕ, ◌+◌, ◌-◌, ◌*◌, ◌%◌, ◌^◌, ◌≤◌, ◌<◌}
use native.Mathlib.Omega.{arith}
use native.Mathlib.Nat.{mul-le-mul_right}
use mathlib.Core.Path.{◌≡◌, refl, sym, ◌∙◌}
use mathlib.Core.List.{List}
use mathlib.Core.Bool.{true, false}
use lib.ListN.{get_or}
use lib.Pow.{pow_mono, pow_pos, shl_exact}
use lib.Ieee.{Float, nan, binary64, add, lt}
use Rattle.lists.proofs.Members.{either}
use Rattle.repair_masks.proofs.Masks.{lowest_bit, lowest_below, bit_power}
use Rattle.repair_masks.specs.Table.{Least, least, lesser, low, tries, tried}
use Rattle.repair_masks.proofs.Table.{tries_step, tries_done}
use Rattle.repair_table.specs.Tables.{costs, row_at, Lowest}

pub lowest_is : (n m : ℕ) → 0 < m → m < 2 ^ n → n ≤ 20 → Lowest n m (low m)
lowest_is n m p h f = record {
  place = refl;
  below = lowest_below 64 n m p h (omega arith);
  power = bit_power (low m) m (lowest_bit 64 m p (omega (arith, pow_mono {i = n} {j = 64} (omega arith))));
}

pub shifted_one : (i : ℕ) → i < 64 → ((1 * 2 ^ i) % 2 ^ 64 ≡ 2 ^ i) × (0 < (1 * 2 ^ i) % 2 ^ 64)
shifted_one i h =
    let e = shl_exact {a = 1} 1 i 64 (omega arith) (omega arith) in
    let z = pow_pos i in
    (omega arith, omega arith)

-- a row ends within the table
pub row_fits : (n i : ℕ) → i < n → i * n + n ≤ n * n
row_fits n i h = omega (arith, mul-le-mul_right n h)

pub square_small : (n : ℕ) → n ≤ 20 → n * n ≤ 400
square_small n h = omega (arith, mul-le-mul_right n h)

pub power_small : (n : ℕ) → n ≤ 20 → 2 ^ n ≤ 2 ^ 20
power_small n h = pow_mono h

pub lesser_taken : (b : Least) (c : Float) (at : ℕ) → lt c b.cost ≡ true → least c at ≡ lesser b c at
unfolding lesser
lesser_taken b c at e = rw (e, lesser)

pub lesser_kept : (b : Least) (c : Float) (at : ℕ) → lt c b.cost ≡ false → b ≡ lesser b c at
unfolding lesser
lesser_kept b c at e = rw (e, lesser)

pub lesser_below : (n : ℕ) (b r : Least) (c : Float) (at : ℕ) → b.at < n → at < n → r ≡ lesser b c at → r.at < n
unfolding lesser
lesser_below n b r c at h k e = rw e (either (λ (x : Least). x.at < n) (least c at) b k h (lt c b.cost))

module _ (ws : List Float) (row others : ℕ) where
  pub tries_begin : (first q : ℕ) → first ≡ low others → q ≡ 2 ^ first
      → tries (others - q) (costs ws) (row_at ws row) others (others - q) (least (add binary64 (get_or ws (others - q) nan) (get_or ws (row + first) nan)) first)
      ≡ tried (costs ws) (row_at ws row) others
  unfolding tried
  tries_begin first q e g = rw (g, e)

  pub tries_turn : (rest j q : ℕ) (b r : Least) (x : Least) → 0 < rest → j ≡ low rest → q ≡ 2 ^ j
      → tries rest (costs ws) (row_at ws row) others rest b ≡ x
      → r ≡ lesser b (add binary64 (get_or ws (others - q) nan) (get_or ws (row + j) nan)) j
      → tries (rest - q) (costs ws) (row_at ws row) others (rest - q) r ≡ x
  tries_turn rest j q b r x p e g inv s = rw (s, g, e) (sym (tries_step (costs ws) (row_at ws row) others rest b p) ∙ inv)

  pub tries_over : (k : ℕ) (b : Least) (x : Least) (rest : ℕ) → rest ≡ 0 → tries k (costs ws) (row_at ws row) others rest b ≡ x → b ≡ x
  tries_over k b x rest e inv = sym (tries_done k (costs ws) (row_at ws row) others b) ∙ (rw e at inv)
