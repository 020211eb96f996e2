-- One turn of each loop.
use Prim.Native.Nat.{ℕ, suc, ◌+◌, ◌-◌, ◌*◌, ◌/◌, ◌%◌, ◌^◌, ◌≤◌, ◌<◌}
use native.Mathlib.Omega.{arith}
use native.Mathlib.Numerals.{add-one}
use mathlib.Core.Path.{◌≡◌, sym, ap, ◌∙◌}
use mathlib.Core.List.{List, [], ◌∷◌, ◌++◌, map, append_assoc, append-nil}
use lib.ListN.{get_or}
use lib.Count.{ones}
use lib.Pow.{pow_mono}
use lib.Ieee.{Float, nan}
use Rattle.limits.specs.Limits.{most_pairs}
use Rattle.repair_spec.specs.Pairing.{Pair, pair}
use Rattle.repair_spec.specs.PairsIn.{PairList, pairs_in, listed, PairRoom, pushed}
use Rattle.repair_spec.proofs.PairsIn.{pairs_more, room_more}
use Rattle.repair_masks.specs.Masks.{Bit}
use Rattle.repair_masks.proofs.Masks.{bit_power, lowest_bit, full_bit, bit_other, ones_without}
use Rattle.repair_masks.specs.Table.{Least, least, lesser, low, Needed}
use Rattle.repair_masks.proofs.Table.{needed_first, needed_rest}
use Rattle.repair_masks.specs.Left.{leave_from, leave_each, left_out}
use Rattle.repair_masks.specs.Follow.{follow}
use Rattle.repair_masks.specs.Places.{node_at, pair_of, optimal_places}
use Rattle.repair_masks.proofs.Left.{optimal_left}
use Rattle.repair_masks.proofs.Optimal.{right_known, optimal_table}
use Rattle.repair_table.specs.Tables.{costs, matrix, partner_in, Filled}
use Rattle.repair_optimal.specs.Partners.{Partnered}

-- ---- the two that are left out

module _ (ws : List Float) (n : ℕ) where
  pub leave_turn : (mask v p : ℕ) (b r x : Least) → v < n → p ≡ 2 ^ v
      → leave_from (n - v) (costs ws) mask v b ≡ x
      → r ≡ lesser b (get_or ws (mask - p) nan) (mask - p)
      → leave_from (n - (v + 1)) (costs ws) mask (v + 1) r ≡ x
  unfolding leave_from
  leave_turn mask v p b r x h e inv s =
      let k : n - v ≡ suc (n - (v + 1)) = omega arith in
      rw (s, e, add-one v) (rw (k, add-one v) at inv)

  pub leave_over : (mask v : ℕ) (b x : Least) → n ≤ v → leave_from (n - v) (costs ws) mask v b ≡ x → b ≡ x
  unfolding leave_from
  leave_over mask v b x h inv = let k : n - v ≡ 0 = omega arith in rw k at inv

  pub each_begin : (p : ℕ) (b : Least) → p ≡ 2 ^ n
      → b ≡ leave_from (n - 2) (costs ws) (p - 1 - 1) 2 (least (get_or ws (p - 1 - 3) nan) (p - 1 - 3))
      → leave_each (n - 1) (costs ws) (p - 1) 1 b ≡ left_out n (costs ws)
  unfolding left_out
  each_begin p b e s = rw (s, e)

  pub each_turn : (full u p : ℕ) (b r x : Least) → u < n → p ≡ 2 ^ u
      → leave_each (n - u) (costs ws) full u b ≡ x
      → r ≡ leave_from (n - (u + 1)) (costs ws) (full - p) (u + 1) b
      → leave_each (n - (u + 1)) (costs ws) full (u + 1) r ≡ x
  unfolding leave_each
  each_turn full u p b r x h e inv s =
      let k : n - u ≡ suc (n - (u + 1)) = omega arith in
      rw (s, e, add-one u) (rw (k, add-one u) at inv)

  pub each_over : (full u : ℕ) (b x : Least) → n ≤ u → leave_each (n - u) (costs ws) full u b ≡ x → b.at ≡ x.at
  unfolding leave_each
  each_over full u b x h inv = let k : n - u ≡ 0 = omega arith in ap (λ (y : Least). y.at) (rw k at inv)

-- every later place can be left out too
pub later_fits : (n u top p : ℕ) → top ≡ 2 ^ n → p ≡ 2 ^ u → u < n → (v : ℕ) → u + 1 ≤ v → v < n → 2 ^ v ≤ top - 1 - p
later_fits n u top p e f h v l g =
    rw (e, f) (bit_power v (2 ^ n - 1 - 2 ^ u) (bit_other u v (2 ^ n - 1) (λ q. omega arith) (full_bit n u h) (full_bit n v g)))

pub power_most : (n u : ℕ) → u < n → 2 ^ u ≤ 2 ^ n - 1
power_most n u h = bit_power u (2 ^ n - 1) (full_bit n u h)

pub four : (n : ℕ) → 2 ≤ n → 4 ≤ 2 ^ n
four n h = pow_mono {i = 2} {j = n} h

-- ---- the pairs read back

-- the mask without a pair
pub pair_out : (n m i j p q : ℕ) → m < 2 ^ n → n ≤ 20 → 0 < m → i ≡ low m → p ≡ 2 ^ i → q ≡ 2 ^ j → Bit j (m - 2 ^ low m)
    → Needed n m → (q ≤ m - p) × (ones (m - p - q) + 2 ≡ ones m) × Needed n (m - p - q)
pair_out n m i j p q h f some e g k s w =
    let word : m < 2 ^ 64 = omega (arith, pow_mono {i = n} {j = 64} (omega arith)) in
    let a = ones_without (low m) m (lowest_bit 64 m some word) in
    let b = ones_without j (m - 2 ^ low m) s in
    let c = bit_power j (m - 2 ^ low m) s in
    rw (g, k, e) (omega arith, omega arith, needed_rest n m j some word s w)

-- t pairs are read back, and those of the mask m are left
pub record Reading (odd bs : List ℕ) (count mask t m : ℕ) (p : PairList) : Type 0 where
  pub room : PairRoom p.firsts p.seconds
  pub read : p.count ≡ t
  pub pairs : listed p ++ map (pair_of (node_at odd)) (follow (count - t) (partner_in bs) m) ≡ map (pair_of (node_at odd)) (follow count (partner_in bs) mask)

module _ (odd bs : List ℕ) (count mask : ℕ) where
  pub reading_start : (p : PairList) → p.count ≡ 0 → PairRoom p.firsts p.seconds → Reading odd bs count mask 0 mask p
  unfolding pairs_in
  reading_start p none R =
      let k : count - 0 ≡ count = omega arith in
      let all = map (pair_of (node_at odd)) (follow count (partner_in bs) mask) in
      record { room = R; read = none; pairs = rw k (ap (λ (t : ℕ). pairs_in p.firsts p.seconds 0 t ++ all) none) }

  pub reading_turn : (t m i j a b : ℕ) (p : PairList) → t < count → count ≤ most_pairs → i ≡ low m → j ≡ partner_in bs m → a ≡ 2 ^ i → b ≡ 2 ^ j
      → Reading odd bs count mask t m p → Reading odd bs count mask (t + 1) (m - a - b) (pushed (node_at odd i) (node_at odd j) p)
  unfolding follow
  reading_turn t m i j a b p h few ei ej ea eb R =
      let u = node_at odd i in
      let v = node_at odd j in
      let rest = map (pair_of (node_at odd)) (follow (count - (t + 1)) (partner_in bs) (m - a - b)) in
      let k : count - t ≡ suc (count - (t + 1)) = omega arith in
      let turned : map (pair_of (node_at odd)) (follow (count - t) (partner_in bs) m) ≡ pair u v ∷ rest = rw (k, eb, ea, ej, ei) in
      record {
        room = room_more p.firsts p.seconds R.room p.count u v (omega (arith, R.read));
        read = omega (arith, R.read);
        pairs =
            ap (λ (qs : List Pair). qs ++ rest) (pairs_more p.firsts p.seconds R.room p.count u v (omega (arith, R.read)))
            ∙ append_assoc (listed p) (pair u v ∷ []) rest
            ∙ ap (λ (qs : List Pair). listed p ++ qs) (sym turned) ∙ R.pairs;
      }

  pub reading_over : (t m : ℕ) (p : PairList) → t ≡ count → Reading odd bs count mask t m p → listed p ≡ map (pair_of (node_at odd)) (follow count (partner_in bs) mask)
  unfolding follow
  reading_over t m p e R =
      let k : count - t ≡ 0 = omega arith in
      let none : map (pair_of (node_at odd)) (follow (count - t) (partner_in bs) m) ≡ [] = rw k in
      sym (append-nil (listed p)) ∙ ap (λ (qs : List Pair). listed p ++ qs) (sym none) ∙ R.pairs

-- ---- from a table that is filled

module _ (n : ℕ) (ws₀ ws : List Float) (bs : List ℕ) (even : n % 2 ≡ 0) (two : 2 ≤ n) (fits : n ≤ 20) (f : Filled n (2 ^ n) ws₀ ws bs) where
  pub filled_partnered : Partnered n bs
  filled_partnered m some inside e w = let p = (f.right m inside e w).partner some in (p.below, p.set)

  pub filled_left : ((left_out n (costs ws)).at < 2 ^ n) × (ones (left_out n (costs ws)).at ≡ 2 * (n / 2 - 1)) × Needed n (left_out n (costs ws)).at
  filled_left =
      let l = optimal_left n (matrix n ws₀) (costs ws) (right_known n (matrix n ws₀) (costs ws) (partner_in bs) (2 ^ n) f.right) even two in
      (l.1, omega (arith, l.2), needed_first n (left_out n (costs ws)).at l.2)

  pub filled_optimal : (mask : ℕ) → mask ≡ (left_out n (costs ws)).at → follow (n / 2 - 1) (partner_in bs) mask ≡ optimal_places n (matrix n ws₀)
  filled_optimal mask e = rw e (sym (optimal_table n (matrix n ws₀) (costs ws) (partner_in bs) even two (omega arith) f.right))
