-- Laws of specs/Follow.
use Prim.Native.Nat.{ℕ, zero, suc, ◌-◌, ◌*◌, ◌%◌, ◌^◌, ◌≤◌, ◌<◌}
use native.Mathlib.Omega.{arith}
use mathlib.Core.Path.{◌≡◌, refl, sym, ap, ◌∙◌}
use mathlib.Core.List.{List, [], ◌∷◌}
use lib.Count.{ones}
use lib.Pow.{pow_mono}
use lib.Ieee.{Float}
use Rattle.repair_spec.specs.Pairing.{Pair, pair, match_all}
use Rattle.repair_masks.specs.Masks.{Bit}
use Rattle.repair_masks.proofs.Masks.{places_none, lowest_bit, ones_without, some_places}
use Rattle.repair_masks.specs.Table.{low, pairing, Partner, Needed}
use Rattle.repair_masks.proofs.Table.{needed_rest}
use Rattle.repair_masks.specs.Follow.{follow}

no_pairs : (n : ℕ) (d : ℕ → ℕ → Float) → (pairing n d 0).pairs ≡ []
unfolding match_all
no_pairs n d = ap (λ (l : List ℕ). (match_all n d l).pairs) (places_none n) ∙ go n
  where
    go : (k : ℕ) → (match_all k d []).pairs ≡ []
    go zero = refl
    go (suc k) = refl

module _ (n : ℕ) (d : ℕ → ℕ → Float) (fits : n ≤ 64) (partner : ℕ → ℕ) (known : (m : ℕ) → 0 < m → m < 2 ^ n → ones m % 2 ≡ 0 → Needed n m → Partner n d m (partner m)) where
  low_bit : (m : ℕ) → 0 < m → m < 2 ^ n → Bit (low m) m
  low_bit m p h = lowest_bit 64 m p (omega (arith, pow_mono {i = n} {j = 64} fits))

  none_left : (m : ℕ) → m < 2 ^ n → ones m ≡ 0 → m ≡ 0
  none_left zero h e = refl
  none_left (suc m) h e = absurd (omega (arith, ones_without (low (suc m)) (suc m) (low_bit (suc m) (omega arith) h)))

  pub follow_pairs : (k m : ℕ) → m < 2 ^ n → ones m ≡ 2 * k → Needed n m → follow k partner m ≡ (pairing n d m).pairs
  unfolding follow
  follow_pairs zero m h e g = sym (ap (λ (x : ℕ). (pairing n d x).pairs) (none_left m h (omega arith)) ∙ no_pairs n d)
  follow_pairs (suc k) m h e g =
      let p : 0 < m = some_places m (omega arith) in
      let entry = known m p h (omega arith) g in
      let a = ones_without (low m) m (low_bit m p h) in
      let b = ones_without (partner m) (m - 2 ^ low m) entry.set in
      let rest = needed_rest n m (partner m) p (omega (arith, pow_mono {i = n} {j = 64} fits)) entry.set g in
      ap (λ (l : List Pair). pair (low m) (partner m) ∷ l) (follow_pairs k (m - 2 ^ low m - 2 ^ partner m) (omega arith) (omega arith) rest)
      ∙ sym entry.pairs
