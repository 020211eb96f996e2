-- Laws of specs/Left.
use Prim.Native.Nat.{ℕ, zero, suc, ◌+◌, ◌-◌, ◌%◌, ◌^◌, ◌≤◌, ◌<◌}
use native.Mathlib.Omega.{arith}
use mathlib.Core.Path.{◌≡◌, refl, sym, ap, ◌∙◌, subst}
use mathlib.Core.List.{List, ◌∷◌}
use mathlib.Core.Bool.{Bool, true, false}
use lib.Count.{ones, ones-ones}
use lib.Pow.{pow_pos}
use lib.Ieee.{Float, lt}
use Rattle.repair_spec.specs.Pairing.{Matching, Choice, none, chosen, cheaper, choice_of, match_all, leave_with, leave_two, optimal_pairs}
use Rattle.repair_masks.specs.Places.{up_to, optimal_places}
use Rattle.repair_masks.proofs.Places.{up_to_length}
use Rattle.repair_masks.specs.Masks.{Bit, places_of}
use Rattle.repair_masks.proofs.Masks.{places_without, ones_without, full_bit, full_places, bit_other}
use Rattle.repair_masks.specs.Table.{Least, least, lesser, pairing}
use Rattle.repair_masks.proofs.Table.{Known, needed_first}
use Rattle.repair_masks.specs.Left.{leave_each, leave_from, left_out}

up_to_first : (k i : ℕ) → 0 < k → up_to k i ≡ i ∷ up_to (k - 1) (suc i)
unfolding up_to
up_to_first zero i h = absurd (omega arith)
up_to_first (suc k) i h = let e : k ≡ suc k - 1 = omega arith in ap (λ (x : ℕ). i ∷ up_to x (suc i)) e

module _ (n : ℕ) (d : ℕ → ℕ → Float) (cost : ℕ → Float) (known : Known n d cost (2 ^ n)) (even : n % 2 ≡ 0) where
  -- the pairing chosen is that of the mask in hand, whose places are all but two
  abbrev Holds : Choice → Least → Type 0
  Holds none b = ⊥
  Holds (chosen m) b = (m ≡ pairing n d b.at) × (m.cost ≡ b.cost) × (b.at < 2 ^ n) × (ones b.at + 2 ≡ n)

  lesser_holds : (c : Choice) (b : Least) (m : ℕ) → m < 2 ^ n → ones m + 2 ≡ n → Holds c b → Holds (cheaper c (pairing n d m)) (lesser b (cost m) m)
  unfolding cheaper lesser
  lesser_holds none b m h e a = absurd a
  lesser_holds (chosen x) b m h e a = go (lt (cost m) b.cost) (lt (pairing n d m).cost x.cost) same
    where
      right : cost m ≡ (pairing n d m).cost
      right = known m h (omega arith) (needed_first n m e)

      same : lt (pairing n d m).cost x.cost ≡ lt (cost m) b.cost
      same = rw (← right, a.1)

      go : (s t : Bool) → t ≡ s → Holds (elim t [ true ↦ chosen (pairing n d m) | false ↦ chosen x ]) (elim s [ true ↦ least (cost m) m | false ↦ b ])
      go true true q = (refl, sym right, h, e)
      go false false q = a
      go true false q = let z : ◌≡◌ {A = ℕ} 0 1 = cc in absurd (omega arith)
      go false true q = let z : ◌≡◌ {A = ℕ} 0 1 = cc in absurd (omega arith)

  -- one place more left out
  one_out : (v mask : ℕ) (later : List ℕ) (c : Choice) → v < n → Bit v mask
      → leave_with n d (places_of n mask) (v ∷ later) c ≡ leave_with n d (places_of n mask) later (cheaper c (pairing n d (mask - 2 ^ v)))
  unfolding leave_with
  one_out v mask later c h s =
      ap (λ (l : List ℕ). leave_with n d (places_of n mask) later (cheaper c (match_all n d l))) (places_without n v mask h s)

  with_holds : (k mask v : ℕ) (c : Choice) (b : Least) → v + k ≡ n → mask < 2 ^ n → ones mask + 1 ≡ n
      → ((w : ℕ) → v ≤ w → w < n → Bit w mask)
      → Holds c b → Holds (leave_with n d (places_of n mask) (up_to k v) c) (leave_from k cost mask v b)
  unfolding leave_from leave_with up_to
  with_holds zero mask v c b e h o s a = a
  with_holds (suc k) mask v c b e h o s a =
      let set = s v (omega arith) (omega arith) in
      rw (one_out v mask (up_to k (suc v)) c (omega arith) set)
      (with_holds k mask (suc v) (cheaper c (pairing n d (mask - 2 ^ v))) _ (omega arith) h o (λ w l. s w (omega arith))
      (lesser_holds c b (mask - 2 ^ v) (omega arith) (omega (arith, ones_without v mask set)) a))

  abbrev full : ℕ
  full = 2 ^ n - 1

  full_below : full < 2 ^ n
  full_below = omega (arith, pow_pos n)

  one_less : (u : ℕ) → u < n → ones (full - 2 ^ u) + 1 ≡ n
  one_less u h = omega (arith, ones_without u full (full_bit n u h), ones-ones n)

  later_set : (u : ℕ) → u < n → (w : ℕ) → suc u ≤ w → w < n → Bit w (full - 2 ^ u)
  later_set u h w l g = bit_other u w full (λ e. omega arith) (full_bit n u h) (full_bit n w g)

  below : (u : ℕ) → full - 2 ^ u < 2 ^ n
  below u = omega (arith, pow_pos n)

  two_out : (u : ℕ) (later : List ℕ) (c : Choice) → u < n
      → leave_two n d (places_of n full) (u ∷ later) c ≡ leave_two n d (places_of n full) later (leave_with n d (places_of n (full - 2 ^ u)) later c)
  unfolding leave_two
  two_out u later c h =
      ap (λ (l : List ℕ). leave_two n d (places_of n full) later (leave_with n d l later c)) (places_without n u full h (full_bit n u h))

  two_hold : (k u : ℕ) (c : Choice) (b : Least) → u + k ≡ n → Holds c b
      → Holds (leave_two n d (places_of n full) (up_to k u) c) (leave_each k cost full u b)
  unfolding leave_each leave_two up_to
  two_hold zero u c b e a = a
  two_hold (suc k) u c b e a =
      subst (λ (x : Choice). Holds x (leave_each (suc k) cost full u b)) (sym (two_out u (up_to k (suc u)) c (omega arith)))
      (two_hold k (suc u) (leave_with n d (places_of n (full - 2 ^ u)) (up_to k (suc u)) c) _ (omega arith)
      (with_holds k (full - 2 ^ u) (suc u) c b (omega arith) (below u) (one_less u (omega arith)) (later_set u (omega arith)) a))

  chosen_at : (c : Choice) (b : Least) → Holds c b → (choice_of c ≡ pairing n d b.at) × (b.at < 2 ^ n) × (ones b.at + 2 ≡ n)
  chosen_at none b a = absurd a
  chosen_at (chosen m) b a = (a.0, a.2, a.3)

  -- the first two places are the first choice
  first_out : 2 ≤ n
      → leave_two n d (places_of n full) (up_to n 0) none
      ≡ leave_two n d (places_of n full) (up_to (n - 1) 1) (leave_with n d (places_of n (full - 1)) (up_to (n - 2) 2) (chosen (pairing n d (full - 3))))
  unfolding cheaper
  first_out l =
      let two : n - 1 - 1 ≡ n - 2 = omega arith in
      let three : full - 1 - 2 ≡ full - 3 = omega arith in
      let later : up_to (n - 1) 1 ≡ 1 ∷ up_to (n - 2) 2 = up_to_first (n - 1) 1 (omega arith) ∙ ap (λ (x : ℕ). 1 ∷ up_to x 2) two in
      ap (λ (l : List ℕ). leave_two n d (places_of n full) l none) (up_to_first n 0 (omega arith))
      ∙ two_out 0 (up_to (n - 1) 1) none (omega arith)
      ∙ ap (λ (x : Choice). leave_two n d (places_of n full) (up_to (n - 1) 1) x)
      (ap (λ (l : List ℕ). leave_with n d (places_of n (full - 1)) l none) later
      ∙ one_out 1 (full - 1) (up_to (n - 2) 2) none (omega arith) (later_set 0 (omega arith) 1 (omega arith) (omega arith))
      ∙ ap (λ (x : ℕ). leave_with n d (places_of n (full - 1)) (up_to (n - 2) 2) (chosen (pairing n d x))) three)

  left_holds : 2 ≤ n → Holds (leave_two n d (places_of n full) (up_to n 0) none) (left_out n cost)
  unfolding left_out
  left_holds l =
      let three : full - 1 - 2 ≡ full - 3 = omega arith in
      let set : Bit 1 (full - 1) = later_set 0 (omega arith) 1 (omega arith) (omega arith) in
      let two_less : ones (full - 3) + 2 ≡ n = omega (arith, one_less 0 (omega arith), ones_without 1 (full - 1) set, ap ones three) in
      subst (λ (x : Choice). Holds x (left_out n cost)) (sym (first_out l))
      (two_hold (n - 1) 1 (leave_with n d (places_of n (full - 1)) (up_to (n - 2) 2) (chosen (pairing n d (full - 3)))) _ (omega arith)
      (with_holds (n - 2) (full - 1) 2 (chosen (pairing n d (full - 3))) (least (cost (full - 3)) (full - 3)) (omega arith) (below 0) (one_less 0 (omega arith))
      (λ w g. later_set 0 (omega arith) w (omega arith))
      (refl, sym (known (full - 3) (omega (arith, full_below)) (omega arith) (needed_first n (full - 3) two_less)), omega (arith, full_below), two_less)))

  -- Optimal's pairs are those of the mask without the two
  pub optimal_left : 2 ≤ n
      → (optimal_places n d ≡ (pairing n d (left_out n cost).at).pairs) × ((left_out n cost).at < 2 ^ n) × (ones (left_out n cost).at + 2 ≡ n)
  unfolding optimal_places optimal_pairs
  optimal_left l =
      let at = chosen_at (leave_two n d (places_of n full) (up_to n 0) none) (left_out n cost) (left_holds l) in
      let eq : optimal_places n d ≡ (choice_of (leave_two n d (places_of n full) (up_to n 0) none)).pairs
      = ap (λ (k : ℕ). (choice_of (leave_two k d (up_to n 0) (up_to n 0) none)).pairs) (up_to_length n 0)
      ∙ ap (λ (all : List ℕ). (choice_of (leave_two n d all (up_to n 0) none)).pairs) (sym (full_places n)) in
      (eq ∙ ap (λ (m : Matching). m.pairs) at.0, at.1, at.2)
