-- Laws of specs/Masks.
use Prim.Native.Nat.{ℕ, zero, suc, ◌+◌, ◌-◌, ◌*◌, ◌/◌, ◌%◌, ◌^◌, ◌≤◌, ◌<◌}
use native.Mathlib.Nat.{eq-zero-or-pos}
use native.Mathlib.Omega.{arith}
use mathlib.Core.Path.{◌≡◌, refl, sym, ap, ◌∙◌, subst}
use mathlib.Core.Logic.{inl, inr}
use mathlib.Core.List.{List, [], ◌∷◌}
use mathlib.Core.Bool.{Bool, true, false}
use lib.ListN.{length}
use lib.Dec.{eqb}
use lib.Count.{count_trailing_zeros, under, ones, ones_step}
use lib.Pow.{pow_pos, pow_mono}
use borrow.Author.Tests.{eqb-true, eqb-false, eq-eqb, ne_eqb}
use Rattle.lists.specs.Members.{All}
use Rattle.repair_spec.specs.Pairing.{without}
use Rattle.repair_masks.specs.Places.{up_to}
use Rattle.repair_masks.proofs.Places.{without_yes, without_no}
use Rattle.repair_masks.specs.Masks.{Bit, bits, lowest, places_of}

bits_odd : (k i m : ℕ) → m % 2 ≡ 1 → bits (suc k) i m ≡ i ∷ bits k (suc i) (m / 2)
unfolding bits
bits_odd k i m e = rw (eq-eqb (m % 2) 1 e, bits)

bits_even : (k i m : ℕ) → m % 2 ≡ 0 → bits (suc k) i m ≡ bits k (suc i) (m / 2)
unfolding bits
bits_even k i m e = rw (ne_eqb (m % 2) 1 (omega arith), bits)

bits_none : (i m : ℕ) → bits zero i m ≡ []
unfolding bits
bits_none i m = refl

data Parity (m : ℕ) : Type 0 where
  even : m % 2 ≡ 0 → Parity m
  odd : m % 2 ≡ 1 → Parity m

parity : (m : ℕ) → Parity m
parity m = go (eqb (m % 2) 1) refl
  where
    go : (t : Bool) → eqb (m % 2) 1 ≡ t → Parity m
    go true e = odd (eqb-true (m % 2) 1 e)
    go false e = let n = eqb-false (m % 2) 1 e in even (omega arith)

-- ---- the powers of two

double : (i : ℕ) → 2 ^ suc i ≡ 2 * 2 ^ i
double i = omega arith

pub bit_power : (i m : ℕ) → Bit i m → 2 ^ i ≤ m
bit_power zero m b = omega arith
bit_power (suc i) m b = omega (arith, bit_power i (m / 2) b, double i)

-- the mask without a bit above the lowest: halves, and remainders
rest_half : (i m : ℕ) → 2 ^ i ≤ m / 2 → (m - 2 ^ suc i) / 2 ≡ m / 2 - 2 ^ i
rest_half i m h = omega (arith, double i)

rest_mod : (i m : ℕ) → 2 ^ i ≤ m / 2 → (m - 2 ^ suc i) % 2 ≡ m % 2
rest_mod i m h = omega (arith, double i)

-- ---- without one bit

-- the places are those from i on
no_head : (i j : ℕ) → i ≡ i + suc j → ⊥
no_head i j e = omega arith

without_bit : (k i j m : ℕ) → j < k → Bit j m → without (i + j) (bits k i m) ≡ bits k i (m - 2 ^ j)
without_bit zero i j m h b = absurd (omega arith)
without_bit (suc k) i zero m h b =
    ap (without (i + zero)) (bits_odd k i m b) ∙ without_yes (i + zero) i _ (omega arith)
    ∙ ap (bits k (suc i)) half ∙ sym (bits_even k i (m - 2 ^ zero) (omega arith))
  where
    half : m / 2 ≡ (m - 2 ^ zero) / 2
    half = omega arith
without_bit (suc k) i (suc j) m h b = go (parity m) (without_bit k (suc i) j (m / 2) (omega arith) b)
  where
    low : 2 ^ j ≤ m / 2
    low = bit_power j (m / 2) b

    place : suc i + j ≡ i + suc j
    place = omega arith

    go : Parity m → without (suc i + j) (bits k (suc i) (m / 2)) ≡ bits k (suc i) (m / 2 - 2 ^ j) → without (i + suc j) (bits (suc k) i m) ≡ bits (suc k) i (m - 2 ^ suc j)
    go (odd e) r =
        ap (without (i + suc j)) (bits_odd k i m e) ∙ without_no (i + suc j) i _ (no_head i j)
        ∙ ap (λ (p : ℕ). i ∷ without p (bits k (suc i) (m / 2))) (sym place)
        ∙ ap (λ (l : List ℕ). i ∷ l) (r ∙ ap (bits k (suc i)) (sym (rest_half j m low)))
        ∙ sym (bits_odd k i (m - 2 ^ suc j) (rest_mod j m low ∙ e))
    go (even e) r =
        ap (without (i + suc j)) (bits_even k i m e)
        ∙ ap (λ (p : ℕ). without p (bits k (suc i) (m / 2))) (sym place)
        ∙ r ∙ ap (bits k (suc i)) (sym (rest_half j m low))
        ∙ sym (bits_even k i (m - 2 ^ suc j) (rest_mod j m low ∙ e))

under_even : (d t : ℕ) → d ≡ 0 → under d t ≡ suc t
under_even d t e = rw e

under_odd : (d t : ℕ) → d ≡ 1 → under d t ≡ 0
under_odd d t e = rw e

pub lowest_bit : (w m : ℕ) → 0 < m → m < 2 ^ w → Bit (lowest w m) m
unfolding count_trailing_zeros
lowest_bit zero m p h = absurd (omega arith)
lowest_bit (suc w) m p h = go (parity m) (λ q. lowest_bit w (m / 2) q (omega (arith, double w)))
  where
    go : Parity m → (0 < m / 2 → Bit (lowest w (m / 2)) (m / 2)) → Bit (under (m % 2) (lowest w (m / 2))) m
    go (odd e) r = rw (under_odd (m % 2) (lowest w (m / 2)) e) e
    go (even e) r = rw (under_even (m % 2) (lowest w (m / 2)) e) (r (omega arith))

pub lowest_below : (w k m : ℕ) → 0 < m → m < 2 ^ k → k ≤ w → lowest w m < k
unfolding count_trailing_zeros
lowest_below w zero m p h l = absurd (omega arith)
lowest_below zero (suc k) m p h l = absurd (omega arith)
lowest_below (suc w) (suc k) m p h l = go (parity m) (λ q. lowest_below w k (m / 2) q (omega (arith, double k)) (omega arith))
  where
    go : Parity m → (0 < m / 2 → lowest w (m / 2) < k) → under (m % 2) (lowest w (m / 2)) < suc k
    go (odd e) r = rw (under_odd (m % 2) (lowest w (m / 2)) e) (omega arith)
    go (even e) r = rw (under_even (m % 2) (lowest w (m / 2)) e) (omega (arith, r (omega arith)))

-- without the lowest bit, the lowest is a later one
pub lowest_after : (w m : ℕ) → 0 < m → m < 2 ^ w → lowest w m < lowest w (m - 2 ^ lowest w m)
unfolding count_trailing_zeros
lowest_after zero m p h = absurd (omega arith)
lowest_after (suc w) m p h =
    go (parity m) (λ q. lowest_after w (m / 2) q (omega (arith, double w))) (λ q. lowest_bit w (m / 2) q (omega (arith, double w)))
  where
    t : ℕ
    t = lowest w (m / 2)

    go : Parity m → (0 < m / 2 → t < lowest w (m / 2 - 2 ^ t)) → (0 < m / 2 → Bit t (m / 2))
        → under (m % 2) t < lowest (suc w) (m - 2 ^ under (m % 2) t)
    go (odd e) r b =
        rw (under_odd (m % 2) t e) (omega (arith, under_even ((m - 1) % 2) (lowest w ((m - 1) / 2)) (omega arith)))
    go (even e) r b =
        let q : 0 < m / 2 = omega arith in
        let low : 2 ^ t ≤ m / 2 = bit_power t (m / 2) (b q) in
        let a = under_even ((m - 2 ^ suc t) % 2) (lowest w ((m - 2 ^ suc t) / 2)) (rest_mod t m low ∙ e) in
        rw (under_even (m % 2) t e) (omega (arith, r q, a, ap (lowest w) (rest_half t m low)))

-- without any bit, it is no earlier one
pub lowest_rises : (w j m : ℕ) → Bit j m → lowest w m ≤ lowest w (m - 2 ^ j)
unfolding count_trailing_zeros
lowest_rises zero j m b = omega arith
lowest_rises (suc w) zero m b = rw (under_odd (m % 2) (lowest w (m / 2)) b) (omega arith)
lowest_rises (suc w) (suc j) m b = go (parity m) (lowest_rises w j (m / 2) b)
  where
    low : 2 ^ j ≤ m / 2
    low = bit_power j (m / 2) b

    go : Parity m → lowest w (m / 2) ≤ lowest w (m / 2 - 2 ^ j) → under (m % 2) (lowest w (m / 2)) ≤ lowest (suc w) (m - 2 ^ suc j)
    go (odd e) r = rw (under_odd (m % 2) (lowest w (m / 2)) e) (omega arith)
    go (even e) r =
        let a = under_even ((m - 2 ^ suc j) % 2) (lowest w ((m - 2 ^ suc j) / 2)) (rest_mod j m low ∙ e) in
        rw (under_even (m % 2) (lowest w (m / 2)) e) (omega (arith, r, a, ap (lowest w) (rest_half j m low)))

pow_le : (w k : ℕ) → k ≤ w → 2 ^ k ≤ 2 ^ w
pow_le w k l = pow_mono l

bits_lowest : (w k i m : ℕ) → 0 < m → m < 2 ^ k → k ≤ w → bits k i m ≡ (i + lowest w m) ∷ bits k i (m - 2 ^ lowest w m)
unfolding count_trailing_zeros
bits_lowest w zero i m p h l = absurd (omega arith)
bits_lowest zero (suc k) i m p h l = absurd (omega arith)
bits_lowest (suc w) (suc k) i m p h l =
    go (parity m) (λ q. bits_lowest w k (suc i) (m / 2) q (omega (arith, double k)) (omega arith))
    (λ q. lowest_bit w (m / 2) q (omega (arith, double k, pow_le w k (omega arith))))
  where
    t : ℕ
    t = lowest w (m / 2)

    go : Parity m → (0 < m / 2 → bits k (suc i) (m / 2) ≡ (suc i + t) ∷ bits k (suc i) (m / 2 - 2 ^ t)) → (0 < m / 2 → Bit t (m / 2))
        → bits (suc k) i m ≡ (i + under (m % 2) t) ∷ bits (suc k) i (m - 2 ^ under (m % 2) t)
    go (odd e) r b =
        let half : m / 2 ≡ (m - 1) / 2 = omega arith in
        let first : i ≡ i + 0 = omega arith in
        rw (under_odd (m % 2) t e)
        (bits_odd k i m e ∙ ap (λ (x : ℕ). x ∷ bits k (suc i) (m / 2)) first ∙ ap (λ (x : ℕ). (i + 0) ∷ bits k (suc i) x) half
        ∙ ap (λ (l : List ℕ). (i + 0) ∷ l) (sym (bits_even k i (m - 1) (omega arith))))
    go (even e) r b =
        let q : 0 < m / 2 = omega arith in
        let low : 2 ^ t ≤ m / 2 = bit_power t (m / 2) (b q) in
        let first : suc i + t ≡ i + suc t = omega arith in
        rw (under_even (m % 2) t e)
        (bits_even k i m e ∙ r q ∙ ap (λ (x : ℕ). x ∷ bits k (suc i) (m / 2 - 2 ^ t)) first
        ∙ ap (λ (x : ℕ). (i + suc t) ∷ bits k (suc i) x) (sym (rest_half t m low))
        ∙ ap (λ (l : List ℕ). (i + suc t) ∷ l) (sym (bits_even k i (m - 2 ^ suc t) (rest_mod t m low ∙ e))))

-- the lowest, then those of the mask without it
pub places_lowest : (w n m : ℕ) → 0 < m → m < 2 ^ n → n ≤ w → places_of n m ≡ lowest w m ∷ places_of n (m - 2 ^ lowest w m)
places_lowest w n m p h l = bits_lowest w n 0 m p h l ∙ ap (λ (x : ℕ). x ∷ places_of n (m - 2 ^ lowest w m)) (omega arith)

-- the others, without one of them
pub places_without : (n j m : ℕ) → j < n → Bit j m → without j (places_of n m) ≡ places_of n (m - 2 ^ j)
places_without n j m h b = ap (λ (x : ℕ). without x (places_of n m)) (omega arith) ∙ without_bit n 0 j m h b

none_set : (k i : ℕ) → bits k i 0 ≡ []
none_set zero i = bits_none i 0
none_set (suc k) i = bits_even k i 0 refl ∙ none_set k (suc i)

pub places_none : (n : ℕ) → places_of n 0 ≡ []
places_none n = none_set n 0

-- each place is below n, and its bit is set
bits_set : (k i n m₀ m : ℕ) → i + k ≤ n → ((j : ℕ) → Bit j m → Bit (i + j) m₀) → All (λ (j : ℕ). (j < n) × Bit j m₀) (bits k i m)
bits_set zero i n m₀ m h b = rw (bits_none i m) tt
bits_set (suc k) i n m₀ m h b = go (parity m) (bits_set k (suc i) n m₀ (m / 2) (omega arith) deeper)
  where
    deeper : (j : ℕ) → Bit j (m / 2) → Bit (suc i + j) m₀
    deeper j c = let e : i + suc j ≡ suc i + j = omega arith in rw e at (b (suc j) c)

    go : Parity m → All (λ (j : ℕ). (j < n) × Bit j m₀) (bits k (suc i) (m / 2)) → All (λ (j : ℕ). (j < n) × Bit j m₀) (bits (suc k) i m)
    go (odd e) r = let z : i + 0 ≡ i = omega arith in rw (bits_odd k i m e) ((omega arith, rw z at (b 0 e)), r)
    go (even e) r = rw (bits_even k i m e) r

pub places_set : (n m : ℕ) → All (λ (j : ℕ). (j < n) × Bit j m) (places_of n m)
places_set n m = bits_set n 0 n m m (omega arith) (λ j b. let e : j ≡ 0 + j = omega arith in rw e at b)

length_bits : (k i m : ℕ) → length (bits k i m) ≤ k
length_bits zero i m = rw (bits_none i m) (omega arith)
length_bits (suc k) i m = go (parity m) (length_bits k (suc i) (m / 2))
  where
    go : Parity m → length (bits k (suc i) (m / 2)) ≤ k → length (bits (suc k) i m) ≤ suc k
    go (odd e) r = rw (bits_odd k i m e) (omega arith)
    go (even e) r = rw (bits_even k i m e) (omega arith)

pub places_length : (n m : ℕ) → length (places_of n m) ≤ n
places_length n m = length_bits n 0 m

-- all places
full_up : (k i : ℕ) → bits k i (2 ^ k - 1) ≡ up_to k i
unfolding up_to
full_up zero i = bits_none i 0
full_up (suc k) i =
    let half : (2 ^ suc k - 1) / 2 ≡ 2 ^ k - 1 = omega (arith, double k, pow_pos k) in
    bits_odd k i (2 ^ suc k - 1) (omega (arith, double k, pow_pos k)) ∙ ap (λ (x : ℕ). i ∷ bits k (suc i) x) half ∙ ap (λ (l : List ℕ). i ∷ l) (full_up k (suc i))

pub full_places : (n : ℕ) → places_of n (2 ^ n - 1) ≡ up_to n 0
full_places n = full_up n 0

-- one place less
pub ones_without : (j m : ℕ) → Bit j m → suc (ones (m - 2 ^ j)) ≡ ones m
ones_without zero m b =
    let half : (m - 1) / 2 ≡ m / 2 = omega arith in
    omega (arith, ones_step m, ones_step (m - 1), ap ones half)
ones_without (suc j) m b =
    let low = bit_power j (m / 2) b in
    omega (arith, ones_step m, ones_step (m - 2 ^ suc j), rest_mod j m low, ap ones (rest_half j m low), ones_without j (m / 2) b)

le_zero : (e : ℕ) → e ≤ 0 → e ≡ 0
le_zero e h = omega arith

-- Places more below e, which is no higher than the lowest: there are at most e less the lowest of them, which counts twice.
pub ones_lowest : (w m k e : ℕ) → e ≤ lowest w m → 0 < k → k < 2 ^ e → ones (m + k) + 2 * lowest w (m + k) < ones m + 2 * e
unfolding count_trailing_zeros
ones_lowest zero m k e l some h = absurd (omega (arith, ap (λ (x : ℕ). 2 ^ x) (le_zero e l)))
ones_lowest (suc w) m k zero l some h = absurd (omega arith)
ones_lowest (suc w) m k (suc e) l some h = go (parity m) (parity k) l (λ a b c. ones_lowest w (m / 2) (k / 2) e a b c)
  where
    t : ℕ
    t = lowest w (m / 2)

    go : Parity m → Parity k → suc e ≤ under (m % 2) t
        → (e ≤ t → 0 < k / 2 → k / 2 < 2 ^ e → ones (m / 2 + k / 2) + 2 * lowest w (m / 2 + k / 2) < ones (m / 2) + 2 * e)
        → ones (m + k) + 2 * lowest (suc w) (m + k) < ones m + 2 * suc e
    go (odd f) p g r = absurd (omega (arith, under_odd (m % 2) t f))
    go (even f) (even q) g r =
        let half : (m + k) / 2 ≡ m / 2 + k / 2 = omega arith in
        let i = r (omega (arith, under_even (m % 2) t f)) (omega arith) (omega (arith, double e)) in
        let a = under_even ((m + k) % 2) (lowest w ((m + k) / 2)) (omega arith) in
        omega (arith, i, a, ones_step m, ones_step (m + k), ap ones half, ap (lowest w) half)
    go (even f) (odd q) g r =
        let half : (m + k) / 2 ≡ m / 2 + k / 2 = omega arith in
        let a = under_odd ((m + k) % 2) (lowest w ((m + k) / 2)) (omega arith) in
        elim (eq-zero-or-pos (k / 2)) [
          | inl z ↦ let same : m / 2 + k / 2 ≡ m / 2 = omega arith in omega (arith, a, ones_step m, ones_step (m + k), ap ones half, ap ones same)
          | inr some' ↦
              let i = r (omega (arith, under_even (m % 2) t f)) some' (omega (arith, double e)) in
              omega (arith, i, a, ones_step m, ones_step (m + k), ap ones half)
        ]

-- the mask 0 has no places
pub ones_zero : ones 0 ≡ 0
unfolding ones
ones_zero = refl

-- so a mask that has some is not 0
pub some_places : (m : ℕ) → 0 < ones m → 0 < m
some_places zero h = absurd (omega (arith, ones_zero))
some_places (suc m) h = omega arith

pub full_bit : (n v : ℕ) → v < n → Bit v (2 ^ n - 1)
full_bit zero v h = absurd (omega arith)
full_bit (suc n) zero h = omega (arith, double n, pow_pos n)
full_bit (suc n) (suc v) h =
    let half : 2 ^ n - 1 ≡ (2 ^ suc n - 1) / 2 = omega (arith, double n, pow_pos n) in
    subst (Bit v) half (full_bit n v (omega arith))

pub bit_other : (u v m : ℕ) → (u ≡ v → ⊥) → Bit u m → Bit v m → Bit v (m - 2 ^ u)
bit_other zero zero m d a b = absurd (d refl)
bit_other zero (suc v) m d a b = let half : m / 2 ≡ (m - 1) / 2 = omega arith in subst (Bit v) half b
bit_other (suc u) zero m d a b = rest_mod u m (bit_power u (m / 2) a) ∙ b
bit_other (suc u) (suc v) m d a b =
    subst (Bit v) (sym (rest_half u m (bit_power u (m / 2) a))) (bit_other u v (m / 2) (λ e. d (ap suc e)) a b)
