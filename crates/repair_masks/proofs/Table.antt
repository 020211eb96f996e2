-- Laws of specs/Table.
use Prim.Native.Nat.{ℕ, zero, suc, ◌+◌, ◌-◌, ◌*◌, ◌%◌, ◌^◌, ◌≤◌, ◌<◌}
use native.Mathlib.Omega.{arith}
use mathlib.Core.Path.{◌≡◌, refl, sym, ap, ◌∙◌, subst}
use mathlib.Core.List.{List, ◌∷◌}
use mathlib.Core.Bool.{Bool, true, false}
use lib.ListN.{length}
use lib.Dec.{eqb}
use lib.Count.{ones}
use lib.Pow.{pow_pos, pow_mono}
use lib.Ieee.{Float, binary64, add, lt}
use borrow.Author.Tests.{eqb-true, eqb-false, ne_eqb}
use Rattle.lists.specs.Members.{All}
use Rattle.repair_spec.specs.Pairing.{pair, Matching, matching, Choice, none, chosen, cheaper, choice_of, without, partner, match_all}
use Rattle.repair_masks.proofs.Places.{partner_same, enough_fuel, without_length}
use Rattle.repair_masks.specs.Masks.{Bit, places_of}
use Rattle.repair_masks.proofs.Masks.{places_lowest, places_without, places_none, places_set, places_length, bit_power, lowest_bit, lowest_after, lowest_rises, ones_lowest, ones_without, ones_zero}
use Rattle.repair_masks.specs.Table.{Entry, Least, Needed, entry, least, lesser, low, pairing, tried, tries}

-- all places but two
pub needed_first : (n m : ℕ) → ones m + 2 ≡ n → Needed n m
needed_first n m e = omega arith

-- what is left without the lowest place and another one
pub needed_rest : (n m j : ℕ) → 0 < m → m < 2 ^ 64 → Bit j (m - 2 ^ low m) → Needed n m → Needed n (m - 2 ^ low m - 2 ^ j)
needed_rest n m j p h s e =
    omega (
      arith,
      ones_without (low m) m (lowest_bit 64 m p h),
      ones_without j (m - 2 ^ low m) s,
      lowest_after 64 m p h,
      lowest_rises 64 j (m - 2 ^ low m) s,
    )

-- where m has so few places, none with places more below e is asked for
pub needed_more : (n m k e : ℕ) → e ≤ low m → 0 < k → k < 2 ^ e → ones m + 2 * e + 2 ≤ n → Needed n (m + k) → ⊥
needed_more n m k e l some h few w = omega (arith, ones_lowest 64 m k e l some h)

pub tries_done : (k : ℕ) (cost row : ℕ → Float) (others : ℕ) (b : Least) → tries k cost row others 0 b ≡ b
unfolding tries
tries_done zero cost row others b = refl
tries_done (suc k) cost row others b = refl

tries_more : (k : ℕ) (cost row : ℕ → Float) (others rest : ℕ) (b : Least) → 0 < rest
    → tries (suc k) cost row others rest b
    ≡ tries k cost row others (rest - 2 ^ low rest) (lesser b (add binary64 (cost (others - 2 ^ low rest)) (row (low rest))) (low rest))
unfolding tries
tries_more k cost row others rest b h = rw (ne_eqb rest 0 (omega arith), tries)

module _ (n : ℕ) (d : ℕ → ℕ → Float) (fits : n ≤ 64) where
  pub pairing_step : (m : ℕ) → 0 < m → m < 2 ^ n
      → pairing n d m
      ≡ choice_of (partner (λ (l : List ℕ). match_all n d l) (d (low m)) (low m) (places_of n (m - 2 ^ low m)) (places_of n (m - 2 ^ low m)) none)
  unfolding match_all
  pairing_step m p h = go n refl
    where
      u : ℕ
      u = low m

      vs : List ℕ
      vs = places_of n (m - 2 ^ u)

      split : places_of n m ≡ u ∷ vs
      split = places_lowest 64 n m p h fits

      go : (k : ℕ) → n ≡ k → match_all n d (places_of n m) ≡ choice_of (partner (λ (l : List ℕ). match_all n d l) (d u) u vs vs none)
      go zero e = let z : 2 ^ n ≡ 1 = ap (λ (x : ℕ). 2 ^ x) e in absurd (omega arith)
      go (suc k) e =
          ap (match_all n d) split ∙ ap (λ (x : ℕ). match_all x d (u ∷ vs)) e
          ∙ ap choice_of (partner_same (λ (l : List ℕ). match_all k d l) (λ (l : List ℕ). match_all n d l) (d u) u vs vs none
          (λ v. enough_fuel k n d (without v vs)
          (omega (arith, without_length v vs, places_length n m, ap length split))
          (omega (arith, without_length v vs, places_length n m, ap length split))))

  -- ---- the choice so far, by costs and partners

  module _ (u others : ℕ) where
    abbrev Agrees : Choice → Least → Type 0
    Agrees none b = ⊥
    Agrees (chosen m) b =
        (m.cost ≡ b.cost)
        × (m.pairs ≡ pair u b.at ∷ (pairing n d (others - 2 ^ b.at)).pairs)
        × (b.at < n)
        × Bit b.at others

    -- u with j
    abbrev with : ℕ → Matching
    with j = matching (add binary64 (pairing n d (others - 2 ^ j)).cost (d u j)) (pair u j ∷ (pairing n d (others - 2 ^ j)).pairs)

    lesser_agrees : (c : Choice) (b : Least) (x : Float) (j : ℕ) → j < n → Bit j others → x ≡ (with j).cost
        → Agrees c b → Agrees (cheaper c (with j)) (lesser b x j)
    unfolding cheaper lesser
    lesser_agrees none b x j h s e a = absurd a
    lesser_agrees (chosen m) b x j h s e a = go (lt x b.cost) (lt (with j).cost m.cost) same
      where
        same : lt (with j).cost m.cost ≡ lt x b.cost
        same = rw (← e, a.0)

        go : (s t : Bool) → t ≡ s → Agrees (elim t [ true ↦ chosen (with j) | false ↦ chosen m ]) (elim s [ true ↦ least x j | false ↦ b ])
        go true true q = (sym e, refl, h, s)
        go false false q = a
        go true false q = let z : ◌≡◌ {A = ℕ} 0 1 = cc in absurd (omega arith)
        go false true q = let z : ◌≡◌ {A = ℕ} 0 1 = cc in absurd (omega arith)

    -- the costs of the masks without one place more are in hand
    module _ (cost : ℕ → Float) (known : (j : ℕ) → j < n → Bit j others → cost (others - 2 ^ j) ≡ (pairing n d (others - 2 ^ j)).cost) where
      abbrev choice : List ℕ → Choice → Choice
      choice cs c = partner (λ (l : List ℕ). match_all n d l) (d u) u (places_of n others) cs c

      abbrev Open : ℕ → Type 0
      Open rest = All (λ (j : ℕ). (j < n) × Bit j others) (places_of n rest)

      -- one candidate
      choice_one : (j : ℕ) (cs : List ℕ) (c : Choice) → j < n → Bit j others → choice (j ∷ cs) c ≡ choice cs (cheaper c (with j))
      unfolding partner
      choice_one j cs c h s =
          ap (λ (l : List ℕ). choice cs (cheaper c (matching (add binary64 (match_all n d l).cost (d u j)) (pair u j ∷ (match_all n d l).pairs)))) (places_without n j others h s)

      none_left : (k rest : ℕ) (c : Choice) (b : Least) → rest ≡ 0 → Agrees c b → Agrees (choice (places_of n rest) c) (tries k cost (d u) others rest b)
      unfolding partner
      none_left k rest c b e a = rw (e, places_none n, tries_done k cost (d u) others b) a

      tries_agree : (k rest : ℕ) (c : Choice) (b : Least) → rest ≤ k → rest < 2 ^ n → Open rest → Agrees c b
          → Agrees (choice (places_of n rest) c) (tries k cost (d u) others rest b)
      tries_agree zero rest c b l h o a = none_left zero rest c b (omega arith) a
      tries_agree (suc k) rest c b l h o a = go (eqb rest 0) refl (λ g o' a'. tries_agree k (rest - 2 ^ j) (cheaper c (with j)) (lesser b x j) g (omega arith) o' a')
        where
          j : ℕ
          j = low rest

          x : Float
          x = add binary64 (cost (others - 2 ^ j)) (d u j)

          go : (t : Bool) → eqb rest 0 ≡ t
              → (rest - 2 ^ j ≤ k → Open (rest - 2 ^ j) → Agrees (cheaper c (with j)) (lesser b x j)
              → Agrees (choice (places_of n (rest - 2 ^ j)) (cheaper c (with j))) (tries k cost (d u) others (rest - 2 ^ j) (lesser b x j)))
              → Agrees (choice (places_of n rest) c) (tries (suc k) cost (d u) others rest b)
          go true e r = none_left (suc k) rest c b (eqb-true rest 0 e) a
          go false e r =
              let q = eqb-false rest 0 e in
              let p : 0 < rest = omega arith in
              let split = places_lowest 64 n rest p h fits in
              let o' = subst (All (λ (i : ℕ). (i < n) × Bit i others)) split o in
              let eq : choice (places_of n rest) c ≡ choice (places_of n (rest - 2 ^ j)) (cheaper c (with j))
              = ap (λ (l : List ℕ). choice l c) split ∙ choice_one j (places_of n (rest - 2 ^ j)) c o'.0.0 o'.0.1 in
              let x_is : x ≡ (with j).cost = ap (λ (y : Float). add binary64 y (d u j)) (known j o'.0.0 o'.0.1) in
              rw (eq, tries_more k cost (d u) others rest b p)
              (r (omega (arith, pow_pos j)) o'.1 (lesser_agrees c b x j o'.0.0 o'.0.1 x_is a))

      -- the first partner, then the others
      tried_agrees : 0 < others → others < 2 ^ n → Agrees (choice (places_of n others) none) (tried cost (d u) others)
      unfolding tried cheaper
      tried_agrees p h =
          let j = low others in
          let split = places_lowest 64 n others p h fits in
          let o = subst (All (λ (i : ℕ). (i < n) × Bit i others)) split (places_set n others) in
          let eq : choice (places_of n others) none ≡ choice (places_of n (others - 2 ^ j)) (chosen (with j))
          = ap (λ (l : List ℕ). choice l none) split ∙ choice_one j (places_of n (others - 2 ^ j)) none o.0.0 o.0.1 in
          rw eq
          (tries_agree (others - 2 ^ j) (others - 2 ^ j) (chosen (with j)) _ (omega arith) (omega arith) o.1
          (ap (λ (y : Float). add binary64 y (d u j)) (sym (known j o.0.0 o.0.1)), refl, o.0.0, o.0.1))

  chosen_cost : (u others : ℕ) (c : Choice) (b : Least) → Agrees u others c b → (choice_of c).cost ≡ b.cost
  chosen_cost u others none b a = absurd a
  chosen_cost u others (chosen m) b a = a.0

  chosen_pairs : (u others : ℕ) (c : Choice) (b : Least) → Agrees u others c b → (choice_of c).pairs ≡ pair u b.at ∷ (pairing n d (others - 2 ^ b.at)).pairs
  chosen_pairs u others none b a = absurd a
  chosen_pairs u others (chosen m) b a = a.1

  chosen_set : (u others : ℕ) (c : Choice) (b : Least) → Agrees u others c b → (b.at < n) × Bit b.at others
  chosen_set u others none b a = absurd a
  chosen_set u others (chosen m) b a = (a.2, a.3)

-- the costs of the masks below m that are asked for are right
abbrev pub Known : ℕ → (ℕ → ℕ → Float) → (ℕ → Float) → ℕ → Type 0
Known n d cost m = (m' : ℕ) → m' < m → ones m' % 2 ≡ 0 → Needed n m' → cost m' ≡ (pairing n d m').cost

module _ (n : ℕ) (d : ℕ → ℕ → Float) (fits : n ≤ 64) (m : ℕ) (some : 0 < m) (inside : m < 2 ^ n) (even : ones m % 2 ≡ 0) where
  inside_word : m < 2 ^ 64
  inside_word = omega (arith, pow_mono {i = n} {j = 64} fits)

  pub low_set : Bit (low m) m
  low_set = lowest_bit 64 m some inside_word

  -- the others of an even mask are odd in number, so there is one
  pub others_some : 0 < m - 2 ^ low m
  others_some = go (m - 2 ^ low m) refl
    where
      go : (x : ℕ) → m - 2 ^ low m ≡ x → 0 < x
      go zero e = absurd (omega (arith, ones_without (low m) m low_set, ap ones e, ones_zero))
      go (suc x) e = omega arith

  pub entry_right : (cost : ℕ → Float) → Needed n m → Known n d cost m → Entry n d m (entry d cost m).cost (entry d cost m).at
  unfolding entry
  entry_right cost needed known = record {
    cost = sym (chosen_cost n d fits u others choice b agrees) ∙ ap (λ (x : Matching). x.cost) (sym step);
    partner = λ p. record {
      below = (chosen_set n d fits u others choice b agrees).0;
      set = (chosen_set n d fits u others choice b agrees).1;
      pairs = ap (λ (x : Matching). x.pairs) step ∙ chosen_pairs n d fits u others choice b agrees;
    };
  }
    where
      u : ℕ
      u = low m

      others : ℕ
      others = m - 2 ^ u

      b : Least
      b = tried cost (d u) others

      choice : Choice
      choice = partner (λ (l : List ℕ). match_all n d l) (d u) u (places_of n others) (places_of n others) none

      step : pairing n d m ≡ choice_of choice
      step = pairing_step n d fits m some inside

      smaller : (j : ℕ) → j < n → Bit j others → cost (others - 2 ^ j) ≡ (pairing n d (others - 2 ^ j)).cost
      smaller j h s =
          known (others - 2 ^ j) (omega (arith, pow_pos u, bit_power u m low_set))
          (omega (arith, ones_without j others s, ones_without u m low_set))
          (needed_rest n m j some inside_word s needed)

      agrees : Agrees n d fits u others choice b
      agrees = tried_agrees n d fits u others cost smaller others_some (omega arith)

-- ---- the tries in turn

tries_fuel : (k l : ℕ) (cost row : ℕ → Float) (others rest : ℕ) (b : Least) → rest ≤ k → rest ≤ l → tries k cost row others rest b ≡ tries l cost row others rest b
tries_fuel zero l cost row others rest b h g =
    let e : rest ≡ 0 = omega arith in rw e (tries_done zero cost row others b ∙ sym (tries_done l cost row others b))
tries_fuel (suc k) zero cost row others rest b h g =
    let e : rest ≡ 0 = omega arith in rw e (tries_done (suc k) cost row others b ∙ sym (tries_done zero cost row others b))
tries_fuel (suc k) (suc l) cost row others rest b h g =
    go (eqb rest 0) refl (λ b' h' g'. tries_fuel k l cost row others (rest - 2 ^ low rest) b' h' g')
  where
    go : (t : Bool) → eqb rest 0 ≡ t
        → ((b' : Least) → rest - 2 ^ low rest ≤ k → rest - 2 ^ low rest ≤ l → tries k cost row others (rest - 2 ^ low rest) b' ≡ tries l cost row others (rest - 2 ^ low rest) b')
        → tries (suc k) cost row others rest b ≡ tries (suc l) cost row others rest b
    go true e r = let z = eqb-true rest 0 e in rw z (tries_done (suc k) cost row others b ∙ sym (tries_done (suc l) cost row others b))
    go false e r =
        let q = eqb-false rest 0 e in
        let p : 0 < rest = omega arith in
        tries_more k cost row others rest b p ∙ r _ (omega (arith, pow_pos (low rest))) (omega (arith, pow_pos (low rest))) ∙ sym (tries_more l cost row others rest b p)

-- one turn, and the end
pub tries_step : (cost row : ℕ → Float) (others rest : ℕ) (b : Least) → 0 < rest
    → tries rest cost row others rest b
    ≡ tries (rest - 2 ^ low rest) cost row others (rest - 2 ^ low rest) (lesser b (add binary64 (cost (others - 2 ^ low rest)) (row (low rest))) (low rest))
tries_step cost row others zero b p = absurd (omega arith)
tries_step cost row others (suc k) b p =
    tries_more k cost row others (suc k) b p
    ∙ tries_fuel k (suc k - 2 ^ low (suc k)) cost row others (suc k - 2 ^ low (suc k)) _ (omega (arith, pow_pos (low (suc k)))) (omega arith)
