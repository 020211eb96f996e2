-- Laws of specs/Tree.
use mathlib.Core.Path.{◌≡◌, refl, sym, ap, subst, ◌∙◌}
use mathlib.Core.List.{List}
use mathlib.Core.Bool.{Bool, true, false}
use Prim.Native.Nat.{ℕ, zero, suc, ◌+◌, ◌*◌, ◌-◌, ◌/◌, ◌%◌, ◌≤◌, ◌<◌}
use native.Mathlib.Nat.{le_refl, le_trans, le_of_lt, le_antisymm}
use native.Mathlib.Decide.{dec_le}
use native.Mathlib.Omega.{arith}
use lib.ListN.{length, set, length-set, length-replicate, get_or-replicate}
use lib.Seq.{get_or-set_same, get_or-set_other}
use lib.Ieee.{Float, nan, binary64, lt}
use Rattle.limits.specs.Limits.{most_nodes}
use Rattle.sums.specs.Key.{Nonneg, key}
use Rattle.sums.proofs.KeyLaws.{key_inj, lt_false, lt_true}
use Rattle.sums.proofs.Sum.{inf_nonneg}
use Rattle.repair_tournament.specs.Tree.{Stored, Tree, Won, at, infinity, lesser, no_values, pick, value}

-- ---- order

module _ (x y : Float) (p : Nonneg binary64 x) (q : Nonneg binary64 y) where
  -- neither is less than the other
  pub equal : lt x y ≡ false → lt y x ≡ false → x ≡ y
  equal h k = key_inj binary64 x y p q (le_antisymm (lt_false y x q p k) (lt_false x y p q h))

module _ (x y : Float) (p : Nonneg binary64 x) (q : Nonneg binary64 y) where
  pub lesser_nonneg : Nonneg binary64 (lesser x y)
  lesser_nonneg = go (lt y x)
    where
      go : (b : Bool) → Nonneg binary64 (pick b y x)
      go true = q
      go false = p

  lesser_low : (key binary64 (lesser x y) ≤ key binary64 x) × (key binary64 (lesser x y) ≤ key binary64 y)
  lesser_low = go (lt y x) refl
    where
      go : (b : Bool) → lt y x ≡ b → (key binary64 (pick b y x) ≤ key binary64 x) × (key binary64 (pick b y x) ≤ key binary64 y)
      go true h = (le_of_lt (lt_true y x q p h), le_refl _)
      go false h = (le_refl _, lt_false y x q p h)

  -- which of the two comes first makes no difference
  lesser_swap : lesser x y ≡ lesser y x
  lesser_swap = go (lt y x) refl (lt x y) refl
    where
      go : (b : Bool) → lt y x ≡ b → (c : Bool) → lt x y ≡ c → pick b y x ≡ pick c x y
      go true h true k = absurd (omega (arith, lt_true y x q p h, lt_true x y p q k))
      go true h false k = refl
      go false h true k = refl
      go false h false k = equal x y p q k h

-- the lesser of what stands at i and of what stands beside it
pub lesser_beside : (t : List Float) → ((k : ℕ) → k < 2 * most_nodes → Nonneg binary64 (at t k)) → (i : ℕ) → 1 < i → i < 2 * most_nodes → (w : Float) → at t i ≡ w
    → lesser w (at t (2 * (i / 2) + (1 - i % 2))) ≡ lesser (at t (2 * (i / 2))) (at t (2 * (i / 2) + 1))
lesser_beside t g i h l w is = elim (dec_le i (2 * (i / 2))) [
  | yes p ↦
      let e : 2 * (i / 2) ≡ i = omega arith in
      let o : 2 * (i / 2) + (1 - i % 2) ≡ 2 * (i / 2) + 1 = omega arith in
      ap (λ (k : ℕ). lesser w (at t k)) o ∙ ap (λ (x : Float). lesser x (at t (2 * (i / 2) + 1))) (sym is ∙ sym (ap (at t) e))
  | no p ↦
      let e : 2 * (i / 2) + 1 ≡ i = omega arith in
      let o : 2 * (i / 2) + (1 - i % 2) ≡ 2 * (i / 2) = omega arith in
      ap (λ (k : ℕ). lesser w (at t k)) o ∙ ap (λ (x : Float). lesser x (at t (2 * (i / 2)))) (sym is ∙ sym (ap (at t) e))
      ∙ lesser_swap (at t (2 * (i / 2) + 1)) (at t (2 * (i / 2))) (g (2 * (i / 2) + 1) (omega arith)) (g (2 * (i / 2)) (omega arith))
]

pub lesser_second : (x y : Float) → lt y x ≡ true → lesser x y ≡ y
lesser_second x y h = ap (λ (b : Bool). pick b y x) h

pub lesser_first : (x y : Float) → lt y x ≡ false → lesser x y ≡ x
lesser_first x y h = ap (λ (b : Bool). pick b y x) h

-- ---- the first place has the least

module _ (n : ℕ) (t : List Float) (T : Tree n t) (few : n ≤ most_nodes) where
  -- no place has less than the one above it
  above : (i : ℕ) → 1 < i → i < n + n → key binary64 (at t (i / 2)) ≤ key binary64 (at t i)
  above i h l =
      let j = i / 2 in
      let low = lesser_low (at t (2 * j)) (at t (2 * j + 1)) (T.nonneg (2 * j) (omega arith)) (T.nonneg (2 * j + 1) (omega arith)) in
      let won = T.won j (omega arith) (omega arith) in
      elim (dec_le i (2 * j)) [
        | yes p ↦ let e : 2 * j ≡ i = omega arith in rw won (subst (λ (k : ℕ). key binary64 (lesser (at t (2 * j)) (at t (2 * j + 1))) ≤ key binary64 (at t k)) e low.0)
        | no p ↦ let e : 2 * j + 1 ≡ i = omega arith in rw won (subst (λ (k : ℕ). key binary64 (lesser (at t (2 * j)) (at t (2 * j + 1))) ≤ key binary64 (at t k)) e low.1)
      ]

  first_least : (f i : ℕ) → i ≤ f → 0 < i → i < n + n → key binary64 (at t 1) ≤ key binary64 (at t i)
  first_least zero i h p l = absurd (omega arith)
  first_least (suc f) i h p l = elim (dec_le i 1) [
    | yes q ↦ let e : i ≡ 1 = omega arith in rw e (le_refl _)
    | no q ↦ le_trans (first_least f (i / 2) (omega arith) (omega arith) (omega arith)) (above i (omega arith) l)
  ]

  pub least : (v : ℕ) → v < n → key binary64 (at t 1) ≤ key binary64 (value n t v)
  least v h = first_least (n + v) (n + v) (le_refl _) (omega arith) (omega arith)

-- ---- going down from the first place to a value that is the least

pub down_first : (n : ℕ) (t : List Float) (i : ℕ) (x : Float) → Tree n t → 0 < i → i < n → at t i ≡ x → lt (at t (2 * i + 1)) (at t (2 * i)) ≡ false → at t (2 * i) ≡ x
down_first n t i x T p l e h = sym (T.won i p l ∙ lesser_first _ _ h) ∙ e

pub down_second : (n : ℕ) (t : List Float) (i : ℕ) (x : Float) → Tree n t → 0 < i → i < n → at t i ≡ x → lt (at t (2 * i + 1)) (at t (2 * i)) ≡ true → at t (2 * i + 1) ≡ x
down_second n t i x T p l e h = sym (T.won i p l ∙ lesser_second _ _ h) ∙ e

-- ---- storing a value: the places above it are won anew, from the lowest up

-- won at all places but i; the values, stored already, stay as in t
pub record Storing (n v : ℕ) (x : Float) (t : List Float) (i : ℕ) (t' : List Float) : Type 0 where
  pub long : length t' ≡ 2 * most_nodes
  pub nonneg : (k : ℕ) → k < 2 * most_nodes → Nonneg binary64 (at t' k)
  pub below : i < n
  pub won : (j : ℕ) → 0 < j → j < n → (j ≡ i → ⊥) → Won t' j
  pub new : value n t' v ≡ x
  pub others : (w : ℕ) → (w ≡ v → ⊥) → value n t' w ≡ value n t w

-- a store of a value that is not negative
set_nonneg : (t : List Float) (i : ℕ) (x : Float) → ((k : ℕ) → k < 2 * most_nodes → Nonneg binary64 (at t k)) → Nonneg binary64 x → i < length t → (k : ℕ) → k < 2 * most_nodes → Nonneg binary64 (at (set t i x) k)
set_nonneg t i x g p l k h = elim (dec_le k i) [
  | yes a ↦ elim (dec_le i k) [
    | yes b ↦ let e : k ≡ i = le_antisymm a b in rw (e, get_or-set_same t i x nan l) p
    | no b ↦ rw (get_or-set_other t i k x nan (omega arith)) (g k h)
  ]
  | no a ↦ rw (get_or-set_other t i k x nan (omega arith)) (g k h)
]

-- a store elsewhere
won_other : (t : List Float) (i : ℕ) (x : Float) (j : ℕ) → (j ≡ i → ⊥) → (2 * j ≡ i → ⊥) → (2 * j + 1 ≡ i → ⊥) → Won t j → Won (set t i x) j
won_other t i x j a b c w = rw (get_or-set_other t i j x nan a, get_or-set_other t i (2 * j) x nan b, get_or-set_other t i (2 * j + 1) x nan c) w

module _ (n v : ℕ) (x : Float) (t : List Float) (few : n ≤ most_nodes) (is_value : v < n) where
  pub storing_begin : Tree n t → Nonneg binary64 x → Storing n v x (set t (n + v) x) ((n + v) / 2) (set t (n + v) x)
  storing_begin T p = record {
    long = length-set t (n + v) x ∙ T.long;
    nonneg = set_nonneg t (n + v) x T.nonneg p (omega (arith, T.long));
    below = omega arith;
    won = λ j a l h. won_other t (n + v) x j (omega arith) (omega arith) (omega arith) (T.won j a l);
    new = get_or-set_same t (n + v) x nan (omega (arith, T.long));
    others = λ w h. refl;
  }

  -- what stays from the store on
  pub stored_since : (t' : List Float) → Stored n v x (set t (n + v) x) t' → Stored n v x t t'
  stored_since t' S = record { tree = S.tree; new = S.new; others = λ w h. S.others w h ∙ get_or-set_other t (n + v) (n + w) x nan (λ e. h (omega arith)) }

  module _ (i : ℕ) (t' : List Float) (S : Storing n v x t i t') where
    pub storing_step : 0 < i → (m : Float) → m ≡ lesser (at t' (2 * i)) (at t' (2 * i + 1)) → Storing n v x t (i / 2) (set t' i m)
    storing_step p m is =
        let b = S.below in
        let room : i < length t' = omega (arith, S.long) in
        record {
          long = length-set t' i m ∙ S.long;
          nonneg = set_nonneg t' i m S.nonneg (rw is (lesser_nonneg (at t' (2 * i)) (at t' (2 * i + 1)) (S.nonneg (2 * i) (omega arith)) (S.nonneg (2 * i + 1) (omega arith)))) room;
          below = omega arith;
          won = λ j a l h. elim (dec_le j i) [
            | yes q ↦ elim (dec_le i j) [
              | yes r ↦ let e : j ≡ i = le_antisymm q r in
                  rw (e, get_or-set_same t' i m nan room, get_or-set_other t' i (2 * i) m nan (omega arith), get_or-set_other t' i (2 * i + 1) m nan (omega arith)) is
              | no r ↦ won_other t' i m j (omega arith) (omega arith) (omega arith) (S.won j a l (omega arith))
            ]
            | no q ↦ won_other t' i m j (omega arith) (omega arith) (omega arith) (S.won j a l (omega arith))
          ];
          new = get_or-set_other t' i (n + v) m nan (omega arith) ∙ S.new;
          others = λ w h. get_or-set_other t' i (n + w) m nan (omega arith) ∙ S.others w h;
        }

    -- what was won then stands at its place
    pub storing_won : (m : Float) → at (set t' i m) i ≡ m
    storing_won m = get_or-set_same t' i m nan (omega (arith, S.long, S.below))

    pub storing_end : i ≡ 0 → Stored n v x t t'
    storing_end e = record {
      tree = record { long = S.long; nonneg = S.nonneg; won = λ j a l. S.won j a l (omega arith) };
      new = S.new;
      others = S.others;
    }

    -- where place i has the lesser already, so have the places above it
    pub storing_same : Won t' i → Stored n v x t t'
    storing_same w = record {
      tree = record {
        long = S.long;
        nonneg = S.nonneg;
        won = λ j a l. elim (dec_le j i) [
          | yes q ↦ elim (dec_le i j) [
            | yes r ↦ let e : j ≡ i = le_antisymm q r in rw e w
            | no r ↦ S.won j a l (omega arith)
          ]
          | no q ↦ S.won j a l (omega arith)
        ];
      };
      new = S.new;
      others = S.others;
    }

-- ---- nothing stored yet
pub tree_none : (n : ℕ) → n ≤ most_nodes → Tree n no_values
tree_none n few = record {
  long = length-replicate {A = Float} (2 * most_nodes) infinity;
  nonneg = λ i h. rw (get_or-replicate (2 * most_nodes) i infinity nan h) (inf_nonneg binary64);
  won = λ j a l. rw (get_or-replicate (2 * most_nodes) j infinity nan (omega arith), get_or-replicate (2 * most_nodes) (2 * j) infinity nan (omega arith), get_or-replicate (2 * most_nodes) (2 * j + 1) infinity nan (omega arith)) (equal_lesser (lt infinity infinity));
}
  where
    equal_lesser : (b : Bool) → infinity ≡ pick b infinity infinity
    equal_lesser true = refl
    equal_lesser false = refl
