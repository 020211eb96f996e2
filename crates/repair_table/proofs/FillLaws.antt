-- The table, filled mask by mask.
use Prim.Native.Nat.{ℕ, zero, suc, ◌+◌, ◌-◌, ◌*◌, ◌%◌, ◌^◌, ◌≤◌, ◌<◌}
use native.Mathlib.Omega.{arith}
use mathlib.Core.Path.{◌≡◌, refl, sym, ap, ◌∙◌, fun_ext, subst}
use mathlib.Core.List.{List, []}
use mathlib.Core.Bool.{Bool, true, false}
use lib.ListN.{length, get_or, set, length-set}
use lib.Seq.{get_or-set_same, get_or-set_other}
use lib.Dec.{eqb, ltb}
use lib.Count.{ones}
use lib.Pow.{pow_pos, pow_mono}
use lib.Ieee.{Float, nan, binary64, of_bits}
use borrow.Author.Tests.{eq-eqb, eqb-true, eqb-false, lt-ltb, le-ltb, ltb-true, ltb-false}
use Rattle.sums.proofs.Sum.{zero_bits}
use Rattle.repair_spec.specs.Distance.{zero_length}
use Rattle.repair_spec.specs.Pairing.{match_all}
use Rattle.repair_masks.proofs.Masks.{places_none}
use Rattle.repair_masks.specs.Table.{Least, least, low, tried, entry, Entry, pairing, Needed}
use Rattle.repair_masks.proofs.Table.{entry_right, others_some, needed_more}
use Rattle.repair_masks.specs.Optimal.{Right}
use Rattle.repair_masks.proofs.Optimal.{right_known}
use Rattle.repair_table.specs.Tables.{costs, row_at, matrix, partner_in, is_due, filled_costs, filled_partners, Filled, Next}

true_not_false : true ≡ false → ⊥
true_not_false e = let z : ◌≡◌ {A = ℕ} 0 1 = cc in absurd (omega arith)

pub chosen_entry : (ws : List Float) (n m i p row : ℕ) → i ≡ low m → p ≡ 2 ^ i → row ≡ 2 ^ n + i * n
    → tried (costs ws) (row_at ws row) (m - p) ≡ entry (matrix n ws) (costs ws) m
unfolding entry
chosen_entry ws n m i p row e f g = rw (g, f, e)

pub others_left : (n m i p : ℕ) → i ≡ low m → p ≡ 2 ^ i → 0 < m → m < 2 ^ n → n ≤ 20 → ones m % 2 ≡ 0 → 0 < m - p
others_left n m i p e f some inside fits even = rw (f, e) (others_some n (λ x y. zero_length) (omega arith) m some inside even)

-- ---- the masks that are due

pub due_low : (n m : ℕ) → ones m + 2 * low m + 2 < n → false ≡ is_due n m
unfolding is_due
due_low n m h = rw (lt-ltb (ones m + 2 * low m + 2) n h, is_due)

pub due_even : (n m : ℕ) → Needed n m → eqb (ones m % 2) 0 ≡ is_due n m
unfolding is_due
due_even n m h = rw (le-ltb (ones m + 2 * low m + 2) n h, is_due)

pub due_true : (n m : ℕ) → is_due n m ≡ true → (ones m % 2 ≡ 0) × Needed n m
unfolding is_due
due_true n m e = go (ltb (ones m + 2 * low m + 2) n) refl e
  where
    go : (t : Bool) → ltb (ones m + 2 * low m + 2) n ≡ t → elim t [ true ↦ false | false ↦ eqb (ones m % 2) 0 ] ≡ true → (ones m % 2 ≡ 0) × Needed n m
    go true q f = absurd (true_not_false (sym f))
    go false q f = (eqb-true (ones m % 2) 0 f, ltb-false (ones m + 2 * low m + 2) n q)

due_yes : (n m : ℕ) → ones m % 2 ≡ 0 → Needed n m → is_due n m ≡ true
due_yes n m o h = sym (due_even n m h) ∙ eq-eqb (ones m % 2) 0 o

-- ---- one mask

module _ (n m : ℕ) (ws : List Float) (bs : List ℕ) where
  pub not_filled : is_due n m ≡ false → (ws ≡ filled_costs n m ws) × (bs ≡ filled_partners n m ws bs)
  unfolding filled_costs filled_partners
  not_filled e = (rw (e, filled_costs), rw (e, filled_partners))

  pub due_filled : (c : Float) (j : ℕ) → is_due n m ≡ true → least c j ≡ entry (matrix n ws) (costs ws) m
      → (set ws m c ≡ filled_costs n m ws) × (set bs m j ≡ filled_partners n m ws bs)
  unfolding filled_costs filled_partners
  due_filled c j e q = (
    ap (λ (b : Least). set ws m b.cost) q ∙ rw (e, filled_costs),
    ap (λ (b : Least). set bs m b.at) q ∙ rw (e, filled_partners),
  )

-- ---- a turn of the loop

away : (n k x y : ℕ) → k < 2 ^ n → 2 ^ n + x + y ≡ k → ⊥
away n k x y h e = omega arith

pub matrix_set : (n k : ℕ) (ws : List Float) (c : Float) → k < 2 ^ n → matrix n (set ws k c) ≡ matrix n ws
matrix_set n k ws c h = fun_ext (λ i. fun_ext (λ j. get_or-set_other ws k (2 ^ n + i * n + j) c nan (λ e. away n k (i * n) j h e)))

module _ (n m : ℕ) (ws₀ ws : List Float) (bs : List ℕ) (fits : n ≤ 20) (some : 0 < m) (inside : m < 2 ^ n) (room : 2 ^ n ≤ length ws) (room_bytes : 2 ^ n ≤ length bs) (f : Filled n m ws₀ ws bs) where
  new : Least
  new = entry (matrix n ws) (costs ws) m

  new_right : is_due n m ≡ true → Entry n (matrix n ws₀) m new.cost new.at
  unfolding new
  new_right e =
      let due = due_true n m e in
      rw f.kept
      (entry_right n (matrix n ws₀) (omega arith) m some inside due.0 (costs ws) due.1
      (right_known n (matrix n ws₀) (costs ws) (partner_in bs) m f.right))

  -- with the entry for m
  set_right : is_due n m ≡ true → Filled n (m + 1) ws₀ (set ws m new.cost) (set bs m new.at)
  set_right e = record { right = λ m' h o g. go m' h o g (eqb m' m) refl; kept = matrix_set n m ws new.cost inside ∙ f.kept }
    where
      go : (m' : ℕ) → m' < m + 1 → ones m' % 2 ≡ 0 → Needed n m' → (t : Bool) → eqb m' m ≡ t
          → Entry n (matrix n ws₀) m' (get_or (set ws m new.cost) m' nan) (get_or (set bs m new.at) m' 0)
      go m' h o g true q =
          rw (eqb-true m' m q, get_or-set_same ws m new.cost nan (omega arith), get_or-set_same bs m new.at 0 (omega arith)) (new_right e)
      go m' h o g false q =
          let d = eqb-false m' m q in
          rw (get_or-set_other ws m m' new.cost nan d, get_or-set_other bs m m' new.at 0 d) (f.right m' (omega arith) o g)

  -- m is not due
  same_right : is_due n m ≡ false → Filled n (m + 1) ws₀ ws bs
  same_right e = record { right = λ m' h o g. go m' h o g (eqb m' m) refl; kept = f.kept }
    where
      go : (m' : ℕ) → m' < m + 1 → ones m' % 2 ≡ 0 → Needed n m' → (t : Bool) → eqb m' m ≡ t → Entry n (matrix n ws₀) m' (get_or ws m' nan) (get_or bs m' 0)
      go m' h o g true q = absurd (true_not_false (sym (due_yes n m' o g) ∙ ap (is_due n) (eqb-true m' m q) ∙ e))
      go m' h o g false q = let d = eqb-false m' m q in f.right m' (omega arith) o g

  pub filled_turn : (ws' : List Float) (bs' : List ℕ) → ws' ≡ filled_costs n m ws → bs' ≡ filled_partners n m ws bs
      → Filled n (m + 1) ws₀ ws' bs' × (length ws' ≡ length ws) × (length bs' ≡ length bs)
  unfolding filled_costs filled_partners new
  filled_turn ws' bs' e g = rw (e, g) (go (is_due n m) refl)
    where
      go : (t : Bool) → is_due n m ≡ t
          → Filled n (m + 1) ws₀ (elim t [ true ↦ set ws m new.cost | false ↦ ws ]) (elim t [ true ↦ set bs m new.at | false ↦ bs ])
          × (length {A = Float} (elim t as (λ (x : Bool). List Float) [ true ↦ set ws m new.cost | false ↦ ws ]) ≡ length ws)
          × (length {A = ℕ} (elim t as (λ (x : Bool). List ℕ) [ true ↦ set bs m new.at | false ↦ bs ]) ≡ length bs)
      go true q = (set_right q, length-set ws m new.cost, length-set bs m new.at)
      go false q = (same_right q, refl, refl)

-- ---- the next mask

pub next_skip : (n m i e p : ℕ) → i ≡ low m → 2 ^ i ≤ m → e ≤ i → p ≡ 2 ^ e → ones m + 2 * e + 2 ≤ n → Next n m (m + p)
next_skip n m i e p is h l g few =
    let some = pow_pos e in
    let small = pow_mono {i = e} {j = i} l in
    record { later = omega arith; near = omega arith; skipped = λ k a b w. go k a b w }
  where
    go : (k : ℕ) → m < k → k < m + p → Needed n k → ⊥
    go k a b w = let s : k ≡ m + (k - m) = omega arith in needed_more n m (k - m) e (omega arith) (omega arith) (omega arith) few (subst (Needed n) s w)

pub next_one : (n m : ℕ) → 0 < m → Next n m (m + 1)
next_one n m p = record { later = omega arith; near = omega arith; skipped = λ k l b w. omega arith }

pub filled_next : (n m r : ℕ) (ws₀ ws : List Float) (bs : List ℕ) → Filled n (m + 1) ws₀ ws bs → Next n m r → Filled n r ws₀ ws bs
filled_next n m r ws₀ ws bs f x = record { right = λ m' h o g. go m' h o g (ltb m' (m + 1)) refl; kept = f.kept }
  where
    go : (m' : ℕ) → m' < r → ones m' % 2 ≡ 0 → Needed n m' → (t : Bool) → ltb m' (m + 1) ≡ t → Entry n (matrix n ws₀) m' (get_or ws m' nan) (get_or bs m' 0)
    go m' h o g true q = f.right m' (ltb-true m' (m + 1) q) o g
    go m' h o g false q = let l = ltb-false m' (m + 1) q in absurd (x.skipped m' (omega arith) h g)

pub filled_enough : (n m k : ℕ) (ws₀ ws : List Float) (bs : List ℕ) → k ≤ m → Filled n m ws₀ ws bs → Filled n k ws₀ ws bs
filled_enough n m k ws₀ ws bs l f = record { right = λ m' h o g. f.right m' (omega arith) o g; kept = f.kept }

-- ---- before the first turn

empty_cost : (n : ℕ) (d : ℕ → ℕ → Float) → (pairing n d 0).cost ≡ zero_length
unfolding match_all
empty_cost n d = ap (λ (l : List ℕ). (match_all n d l).cost) (places_none n) ∙ go n
  where
    go : (k : ℕ) → (match_all k d []).cost ≡ zero_length
    go zero = refl
    go (suc k) = refl

-- no pairs cost 0
pub filled_first : (n : ℕ) (ws : List Float) (bs : List ℕ) → get_or ws 0 nan ≡ zero_length → Filled n 1 ws ws bs
filled_first n ws bs e = record { right = λ m h o g. go m h; kept = refl }
  where
    go : (m : ℕ) → m < 1 → Entry n (matrix n ws) m (get_or ws m nan) (get_or bs m 0)
    go zero h = record { cost = e ∙ sym (empty_cost n (matrix n ws)); partner = λ p. absurd (omega arith) }
    go (suc m) h = absurd (omega arith)

pub zero_set : (ws : List Float) → 0 < length ws → get_or (set ws 0 (of_bits binary64 0)) 0 nan ≡ zero_length
zero_set ws h = get_or-set_same ws 0 (of_bits binary64 0) nan h ∙ zero_bits binary64

-- the cost of no pairs is none of the distances
pub filled_all : (n m : ℕ) (ws₀ ws : List Float) (bs : List ℕ) (c : Float) → Filled n m (set ws₀ 0 c) ws bs → Filled n m ws₀ ws bs
filled_all n m ws₀ ws bs c f =
    let e : matrix n (set ws₀ 0 c) ≡ matrix n ws₀ = matrix_set n 0 ws₀ c (pow_pos n) in
    record { right = subst (λ (d : ℕ → ℕ → Float). Right n d (costs ws) (partner_in bs) m) e f.right; kept = f.kept ∙ e }
