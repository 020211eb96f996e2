-- Laws of specs/Marks: a bit that is set changes no other mark. Assumes nothing.
use mathlib.Core.Path.{◌≡◌, sym, ap, ◌∙◌}
use mathlib.Core.List.{List}
use mathlib.Core.Bool.{Bool, true, false}
use Prim.Native.Nat.{ℕ, suc, ◌+◌, ◌-◌, ◌*◌, ◌/◌, ◌%◌, ◌^◌, ◌≤◌, ◌<◌, max}
use native.Mathlib.Nat.{max-zero, max-eq_left, max_comm, max-le, div_self, div-eq_of_lt, zero-div}
use native.Mathlib.Decide.{ℕ_discrete, dec_le}
use native.Mathlib.Omega.{arith}
use lib.ListN.{length, get_or, set, replicate, length-set, length-replicate}
use lib.Seq.{get_or-set_same, get_or-set_other, ext_get_or}
use lib.Dec.{eqb}
use lib.Arith.{digits_mod}
use lib.Bits.{bit_or, or_step, or_shr}
use lib.Pow.{pow_pos, pow-lt, pow-add, shl-shr, shl_exact}
use borrow.Author.Tests.{eq-eqb}
use Rattle.limits.specs.Limits.{edge_room}
use Rattle.lists.proofs.Elements.{get_d_same}
use Rattle.lists.proofs.Tabulate.{tabulate_length, tabulate_at}
use Rattle.walk_marks.specs.Marks.{words, bit, mark_at, marks_in}

-- ---- the bits of a word

-- a bit of either number
or_bit : (w x k : ℕ) → bit_or w x / 2 ^ k % 2 ≡ max (w / 2 ^ k % 2) (x / 2 ^ k % 2)
or_bit w x k =
    let a = w / 2 ^ k in
    let b = x / 2 ^ k in
    ap (λ (n : ℕ). n % 2) (or_shr w x k ∙ or_step a b) ∙ digits_mod (bit_or (a / 2) (b / 2)) {m = 2} {r = max (a % 2) (b % 2)} (low (a % 2) (b % 2) (omega arith) (omega arith))
  where
    low : (p q : ℕ) → p ≤ 1 → q ≤ 1 → max p q < 2
    low p q h k = omega (arith, max-le h k)

power_same : (k : ℕ) → 2 ^ k / 2 ^ k % 2 ≡ 1
power_same k = ap (λ (n : ℕ). n % 2) (div_self (pow_pos k))

power_other : (j k : ℕ) → (k ≡ j → ⊥) → 2 ^ j / 2 ^ k % 2 ≡ 0
power_other j k h = elim (dec_le (suc j) k) [
  | yes l ↦ ap (λ (n : ℕ). n % 2) (div-eq_of_lt (pow-lt l))
  | no l ↦
      let d = j - k - 1 in
      let is : j ≡ suc d + k = omega arith in
      ap (λ (n : ℕ). 2 ^ n / 2 ^ k % 2) is ∙ ap (λ (n : ℕ). n / 2 ^ k % 2) (pow-add 2 (suc d) k) ∙ ap (λ (n : ℕ). n % 2) (shl-shr (2 ^ suc d) k) ∙ even d
]
  where
    even : (d : ℕ) → 2 ^ suc d % 2 ≡ 0
    even d = omega arith

bit_same : (w k : ℕ) → bit (bit_or w (2 ^ k)) k ≡ true
bit_same w k = eq-eqb _ 1 (or_bit w (2 ^ k) k ∙ ap (λ (n : ℕ). max (w / 2 ^ k % 2) n) (power_same k) ∙ max_comm (w / 2 ^ k % 2) 1 ∙ max-eq_left (omega arith))

bit_other : (w j k : ℕ) → (k ≡ j → ⊥) → bit (bit_or w (2 ^ j)) k ≡ bit w k
bit_other w j k h = ap (λ (n : ℕ). eqb n 1) (or_bit w (2 ^ j) k ∙ ap (λ (n : ℕ). max (w / 2 ^ k % 2) n) (power_other j k h) ∙ max-zero (w / 2 ^ k % 2))

-- the bit of the edge i alone, as code makes it
pub shifted_one : (i : ℕ) → (1 * 2 ^ (i % 64)) % 2 ^ 64 ≡ 2 ^ (i % 64)
shifted_one i = shl_exact {a = 1} 1 (i % 64) 64 (omega arith) (omega arith) ∙ omega arith

-- ---- the marks

pub mark_at_lem : (ws : List ℕ) (i : ℕ) (d : Bool) → i < edge_room → get_or (marks_in ws) i d ≡ mark_at ws i
mark_at_lem ws i d h = tabulate_at (mark_at ws) edge_room i d h

pub marks_long : (ws : List ℕ) → length (marks_in ws) ≡ edge_room
marks_long ws = tabulate_length (mark_at ws) edge_room 0

-- with no bit set no edge is marked
pub marks_none : marks_in (replicate words 0) ≡ replicate edge_room false
marks_none =
    let ws : List ℕ = replicate words 0 in
    ext_get_or false (marks_in ws) (replicate edge_room false) (marks_long ws ∙ sym (length-replicate {A = Bool} edge_room false))
    (λ i h. mark_at_lem ws i false (omega (arith, marks_long ws)) ∙ none i ∙ sym (get_d_same edge_room i false))
  where
    none : (i : ℕ) → mark_at (replicate words 0) i ≡ false
    none i = ap (λ (w : ℕ). bit w (i % 64)) (get_d_same words (i / 64) 0) ∙ ap (λ (n : ℕ). eqb (n % 2) 1) (zero-div (2 ^ (i % 64)))

-- the bit of the edge i set
module _ (ws : List ℕ) (long : length ws ≡ words) (i : ℕ) (h : i < edge_room) where
  abbrev word : ℕ
  word = bit_or (get_or ws (i / 64) 0) (2 ^ (i % 64))

  mark_same : mark_at (set ws (i / 64) word) i ≡ true
  mark_same = ap (λ (w : ℕ). bit w (i % 64)) (get_or-set_same ws (i / 64) word 0 (omega arith)) ∙ bit_same (get_or ws (i / 64) 0) (i % 64)

  mark_other : (j : ℕ) → (j ≡ i → ⊥) → mark_at (set ws (i / 64) word) j ≡ mark_at ws j
  mark_other j d = elim (ℕ_discrete (j / 64) (i / 64)) [
    | yes e ↦
        ap (λ (q : ℕ). bit (get_or (set ws (i / 64) word) q 0) (j % 64)) e ∙ ap (λ (w : ℕ). bit w (j % 64)) (get_or-set_same ws (i / 64) word 0 (omega arith))
        ∙ bit_other (get_or ws (i / 64) 0) (i % 64) (j % 64) (λ r. d (omega (arith, e, r))) ∙ ap (λ (q : ℕ). bit (get_or ws q 0) (j % 64)) (sym e)
    | no n ↦ ap (λ (w : ℕ). bit w (j % 64)) (get_or-set_other ws (i / 64) (j / 64) word 0 n)
  ]

  pub marks_set : marks_in (set ws (i / 64) (bit_or (get_or ws (i / 64) 0) (2 ^ (i % 64)))) ≡ set (marks_in ws) i true
  marks_set =
      let ws' = set ws (i / 64) word in
      let kept : length (set (marks_in ws) i true) ≡ edge_room = simp length-set (marks_long ws) in
      ext_get_or false (marks_in ws') (set (marks_in ws) i true) (marks_long ws' ∙ sym kept) (λ j l.
      let here : j < edge_room = omega (arith, marks_long ws') in
      mark_at_lem ws' j false here ∙ elim (ℕ_discrete j i) [
        | yes e ↦ rw e (mark_same ∙ sym (get_or-set_same (marks_in ws) i true false (omega (arith, marks_long ws))))
        | no d ↦ mark_other j d ∙ sym (get_or-set_other (marks_in ws) i j true false d ∙ mark_at_lem ws j false here)
      ])
