-- Numbers in bytes: in two parts, and in the front of a list. Assumes nothing.
use Prim.Native.Nat.{ℕ, zero, suc, ◌+◌, ◌-◌, ◌*◌, ◌^◌, ◌≤◌}
use native.Mathlib.Nat.{add-zero, zero-add, suc-add, pow-zero, pow-succ', mul_assoc, one-mul, sub-zero, zero-sub, suc-sub-suc}
use native.Mathlib.Numerals.{one-add}
use native.Mathlib.Omega.{arith}
use mathlib.Core.Path.{◌≡◌, refl, sym, ap, ◌∙◌}
use mathlib.Core.List.{List, [], ◌∷◌}
use lib.ListN.{get_or, take, drop}
use lib.Seq.{drop-drop, get_or-take, get_or-drop}
use Rattle.drawing_spec.specs.Bytes.{number}

-- the number in a + b bytes, from its lower and its higher part
pub number_parts : (a b : ℕ) (bs : List ℕ) → number (a + b) bs ≡ number a bs + 256 ^ a * number b (drop a bs)
unfolding number
number_parts zero b bs = rw (zero-add b, pow-zero, one-mul, zero-add)
number_parts (suc a) b bs =
    let ih = number_parts a b (drop 1 bs) in
    let d : drop (suc a) bs ≡ drop a (drop 1 bs) = ap (λ (k : ℕ). drop k bs) (sym (one-add a)) ∙ sym (drop-drop a 1 bs) in
    let e : 256 ^ suc a * number b (drop (suc a) bs) ≡ 256 * (256 ^ a * number b (drop a (drop 1 bs))) =
    ap (λ (k : ℕ). k * number b (drop (suc a) bs)) (pow-succ' 256 a) ∙ mul_assoc 256 (256 ^ a) (number b (drop (suc a) bs)) ∙ ap (λ (l : List ℕ). 256 * (256 ^ a * number b l)) d in
    rw (suc-add a b) (omega arith)

pub number_parts_at : (a b at : ℕ) (bs : List ℕ) → number (a + b) (drop at bs) ≡ number a (drop at bs) + 256 ^ a * number b (drop (at + a) bs)
number_parts_at a b at bs = number_parts a b (drop at bs) ∙ ap (λ (l : List ℕ). number a (drop at bs) + 256 ^ a * number b l) (drop-drop a at bs)

-- what is left of a front
pub drop_take : (k m : ℕ) (bs : List ℕ) → drop k (take m bs) ≡ take (m - k) (drop k bs)
drop_take zero m bs = rw (sub-zero m)
drop_take (suc k) zero bs = rw (zero-sub (suc k))
drop_take (suc k) (suc m) [] = rw (suc-sub-suc m k) (sym (empty (m - k)))
  where
    empty : (n : ℕ) → take {A = ℕ} n [] ≡ []
    empty zero = refl
    empty (suc n) = refl
drop_take (suc k) (suc m) (b ∷ bs) = rw (suc-sub-suc m k) (drop_take k m bs)

-- bytes behind a number do not change it
pub number_front : (n m : ℕ) (bs : List ℕ) → n ≤ m → number n (take m bs) ≡ number n bs
unfolding number
number_front zero m bs h = refl
number_front (suc n) m bs h =
    let ih = number_front n (m - 1) (drop 1 bs) (omega arith) in
    let e = ap (number n) (drop_take 1 m bs) in
    let g = get_or-take m bs 0 0 (omega arith) in
    omega arith

-- and so at any place of the front
pub number_front_at : (n k m : ℕ) (bs : List ℕ) → k + n ≤ m → number n (drop k (take m bs)) ≡ number n (drop k bs)
number_front_at n k m bs h = ap (number n) (drop_take k m bs) ∙ number_front n (m - k) (drop k bs) (omega arith)

-- ---- the widths that a file has

pub number_one : (at : ℕ) (bs : List ℕ) → number 1 (drop at bs) ≡ get_or bs at 0
unfolding number
number_one at bs = rw (get_or-drop at bs 0 0, add-zero at, add-zero)

pub number_two : (at : ℕ) (bs : List ℕ) → number 2 (drop at bs) ≡ get_or bs at 0 + 256 * get_or bs (at + 1) 0
number_two at bs = number_parts_at 1 1 at bs ∙ rw (number_one at bs, number_one (at + 1) bs)

number_two_on : (at k : ℕ) (bs : List ℕ) → number 2 (drop (at + k) bs) ≡ get_or bs (at + k) 0 + 256 * get_or bs (at + (k + 1)) 0
number_two_on at k bs = number_two (at + k) bs ∙ ap (λ (n : ℕ). get_or bs (at + k) 0 + 256 * get_or bs n 0) (omega arith)

number_four_on : (at k : ℕ) (bs : List ℕ)
    → number 4 (drop (at + k) bs)
    ≡ get_or bs (at + k) 0 + 256 * get_or bs (at + (k + 1)) 0 + 65536 * (get_or bs (at + (k + 2)) 0 + 256 * get_or bs (at + (k + 3)) 0)
number_four_on at k bs =
    let e : at + k + 2 ≡ at + (k + 2) = omega arith in
    let f : at + (k + 2 + 1) ≡ at + (k + 3) = omega arith in
    omega (arith, number_parts_at 2 2 (at + k) bs, number_two_on at k bs, ap (λ (n : ℕ). number 2 (drop n bs)) e, number_two_on at (k + 2) bs, ap (λ (n : ℕ). get_or bs n 0) f)

pub number_four : (at : ℕ) (bs : List ℕ) → number 4 (drop at bs) ≡ get_or bs at 0 + 256 * get_or bs (at + 1) 0 + 65536 * (get_or bs (at + 2) 0 + 256 * get_or bs (at + 3) 0)
number_four at bs = omega (arith, number_parts_at 2 2 at bs, number_two at bs, number_two_on at 2 bs)

pub number_eight : (at : ℕ) (bs : List ℕ)
    → number 8 (drop at bs)
    ≡ get_or bs at 0 + 256 * get_or bs (at + 1) 0 + 65536 * (get_or bs (at + 2) 0 + 256 * get_or bs (at + 3) 0)
    + 4294967296 * (get_or bs (at + 4) 0 + 256 * get_or bs (at + 5) 0 + 65536 * (get_or bs (at + 6) 0 + 256 * get_or bs (at + 7) 0))
number_eight at bs = omega (arith, number_parts_at 4 4 at bs, number_four at bs, number_four_on at 4 bs)
