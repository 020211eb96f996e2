-- Laws of specs/Table.
use mathlib.Core.Path.{◌≡◌, refl, sym, ap, ◌∙◌}
use Prim.Native.Nat.{ℕ, zero, suc, ◌+◌, ◌-◌, ◌≤◌, ◌<◌}
use mathlib.Core.Logic.{inl, inr}
use mathlib.Core.List.{List}
use mathlib.Core.Bool.{Bool, true, false, cond}
use lib.ListN.{get_or, set}
use Rattle.std.proofs.Common.{Some, None}
use Rattle.std.proofs.lemmas.Option.{none-some, same_Some}
use borrow.Author.Tests.{lt-ltb, le-ltb, eq-eqb, ne_eqb}
use native.Mathlib.Decide.{dec_le}
use native.Mathlib.Omega.{arith}
use Rattle.limits.specs.Limits.{most_nodes}
use Rattle.graph_nodes.specs.Table.{HasRoom, Table, count_with, found_in, hash_of, inserted, is_at, number_in, seek, known, table, table_with}

pub count_new : (n number : ℕ) → number ≡ n → count_with n number ≡ n + 1
unfolding count_with
count_new n number h = ap (λ (b : Bool). cond b (n + 1) n) (eq-eqb number n h)

pub count_old : (n number : ℕ) → (number ≡ n → ⊥) → count_with n number ≡ n
unfolding count_with
count_old n number h = ap (λ (b : Bool). cond b (n + 1) n) (ne_eqb number n h)

-- ---- laws of following

module _ (xs ys ns : List ℕ) (x y : ℕ) where
  pub seek_hit : (fuel i : ℕ) → 0 < fuel → i < most_nodes → is_at xs ys x y i ≡ true → seek fuel xs ys ns x y i ≡ i
  unfolding seek
  seek_hit zero i f h e = absurd (omega arith)
  seek_hit (suc fuel) i f h e =
      ap (λ (t : Bool). cond t (cond (is_at xs ys x y i) i (seek fuel xs ys ns x y (get_or ns i 0))) most_nodes) (lt-ltb i most_nodes h)
      ∙ ap (λ (t : Bool). cond t i (seek fuel xs ys ns x y (get_or ns i 0))) e

  pub seek_on : (fuel i : ℕ) → 0 < fuel → i < most_nodes → is_at xs ys x y i ≡ false → seek fuel xs ys ns x y i ≡ seek (fuel - 1) xs ys ns x y (get_or ns i 0)
  unfolding seek
  seek_on zero i f h e = absurd (omega arith)
  seek_on (suc fuel) i f h e =
      let less : fuel ≡ suc fuel - 1 = omega arith in
      ap (λ (t : Bool). cond t (cond (is_at xs ys x y i) i (seek fuel xs ys ns x y (get_or ns i 0))) most_nodes) (lt-ltb i most_nodes h)
      ∙ ap (λ (t : Bool). cond t i (seek fuel xs ys ns x y (get_or ns i 0))) e ∙ ap (λ (k : ℕ). seek k xs ys ns x y (get_or ns i 0)) less

  pub seek_none : (fuel i : ℕ) → most_nodes ≤ i → seek fuel xs ys ns x y i ≡ most_nodes
  unfolding seek
  seek_none zero i h = refl
  seek_none (suc fuel) i h = ap (λ (t : Bool). cond t (cond (is_at xs ys x y i) i (seek fuel xs ys ns x y (get_or ns i 0))) most_nodes) (le-ltb i most_nodes h)

  pub seek_end : (fuel i : ℕ) → fuel ≡ 0 → seek fuel xs ys ns x y i ≡ most_nodes
  unfolding seek
  seek_end fuel i h = ap (λ (k : ℕ). seek k xs ys ns x y i) h

  pub seek_turn : (fuel i i' r : ℕ) → 0 < fuel → i < most_nodes → is_at xs ys x y i ≡ false → i' ≡ get_or ns i 0 → seek fuel xs ys ns x y i ≡ r → seek (fuel - 1) xs ys ns x y i' ≡ r
  seek_turn fuel i i' r f h e n k = ap (seek (fuel - 1) xs ys ns x y) n ∙ sym (seek_on fuel i f h e) ∙ k

-- ---- a node by its number, where there is one

pub known_at : (k i : ℕ) → k ≡ i → i < most_nodes → Some i ≡ known k
known_at k i e h = ap (λ (n : ℕ). Some n) (sym e) ∙ sym (ap (λ (t : Bool). cond t (Some k) None) (lt-ltb k most_nodes (omega arith)))

pub known_not : (k : ℕ) → most_nodes ≤ k → None ≡ known k
known_not k h = sym (ap (λ (t : Bool). cond t (Some k) None) (le-ltb k most_nodes h))

pub known_none : {m k : ℕ} → m ≡ most_nodes → m ≡ k → None ≡ known k
known_none h e = known_not _ (omega arith)

pub known_low : (k v : ℕ) → known k ≡ Some v → (v ≡ k) × (v < most_nodes)
known_low k v e = elim (dec_le (suc k) most_nodes) [ yes h ↦ let s : v ≡ k = same_Some _ _ (sym e ∙ sym (known_at k k refl h)) in (s, omega arith) | no h ↦ absurd (none-some v (known_not k (omega arith) ∙ e)) ]

pub known_high : (k : ℕ) → known k ≡ None → most_nodes ≤ k
known_high k e = elim (dec_le (suc k) most_nodes) [ yes h ↦ absurd (none-some k (sym e ∙ sym (known_at k k refl h))) | no h ↦ omega arith ]

pub inserted_is : (n x y h : ℕ) (t : Table) → h ≡ hash_of x y
    → table (set t.xs n x) (set t.ys n y) (set t.next n (get_or t.buckets h 0)) (set t.buckets h n) ≡ inserted n x y t
unfolding inserted
inserted_is n x y h t e = ap (λ (k : ℕ). table (set t.xs n x) (set t.ys n y) (set t.next n (get_or t.buckets k 0)) (set t.buckets k n)) e

-- ---- laws of the two cases

module _ (n x y : ℕ) (t : Table) where
  pub number_found : found_in n x y t < most_nodes → number_in n x y t ≡ found_in n x y t
  unfolding number_in
  number_found h = ap (λ (b : Bool). cond b (found_in n x y t) n) (lt-ltb _ _ h)

  pub number_new : most_nodes ≤ found_in n x y t → number_in n x y t ≡ n
  unfolding number_in
  number_new h = ap (λ (b : Bool). cond b (found_in n x y t) n) (le-ltb _ _ h)

  pub with_found : found_in n x y t < most_nodes → table_with n x y t ≡ t
  unfolding table_with
  with_found h = ap (λ (b : Bool). cond b t (inserted n x y t)) (lt-ltb _ _ h)

  pub with_new : most_nodes ≤ found_in n x y t → table_with n x y t ≡ inserted n x y t
  unfolding table_with
  with_new h = ap (λ (b : Bool). cond b t (inserted n x y t)) (le-ltb _ _ h)

  room_new : HasRoom n x y t → most_nodes ≤ found_in n x y t → n < most_nodes
  room_new (inl f) h = absurd (omega arith)
  room_new (inr f) h = f

  -- the answer is a node
  pub number_low : HasRoom n x y t → number_in n x y t < most_nodes
  number_low r = elim (dec_le (suc (found_in n x y t)) most_nodes) [ yes h ↦ omega (arith, number_found h) | no h ↦ let high : most_nodes ≤ found_in n x y t = omega arith in omega (arith, number_new high, room_new r high) ]

-- what the two ways through the code answer
module _ (n x y : ℕ) (t : Table) (h start found : ℕ) (hh : h ≡ hash_of x y) (hs : start ≡ get_or t.buckets h 0)
    (hf : found ≡ seek n t.xs t.ys t.next x y start) where
  found_is : found ≡ found_in n x y t
  found_is = hf ∙ ap (seek n t.xs t.ys t.next x y) (hs ∙ ap (λ (k : ℕ). get_or t.buckets k 0) hh)

  pub old_node : found < most_nodes → (found ≡ number_in n x y t) × (t ≡ table_with n x y t)
  old_node f = let low : found_in n x y t < most_nodes = omega (arith, found_is) in (found_is ∙ sym (number_found n x y t low), sym (with_found n x y t low))

  pub room_left : most_nodes ≤ found → HasRoom n x y t → n < most_nodes
  room_left f r = room_new n x y t r (omega (arith, found_is))

  pub new_node : most_nodes ≤ found → (t' : Table) → t' ≡ inserted n x y t → (n ≡ number_in n x y t) × (t' ≡ table_with n x y t)
  new_node f t' e = let high : most_nodes ≤ found_in n x y t = omega (arith, found_is) in (sym (number_new n x y t high), e ∙ sym (with_new n x y t high))
