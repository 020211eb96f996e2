-- Some of the nodes listed in an array, in ascending order, one behind the other: those that pass a test. What the array held before is written over.
use mathlib.Core.Path.{◌≡◌, sym, ap, ap₂, subst, ◌∙◌}
use mathlib.Core.Bool.{Bool, true, false}
use mathlib.Core.List.{List, [], ◌∷◌, ◌++◌}
use Prim.Native.Nat.{ℕ, zero, suc, ◌+◌, ◌-◌, ◌≤◌, ◌<◌}
use native.Mathlib.Nat.{zero-add}
use native.Mathlib.Numerals.{add-one}
use native.Mathlib.Omega.{arith}
use lib.ListN.{length, set, take, drop}
use lib.Seq.{sets, sets-eq, take-append_seam}
use Rattle.graph_arrays.specs.Arrays.{Front}

-- `from k v` are those of the k nodes from v on that pass the test
pub record Chosen (from : ℕ → ℕ → List ℕ) (test : ℕ → Bool) : Type 0 where
  pub nil : (v : ℕ) → from 0 v ≡ []
  pub step : (k v : ℕ) → from (suc k) v ≡ elim (test v) [ true ↦ v ∷ from k (suc v) | false ↦ from k (suc v) ]

-- What is left, from the node v on, listed behind what is listed, gives the list of all.
pub record Listing (from : ℕ → ℕ → List ℕ) (before : List ℕ) (n v : ℕ) (array : List ℕ) (count : ℕ) : Type 0 where
  pub is : sets array count (from (n - v) v) ≡ sets before 0 (from n 0)
  pub counted : count + length (from (n - v) v) ≡ length (from n 0)

pub listing_start : (from : ℕ → ℕ → List ℕ) (before : List ℕ) (n : ℕ) → Listing from before n 0 before 0
listing_start from before n =
    let all : n - 0 ≡ n = omega arith in
    record { is = rw all; counted = rw all (zero-add _) }

module _ (from : ℕ → ℕ → List ℕ) (test : ℕ → Bool) (C : Chosen from test) where
  from_few : (k v : ℕ) → length (from k v) ≤ k
  from_few zero v = rw (C.nil v) (omega arith)
  from_few (suc k) v = subst (λ (vs : List ℕ). length vs ≤ suc k) (sym (C.step k v)) (go (test v) (from_few k (suc v)))
    where
      go : (t : Bool) → length (from k (suc v)) ≤ k → length {A = ℕ} (elim t [ true ↦ v ∷ from k (suc v) | false ↦ from k (suc v) ]) ≤ suc k
      go true h = omega arith
      go false h = omega arith

  -- no node is listed twice
  pub chosen_few : (n : ℕ) → length (from n 0) ≤ n
  chosen_few n = from_few n 0

  module _ (before : List ℕ) (n v : ℕ) (array array' : List ℕ) (count count' : ℕ) (h : v < n) (l : Listing from before n v array count) where
    left : (t : Bool) → test v ≡ t → from (n - v) v ≡ elim t [ true ↦ v ∷ from (n - (v + 1)) (v + 1) | false ↦ from (n - (v + 1)) (v + 1) ]
    left t e =
        let one_less : n - v ≡ suc (n - (v + 1)) = omega arith in
        ap (λ (k : ℕ). from k v) one_less ∙ C.step (n - (v + 1)) v
        ∙ ap₂ (λ (b : Bool) (u : ℕ). elim b [ true ↦ v ∷ from (n - (v + 1)) u | false ↦ from (n - (v + 1)) u ]) e (sym (add-one v))

    -- the node v is one of them
    pub listing_one : array' ≡ set array count v → count' ≡ count + 1 → test v ≡ true → Listing from before n (v + 1) array' count'
    listing_one ea ec one =
        let rest = from (n - (v + 1)) (v + 1) in
        rw (ea, ec) (record {
          is = ap (λ (i : ℕ). sets (set array count v) i rest) (add-one count) ∙ sym (ap (λ (vs : List ℕ). sets array count vs) (left true one)) ∙ l.is;
          counted = omega (arith, l.counted, ap (λ (vs : List ℕ). length vs) (left true one));
        })

    -- or not
    pub listing_none : array' ≡ array → count' ≡ count → test v ≡ false → Listing from before n (v + 1) array' count'
    listing_none ea ec none =
        rw (ea, ec) (record {
          is = sym (ap (λ (vs : List ℕ). sets array count vs) (left false none)) ∙ l.is;
          counted = omega (arith, l.counted, ap (λ (vs : List ℕ). length vs) (left false none));
        })

  pub listing_end : (before : List ℕ) (n v : ℕ) (array : List ℕ) (count : ℕ) → n ≤ length before → n ≤ v → Listing from before n v array count → Front (from n 0) array count
  listing_end before n v array count few h l =
      let over : n - v ≡ 0 = omega arith in
      let e = ap (λ (k : ℕ). from k v) over ∙ C.nil v in
      let all : array ≡ from n 0 ++ drop (0 + length (from n 0)) before =
      sym (ap (λ (us : List ℕ). sets array count us) e) ∙ l.is ∙ sets-eq (from n 0) before 0 (omega (arith, chosen_few n)) in
      let counts : count ≡ length (from n 0) = omega (arith, l.counted, ap (λ (us : List ℕ). length us) e) in
      record { counts = counts; are = ap₂ take counts all ∙ take-append_seam (from n 0) (drop (0 + length (from n 0)) before) }
