-- Laws of specs/PairsIn.
use mathlib.Core.Path.{◌≡◌, refl, sym, ap, ◌∙◌}
use mathlib.Core.List.{List, [], ◌∷◌, ◌++◌}
use Prim.Native.Nat.{ℕ, zero, suc, ◌+◌, ◌≤◌, ◌<◌}
use native.Mathlib.Nat.{add-suc, suc-add}
use native.Mathlib.Numerals.{add-one}
use native.Mathlib.Omega.{arith}
use lib.ListN.{length, get_or, set, length-set}
use lib.Seq.{get_or-set_same, get_or-set_other}
use Rattle.limits.specs.Limits.{most_pairs}
use Rattle.repair_spec.specs.Pairing.{Pair, pair}
use Rattle.repair_spec.specs.PairsIn.{pairs_in, PairRoom}

pub pairs_count : (fs ss : List ℕ) (i k : ℕ) → length (pairs_in fs ss i k) ≡ k
unfolding pairs_in
pairs_count fs ss i zero = refl
pairs_count fs ss i (suc k) = ap suc (pairs_count fs ss (suc i) k)

-- what is written behind the pairs is none of them
kept : (fs ss : List ℕ) (i k at u v : ℕ) → i + k ≤ at → pairs_in (set fs at u) (set ss at v) i k ≡ pairs_in fs ss i k
unfolding pairs_in
kept fs ss i zero at u v h = refl
kept fs ss i (suc k) at u v h =
    let off : i ≡ at → ⊥ = λ e. omega arith in
    rw (get_or-set_other fs at i u 0 off, get_or-set_other ss at i v 0 off, kept fs ss (suc i) k at u v (omega arith))

last : (fs ss : List ℕ) (i k : ℕ) → pairs_in fs ss i (suc k) ≡ pairs_in fs ss i k ++ (pair (get_or fs (i + k) 0) (get_or ss (i + k) 0) ∷ [])
unfolding pairs_in
last fs ss i zero = let e : i + 0 ≡ i = omega arith in ap (λ (j : ℕ). pair (get_or fs j 0) (get_or ss j 0) ∷ []) (sym e)
last fs ss i (suc k) =
    let e : suc i + k ≡ i + suc k = suc-add i k ∙ sym (add-suc i k) in
    ap (λ (ps : List Pair). pair (get_or fs i 0) (get_or ss i 0) ∷ ps)
    (last fs ss (suc i) k ∙ ap (λ (j : ℕ). pairs_in fs ss (suc i) k ++ (pair (get_or fs j 0) (get_or ss j 0) ∷ [])) e)

-- one pair more
module _ (fs ss : List ℕ) (R : PairRoom fs ss) (k u v : ℕ) (room : k < most_pairs) where
  pub pairs_more : pairs_in (set fs k u) (set ss k v) 0 (k + 1) ≡ pairs_in fs ss 0 k ++ (pair u v ∷ [])
  pairs_more =
      let e : 0 + k ≡ k = omega arith in
      ap (pairs_in (set fs k u) (set ss k v) 0) (add-one k)
      ∙ last (set fs k u) (set ss k v) 0 k
      ∙ rw (e, kept fs ss 0 k k u v (omega arith), get_or-set_same fs k u 0 (omega (arith, R.firsts_long)), get_or-set_same ss k v 0 (omega (arith, R.seconds_long)))

  pub room_more : PairRoom (set fs k u) (set ss k v)
  room_more = record { firsts_long = omega (arith, R.firsts_long, length-set fs k u); seconds_long = omega (arith, R.seconds_long, length-set ss k v) }
