-- Sums over the edges that the walk has not used. One kind of sum counts free degrees, each edge once, the steps left and steps between two nodes.
use mathlib.Core.Path.{◌≡◌, refl, ap}
use mathlib.Core.List.{List, [], ◌∷◌}
use mathlib.Core.Bool.{Bool, true, false, true≢false}
use Prim.Native.Nat.{ℕ, zero, suc, ◌+◌, ◌<◌, suc-le-suc}
use native.Mathlib.Nat.{add-zero, add-suc, suc-add, not-suc-le-zero, le_of_suc-le-suc, zero-lt-suc}
use native.Mathlib.Omega.{arith}
use lib.ListN.{length, get_or, set, replicate}
use Rattle.graph_spec.specs.Graph.{Edge}
use Rattle.graph_spec.proofs.EdgesAt.{edge_at}
use Rattle.graph_spec.specs.Count.{sum_over}

-- what an edge counts, by its number and its ends
abbrev pub Weight : Type 0
Weight = ℕ → Edge → ℕ

-- summed over all edges, the first of which has the number i
unfoldable pub all_sum : Weight → ℕ → List Edge → ℕ
all_sum g i [] = 0
all_sum g i (e ∷ es) = g i e + all_sum g (suc i) es

-- summed over the edges that are not used
unfoldable pub free_sum : Weight → ℕ → List Edge → List Bool → ℕ
free_sum g i [] used = 0
free_sum g i (e ∷ es) [] = 0
free_sum g i (e ∷ es) (false ∷ used) = g i e + free_sum g (suc i) es used
free_sum g i (e ∷ es) (true ∷ used) = free_sum g (suc i) es used

abbrev pub is_free : List Bool → ℕ → Type 0
is_free used j = get_or used j true ≡ false

-- an edge that is used now is not free
pub used_set : (used : List Bool) (j : ℕ) → get_or (set used j true) j true ≡ true
used_set [] j = refl
used_set (b ∷ used) zero = refl
used_set (b ∷ used) (suc j) = used_set used j

-- and leaves the sum
pub free_sum_use : (g : Weight) (i : ℕ) (es : List Edge) (used : List Bool) (j : ℕ) → j < length es → is_free used j
    → free_sum g i es used ≡ g (i + j) (edge_at es j) + free_sum g i es (set used j true)
unfolding free_sum
free_sum_use g i [] used j l h = absurd (not-suc-le-zero l)
free_sum_use g i (e ∷ es) [] j l h = absurd (true≢false h)
free_sum_use g i (e ∷ es) (false ∷ used) zero l h = rw add-zero
free_sum_use g i (e ∷ es) (true ∷ used) zero l h = absurd (true≢false h)
free_sum_use g i (e ∷ es) (false ∷ used) (suc j) l h =
    rw (add-suc, ← suc-add) (omega (arith, free_sum_use g (suc i) es used j (le_of_suc-le-suc l) h))
free_sum_use g i (e ∷ es) (true ∷ used) (suc j) l h = rw (add-suc, ← suc-add) (free_sum_use g (suc i) es used j (le_of_suc-le-suc l) h)

-- no edge that is free counts anything
pub free_sum_none : (g : Weight) (i : ℕ) (es : List Edge) (used : List Bool) → ((j : ℕ) → j < length es → is_free used j → g (i + j) (edge_at es j) ≡ 0) → free_sum g i es used ≡ 0
unfolding free_sum
free_sum_none g i [] used h = refl
free_sum_none g i (e ∷ es) [] h = refl
free_sum_none g i (e ∷ es) (false ∷ used) h =
    omega (arith, rw add-zero at (h 0 (zero-lt-suc (length es)) refl), free_sum_none g (suc i) es used (λ j l f. rw (suc-add, ← add-suc) (h (suc j) (suc-le-suc l) f)))
free_sum_none g i (e ∷ es) (true ∷ used) h = free_sum_none g (suc i) es used (λ j l f. rw (suc-add, ← add-suc) (h (suc j) (suc-le-suc l) f))

-- before the walk
pub free_sum_all : (g : Weight) (i : ℕ) (es : List Edge) → free_sum g i es (replicate (length es) false) ≡ all_sum g i es
unfolding free_sum all_sum
free_sum_all g i [] = refl
free_sum_all g i (e ∷ es) = ap (λ (n : ℕ). g i e + n) (free_sum_all g (suc i) es)

-- where an edge counts by its ends alone
pub all_sum_ends : (h : Edge → ℕ) (i : ℕ) (es : List Edge) → all_sum (λ (k : ℕ) (e : Edge). h e) i es ≡ sum_over h es
unfolding all_sum sum_over
all_sum_ends h i [] = refl
all_sum_ends h i (e ∷ es) = ap (λ (n : ℕ). h e + n) (all_sum_ends h (suc i) es)
