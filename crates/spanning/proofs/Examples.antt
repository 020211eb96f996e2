-- What is kept, worked out.
use mathlib.Core.Path.{◌≡◌, refl}
use mathlib.Core.List.{List, [], ◌∷◌}
use Prim.Native.Nat.{ℕ}
use Rattle.spanning.specs.Greedy.{kept, kept_of}

-- an edge by its two vertices
pub record Pair : Type 0 where
  pub low : ℕ
  pub high : ℕ

abbrev pair : ℕ → ℕ → Pair
pair l h = record { low = l; high = h }

abbrev kept_pairs : List Pair → List Pair
kept_pairs ks = kept_of (λ (k : Pair). k.low) (λ (k : Pair). k.high) ks

-- the third edge of a triangle goes
triangle : kept_pairs (pair 0 1 ∷ pair 1 2 ∷ pair 0 2 ∷ []) ≡ pair 0 1 ∷ pair 1 2 ∷ []
unfolding kept
triangle = refl

-- two groups that grow apart are joined later
joined_later : kept_pairs (pair 2 3 ∷ pair 0 1 ∷ pair 1 3 ∷ pair 0 2 ∷ []) ≡ pair 2 3 ∷ pair 0 1 ∷ pair 1 3 ∷ []
unfolding kept
joined_later = refl
