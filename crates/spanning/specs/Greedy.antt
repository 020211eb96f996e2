-- Along the edges in their order an edge is kept whose two vertices those kept before do not yet put into one group (Kruskal, Proc. AMS 7, 1956).
use mathlib.Core.List.{List, [], ◌∷◌}
use Rattle.std.proofs.Math.Bool.{true, false}
use Rattle.std.specs.Prelude.{ℕ, min, max, eqb}

-- `group v` is the number of the group that the vertex v is in; here the group y goes into the group x
unfoldable pub relabel : (ℕ → ℕ) → ℕ → ℕ → ℕ → ℕ
relabel group x y v = let p = group v in elim (eqb p y) [ true ↦ x | false ↦ p ]

-- the groups a and b become one, with the lower number
abbrev pub unite : (ℕ → ℕ) → ℕ → ℕ → ℕ → ℕ
unite group a b = relabel group (min a b) (max a b)

module _ {A : Type 0} (low high : A → ℕ) where
  unfoldable pub kept : (ℕ → ℕ) → List A → List A
  unfolding relabel
  kept group [] = []
  kept group (k ∷ ks) =
      let a = group (low k) in
      let b = group (high k) in
      elim (eqb a b) [ true ↦ kept group ks | false ↦ k ∷ kept (unite group a b) ks ]

  -- at first each vertex is a group of its own
  abbrev pub kept_of : List A → List A
  kept_of ks = kept (λ (v : ℕ). v) ks
