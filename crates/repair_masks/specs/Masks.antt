-- A set of places as a bit mask: the list of its places, its lowest place, and the set without one of them.
use Rattle.std.specs.Prelude.{ℕ, zero, suc, ◌/◌, ◌%◌, ◌≡◌, List, [], ◌∷◌, true, false, eqb}
use Rattle.std.specs.Int.Count.{count_trailing_zeros}

-- the places of the set bits among k bits of m, lowest first, where the lowest is for the place i
unfoldable pub bits : ℕ → ℕ → ℕ → List ℕ
bits zero i m = []
bits (suc k) i m = elim (eqb (m % 2) 1) [ true ↦ i ∷ bits k (suc i) (m / 2) | false ↦ bits k (suc i) (m / 2) ]

-- the bit i of m is set
abbrev pub Bit : ℕ → ℕ → Type 0
Bit zero m = m % 2 ≡ 1
Bit (suc i) m = Bit i (m / 2)

-- ---- the lowest bit

-- of a number of w digits
abbrev pub lowest : ℕ → ℕ → ℕ
lowest w m = count_trailing_zeros w m

-- ---- the places of a mask of n bits

abbrev pub places_of : ℕ → ℕ → List ℕ
places_of n m = bits n 0 m
