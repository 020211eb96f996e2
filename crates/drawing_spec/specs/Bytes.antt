-- Whole numbers in bytes, the lowest byte first, and bytes that are written.
use Rattle.std.specs.Prelude.{ℕ, zero, suc, ◌+◌, ◌*◌, ◌/◌, ◌%◌, List, [], ◌∷◌, ◌++◌, length, get_or, drop}

-- the number in the first n bytes
unfoldable pub number : ℕ → List ℕ → ℕ
number zero bs = 0
number (suc n) bs = get_or bs 0 0 + 256 * number n (drop 1 bs)

-- a number in n bytes
unfoldable pub bytes : ℕ → ℕ → List ℕ
bytes zero v = []
bytes (suc n) v = v % 256 ∷ bytes n (v / 256)

-- what is written at the front of a slice that has room for it; later bytes keep their value
abbrev pub in_front : List ℕ → List ℕ → List ℕ
in_front written slice = written ++ drop (length written) slice
