-- Bytes stored one behind the other. Assumes nothing.
use mathlib.Core.Path.{◌≡◌, sym, ap, ◌∙◌}
use mathlib.Core.List.{List}
use Prim.Native.Nat.{ℕ, suc, ◌+◌, ◌-◌, ◌/◌, ◌%◌, ◌≤◌, ◌<◌}
use native.Mathlib.Numerals.{add-one}
use native.Mathlib.Omega.{arith}
use lib.ListN.{set}
use lib.Seq.{sets}
use Rattle.drawing_spec.specs.Bytes.{bytes}

-- ---- a number's bytes, the lowest first

-- the bytes that are left, stored from here on, give all
abbrev pub Storing : (output₀ : List ℕ) (at size n : ℕ) (output : List ℕ) (place rest : ℕ) → Type 0
Storing output₀ at size n output place rest = sets output place (bytes (at + size - place) rest) ≡ sets output₀ at (bytes size n)

module _ (output₀ : List ℕ) (at size n : ℕ) where
  pub storing_none : Storing output₀ at size n output₀ at n
  storing_none = ap (λ (k : ℕ). sets output₀ at (bytes k n)) (omega arith)

  step : (output : List ℕ) (place left left' rest : ℕ) → left ≡ suc left' → sets output place (bytes left rest) ≡ sets (set output place (rest % 256)) (place + 1) (bytes left' (rest / 256))
  unfolding bytes
  step output place left left' rest e = rw (e, add-one)

  pub storing_more : (output : List ℕ) (place rest : ℕ) → place < at + size → Storing output₀ at size n output place rest
      → Storing output₀ at size n (set output place (rest % 256)) (place + 1) (rest / 256)
  storing_more output place rest h s = sym (step output place (at + size - place) (at + size - (place + 1)) rest (omega arith)) ∙ s

  pub storing_all : (output : List ℕ) (place rest : ℕ) → at + size ≤ place → Storing output₀ at size n output place rest → output ≡ sets output₀ at (bytes size n)
  unfolding bytes
  storing_all output place rest h s =
      let none : at + size - place ≡ 0 = omega arith in
      ap (λ (k : ℕ). sets output place (bytes k rest)) (sym none) ∙ s
