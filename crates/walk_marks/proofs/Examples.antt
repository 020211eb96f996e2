-- Marks worked out: 5 has the bits 0 and 2, and 8 the bit 3.
use mathlib.Core.Path.{◌≡◌, refl}
use mathlib.Core.List.{List, [], ◌∷◌}
use mathlib.Core.Bool.{true, false}
use Prim.Native.Nat.{ℕ}
use Rattle.walk_marks.specs.Marks.{mark_at}

abbrev two_words : List ℕ
two_words = 5 ∷ 8 ∷ []

first_word : (mark_at two_words 0 ≡ true) × (mark_at two_words 1 ≡ false) × (mark_at two_words 2 ≡ true) × (mark_at two_words 32 ≡ false) × (mark_at two_words 63 ≡ false)
first_word = (refl, refl, refl, refl, refl)

second_word : (mark_at two_words 64 ≡ false) × (mark_at two_words 66 ≡ false) × (mark_at two_words 67 ≡ true) × (mark_at two_words 68 ≡ false)
second_word = (refl, refl, refl, refl)
