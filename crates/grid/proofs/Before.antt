-- What CR 3 left as it was: but for minus zero, each pattern is read as it was while minus zero was refused. Assumes nothing.
use Rattle.std.specs.Prelude.{Option, Some, None}
use mathlib.Core.Path.{◌≡◌, refl, sym, ap, ◌∙◌, subst}
use Prim.Native.Nat.{ℕ, ◌+◌, ◌-◌, ◌*◌, ◌/◌, ◌%◌, ◌^◌, ◌<◌}
use mathlib.Core.Bool.{Bool, true, false, not, ◌&&◌, cond}
use lib.Dec.{T, leb, eqb}
use lib.Ieee.{Float, nan, inf, fin, binary64, up, down, is_nan, of_bits, to_bits}
use lib.Ieee.Bits.{to_bits-of_bits}
use borrow.Author.Tests.{eqb-true}
use Rattle.grid.specs.Grid.{grid_exponent, origin_of_grid, minus_zero, place_on_grid, read_on_grid}
use Rattle.grid.proofs.Back.{read_is, zero_pattern}

-- check 7 with its last clause
abbrev place_before : ℕ → Bool → ℕ → ℕ → Option ℕ
place_before o s a c = cond (eqb (a % c) 0 && leb (a / c) o && not (s && eqb a 0)) (Some (cond s (o - a / c) (o + a / c))) None

float_before : ℕ → Float → Option ℕ
float_before g nan = None
float_before g (inf s) = None
float_before g (fin s m e) = place_before (origin_of_grid g) s (m * up e * 2 ^ g) (down e)

pub read_before : ℕ → ℕ → Option ℕ
read_before g b = float_before g (of_bits binary64 b)

without_clause : (t u : Bool) (x y : Option ℕ) → u ≡ false → cond (t && not u) x y ≡ cond t x y
without_clause true u x y e = ap (λ (v : Bool). cond (not v) x y) e
without_clause false u x y e = refl

module _ (g b : ℕ) (h : b < 2 ^ 64) (other : b ≡ minus_zero → ⊥) where
  number_here : (x : Float) → of_bits binary64 b ≡ x → T (not (is_nan x)) → to_bits binary64 x ≡ b
  number_here x i k = ap (to_bits binary64) (sym i) ∙ to_bits-of_bits binary64 b h (subst (λ (y : Float). T (not (is_nan y))) (sym i) k)

  float_same : (x : Float) → of_bits binary64 b ≡ x → float_before g x ≡ place_on_grid g x
  unfolding float_before place_on_grid is_nan
  float_same nan i = refl
  float_same (inf s) i = refl
  float_same (fin false m e) i = without_clause (eqb (m * up e * 2 ^ g % down e) 0 && leb (m * up e * 2 ^ g / down e) (origin_of_grid g)) false (Some (origin_of_grid g + m * up e * 2 ^ g / down e)) None refl
  float_same (fin true m e) i = go (eqb (m * up e * 2 ^ g) 0) refl
    where
      go : (t : Bool) → eqb (m * up e * 2 ^ g) 0 ≡ t → float_before g (fin true m e) ≡ place_on_grid g (fin true m e)
      go true z = absurd (other (sym (number_here (fin true m e) i tt) ∙ zero_pattern g m e (eqb-true (m * up e * 2 ^ g) 0 z)))
      go false z = without_clause (eqb (m * up e * 2 ^ g % down e) 0 && leb (m * up e * 2 ^ g / down e) (origin_of_grid g)) (eqb (m * up e * 2 ^ g) 0) (Some (origin_of_grid g - m * up e * 2 ^ g / down e)) None z

  pub before_same : read_before g b ≡ read_on_grid g b
  unfolding read_before
  before_same = float_same (of_bits binary64 b) refl ∙ sym (read_is g b)

before_refused : read_before grid_exponent minus_zero ≡ None
unfolding read_before float_before of_bits
before_refused = refl
