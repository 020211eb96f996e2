-- Laws of specs/Floats: each place is got back from its coordinate. Assumes nothing.
use Rattle.std.specs.Prelude.{Option}
use mathlib.Core.Path.{◌≡◌, sym, ap, subst, ◌∙◌}
use mathlib.Core.Bool.{Bool, not}
use Prim.Native.Nat.{ℕ, ◌^◌}
use native.Mathlib.Omega.{arith}
use lib.Dec.{T, ltb, lit≤}
use lib.Ieee.{Float, nan, inf, fin, binary64, is_nan, fits, to_bits}
use lib.Ieee.Exact.{HasValue}
use lib.Ieee.Bits.{of_bits-to_bits}
use Rattle.grid.specs.Grid.{grid_exponent, origin, gap, place_of, read_place, coordinate, place_at}
use Rattle.grid.proofs.Back.{read_is, coordinate_fits, coordinate_value}
use Rattle.graph_filing.specs.Floats.{IsCoordinate}

-- its pattern is read as the place
read_float : (x : Float) → IsCoordinate x → read_place (to_bits binary64 x) ≡ place_of x
read_float x o =
    read_is grid_exponent (to_bits binary64 x)
    ∙ ap place_of (of_bits-to_bits binary64 x (subst (λ (y : Float). T (fits binary64 y)) (sym o.is) (coordinate_fits grid_exponent o.place)))

pub place_read : (x : Float) → IsCoordinate x → (r : Option ℕ) → r ≡ read_place (to_bits binary64 x) → place_at r ≡ place_at (place_of x)
place_read x o r e = ap place_at (e ∙ read_float x o)

no_nan : (x : Float) (s : Bool) (a d : ℕ) → HasValue x s a d → T (not (is_nan x))
unfolding is_nan
no_nan nan s a d v = v
no_nan (inf t) s a d v = tt
no_nan (fin t m e) s a d v = tt

pub float_no_nan : (x : Float) → IsCoordinate x → T (not (is_nan x))
float_no_nan x o =
    subst (λ (y : Float). T (not (is_nan y))) (sym o.is)
    (no_nan (coordinate o.place) (ltb o.place origin) (gap o.place origin) (2 ^ grid_exponent) (coordinate_value grid_exponent o.place (lit≤ tt) (omega (arith, o.low))))
