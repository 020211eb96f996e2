-- `grid::write_place` meets its contract: it is the pattern of `coordinate`, which is no NaN.
use mathlib.Core.Path.{sym, ap, ◌∙◌, subst}
use native.Mathlib.Omega.{arith}
use mathlib.Core.Bool.{not}
use lib.Dec.{T}
use lib.Ieee.{Float, binary64, is_nan, to_bits}
use Rattle.grid.specs.Grid.{grid_exponent}
use Rattle.grid.proofs.Back.{coordinate_no_nan, write_is}
use Rattle.grid.proofs.write_place.Goals as goal

pub float_to_bits-result : goal.float_to_bits-result
float_to_bits-result c = subst (λ (x : Float). T (not (is_nan x))) (sym c.coordinate.ensures) (coordinate_no_nan _ (omega arith))

pub returns : goal.returns
returns c = ap (to_bits binary64) c.coordinate.ensures ∙ sym (write_is grid_exponent c.args.place)
