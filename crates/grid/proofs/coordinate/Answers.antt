-- `grid::coordinate` meets its contract: the number of steps from the origin fits an f64, and dividing it by 1024 or -1024 is exact.
use mathlib.Core.Path.{◌≡◌, refl, sym, ap, ◌∙◌}
use Prim.Native.Nat.{ℕ, ◌-◌, ◌<◌, ◌^◌}
use native.Mathlib.Omega.{arith}
use mathlib.Core.Bool.{Bool, true, false}
use lib.Dec.{ltb}
use lib.IntN.{pos}
use lib.Ieee.{Float, fin, binary64, round, div, neg, of_int, of_bits}
use borrow.Author.Tests.{lt-ltb, le-ltb}
use Rattle.grid.specs.Grid.{grid_exponent, origin, gap, coordinate}
use Rattle.grid.proofs.Back.{coordinate_is}
use Rattle.grid.proofs.Quotient.{quotient}
use Rattle.grid.proofs.coordinate.Goals as goal

-- the literal 1024.0, and its negative
step : of_bits binary64 4652218415073722368 ≡ fin false 1 (pos grid_exponent)
unfolding of_bits
step = refl

minus_step : neg (of_bits binary64 4652218415073722368) ≡ fin true 1 (pos grid_exponent)
unfolding neg of_bits
minus_step = refl

-- either arm: n steps on the side that the sign says
at : (p n : ℕ) (t : Bool) (d : Float) → n < 2 ^ 53 → d ≡ fin t 1 (pos grid_exponent) → t ≡ ltb p origin → n ≡ gap p origin → div binary64 (of_int binary64 (pos n)) d ≡ coordinate p
at p n t d h e s k =
    ap (div binary64 (of_int binary64 (pos n))) e
    ∙ quotient t n grid_exponent h
    ∙ ap (λ (t : Bool). round binary64 t n (2 ^ grid_exponent)) s
    ∙ ap (λ (n : ℕ). round binary64 (ltb p origin) n (2 ^ grid_exponent)) k
    ∙ sym (coordinate_is grid_exponent p)

pub returns-then-left : goal.returns-then-left
returns-then-left c =
    let p = c.args.place in
    at p (origin - p) true (neg (of_bits binary64 4652218415073722368)) (omega arith) minus_step (sym (lt-ltb p origin (omega arith))) (omega arith)

pub returns-else-left : goal.returns-else-left
returns-else-left c =
    let p = c.args.place in
    at p (p - origin) false (of_bits binary64 4652218415073722368) (omega arith) step (sym (le-ltb p origin (omega arith))) (omega arith)
