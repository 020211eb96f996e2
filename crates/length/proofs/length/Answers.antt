-- `length::length` meets its contract: 1,024.0 is the float 2 ^ 10 that the definition divides by.
use mathlib.Core.Path.{◌≡◌, refl, sym, ap₂, ◌∙◌}
use mathlib.Core.Bool.{false}
use lib.Dec.{lit≤}
use lib.IntN.{pos}
use lib.Ieee.{Float, fin, binary64, of_bits, div}
use Rattle.grid.specs.Grid.{grid_exponent}
use Rattle.length.proofs.LengthLaws.{length_nearest}
use Rattle.length.proofs.Value.{root_over_divides}
use Rattle.length.proofs.length.Goals as goal

steps : of_bits binary64 0x4090_0000_0000_0000 ≡ fin false 1 (pos grid_exponent)
unfolding of_bits
steps = refl

pub returns : goal.returns
returns c =
    let q = ap₂ (λ (x y : Float). div binary64 x y) c.root.ensures.value steps ∙ sym (root_over_divides binary64 grid_exponent _) in
    record { value = q; nearest = λ p. rw q (length_nearest grid_exponent (lit≤ tt) _ p c.ranges.n.fits) }
