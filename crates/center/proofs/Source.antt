-- The floats that the source compares, after `image_center` (join.rs), `Point::distance_squared` (types.rs) and `hierholzer` (mst_join.rs). Definitions only.
use Prim.Native.Nat.{ℕ, ◌*◌}
use mathlib.Core.Bool.{Bool, true, false}
use lib.IntN.{pos}
use lib.Ieee.{Float, nan, inf, fin, binary64, up, down, unlike, sum, add, sub, mul, div, of_int, lt}
use Rattle.grid.specs.Grid.{coordinate_on_grid}

-- one coordinate of `image_center`: `f64::from(side) / 2.0`
unfoldable pub middle : ℕ → Float
unfolding div of_int
middle side = div binary64 (of_int binary64 (pos side)) (fin false 1 (pos 1))

-- `f64::mul_add`, the fusedMultiplyAdd of IEEE 754, 5.4.1: x * y + z, rounded once. Where x or y is not finite, neither is the product, and the sum rounds nothing.
unfoldable pub fused_mul_add : Float → Float → Float → Float
unfolding sum add mul
fused_mul_add nan y z = nan
fused_mul_add (inf s) y z = add binary64 (mul binary64 (inf s) y) z
fused_mul_add (fin s m e) nan z = nan
fused_mul_add (fin s m e) (inf t) z = add binary64 (mul binary64 (fin s m e) (inf t)) z
fused_mul_add (fin s m e) (fin t n d) nan = nan
fused_mul_add (fin s m e) (fin t n d) (inf u) = inf u
fused_mul_add (fin s m e) (fin t n d) (fin u k c) =
    sum binary64 (unlike s t) (m * up e * (n * up d) * down c) u (k * up c * (down e * down d)) (down e * down d * down c)

-- the squared distance of two points by their coordinates: `dx.mul_add(dx, dy * dy)`
unfoldable pub distance_squared : Float → Float → Float → Float → Float
unfolding fused_mul_add sub mul
distance_squared px py qx qy =
    let dx = sub binary64 px qx in
    let dy = sub binary64 py qy in
    fused_mul_add dx dx (mul binary64 dy dy)

-- the point at the places x and y on a grid of 1 / 2 ^ g: `hierholzer` takes the centre from a node, and `orient_path` takes an end of the line from the centre
abbrev pub node_distance : ℕ → ℕ → ℕ → ℕ → ℕ → Float
node_distance g width height x y = distance_squared (coordinate_on_grid g x) (coordinate_on_grid g y) (middle width) (middle height)

abbrev pub end_distance : ℕ → ℕ → ℕ → ℕ → ℕ → Float
end_distance g width height x y = distance_squared (middle width) (middle height) (coordinate_on_grid g x) (coordinate_on_grid g y)

-- `dist < best` for Inside, and `dist > best` for Outside
abbrev pub better_float : Bool → Float → Float → Bool
better_float true a b = lt a b
better_float false a b = lt b a

-- what `hierholzer` compares its first candidate with: `f64::INFINITY` for Inside, and `f64::NEG_INFINITY` for Outside
abbrev pub worst : Bool → Float
worst true = inf false
worst false = inf true
