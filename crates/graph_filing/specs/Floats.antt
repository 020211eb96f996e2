-- Floats that are coordinates of the grid.
use Rattle.std.specs.Prelude.{◌≡◌, ℕ, ◌*◌, ◌≤◌, Float}
use Rattle.grid.specs.Grid.{origin, coordinate}

-- a float that is the coordinate of a place on the grid
pub record IsCoordinate (x : Float) : Type 0 where
  pub place : ℕ
  pub low : place ≤ 2 * origin
  pub is : x ≡ coordinate place
