-- How far a point is from the centre of the canvas, and which of two distances is the better one to start at. Definitions only.
-- The source's `image_center` is (width / 2, height / 2), and it compares squared distances from there. They are counted here in half steps of the grid: with an odd width the
-- centre lies between two pixels, and so on a grid of 1 between two steps, but it is always a whole number of half steps from any place. So every number here is whole and exact.
use Rattle.std.specs.Prelude.{ℕ, ◌+◌, ◌*◌, ◌^◌, ◌≤◌, Bool, true, false, ltb}
use Rattle.limits.specs.Limits.{most_side}
use Rattle.grid.specs.Grid.{grid_exponent, origin_of_grid, gap}

-- on a grid of 1 / 2 ^ g: the half steps along one axis from a place to the middle of a side. The middle is side / 2 above 0, so side * 2 ^ g half steps above the origin.
abbrev pub from_middle_on_grid : ℕ → ℕ → ℕ → ℕ
from_middle_on_grid g side place = gap (2 * place) (2 * origin_of_grid g + side * 2 ^ g)

-- the squared distance of the point at the places x and y from the centre
unfoldable pub from_center_on_grid : ℕ → ℕ → ℕ → ℕ → ℕ → ℕ
from_center_on_grid g width height x y =
    from_middle_on_grid g width x * from_middle_on_grid g width x + from_middle_on_grid g height y * from_middle_on_grid g height y

abbrev pub from_middle : ℕ → ℕ → ℕ
from_middle side place = from_middle_on_grid grid_exponent side place

abbrev pub from_center : ℕ → ℕ → ℕ → ℕ → ℕ
from_center width height x y = from_center_on_grid grid_exponent width height x y

-- Whether the squared distance a is better than b. With the flag Inside nearer is better, and otherwise farther, both strictly: `hierholzer` changes its start node, and
-- `orient_path` turns the line round, only for a better one.
abbrev pub better : Bool → ℕ → ℕ → Bool
better true a b = ltb a b
better false a b = ltb b a

-- a canvas that check 5 passes, and a point that check 7 does
pub record WithinGrid (g width height x y : ℕ) : Type 0 where
  pub wide : width ≤ most_side
  pub high : height ≤ most_side
  pub across : x ≤ 2 * origin_of_grid g
  pub along : y ≤ 2 * origin_of_grid g

abbrev pub Within : ℕ → ℕ → ℕ → ℕ → Type 0
Within width height x y = WithinGrid grid_exponent width height x y
