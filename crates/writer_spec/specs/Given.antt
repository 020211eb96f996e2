-- A drawing as a caller hands it to the writer: settings, and lists of numbers. They may have any lengths and hold any numbers.
use Rattle.std.specs.Prelude.{ℕ, zero, suc, ◌*◌, ◌/◌, ◌%◌, List, [], ◌∷◌, Bool, ◌&&◌, not, length, get_or, drop, eqb}
use Rattle.limits.specs.Limits.{refused_lengths}
use Rattle.drawing_spec.specs.Drawing.{PointOf, Settings, LinkOf, Pattern, Sketch}
use Rattle.drawing_spec.specs.Read.{total}
use Rattle.drawing_spec.specs.Refusal.{Condition, condition, verdict}
use Rattle.writer_spec.specs.Save.{Saved, write_conditions, answered}

pub record Given : Type 0 where
  pub settings : Settings
  -- of each line, how many points it has
  pub sizes : List ℕ
  -- of each point of the lines, x and y, each by its 64 bits
  pub coordinates : List ℕ
  -- of each end of each link, the line and the segment that it names
  pub segments : List ℕ
  -- of each end of each link, x and y
  pub ends : List ℕ

abbrev pub given : Settings → List ℕ → List ℕ → List ℕ → List ℕ → Given
given s sizes coordinates segments ends = record { settings = s; sizes = sizes; coordinates = coordinates; segments = segments; ends = ends }

-- ---- whether the lists fit one another: two coordinates for each point; of each link four numbers and four coordinates

unfoldable pub fitting : List ℕ → List ℕ → List ℕ → List ℕ → Bool
unfolding total
fitting sizes coordinates segments ends = eqb (2 * total sizes) (length coordinates) && eqb (length segments % 4) 0 && eqb (length segments) (length ends)

-- ---- the sketch that they are (past the end of a list this reads 0; it is asked for only where the lists fit)

abbrev pub point_at : ℕ → List ℕ → PointOf Pattern
point_at i cs = record { x = record { bits = get_or cs i 0 }; y = record { bits = get_or cs (suc i) 0 } }

unfoldable pub points_given : ℕ → List ℕ → List (PointOf Pattern)
points_given zero cs = []
points_given (suc n) cs = point_at 0 cs ∷ points_given n (drop 2 cs)

unfoldable pub lines_given : List ℕ → List ℕ → List (List (PointOf Pattern))
unfolding points_given
lines_given [] cs = []
lines_given (n ∷ ns) cs = points_given n cs ∷ lines_given ns (drop (2 * n) cs)

abbrev pub link_given : List ℕ → List ℕ → LinkOf Pattern
link_given ss cs = record {
  first = record { line = get_or ss 0 0; segment = get_or ss 1 0; point = point_at 0 cs };
  second = record { line = get_or ss 2 0; segment = get_or ss 3 0; point = point_at 2 cs };
}

unfoldable pub links_given : ℕ → List ℕ → List ℕ → List (LinkOf Pattern)
links_given zero ss cs = []
links_given (suc k) ss cs = link_given ss cs ∷ links_given k (drop 4 ss) (drop 4 cs)

unfoldable pub sketch_given : Given → Sketch
unfolding lines_given links_given
sketch_given g = record { settings = g.settings; lines = lines_given g.sizes g.coordinates; links = links_given (length g.segments / 4) g.segments g.ends }

-- ---- saving it

-- Lists that do not fit one another are no drawing, and are refused before all else, with the number that says of a file that a body has the wrong length.
unfoldable pub given_conditions : Given → ℕ → List Condition
unfolding fitting sketch_given write_conditions
given_conditions g room = condition refused_lengths (not (fitting g.sizes g.coordinates g.segments g.ends)) ∷ write_conditions (sketch_given g) room

unfoldable pub save_given : Given → List ℕ → Saved
unfolding verdict given_conditions sketch_given answered
save_given g destination = answered (sketch_given g) destination (verdict (given_conditions g (length destination)))
