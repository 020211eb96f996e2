-- Points in two flat lists, by their places.
use Rattle.std.specs.Prelude.{List, ℕ, ◌≤◌, ◌^◌, get_or}
use Rattle.drawing_spec.specs.Drawing.{Point}
use Rattle.graph_splits.specs.Next.{at}

pub record Points : Type 0 where
  pub xs : List ℕ
  pub ys : List ℕ

abbrev pub points : List ℕ → List ℕ → Points
points xs ys = record { xs = xs; ys = ys }

abbrev pub point_in : Points → ℕ → Point
point_in ps i = at (get_or ps.xs i 0) (get_or ps.ys i 0)

-- a point whose distances `length::squared` takes
abbrev pub Measurable : Point → Type 0
Measurable p = (p.x ≤ 2 ^ 24) × (p.y ≤ 2 ^ 24)

pub record MeasurablePoints (ps : Points) : Type 0 where
  pub low : (i : ℕ) → Measurable (point_in ps i)
