-- The turn by the source's floats is the turn by whole numbers.
use mathlib.Core.Path.{◌≡◌, refl, ap, ◌∙◌}
use mathlib.Core.List.{List, reverse}
use mathlib.Core.Bool.{Bool, true, false}
use Prim.Native.Nat.{◌≤◌}
use native.Mathlib.Omega.{arith}
use lib.Ieee.{Float}
use Rattle.limits.specs.Limits.{most_side}
use Rattle.grid.specs.Grid.{grid_exponent}
use Rattle.center.proofs.Source.{end_distance, better_float}
use Rattle.center.proofs.Exact.{same_turn}
use Rattle.drawing_spec.specs.Drawing.{Point, Settings, inside}
use Rattle.lists.specs.Members.{All}
use Rattle.drawing_spec.specs.OnGrid.{OnGrid}
use Rattle.walk_spec.specs.Orient as line
use Rattle.walk_spec.specs.Start as line-start
use Rattle.walk_start.specs.Better.{lies_better}
use Rattle.walk_start.proofs.Source.{within_grid}
use Rattle.walk_orient.proofs.Ends.{ends_keep}

-- the distance that `orient_path` has of an end of the line
abbrev pub end_at : Settings → Point → Float
end_at s p = end_distance grid_exponent s.width s.height p.x p.y

-- what is made of the two ends, by a test of the last against the first
abbrev pub turned_by : (Point → Point → Bool) → List Point → line.EndPoints → List Point
turned_by test points line.empty = points
turned_by test points (line.ends p q) = elim (test q p) [ true ↦ reverse points | false ↦ points ]

-- `orient_path`
abbrev pub source_orient : Settings → List Point → List Point
source_orient s points = turned_by (λ (q p : Point). better_float (inside s) (end_at s q) (end_at s p)) points (line.end_points points)

module _ (s : Settings) (wide : s.width ≤ most_side) (high : s.height ≤ most_side) where
  same_test : (p q : Point) → OnGrid p → OnGrid q → better_float (inside s) (end_at s p) (end_at s q) ≡ lies_better s p q
  unfolding line-start.distance
  same_test p q gp gq = same_turn grid_exponent (omega arith) (inside s) s.width s.height p.x p.y q.x q.y (within_grid s wide high p gp) (within_grid s wide high q gq)

  is_orient : (points : List Point) → turned_by (lies_better s) points (line.end_points points) ≡ line.orient s points
  unfolding line.orient
  is_orient points = go (line.end_points points)
    where
      go : (e : line.EndPoints) → turned_by (lies_better s) points e ≡ elim e [ line.empty ↦ points | line.ends p q ↦ elim (lies_better s q p) [ true ↦ reverse points | false ↦ points ] ]
      go line.empty = refl
      go (line.ends p q) = refl

  -- the source's line is the definition's
  pub source_orient_lem : (points : List Point) → All OnGrid points → source_orient s points ≡ line.orient s points
  source_orient_lem points a = go (line.end_points points) refl ∙ is_orient points
    where
      go : (e : line.EndPoints) → line.end_points points ≡ e → turned_by (λ (q p : Point). better_float (inside s) (end_at s q) (end_at s p)) points e ≡ turned_by (lies_better s) points e
      go line.empty h = refl
      go (line.ends p q) h =
          let on = ends_keep OnGrid points p q a h in
          ap (λ (t : Bool). elim t [ true ↦ reverse points | false ↦ points ]) (same_test q p on.1 on.0)
