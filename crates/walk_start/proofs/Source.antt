-- The start by the source's floats is the start by whole numbers.
use mathlib.Core.Path.{◌≡◌, refl, ap, ◌∙◌}
use mathlib.Core.List.{List, [], ◌∷◌}
use mathlib.Core.Bool.{Bool, true, false}
use Prim.Native.Nat.{ℕ, ◌≤◌}
use native.Mathlib.Omega.{arith}
use lib.Ieee.{Float}
use Rattle.limits.specs.Limits.{most_side}
use Rattle.grid.specs.Grid.{grid_exponent}
use Rattle.center.specs.Center.{Within}
use Rattle.center.proofs.Source.{node_distance, better_float, worst}
use Rattle.center.proofs.Exact.{same_start, first_taken}
use Rattle.drawing_spec.specs.Drawing.{Point, Settings, inside}
use Rattle.lists.specs.Members.{All}
use Rattle.drawing_spec.specs.OnGrid.{OnGrid}
use Rattle.graph_spec.specs.Graph.{point_at}
use Rattle.walk_spec.specs.Start.{distance, best_of, best}
use Rattle.walk_start.specs.Better.{lies_better}

-- the distance that `hierholzer` has of a node
abbrev pub node_at : Settings → Point → Float
node_at s p = node_distance grid_exponent s.width s.height p.x p.y

-- `hierholzer`'s loop over its candidates: the best node so far, its distance, and those that are left
unfoldable pub source_of : Settings → List Point → ℕ → Float → List ℕ → ℕ
source_of s ns v d [] = v
source_of s ns v d (u ∷ us) =
    elim (better_float (inside s) (node_at s (point_at ns u)) d) [ true ↦ source_of s ns u (node_at s (point_at ns u)) us | false ↦ source_of s ns v d us ]

-- it begins with node 0 and a distance that every other is better than
abbrev pub source_start : Settings → List Point → List ℕ → ℕ
source_start s ns vs = source_of s ns 0 (worst (inside s)) vs

pub within_grid : (s : Settings) → s.width ≤ most_side → s.height ≤ most_side → (p : Point) → OnGrid p → Within s.width s.height p.x p.y
within_grid s wide high p g = record { wide = wide; high = high; across = g.0; along = g.1 }

module _ (s : Settings) (ns : List Point) (wide : s.width ≤ most_side) (high : s.height ≤ most_side) where
  same_test : (p q : Point) → OnGrid p → OnGrid q → better_float (inside s) (node_at s p) (node_at s q) ≡ lies_better s p q
  unfolding distance
  same_test p q gp gq = same_start grid_exponent (omega arith) (inside s) s.width s.height p.x p.y q.x q.y (within_grid s wide high p gp) (within_grid s wide high q gq)

  same_rest : (v : ℕ) (us : List ℕ) → OnGrid (point_at ns v) → All (λ (u : ℕ). OnGrid (point_at ns u)) us → source_of s ns v (node_at s (point_at ns v)) us ≡ best_of s ns v us
  unfolding source_of best_of
  same_rest v [] g a = refl
  same_rest v (u ∷ us) g a =
      ap (λ (t : Bool). elim t [ true ↦ source_of s ns u (node_at s (point_at ns u)) us | false ↦ source_of s ns v (node_at s (point_at ns v)) us ]) (same_test (point_at ns u) (point_at ns v) a.0 g)
      ∙ go (lies_better s (point_at ns u) (point_at ns v)) (same_rest u us a.0 a.1) (same_rest v us g a.1)
    where
      go : (t : Bool) → source_of s ns u (node_at s (point_at ns u)) us ≡ best_of s ns u us → source_of s ns v (node_at s (point_at ns v)) us ≡ best_of s ns v us
          → ◌≡◌ {A = ℕ} (elim t [ true ↦ source_of s ns u (node_at s (point_at ns u)) us | false ↦ source_of s ns v (node_at s (point_at ns v)) us ]) (elim t [ true ↦ best_of s ns u us | false ↦ best_of s ns v us ])
      go true p q = p
      go false p q = q

  -- the source's choice is the definition's, whatever the candidates
  pub source_start_lem : (vs : List ℕ) → All (λ (v : ℕ). OnGrid (point_at ns v)) vs → source_start s ns vs ≡ best s ns vs
  unfolding source_of best
  source_start_lem [] a = refl
  source_start_lem (v ∷ vs) a =
      ap (λ (t : Bool). elim t [ true ↦ source_of s ns v (node_at s (point_at ns v)) vs | false ↦ source_of s ns 0 (worst (inside s)) vs ])
      (first_taken grid_exponent (omega arith) (inside s) s.width s.height (point_at ns v).x (point_at ns v).y (within_grid s wide high (point_at ns v) a.0))
      ∙ same_rest v vs a.0 a.1
