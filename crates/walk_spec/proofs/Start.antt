-- The walk starts at one of the nodes it may start at.
use mathlib.Core.Path.{◌≡◌}
use mathlib.Core.List.{List, [], ◌∷◌}
use Prim.Native.Nat.{ℕ, zero, suc, ◌+◌, ◌<◌}
use native.Mathlib.Omega.{arith}
use lib.Dec.{ltb}
use Rattle.center.specs.Center.{better}
use Rattle.drawing_spec.specs.Drawing.{Point, Settings, inside}
use Rattle.lists.specs.Members.{All}
use Rattle.lists.proofs.Members.{either}
use Rattle.graph_spec.specs.Graph.{Edge, point_at}
use Rattle.graph_spec.specs.Odd.{degree}
use Rattle.walk_spec.specs.Start.{distance, best_of, best, with_edges}

module _ (P : ℕ → Type 0) (s : Settings) (ns : List Point) where
  best_of_keeps : (v : ℕ) (vs : List ℕ) → P v → All P vs → P (best_of s ns v vs)
  unfolding best_of
  best_of_keeps v [] p q = p
  best_of_keeps v (u ∷ us) p q =
      either P _ _ (best_of_keeps u us q.0 q.1) (best_of_keeps v us p q.1) (better (inside s) (distance s (point_at ns u)) (distance s (point_at ns v)))

  -- what holds of node 0 and of all candidates holds of the start
  pub best_keeps : (vs : List ℕ) → P 0 → All P vs → P (best s ns vs)
  unfolding best
  best_keeps [] z q = z
  best_keeps (v ∷ vs) z q = best_of_keeps v vs q.0 q.1

pub with_edges_within : (es : List Edge) (n u m : ℕ) → u + n ≡ m → All (λ (v : ℕ). v < m) (with_edges es n u)
unfolding with_edges
with_edges_within es zero u m e = tt
with_edges_within es (suc n) u m e =
    let later = with_edges_within es n (suc u) m (omega arith) in
    either (All (λ (v : ℕ). v < m)) _ _ (omega arith, later) later (ltb 0 (degree es u))
