-- The way back from t needs no distance beyond t's: any list that agrees with the distances up to there gives the definition's path. Assumes nothing.
use mathlib.Core.Path.{◌≡◌}
use mathlib.Core.List.{List, []}
use Prim.Native.Nat.{ℕ}
use lib.Ieee.{Float}
use Rattle.graph_spec.specs.Graph.{Edge}
use Rattle.repair_spec.specs.Distance.{distances}
use Rattle.repair_spec.specs.Retrace.{way_back, shortest_path}
use Rattle.repair_spec.specs.Relax.{AllNonneg}
use Rattle.repair_early_exit.proofs.WayBack.{Serves, same_way_back}
use Rattle.repair_early_exit.proofs.Rounds.{rounds_nonneg, standing_start}
use Rattle.repair_early_exit.proofs.Bounded.{distances_in_reach}
use Rattle.graph_spec.specs.Weights.{Searchable}

module _ (n : ℕ) (es : List Edge) (G : Searchable n es) (s t : ℕ) where
  distances_nonneg : AllNonneg (distances n es s)
  distances_nonneg = rw (← (standing_start n es s).rest) (rounds_nonneg n es G.weights _ _ (standing_start n es s).ordered)

  -- any list that serves for the way back from t
  pub serves_exit : (ds : List Float) → AllNonneg ds → Serves t (distances n es s) ds → way_back n es ds s t [] ≡ shortest_path n es s t
  unfolding shortest_path
  serves_exit ds p S =
      same_way_back n es s t (distances n es s) ds G.weights G.long distances_nonneg p (distances_in_reach es G.weights G.short n s t G.few) S
