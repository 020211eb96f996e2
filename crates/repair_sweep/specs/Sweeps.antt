-- What sweeps keep: the distances so far, and with each node the distance at which its edges were last looked along, infinity where they never were.
use Rattle.std.specs.Prelude.{◌≡◌, ◌⊎◌, List, ℕ, ◌≤◌, length, replicate, Float}
use Rattle.std.specs.Float.{binary64}
use Rattle.std.specs.Float.Ieee.{add}
use Rattle.limits.specs.Limits.{most_nodes}
use Rattle.sums.specs.Key.{key}
use Rattle.lists.specs.Members.{In}
use Rattle.graph_spec.specs.Graph.{Edge}
use Rattle.graph_spec.specs.Ways.{Joins}
use Rattle.repair_spec.specs.Distance.{infinity, zero_length, distance_at}
use Rattle.repair_spec.specs.Relax.{key_at, AllNonneg}
use Rattle.repair_spec.specs.Cost.{Way}
use Rattle.repair_search.specs.Touched.{Listed}
use Rattle.repair_sweep.specs.declared.Sweep.{Sweep}

-- distances in an array of all nodes, with the list of the nodes that were reached
pub record Reached (n : ℕ) (ds : List Float) (touched : List ℕ) (count : ℕ) : Type 0 where
  pub long : length ds ≡ most_nodes
  pub nonneg : AllNonneg ds
  pub listed : Listed n ds touched count

-- what sweeps leave: no distance is above the one at which the node's edges were last looked along
pub record Looked (n : ℕ) (w : Sweep) (count : ℕ) : Type 0 where
  pub reached : Reached n w.dist w.touched count
  pub long : length w.done ≡ most_nodes
  pub nonneg : AllNonneg w.done
  pub lower : (v : ℕ) → key_at w.dist v ≤ key_at w.done v

-- from s, along the edges es: the distance of s is zero, each is infinity or the cost of a way, and none is above what an edge offered when it was last looked along
pub record Sweeping (es : List Edge) (s : ℕ) (ds done : List Float) : Type 0 where
  pub source : distance_at ds s ≡ zero_length
  pub ways : (v : ℕ) → (distance_at ds v ≡ infinity) ⊎ Way es s v (distance_at ds v)
  pub along : (e : Edge) → In e es → (u v : ℕ) → Joins e u v → key_at ds v ≤ key binary64 (add binary64 (distance_at done u) e.weight)

-- so it is still, whichever node it began at
abbrev pub GoesOn : List Edge → Sweep → Sweep → Type 0
GoesOn es w w' = (s : ℕ) → Sweeping es s w.dist w.done → Sweeping es s w'.dist w'.done

-- no node has come nearer since its edges were last looked along
abbrev pub Settled : Sweep → Type 0
Settled w = (v : ℕ) → key_at w.done v ≤ key_at w.dist v

-- what sweeps ask for, and what clearing leaves
pub record Unswept (w : Sweep) : Type 0 where
  pub none : w.dist ≡ replicate most_nodes infinity
  pub never : w.done ≡ replicate most_nodes infinity
  pub room : length w.touched ≡ most_nodes
