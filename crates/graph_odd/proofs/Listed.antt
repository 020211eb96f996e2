-- The odd nodes are those of all nodes that pass a test, so they are listed as such (`graph_arrays/proofs/Listing`).
use mathlib.Core.Path.{refl}
use mathlib.Core.Bool.{Bool}
use mathlib.Core.List.{List}
use Prim.Native.Nat.{ℕ, ◌≤◌}
use lib.ListN.{length}
use Rattle.graph_spec.specs.Graph.{Edge}
use Rattle.graph_spec.specs.Odd.{degree, is_odd, odd_from, odd_nodes}
use Rattle.graph_arrays.proofs.Listing.{Chosen, chosen_few}

abbrev pub odd_at : List Edge → ℕ → Bool
odd_at es v = is_odd (degree es v)

pub odd_chosen : (es : List Edge) → Chosen (odd_from es) (odd_at es)
unfolding odd_from
odd_chosen es = record { nil = λ v. refl; step = λ k v. refl }

pub odd_few : (es : List Edge) (n : ℕ) → length (odd_nodes n es) ≤ n
odd_few es n = chosen_few (odd_from es) (odd_at es) (odd_chosen es) n
