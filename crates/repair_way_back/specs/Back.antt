-- The test of the way back, as code makes it.
use Rattle.std.specs.Prelude.{List, Bool, false, ◌&&◌, not, ℕ, ◌-◌, get_or, Float}
use Rattle.std.specs.Float.{nan}
use Rattle.graph_adjacency.specs.Lists.{Adjacency, edge_number}
use Rattle.repair_spec.specs.Retrace.{on_way_back}

-- the arc k of the node v leads to a node that is not seen and on the way back
unfoldable pub fitting : Adjacency → List Float → List Bool → ℕ → ℕ → Bool
fitting a ds seen v k =
    let u = get_or a.ends (k - 1) 0 in
    not (get_or seen u false) && on_way_back (get_or ds u nan) (get_or a.weights (edge_number k) nan) (get_or ds v nan)
