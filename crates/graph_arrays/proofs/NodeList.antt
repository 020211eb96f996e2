-- Laws of specs/NodeList, and of lists in the front of an array.
use mathlib.Core.Path.{◌≡◌}
use mathlib.Core.List.{List, [], ◌∷◌, map}
use Prim.Native.Nat.{ℕ, suc, ◌≤◌, ◌<◌}
use native.Mathlib.Decide.{dec_le}
use native.Mathlib.Omega.{arith}
use lib.ListN.{length, get_or, get_or-eq_default}
use Rattle.limits.specs.Limits.{most_nodes}
use Rattle.lists.specs.Members.{All}
use Rattle.lists.proofs.Members.{all_at}
use Rattle.drawing_spec.specs.OnGrid.{OnGrid}
use Rattle.drawing_spec.specs.Drawing.{no_point}
use Rattle.graph_spec.specs.Graph.{point_at}
use Rattle.graph_arrays.specs.Arrays.{point_in, nodes_in, NodesHeld, Front}
use Rattle.graph_arrays.specs.NodeList.{NodeList}
use Rattle.graph_arrays.proofs.Arrays.{front_at, front_long}
use Rattle.lists.proofs.Tabulate.{tabulate_length, tabulate_at}

pub nodes_count : (n : ℕ) (xs ys : List ℕ) → length (nodes_in n xs ys) ≡ n
nodes_count n xs ys = tabulate_length (point_in xs ys) n 0

pub point_at_lem : (n : ℕ) (xs ys : List ℕ) (v : ℕ) → v < n → point_at (nodes_in n xs ys) v ≡ point_in xs ys v
point_at_lem n xs ys v h = tabulate_at (point_in xs ys) n v no_point h

-- whatever node is asked for, its point lies on the grid
at_on : (n : ℕ) (xs ys : List ℕ) → NodesHeld n xs ys → (v : ℕ) → OnGrid (point_at (nodes_in n xs ys) v)
at_on n xs ys h v = elim (dec_le (suc v) n) [
  | yes l ↦ rw (point_at_lem n xs ys v l) (h.xs_on v, h.ys_on v)
  | no l ↦
      let past : length (nodes_in n xs ys) ≤ v = omega (arith, l, nodes_count n xs ys) in
      rw (get_or-eq_default (nodes_in n xs ys) no_point past) (omega arith, omega arith)
]

pub points_on : (n : ℕ) (xs ys : List ℕ) → NodesHeld n xs ys → (vs : List ℕ) → All OnGrid (map (point_at (nodes_in n xs ys)) vs)
points_on n xs ys h [] = tt
points_on n xs ys h (v ∷ vs) = (at_on n xs ys h v, points_on n xs ys h vs)

pub nodes_most : (n room : ℕ) (array : List ℕ) (count : ℕ) → NodeList n room array count → n ≤ most_nodes → NodeList most_nodes room array count
nodes_most n room array count W h = record { fits = W.fits; long = W.long; nodes_in_known = λ i l. omega (arith, W.nodes_in_known i l) }

-- a list of nodes at the front of an array
module _ (vs array : List ℕ) (count : ℕ) (F : Front vs array count) (n room : ℕ) (fits : length vs ≤ room) where
  pub front_nodes : ((i : ℕ) → i < length vs → get_or vs i 0 < n) → NodeList n room array count
  front_nodes below = record {
    fits = omega (arith, F.counts);
    long = front_long vs array count F;
    nodes_in_known = λ i h. omega (arith, front_at vs array count F i h, below i (omega (arith, F.counts)));
  }

  pub front_list : All (λ (v : ℕ). v < n) vs → NodeList n room array count
  front_list all = front_nodes (λ i h. all_at (λ (v : ℕ). v < n) vs all i 0 h)
