-- Laws of specs/Costs, and of a working list.
use mathlib.Core.Logic.{inl, inr}
use mathlib.Core.List.{List}
use Prim.Native.Nat.{ℕ, suc, ◌+◌, ◌-◌, ◌^◌, ◌≤◌, ◌<◌, ◌*◌}
use native.Mathlib.Nat.{mul-le-mul_right}
use native.Mathlib.Omega.{arith}
use lib.ListN.{get_or, set, length-set}
use Rattle.grid.specs.Grid.{origin}
use Rattle.limits.specs.Limits.{most_nodes}
use Rattle.length.proofs.LengthLaws.{square_le}
use Rattle.lists.proofs.Elements.{set_cases}
use Rattle.graph_arrays.specs.Arrays.{NodesHeld}
use Rattle.graph_arrays.specs.NodeList.{NodeList}
use Rattle.graph_nodes.specs.Table.{Table}
use Rattle.sums.proofs.Bits.{bits_top}
use Rattle.repair_greedy.specs.declared.Distances.{Distances}
use Rattle.repair_greedy.specs.Costs.{PointsHeld, distance_of, DistancesHeld, bits_of}

-- a place of the grid is small enough for squares
pub near : (x : ℕ) → x ≤ 2 * origin → x ≤ 2 ^ 24
near x h = omega (arith, h)

-- the entry of two places, in rows of `size` entries
pub index_inside : (i j size : ℕ) → i < size → j < size → i * size + j < size * size
index_inside i j size h k = omega (arith, mul-le-mul_right {m = suc i} {n = size} size h)

pub row_fits : (k size : ℕ) → k < size → size ≤ most_nodes → k * size < 2 ^ 32
row_fits k size h few = omega (arith, mul-le-mul_right {m = k} {n = 1534} size (omega arith))

pub distance_small : (t : Table) → PointsHeld t → (u v : ℕ) → distance_of t u v ≤ 2 ^ 63
distance_small t H u v =
    omega (
      arith,
      square_le (get_or t.xs u 0) (get_or t.xs v 0) (near _ (H.xs_on u)) (near _ (H.xs_on v)),
      square_le (get_or t.ys u 0) (get_or t.ys v 0) (near _ (H.ys_on u)) (near _ (H.ys_on v)),
    )

pub bits_small : (d : Distances) → DistancesHeld d → (u v : ℕ) → bits_of d u v ≤ 2 ^ 63
bits_small d H u v = bits_top _ (H.numbers _ (index_inside (get_or d.places u 0) (get_or d.places v 0) d.size (H.inside u) (H.inside v)))

-- any number of nodes that the arrays have room for
pub held_most : (n : ℕ) (xs ys : List ℕ) → NodesHeld n xs ys → NodesHeld most_nodes xs ys
held_most n xs ys H = record { few = omega arith; xs_on = H.xs_on; ys_on = H.ys_on }

module _ (n : ℕ) (w : List ℕ) (left : ℕ) (W : NodeList n most_nodes w left) where
  -- the last takes the place of the one at i
  pub nodes_removed : (i : ℕ) → i < left → NodeList n most_nodes (set w i (get_or w (left - 1) 0)) (left - 1)
  nodes_removed i h = record {
    fits = omega (arith, W.fits);
    long = omega (arith, length-set w i (get_or w (left - 1) 0), W.long);
    nodes_in_known = λ j l. elim (set_cases w i (get_or w (left - 1) 0) 0 j) [
      | inl p ↦ omega (arith, p.1, W.nodes_in_known (left - 1) (omega arith))
      | inr e ↦ omega (arith, e, W.nodes_in_known j (omega arith))
    ];
  }
