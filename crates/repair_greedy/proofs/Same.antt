-- Greedy by the arrays is Greedy by the nodes.
use mathlib.Core.Path.{◌≡◌, sym, ap, ◌∙◌}
use mathlib.Core.List.{List}
use Prim.Native.Nat.{ℕ, ◌<◌}
use native.Mathlib.Omega.{arith}
use lib.ListN.{get_or, take}
use lib.Seq.{get_or-take, length-take-le}
use lib.Dec.{ltb}
use Rattle.lists.specs.Members.{All}
use Rattle.lists.proofs.Tabulate.{tabulate_at}
use Rattle.drawing_spec.specs.Drawing.{Point, no_point}
use Rattle.graph_spec.specs.Chain.{squared}
use Rattle.graph_arrays.specs.Arrays.{point_in, nodes_in}
use Rattle.graph_arrays.specs.NodeList.{NodeList}
use Rattle.repair_spec.specs.Pairing.{nearest_pairs, apart, greedy_pairs}
use Rattle.repair_spec.proofs.Alike.{all_from, SameOrder, pairs_alike}

-- the nodes in the front of an array
nodes_all : (n room : ℕ) (w : List ℕ) (left : ℕ) → NodeList n room w left → All (λ (v : ℕ). v < n) (take left w)
nodes_all n room w left W =
    let long = length-take-le left w W.long in
    all_from (λ (v : ℕ). v < n) (take left w) (λ i l. let here : i < left = omega arith in omega (arith, get_or-take left w i 0 here, W.nodes_in_known i here))

module _ (n : ℕ) (xs ys : List ℕ) where
  abbrev in_arrays : ℕ → ℕ → ℕ
  in_arrays u v = squared (point_in xs ys u) (point_in xs ys v)

  apart_is : (u v : ℕ) → u < n → v < n → in_arrays u v ≡ apart (nodes_in n xs ys) u v
  apart_is u v h k =
      let at : (w : ℕ) → w < n → point_in xs ys w ≡ get_or (nodes_in n xs ys) w no_point = λ w l. sym (tabulate_at (point_in xs ys) n w no_point l) in
      ap (λ (p : Point). squared p (point_in xs ys v)) (at u h) ∙ ap (squared (get_or (nodes_in n xs ys) u no_point)) (at v k)

  same_order : SameOrder (λ (v : ℕ). v < n) ltb in_arrays ltb (apart (nodes_in n xs ys))
  same_order = record { order = λ u v a b hu hv ha hb. ap (λ (d : ℕ). ltb d (in_arrays a b)) (apart_is u v hu hv) ∙ ap (ltb (apart (nodes_in n xs ys) u v)) (apart_is a b ha hb) }

  pub greedy_is : (room : ℕ) (w : List ℕ) (count : ℕ) → NodeList n room w count
      → nearest_pairs ltb count in_arrays (take count w) ≡ greedy_pairs count (nodes_in n xs ys) (take count w)
  unfolding greedy_pairs
  greedy_is room w count W = pairs_alike (λ (v : ℕ). v < n) ltb in_arrays ltb (apart (nodes_in n xs ys)) same_order count (take count w) (nodes_all n room w count W)
