-- What the pairs cost, and the choice of the pairs.
use mathlib.Core.Path.{◌≡◌, sym, ap, ◌∙◌, subst}
use mathlib.Core.List.{List}
use Prim.Native.Nat.{ℕ, suc, ◌+◌, ◌-◌, ◌*◌, ◌/◌, ◌%◌, ◌≤◌, ◌<◌}
use native.Mathlib.Nat.{div-lt_iff_lt-mul, mod-lt, div-add-mod'}
use native.Mathlib.Decide.{ℕ_discrete}
use native.Mathlib.Numerals.{add-one}
use native.Mathlib.Omega.{arith}
use mathlib.Core.Bool.{Bool, true, false}
use lib.ListN.{length, get_or, take}
use lib.Seq.{get_or-take, length-take-le}
use lib.Dec.{ltb}
use lib.Ieee.{Float, binary64, add, lt, le, nan, to_bits}
use Rattle.drawing_spec.specs.Drawing.{Point}
use Rattle.lists.specs.Members.{All}
use Rattle.sums.specs.Key.{Nonneg}
use Rattle.sums.proofs.Bits.{bits_order}
use Rattle.limits.specs.Limits.{most_nodes}
use Rattle.graph_spec.specs.Odd.{odd_nodes}
use Rattle.graph_adjacency.specs.Lists.{Adjacency}
use Rattle.graph_odd.proofs.Listed.{odd_few}
use Rattle.graph_arrays.specs.Arrays.{edges_in, EdgesHeld, Front}
use Rattle.graph_arrays.specs.NodeList.{NodeList}
use Rattle.graph_arrays.proofs.NodeList.{front_nodes}
use Rattle.repair_spec.specs.Repair.{rows, distance_in}
use Rattle.repair_spec.proofs.Cost.{least_nonneg}
use Rattle.repair_spec.proofs.Least.{least_distance}
use Rattle.repair_spec.proofs.Repaired.{odd_at}
use Rattle.repair_distances.specs.Rows.{Rows}
use Rattle.repair_distances.proofs.Known.{table_known}
use Rattle.repair_spec.specs.Distance.{zero_length}
use Rattle.repair_spec.specs.Pairing.{Pair, nearest_pairs, apart, greedy_pairs, graph_pairs, add_pairs, cost_of, less_costly, busy_pairs}
use Rattle.repair_spec.specs.PairsIn.{pairs_in}
use Rattle.repair_spec.proofs.Choices.{cost_same}
use Rattle.repair_spec.proofs.Alike.{all_from, nearest_ends, SameOrder, pairs_alike}
use Rattle.repair_greedy.specs.declared.Distances.{Distances}
use Rattle.repair_greedy.specs.Costs.{entry_of}
use Rattle.repair_greedy.proofs.Costs.{index_inside}
use Rattle.repair_busy.specs.Table.{Placed, Numbers, Tabled, BusyBy, busy_for}

-- ---- what the pairs cost, one after the other

module _ (d : ℕ → ℕ → Float) (fs ss : List ℕ) where
  pub cost_start : (k : ℕ) (x : Float) → x ≡ zero_length → add_pairs d (pairs_in fs ss 0 (k - 0)) x ≡ cost_of d (pairs_in fs ss 0 k)
  unfolding cost_of
  cost_start k x e = let z : k - 0 ≡ k = omega arith in ap (λ (j : ℕ). add_pairs d (pairs_in fs ss 0 j) x) z ∙ ap (add_pairs d (pairs_in fs ss 0 k)) e

  pub cost_turn : (pairs k : ℕ) (x y : Float) (r : Float) → k < pairs → y ≡ d (get_or fs k 0) (get_or ss k 0) → add_pairs d (pairs_in fs ss k (pairs - k)) x ≡ r
      → add_pairs d (pairs_in fs ss (k + 1) (pairs - (k + 1))) (add binary64 x y) ≡ r
  unfolding pairs_in add_pairs
  cost_turn pairs k x y r h e inv =
      let more : pairs - k ≡ suc (pairs - (k + 1)) = omega arith in
      ap (λ (z : Float). add_pairs d (pairs_in fs ss (k + 1) (pairs - (k + 1))) (add binary64 x z)) e
      ∙ ap (λ (j : ℕ). add_pairs d (pairs_in fs ss j (pairs - (k + 1))) (add binary64 x (d (get_or fs k 0) (get_or ss k 0)))) (add-one k)
      ∙ sym (ap (λ (j : ℕ). add_pairs d (pairs_in fs ss k j) x) more) ∙ inv

  pub cost_end : (pairs k : ℕ) (x r : Float) → pairs ≤ k → add_pairs d (pairs_in fs ss k (pairs - k)) x ≡ r → x ≡ r
  unfolding pairs_in add_pairs
  cost_end pairs k x r h inv = let none : pairs - k ≡ 0 = omega arith in sym (ap (λ (j : ℕ). add_pairs d (pairs_in fs ss k j) x) none) ∙ inv

-- ---- the table has the distances

-- v is one of the first `count` nodes of the list
abbrev Listed : List ℕ → ℕ → ℕ → Type 0
Listed odd count v = (j : ℕ) × (j < count) × (get_or odd j 0 ≡ v)

all_listed : (odd : List ℕ) (count : ℕ) → count ≤ length odd → All (Listed odd count) (take count odd)
all_listed odd count long =
    let all = length-take-le count odd long in
    all_from (Listed odd count) (take count odd) (λ i h. let here : i < count = omega arith in (i, here, sym (get_or-take count odd i 0 here)))

module _ (ns : List Point) (odd : List ℕ) (D : Distances) (long : D.size ≤ length odd) (P : Placed odd D.size D.size D.places)
    (d : ℕ → ℕ → Float) (T : Tabled d odd D.size D.table.now) where
  at_place : (u : ℕ) → Listed odd D.size u → get_or odd (get_or D.places u 0) 0 ≡ u
  at_place u l = let e = l.2 in ap (λ (v : ℕ). get_or odd (get_or D.places v 0) 0) (sym e) ∙ P.right l.0 l.1 ∙ e

  entry_known : (u v : ℕ) → Listed odd D.size u → Listed odd D.size v → entry_of D u v ≡ d u v
  entry_known u v l k =
      sym (T.entries (get_or D.places u 0) (get_or D.places v 0) (P.inside u) (P.inside v)) ∙ ap (λ (w : ℕ). d w (get_or odd (get_or D.places v 0) 0)) (at_place u l) ∙ ap (d u) (at_place v k)

  abbrev vs : List ℕ
  vs = take D.size odd

  abbrev by_table : ℕ → ℕ → Float
  by_table = entry_of D

  entry_number : Numbers D.size D.table.now → (u v : ℕ) → Nonneg binary64 (by_table u v)
  entry_number N u v = N.numbers _ (index_inside (get_or D.places u 0) (get_or D.places v 0) D.size (P.inside u) (P.inside v))

  -- the code compares the bits of the table's entries, the definition the distances
  same_order : Numbers D.size D.table.now → SameOrder (Listed odd D.size) ltb (λ (u v : ℕ). to_bits binary64 (by_table u v)) lt d
  same_order N = record {
    order = λ u v a b hu hv ha hb.
        bits_order (by_table u v) (by_table a b) (entry_number N u v) (entry_number N a b)
        ∙ ap (λ (x : Float). lt x (by_table a b)) (entry_known u v hu hv) ∙ ap (lt (d u v)) (entry_known a b ha hb);
  }

  module _ (N : Numbers D.size D.table.now) (ps qs : List Pair) (x y : Float) (greedy : ps ≡ greedy_pairs D.size ns vs) (near : qs ≡ nearest_pairs ltb D.size (λ (u v : ℕ). to_bits binary64 (by_table u v)) vs)
      (paid : x ≡ cost_of by_table ps) (asked : y ≡ cost_of by_table qs) where
    greedy_all : ps ≡ greedy_pairs (length vs) ns vs
    greedy_all = greedy ∙ ap (λ (k : ℕ). greedy_pairs k ns vs) (sym (length-take-le D.size odd long))

    near_all : qs ≡ graph_pairs d vs
    unfolding graph_pairs
    near_all =
        near
        ∙ pairs_alike (Listed odd D.size) ltb (λ (u v : ℕ). to_bits binary64 (by_table u v)) lt d (same_order N) D.size vs (all_listed odd D.size long)
        ∙ ap (λ (k : ℕ). nearest_pairs lt k d vs) (sym (length-take-le D.size odd long))

    paid_is : x ≡ cost_of d (greedy_pairs (length vs) ns vs)
    unfolding cost_of greedy_pairs
    paid_is =
        paid ∙ ap (cost_of by_table) greedy_all
        ∙ cost_same (Listed odd D.size) by_table d entry_known (greedy_pairs (length vs) ns vs) zero_length (nearest_ends (Listed odd D.size) ltb (length vs) (apart ns) vs (all_listed odd D.size long))

    asked_is : y ≡ cost_of d (graph_pairs d vs)
    unfolding cost_of graph_pairs
    asked_is =
        asked ∙ ap (cost_of by_table) near_all
        ∙ cost_same (Listed odd D.size) by_table d entry_known (graph_pairs d vs) zero_length (nearest_ends (Listed odd D.size) lt (length vs) d vs (all_listed odd D.size long))

    chosen_by : (t : Bool) → le x y ≡ t → busy_pairs ns d vs ≡ elim t [ true ↦ greedy_pairs (length vs) ns vs | false ↦ graph_pairs d vs ]
    unfolding busy_pairs less_costly
    chosen_by t e =
        ap (λ (b : Bool). elim b [ true ↦ greedy_pairs (length vs) ns vs | false ↦ graph_pairs d vs ])
        (sym (ap (λ (z : Float). le z (cost_of d (graph_pairs d vs))) paid_is) ∙ sym (ap (le x) asked_is) ∙ e)

    pub greedy_kept : le x y ≡ true → ps ≡ busy_pairs ns d vs
    greedy_kept e = greedy_all ∙ sym (chosen_by true e)

    pub near_taken : le x y ≡ false → qs ≡ busy_pairs ns d vs
    near_taken e = near_all ∙ sym (chosen_by false e)

-- ---- the rows of distances as the table

module _ (n m : ℕ) (a : Adjacency) (E : EdgesHeld n m a) (odd : List ℕ) (count : ℕ) (F : Front (odd_nodes n (edges_in m a)) odd count) where
  pub odd_nodes_lem : NodeList n most_nodes odd count
  odd_nodes_lem = front_nodes (odd_nodes n (edges_in m a)) odd count F n most_nodes (omega (arith, odd_few (edges_in m a) n, E.edges.few_nodes)) (odd_at n (edges_in m a))

  module _ (ws : List Float) (R : Rows n (edges_in m a) odd count 0 count ws) where
    -- each entry is a least distance
    pub rows_numbers : Numbers count ws
    rows_numbers = record {
      numbers = λ k h.
          let some : 0 < count = elim (ℕ_discrete count 0) [ yes z ↦ absurd (omega (arith, h, ap (λ (x : ℕ). x * x) z)) | no z ↦ omega (arith, z) ] in
          let i = k / count in
          let j = k % count in
          let hi : i < count = (div-lt_iff_lt-mul some).1 h in
          let hj : j < count = mod-lt k some in
          let at : 0 + i * count + j ≡ k = omega (arith, div-add-mod' k count) in
          let es = edges_in m a in
          subst (λ (x : Float). Nonneg binary64 x) (sym (R i j hi hj) ∙ ap (λ (x : ℕ). get_or ws x nan) at)
          (least_nonneg es E.searchable.weights (get_or odd i 0) (least_distance n es E.searchable.weights E.edges.inside (get_or odd i 0) (odd_nodes_lem.nodes_in_known i hi) (get_or odd j 0)));
    }

    pub rows_tabled : Tabled (distance_in (rows n (edges_in m a) (odd_nodes n (edges_in m a)))) odd count ws
    rows_tabled = record {
      entries = λ i j hi hj.
          let none : 0 + i * count + j ≡ i * count + j = omega arith in
          table_known n (edges_in m a) odd (odd_nodes n (edges_in m a)) count 0 ws F R i j hi hj ∙ ap (λ (x : ℕ). get_or ws x nan) none;
    }

    pub busy_is : (ns : List Point) (ps : List Pair) → BusyBy ns odd count ws ps → ps ≡ busy_for ns n (edges_in m a)
    busy_is ns ps B = B.are _ rows_tabled ∙ ap (busy_pairs ns (distance_in (rows n (edges_in m a) (odd_nodes n (edges_in m a))))) F.are
