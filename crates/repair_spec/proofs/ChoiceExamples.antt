-- Choices of pairs worked out: what is one and what is none, in which order its pairs are added, and a small drawing in which another choice would win in rising order.
use Prim.Native.Nat.{ℕ, ◌<◌}
use native.Mathlib.Nat.{not-le_of_lt}
use native.Mathlib.Omega.{arith}
use mathlib.Core.Path.{◌≡◌, refl}
use mathlib.Core.Logic.{inl, inr}
use mathlib.Core.List.{List, [], ◌∷◌, map}
use mathlib.Core.Bool.{true, false}
use lib.Dec.{eqb, ltb, lit<}
use lib.IntN.{negsuc}
use lib.Ieee.{Float, fin, binary64, fits, to_bits}
use Rattle.sums.specs.Key.{Nonneg}
use Rattle.lists.specs.Members.{In}
use Rattle.lists.proofs.Members.{all_in}
use Rattle.graph_spec.specs.Graph.{Edge, edge}
use Rattle.graph_spec.specs.Odd.{odd_from, odd_nodes}
use Rattle.graph_spec.specs.Ways.{Inside}
use Rattle.graph_spec.specs.Weights.{Weights}
use Rattle.graph_spec.proofs.Occurs.{count}
use Rattle.repair_spec.specs.Pairing.{Pair, pair, ends, greedy_pairs, optimal_pairs, cost_of}
use Rattle.repair_spec.specs.Repair.{rows, distance_in}
use Rattle.repair_spec.specs.Cheapest.{taken_by, LeavesTwo, rising, choice_cost, NoCheaper}
use Rattle.repair_spec.proofs.Without.{in_count, count_in}
use Rattle.repair_spec.proofs.Cheapest.{table, table_least}
use Rattle.repair_spec.proofs.Examples.{one, one_and_more, two, tiny, at}

-- the last retrace of six odd nodes closes the line, and joins no pair
not_the_closing_one : map (taken_by 6) (((1 ∷ 0 ∷ 2 ∷ []) ∷ (3 ∷ 4 ∷ []) ∷ []) ∷ ((1 ∷ 0 ∷ 2 ∷ []) ∷ (3 ∷ 4 ∷ []) ∷ (5 ∷ 0 ∷ 6 ∷ []) ∷ []) ∷ [])
    ≡ (pair 1 2 ∷ pair 3 4 ∷ []) ∷ (pair 1 2 ∷ pair 3 4 ∷ []) ∷ []
unfolding taken_by
not_the_closing_one = refl

-- ---- what is a choice of pairs of six nodes, and what is none

abbrev six : List ℕ
six = 0 ∷ 1 ∷ 2 ∷ 3 ∷ 4 ∷ 5 ∷ []

absent : (v : ℕ) (us : List ℕ) → count v us ≡ 0 → In v us → ⊥
absent v us e i = omega (arith, in_count v us i)

any_order : LeavesTwo six (pair 5 2 ∷ pair 0 3 ∷ [])
unfolding ends count
any_order = record {
  nodes = (count_in 5 six (lit< tt), (count_in 2 six (lit< tt), (count_in 0 six (lit< tt), (count_in 3 six (lit< tt), tt))));
  once = (absent 5 (2 ∷ 0 ∷ 3 ∷ []) refl, (absent 2 (0 ∷ 3 ∷ []) refl, (absent 0 (3 ∷ []) refl, (absent 3 [] refl, tt))));
  two_left = refl;
}

node_twice : LeavesTwo six (pair 0 1 ∷ pair 1 2 ∷ []) → ⊥
unfolding ends
node_twice L = L.once.1.0 (inl refl)

with_itself : LeavesTwo six (pair 0 0 ∷ pair 1 2 ∷ []) → ⊥
unfolding ends
with_itself L = L.once.0 (inl refl)

another_node : LeavesTwo six (pair 0 7 ∷ pair 1 2 ∷ []) → ⊥
unfolding ends count
another_node L = absent 7 six refl L.nodes.1.0

four_left : LeavesTwo six (pair 0 1 ∷ []) → ⊥
unfolding ends
four_left L = omega (arith, L.two_left)

none_left : LeavesTwo six (pair 0 1 ∷ pair 2 3 ∷ pair 4 5 ∷ []) → ⊥
unfolding ends
none_left L = omega (arith, L.two_left)

-- those that end at 4 or 5 cost more, so that these two are left out
last_two_left : optimal_pairs (λ (u v : ℕ). elim (ltb v 4) [ true ↦ one | false ↦ two ]) six ≡ pair 0 1 ∷ pair 2 3 ∷ []
unfolding optimal_pairs
last_two_left = refl

-- ---- what it costs

lower_nodes_rise : rising (pair 5 2 ∷ pair 0 3 ∷ pair 4 1 ∷ []) ≡ pair 0 3 ∷ pair 1 4 ∷ pair 2 5 ∷ []
unfolding rising
lower_nodes_rise = refl

-- from 2 to 4 it is 1, and back 2
lower_to_higher : map (λ (p : Pair). choice_cost (λ (u v : ℕ). elim (ltb u v) [ true ↦ one | false ↦ two ]) (p ∷ [])) (pair 4 2 ∷ pair 2 4 ∷ []) ≡ one ∷ one ∷ []
unfolding choice_cost
lower_to_higher = refl

-- One pair costs 1, the two others 2 ^ -53. Those are added first where the lower node of the long one is the lowest, and lost one by one where it is the highest.
lowest_last : map (λ (long : ℕ). to_bits binary64 (choice_cost (λ (u v : ℕ). elim (eqb u long) [ true ↦ one | false ↦ tiny ]) (pair 1 2 ∷ pair 0 3 ∷ pair 5 4 ∷ []))) (0 ∷ 4 ∷ [])
    ≡ map (to_bits binary64) (one_and_more ∷ one ∷ [])
unfolding choice_cost to_bits
lowest_last = refl

-- ---- what the statement refuses: of four arms of the lengths 1, 1, 2 and 2 the two long ones paired

abbrev arms : List Edge
arms = edge 0 1 one ∷ edge 0 2 one ∷ edge 0 3 two ∷ edge 0 4 two ∷ []

arms_weights : Weights arms
unfolding fits
arms_weights = let w : Nonneg binary64 one = record { fit = tt; sign = tt } in let v : Nonneg binary64 two = record { fit = tt; sign = tt } in all_in (λ (e : Edge). Nonneg binary64 e.weight) arms (w, (w, (v, (v, tt))))

arms_inside : Inside 5 arms
arms_inside = let l : 0 < 5 = lit< tt in all_in (λ (e : Edge). (e.a < 5) × (e.b < 5)) arms ((l, lit< tt), ((l, lit< tt), ((l, lit< tt), ((l, lit< tt), tt))))

short_arms : LeavesTwo (odd_nodes 5 arms) (pair 1 2 ∷ [])
unfolding ends odd_from count
short_arms = record { nodes = (inl refl, (inr (inl refl), tt)); once = (absent 1 (2 ∷ []) refl, (absent 2 [] refl, tt)); two_left = refl }

dearer : NoCheaper arms (odd_nodes 5 arms) (pair 3 4 ∷ []) → ⊥
unfolding choice_cost distance_in rows odd_from
dearer N = not-le_of_lt (lit< tt) (N.least (table 5 arms arms_weights arms_inside) (table_least 5 arms arms_weights arms_inside) (pair 1 2 ∷ []) short_arms)

-- it is what Greedy takes where the ends of the long arms are near to each other, so nothing of the kind holds of Greedy
greedy_dearer : greedy_pairs 4 (at 0 ∷ at 10 ∷ at 30 ∷ at 60 ∷ at 61 ∷ []) (1 ∷ 2 ∷ 3 ∷ 4 ∷ []) ≡ pair 3 4 ∷ []
unfolding greedy_pairs
greedy_dearer = refl

-- ---- a drawing with another choice in rising order, the smallest that we know of without flag 4: the lines (0,0) (0,1) and (0,2) (1,0), and links from line 1 to line 0, (2,0) to (2,1) and (1,1) to (1,2)

abbrev root2 : Float
root2 = fin false 6369051672525773 (negsuc 51)

abbrev root5 : Float
root5 = fin false 5035177455121576 (negsuc 50)

abbrev small : List Edge
small = edge 0 1 root5 ∷ edge 1 2 root2 ∷ edge 2 3 root2 ∷ edge 4 5 root2 ∷ edge 5 6 root2 ∷ edge 6 7 one ∷ edge 6 1 one ∷ edge 5 2 one ∷ []

eight : List ℕ
eight = 0 ∷ 1 ∷ 2 ∷ 3 ∷ 4 ∷ 5 ∷ 6 ∷ 7 ∷ []

far : ℕ → ℕ → Float
unfolding distance_in rows
far = distance_in (rows 8 small eight)

small_taken : optimal_pairs far eight ≡ pair 2 3 ∷ pair 4 5 ∷ pair 6 7 ∷ []
unfolding optimal_pairs far eight
small_taken = refl

-- In falling order the pairs taken cost less than others by the last bit, in rising order more.
order_decides : map (to_bits binary64) (choice_cost far (pair 2 3 ∷ pair 4 5 ∷ pair 6 7 ∷ []) ∷ choice_cost far (pair 1 6 ∷ pair 2 3 ∷ pair 4 5 ∷ [])
    ∷ cost_of far (rising (pair 2 3 ∷ pair 4 5 ∷ pair 6 7 ∷ [])) ∷ cost_of far (rising (pair 1 6 ∷ pair 2 3 ∷ pair 4 5 ∷ [])) ∷ [])
    ≡ 0x400ea09e667f3bcc ∷ 0x400ea09e667f3bcd ∷ 0x400ea09e667f3bcd ∷ 0x400ea09e667f3bcc ∷ []
unfolding choice_cost far eight to_bits
order_decides = refl
