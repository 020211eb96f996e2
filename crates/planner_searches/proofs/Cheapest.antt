-- Laws of specs/Cheapest: that the pairs which the retraces of a file join are the cheapest, since they are those that Optimal takes, and that every cost is a number, since no node is 2 ^ 41 away. Assumes nothing.
use mathlib.Core.Path.{◌≡◌, sym, ap, ◌∙◌, subst}
use mathlib.Core.List.{List, [], ◌∷◌, reverse}
use mathlib.Core.Bool.{true}
use Prim.Native.Nat.{ℕ, suc, ◌+◌, ◌*◌, ◌^◌, ◌≤◌, ◌<◌}
use native.Mathlib.Nat.{le_trans, le_of_lt, le_of_eq, lt_of_le_of_lt, mul-le-mul_right}
use native.Mathlib.Omega.{arith}
use lib.ListN.{length, length-reverse}
use lib.Dec.{lit≤, lit<}
use lib.Ieee.{Float, binary64}
use lib.Ieee.Scale.{overflow}
use borrow.Author.Tests.{le-leb}
use Rattle.limits.specs.Limits.{most_odd, most_edges, refused_edges}
use Rattle.sums.specs.Key.{Nonneg, key}
use Rattle.sums.proofs.Sum.{zero_key, zero_nonneg, add_nonneg}
use Rattle.lists.specs.Members.{In, All}
use Rattle.lists.proofs.Members.{all_imp, all_reverse}
use Rattle.drawing_spec.specs.Drawing.{Settings, optimal}
use Rattle.drawing_spec.specs.Accepted.{Passed}
use Rattle.drawing_spec.proofs.Accepted.{accepted_passes}
use Rattle.graph_spec.specs.Graph.{Edge, Graph, build_graph}
use Rattle.graph_spec.specs.Odd.{odd_nodes}
use Rattle.graph_spec.specs.Reach.{all_reached}
use Rattle.graph_spec.specs.Weights.{Searchable}
use Rattle.graph_spec.proofs.Odd.{odd_nodes_member}
use Rattle.repair_spec.specs.Distance.{infinity, zero_length, distance_at, distances}
use Rattle.repair_spec.specs.Pairing.{Pair, greedy_pairs, optimal_pairs, add_pairs, cost_of}
use Rattle.repair_spec.specs.Repair.{Repair, Repairing, repaired, rows, distance_in, optimal_of, pairs_of}
use Rattle.repair_spec.specs.Cheapest.{taken_by, LeavesTwo, rising, choice_cost, LeastBetween, NoCheaper}
use Rattle.repair_spec.proofs.Cost.{least_nonneg, least_unique}
use Rattle.repair_spec.proofs.Least.{least_distance}
use Rattle.repair_spec.proofs.Choices.{counts_leave, Both, rising_both, rising_number, leaves_number}
use Rattle.repair_spec.proofs.Cheapest.{odd_once, no_cheaper}
use Rattle.repair_spec.proofs.NoDearer.{cost_nonneg}
use Rattle.repair_spec.proofs.Pairs.{greedy_pairs_lem}
use Rattle.repair_spec.proofs.Taken.{taken_are}
use Rattle.repair_early_exit.proofs.Bounded.{one_more_kept}
use Rattle.repair_early_exit.proofs.Found.{reached_near}
use Rattle.repair_early_exit.proofs.Never.{OnePiece, reached_one_piece}
use Rattle.planner_spec.specs.Plan.{Lent, Planned, planned, drawing_in, repair_of, answer_for, odd_count, plan}
use Rattle.planner_spec.specs.Words.{retraces_of}
use Rattle.planner_spec.proofs.Plan.{drawn as drawn_plan, file_planned, drawing_graph}
use Rattle.planner_searches.specs.Searches as searches
use Rattle.planner_searches.specs.Searches.{odd_list_of}
use Rattle.planner_searches.specs.Cheapest.{taken_in, PairedCheapest, Statement}
use Rattle.planner_searches.proofs.Files.{graph_searchable}

-- ---- the pairs are Optimal's

optimal_are : (g : Graph) (s : Settings) (odd : List ℕ) → optimal s ≡ true → length odd ≤ most_odd → pairs_of g s odd ≡ optimal_pairs (distance_in (rows (length g.nodes) g.edges odd)) odd
unfolding pairs_of optimal_of
optimal_are g s odd e few = rw (e, pairs_of) (rw (le-leb (length odd) most_odd few, optimal_of))

-- ---- every cost is a number

-- each pair of ps costs 2 ^ j units at most
module _ (d : ℕ → ℕ → Float) (j : ℕ) where
  abbrev Bounded : Pair → Type 0
  Bounded p = Nonneg binary64 (d p.from p.to) × (key binary64 (d p.from p.to) ≤ 2 ^ j)

  sum_within : (ps : List Pair) (i n : ℕ) (x : Float) → i + length ps ≡ n → n < 2 ^ 53 → n * 2 ^ j < overflow binary64 → All Bounded ps → Nonneg binary64 x → key binary64 x ≤ i * 2 ^ j → key binary64 (add_pairs d ps x) ≤ n * 2 ^ j
  unfolding add_pairs
  sum_within [] i n x e small fine a p h = let same : i ≡ n = omega arith in rw (← same) h
  sum_within (q ∷ ps) i n x e small fine a p h =
      let l : suc i ≤ n = omega arith in
      sum_within ps (suc i) n _ (omega arith) small fine a.1 (add_nonneg binary64 x (d q.from q.to) p a.0.0)
      (one_more_kept j i x (d q.from q.to) (lt_of_le_of_lt l small) (lt_of_le_of_lt (mul-le-mul_right (2 ^ j) l) fine) p a.0.0 h a.0.1)

module _ (n : ℕ) (es : List Edge) (G : Searchable n es) (C : OnePiece n es) (few : length (odd_nodes n es) ≤ most_odd) (far : ℕ → ℕ → Float) (F : LeastBetween es (odd_nodes n es) far) where
  abbrev odd : List ℕ
  odd = odd_nodes n es

  far_nonneg : (u v : ℕ) → In u odd → In v odd → Nonneg binary64 (far u v)
  far_nonneg u v i k = least_nonneg es G.weights u (F u v i k)

  near : (u v : ℕ) → In u odd → In v odd → key binary64 (far u v) ≤ 2 ^ 1115
  near u v i k =
      let hu = ((odd_nodes_member n es u).0 i).0 in
      let hv = ((odd_nodes_member n es v).0 k).0 in
      let same : far u v ≡ distance_at (distances n es u) v = least_unique es G.weights u (F u v i k) (least_distance n es G.weights G.inside u hu v) in
      le_trans (le_of_eq (ap (key binary64) same)) (le_trans (le_of_lt (reached_near n es G u hu (C u v hu hv))) (lit≤ tt))

  cost_number : (ps : List Pair) → LeavesTwo odd ps → Nonneg binary64 (choice_cost far ps) × (key binary64 (choice_cost far ps) < key binary64 infinity)
  unfolding choice_cost cost_of
  cost_number ps L = (
    cost_nonneg far (λ (v : ℕ). In v odd) far_nonneg qs both,
    lt_of_le_of_lt
        (sum_within far 1115 qs 0 (length qs) zero_length (omega arith) (lt_of_le_of_lt number (lit< tt)) (lt_of_le_of_lt (mul-le-mul_right (2 ^ 1115) number) (lit< tt)) bounded (zero_nonneg binary64) (le_of_eq (zero_key binary64)))
        (lt_of_le_of_lt (mul-le-mul_right (2 ^ 1115) number) (lit< tt)),
  )
    where
      qs : List Pair
      qs = reverse (rising ps)

      number : length qs ≤ 10
      number = omega (arith, length-reverse (rising ps), rising_number ps, leaves_number odd ps L, few)

      both : All (Both (λ (v : ℕ). In v odd)) qs
      both = all_reverse (Both (λ (v : ℕ). In v odd)) (rising ps) (rising_both (λ (v : ℕ). In v odd) ps L.nodes)

      bounded : All (Bounded far 1115) qs
      bounded = all_imp (Both (λ (v : ℕ). In v odd)) (Bounded far 1115) (λ p b. (far_nonneg p.from p.to b.0 b.1, near p.from p.to b.0 b.1)) qs both

-- ---- of a file

module _ (file : List ℕ) (passes : Passed file) (reached : all_reached (length (build_graph (drawing_in file)).nodes) (build_graph (drawing_in file)).edges ≡ true) where
  abbrev g : Graph
  g = build_graph (drawing_in file)

  file_cheapest : (r : Repair) → repair_of g (drawing_in file).settings ≡ repaired r → optimal (drawing_in file).settings ≡ true → 4 ≤ length (odd_list_of g) → length (odd_list_of g) ≤ most_odd → PairedCheapest (drawing_in file)
  unfolding repair_of
  file_cheapest r e chosen many few =
      let G = graph_searchable file passes in
      let n = searches.count g in
      let taken : taken_in (drawing_in file) ≡ optimal_pairs (distance_in (rows n g.edges (odd_list_of g))) (odd_list_of g)
      = ap (λ (x : Repairing). taken_by (length (odd_list_of g)) (retraces_of x)) e ∙ taken_are most_edges refused_edges g (drawing_in file).settings G.inside (omega arith) r e ∙ optimal_are g (drawing_in file).settings (odd_list_of g) chosen few in
      record {
        no_cheaper = subst (NoCheaper g.edges (odd_list_of g)) (sym taken) (no_cheaper n g.edges G.weights G.inside (omega arith));
        number = cost_number n g.edges G (reached_one_piece n g.edges reached) few;
      }

-- change request 6
pub accepted_cheapest : Statement
unfolding answer_for odd_count
accepted_cheapest file lent answer e chosen many few =
    let a = file_planned file lent answer e in
    let d = rw (drawing_graph (drawing_in file) lent) at (rw a.1 at e) in
    let D = drawn_plan (build_graph (drawing_in file)) (drawing_in file).settings lent answer d in
    let before : length (odd_list_of (build_graph (drawing_in file))) ≡ answer.before = ap (λ (x : Planned). x.before) D.answers in
    file_cheapest file (accepted_passes file a.0) D.reached D.repair D.repairs chosen (omega (arith, before)) (omega (arith, before))

-- so Greedy's pairs, which are such a choice, cost no less
pub accepted_no_dearer : (file : List ℕ) (lent : Lent) (answer : Planned) → (plan file lent).answer ≡ planned answer → optimal (drawing_in file).settings ≡ true → 4 ≤ answer.before → answer.before ≤ most_odd
    → (far : ℕ → ℕ → Float) → LeastBetween (build_graph (drawing_in file)).edges (odd_list_of (build_graph (drawing_in file))) far
    → key binary64 (choice_cost far (taken_in (drawing_in file))) ≤ key binary64 (choice_cost far (greedy_pairs (length (odd_list_of (build_graph (drawing_in file)))) (build_graph (drawing_in file)).nodes (odd_list_of (build_graph (drawing_in file)))))
accepted_no_dearer file lent answer e chosen many few far F =
    let g = build_graph (drawing_in file) in
    let odd = odd_list_of g in
    let N = (accepted_cheapest file lent answer e chosen many few).no_cheaper in
    let number = leaves_number odd (taken_in (drawing_in file)) N.choice in
    N.least far F (greedy_pairs (length odd) g.nodes odd)
    (counts_leave odd (greedy_pairs (length odd) g.nodes odd) (odd_once (searches.count g) g.edges) (greedy_pairs_lem (length odd) g.nodes odd (omega arith) (omega arith) (omega arith)))
