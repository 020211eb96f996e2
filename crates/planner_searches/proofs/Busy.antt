-- For every file that passes checks 1 to 9: what the source's `greedy_graph_distance_matching` finds is what `graph_pairs` finds, and the pairs that are kept cost no more than either pairing.
-- Every distance between odd nodes is a least one and finite, so that the source never comes to its fallback, the length of the straight line for an infinite distance; and it begins with infinity in hand,
-- which no distance is.
use mathlib.Core.Path.{◌≡◌, refl, ap, subst, ◌∙◌}
use mathlib.Core.Bool.{Bool, true, false}
use mathlib.Core.List.{List, ◌∷◌}
use Prim.Native.Nat.{ℕ, ◌≤◌, ◌<◌}
use native.Mathlib.Nat.{le_refl, not-le_of_lt}
use lib.ListN.{length, get_or}
use lib.Ieee.{Float, nan, inf, fin, binary64, lt}
use lib.Ieee.Scale.{finite}
use borrow.Author.Tests.{lt-ltb}
use Rattle.sums.specs.Key.{Nonneg, key}
use Rattle.sums.proofs.KeyLaws.{lt_key}
use Rattle.sums.proofs.Sum.{inf_nonneg}
use Rattle.drawing_spec.specs.Accepted.{Passed}
use Rattle.lists.specs.Members.{All}
use Rattle.drawing_spec.specs.Drawing.{Point}
use Rattle.graph_spec.specs.Graph.{build_graph}
use Rattle.graph_spec.specs.Reach.{all_reached}
use Rattle.repair_spec.specs.Distance.{infinity}
use Rattle.repair_spec.specs.Pairing.{Pair, nothing, between, closest, nearest_pairs, greedy_pairs, graph_pairs, cost_of, busy_pairs}
use Rattle.repair_spec.specs.Repair.{rows, distance_in}
use Rattle.repair_spec.proofs.Alike.{all_from, from_above, SameOrder, pairs_alike}
use Rattle.repair_spec.proofs.Cost.{least_nonneg}
use Rattle.repair_spec.proofs.NoDearer.{busy_no_dearer}
use Rattle.repair_spec.proofs.Repaired.{odd_at}
use Rattle.planner_spec.specs.Plan.{drawing_in}
use Rattle.planner_searches.specs.Searches as searches
use Rattle.planner_searches.specs.Searches.{odd_list_of, LeastFinite}
use Rattle.planner_searches.proofs.Files.{graph_searchable}
use Rattle.planner_searches.proofs.Searches.{file_searches}

-- the distance that the source compares: where it is not finite, another one
abbrev pub or_else : (ℕ → ℕ → Float) → (ℕ → ℕ → Float) → ℕ → ℕ → Float
or_else far other u v = elim (finite (far u v)) [ true ↦ far u v | false ↦ other u v ]

-- below infinity is finite, where it is not negative
finite_below : (x : Float) → Nonneg binary64 x → key binary64 x < key binary64 infinity → finite x ≡ true
finite_below nan p h = absurd p.sign
finite_below (inf true) p h = absurd p.sign
finite_below (inf false) p h = absurd (not-le_of_lt h (le_refl (key binary64 infinity)))
finite_below (fin s m e) p h = refl

module _ (file : List ℕ) (passes : Passed file) (reached : all_reached (length (build_graph (drawing_in file)).nodes) (build_graph (drawing_in file)).edges ≡ true) where
  abbrev odd : List ℕ
  odd = odd_list_of (build_graph (drawing_in file))

  abbrev OddNode : ℕ → Type 0
  OddNode v = (i : ℕ) × (i < length odd) × (get_or odd i 0 ≡ v)

  all_odd : All OddNode odd
  all_odd = all_from OddNode odd (λ i h. (i, h, refl))

  -- the distances that Optimal pairs by
  abbrev far : ℕ → ℕ → Float
  far = distance_in (rows (searches.count (build_graph (drawing_in file))) (build_graph (drawing_in file)).edges odd)

  -- each is the least over all ways, and finite
  pub far_least : (u v : ℕ) → OddNode u → OddNode v → LeastFinite (build_graph (drawing_in file)).edges u v (far u v)
  far_least u v p q =
      let S = file_searches file passes reached in
      let n = searches.count (build_graph (drawing_in file)) in
      let es = (build_graph (drawing_in file)).edges in
      let below : v < n = subst (λ (w : ℕ). w < n) q.2 (odd_at n es q.0 q.1) in
      subst (λ (w : ℕ). LeastFinite es w v (far w v)) p.2 (S.of_pairing p.0 p.1 v below)

  far_nonneg : (u v : ℕ) → OddNode u → OddNode v → Nonneg binary64 (far u v)
  far_nonneg u v p q = least_nonneg (build_graph (drawing_in file)).edges (graph_searchable file passes).weights u (far_least u v p q).least

  -- the pairs that are kept cost no more than either pairing
  abbrev cost : List Pair → ℕ
  cost ps = key binary64 (cost_of far ps)

  abbrev nodes : List Point
  nodes = (build_graph (drawing_in file)).nodes

  pub file_no_dearer : (cost (busy_pairs nodes far odd) ≤ cost (greedy_pairs (length odd) nodes odd)) × (cost (busy_pairs nodes far odd) ≤ cost (graph_pairs far odd))
  file_no_dearer = busy_no_dearer far OddNode far_nonneg nodes odd all_odd

  -- the fallback is never taken, whatever it is
  pub no_fallback : (other : ℕ → ℕ → Float) (u v : ℕ) → OddNode u → OddNode v → or_else far other u v ≡ far u v
  no_fallback other u v p q = ap (λ (t : Bool). elim t [ true ↦ far u v | false ↦ other u v ]) (finite_below (far u v) (far_nonneg u v p q) (far_least u v p q).finite)

  same_order : (other : ℕ → ℕ → Float) → SameOrder OddNode lt (or_else far other) lt far
  same_order other = record {
    order = λ u v a b hu hv ha hb. ap (λ (x : Float). lt x (or_else far other a b)) (no_fallback other u v hu hv) ∙ ap (lt (far u v)) (no_fallback other a b ha hb);
  }

  pub source_pairs : (other : ℕ → ℕ → Float) → nearest_pairs lt (length odd) (or_else far other) odd ≡ graph_pairs far odd
  unfolding graph_pairs
  source_pairs other = pairs_alike OddNode lt (or_else far other) lt far (same_order other) (length odd) odd all_odd

  -- from infinity on, in each round, whichever nodes are left
  pub source_from_infinity : (u v : ℕ) (vs : List ℕ) → OddNode u → OddNode v → closest lt far (u ∷ v ∷ vs) 0 (between 0 1 infinity) ≡ closest lt far (u ∷ v ∷ vs) 0 nothing
  source_from_infinity u v vs p q =
      from_above lt far u v vs infinity (lt_key binary64 (far u v) infinity (far_nonneg u v p q) (inf_nonneg binary64) ∙ lt-ltb _ _ (far_least u v p q).finite)
