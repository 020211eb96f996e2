-- The way back that code finds and keeps at the end of an array: the definition's `shortest_path`.
use mathlib.Core.Path.{◌≡◌, sym, ap, subst, ◌∙◌}
use mathlib.Core.Logic.{inl, inr}
use mathlib.Core.List.{List, [], ◌∷◌}
use Prim.Native.Nat.{ℕ, zero, suc, ◌+◌, ◌-◌, ◌≤◌, ◌<◌}
use native.Mathlib.Nat.{not-suc-le-zero, le_of_suc-le-suc}
use native.Mathlib.Omega.{arith}
use lib.ListN.{length, get_or, drop, length-drop}
use lib.Seq.{get_or-drop}
use lib.Ieee.{Float, binary64}
use Rattle.limits.specs.Limits.{most_nodes}
use Rattle.sums.specs.Key.{key}
use Rattle.lists.specs.Members.{All}
use Rattle.lists.proofs.Members.{all_at}
use Rattle.graph_spec.specs.Graph.{Edge}
use Rattle.graph_spec.specs.Ways.{Joined, Inside, Apart, Walks}
use Rattle.graph_spec.specs.Weights.{Searchable}
use Rattle.repair_spec.specs.Distance.{distance_at, distances}
use Rattle.repair_spec.specs.Retrace.{found, way_back, shortest_path}
use Rattle.repair_spec.specs.Relax.{key_at}
use Rattle.repair_spec.proofs.Along.{shortest_along}
use Rattle.repair_spec.proofs.Applied.{walk_inside}
use Rattle.repair_early_exit.proofs.WayBack.{Serves}
use Rattle.repair_early_exit.proofs.EarlyExit.{serves_exit}
use Rattle.repair_search.specs.Search.{Found}
use Rattle.repair_search.proofs.Searching.{goal_same, same_or_far}
use Rattle.repair_copies.specs.Laying.{copies_from}

-- The way back by the distances that are found up to the goal is the definition's.
pub found_shortest : (n : ℕ) (es : List Edge) → Searchable n es → (s t : ℕ) → s < n → (ds : List Float) → Found es s t ds → way_back n es ds s t [] ≡ shortest_path n es s t
found_shortest n es G s t is_node ds F = serves_exit n es G s t ds F.nonneg serves
  where
    same : distance_at ds t ≡ distance_at (distances n es s) t
    same = goal_same es s t ds F n G.inside G.weights is_node

    serves : Serves t (distances n es s) ds
    serves = record {
      goal = same;
      each = λ v. elim (same_or_far es s t ds F n G.inside G.weights is_node v) [
        | inl e ↦ inl e
        | inr p ↦ inr (
          subst (λ (x : Float). key binary64 x ≤ key_at (distances n es s) v) same p.1,
          subst (λ (x : Float). key binary64 x ≤ key_at ds v) same p.0,
        )
      ];
    }

-- Where no edge leads from a node to itself, neither does a step of a walk.
joined_apart : (es : List Edge) → Apart es → (u v : ℕ) → Joined es u v → u ≡ v → ⊥
joined_apart es apart u v k e = apart k.by k.is_in (elim k.joins [ inl p ↦ p.0 ∙ e ∙ sym p.1 | inr p ↦ p.0 ∙ sym e ∙ sym p.1 ])

walk_apart : (es : List Edge) → Apart es → (u : ℕ) (vs : List ℕ) (t : ℕ) → Walks es u vs t → (i : ℕ) → i < length vs → get_or (u ∷ vs) i 0 ≡ get_or (u ∷ vs) (suc i) 0 → ⊥
walk_apart es apart u [] t w i h = absurd (not-suc-le-zero h)
walk_apart es apart u (v ∷ vs) t w zero h = joined_apart es apart u v w.0
walk_apart es apart u (v ∷ vs) t w (suc i) h = walk_apart es apart v vs t w.1 i (le_of_suc-le-suc h)

-- A path that is found leads along nodes. It stands in an array from the place `first` on.
module _ (n : ℕ) (es : List Edge) (inside : Inside n es) (s t : ℕ) (is_node : s < n) (path : List ℕ) (long : length path ≡ most_nodes) (first : ℕ)
    (is : found (drop first path) ≡ shortest_path n es s t) where
  path_inside : All (λ (v : ℕ). v < n) (drop first path)
  path_inside =
      let a = shortest_along n es s t (drop first path) (sym is) in
      subst (All (λ (v : ℕ). v < n)) (sym a.1) (walk_inside n es s a.0 t inside is_node a.2)

  pub first_inside : first < most_nodes
  first_inside =
      let a = shortest_along n es s t (drop first path) (sym is) in
      let some : length (drop first path) ≡ suc (length a.0) = ap length a.1 in
      omega (arith, length-drop first path)

  pub nodes_inside : (j : ℕ) → first ≤ j → j < most_nodes → get_or path j 0 < n
  nodes_inside j l h =
      let there : first + (j - first) ≡ j = omega arith in
      let at_j : get_or (drop first path) (j - first) 0 ≡ get_or path j 0 = get_or-drop first path (j - first) 0 ∙ ap (λ (k : ℕ). get_or path k 0) there in
      subst (λ (v : ℕ). v < n) at_j (all_at (λ (v : ℕ). v < n) (drop first path) path_inside (j - first) 0 (omega (arith, length-drop first path)))

  pub neighbours_apart : Apart es → (j : ℕ) → first ≤ j → j + 1 < most_nodes → get_or path j 0 ≡ get_or path (j + 1) 0 → ⊥
  neighbours_apart apart j l h e =
      let a = shortest_along n es s t (drop first path) (sym is) in
      let here : first + (j - first) ≡ j = omega arith in
      let next : first + suc (j - first) ≡ j + 1 = omega arith in
      let at : (i k : ℕ) → first + i ≡ k → get_or (s ∷ a.0) i 0 ≡ get_or path k 0 =
      λ i k q. ap (λ (p : List ℕ). get_or p i 0) (sym a.1) ∙ get_or-drop first path i 0 ∙ ap (λ (k : ℕ). get_or path k 0) q in
      walk_apart es apart s a.0 t a.2 (j - first) (omega (arith, length-drop first path, ap length a.1))
      (at (j - first) j here ∙ e ∙ sym (at (suc (j - first)) (j + 1) next))

-- so many copies are laid along it
pub copies_are : (path : List ℕ) (first : ℕ) → length path ≡ most_nodes → length (drop first path) - 1 ≡ copies_from first
copies_are path first h = omega (arith, length-drop first path)
