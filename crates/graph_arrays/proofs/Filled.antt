-- Whoever filled the arrays from a graph reads that graph of them. Assumes nothing.
use mathlib.Core.Path.{◌≡◌, refl, sym, ap, subst, ◌∙◌}
use mathlib.Core.List.{List, [], ◌∷◌}
use Prim.Native.Nat.{ℕ, zero, suc, ◌+◌, ◌≤◌, ◌<◌}
use native.Mathlib.Nat.{add-zero, zero-add, add-suc, suc-add, le_of_suc-le-suc}
use native.Mathlib.Omega.{arith}
use lib.ListN.{length, get_or}
use lib.Seq.{get_or-set_same, get_or-set_other}
use lib.Ieee.{Float, nan}
use Rattle.limits.specs.Limits.{edge_room}
use Rattle.graph_spec.specs.Graph.{Edge, edge}
use Rattle.graph_spec.proofs.EdgesAt.{edge_at}
use Rattle.graph_adjacency.specs.Lists.{Adjacency, no_edges, push, pushed, lists}
use Rattle.graph_adjacency.proofs.Follow.{Sized, push_sized, lists_sized}
use Rattle.graph_arrays.proofs.Ends.{At, lists_at}
use Rattle.lists.proofs.Tabulate.{tabulate_is}
use Rattle.graph_arrays.specs.Arrays.{edge_in, edges_in}

-- ---- edges

weight_kept : (i j : ℕ) (es : List Edge) (g : Adjacency) → j < i → get_or (pushed i es g).weights j nan ≡ get_or g.weights j nan
unfolding pushed push
weight_kept i j [] g h = refl
weight_kept i j (e ∷ es) g h =
    weight_kept (suc i) j es (push i e.a e.b e.weight g) (omega arith) ∙ get_or-set_other g.weights i j e.weight nan (λ z. omega arith)

weight_new : (i : ℕ) (e : Edge) (g : Adjacency) → Sized g → i < edge_room → get_or (push i e.a e.b e.weight g).weights i nan ≡ e.weight
unfolding push
weight_new i e g s h = get_or-set_same g.weights i e.weight nan (omega (arith, s.weights_long))

weight_placed : (i : ℕ) (es : List Edge) (g : Adjacency) → Sized g → i + length es ≤ edge_room → (j : ℕ) → j < length es
    → get_or (pushed i es g).weights (i + j) nan ≡ (edge_at es j).weight
unfolding pushed
weight_placed i [] g s b j h = absurd (omega arith)
weight_placed i (e ∷ es) g s b zero h =
    let g' = push i e.a e.b e.weight g in
    ap (λ (q : ℕ). get_or (pushed (suc i) es g').weights q nan) (add-zero i) ∙ weight_kept (suc i) i es g' (omega arith) ∙ weight_new i e g s (omega arith)
weight_placed i (e ∷ es) g s b (suc j) h =
    let g' = push i e.a e.b e.weight g in
    ap (λ (q : ℕ). get_or (pushed (suc i) es g').weights q nan) (add-suc i j ∙ sym (suc-add i j))
    ∙ weight_placed (suc i) es g' (push_sized i e.a e.b e.weight g s) (omega arith) j (le_of_suc-le-suc h)

weight_at : (es : List Edge) → length es ≤ edge_room → (j : ℕ) → j < length es → get_or (lists es).weights j nan ≡ (edge_at es j).weight
unfolding lists pushed
weight_at es b j h = ap (λ (q : ℕ). get_or (pushed 0 es no_edges).weights q nan) (sym (zero-add j)) ∙ weight_placed 0 es no_edges (lists_sized []) (omega arith) j h

-- arrays that hold the lists of es have es as their edges
module _ (es : List Edge) (a : Adjacency) (few : length es ≤ edge_room) (is : a ≡ lists es) where
  ends_at : (j : ℕ) → j < length es → At j (edge_at es j) a.ends
  ends_at j h = subst (λ (g : Adjacency). At j (edge_at es j) g.ends) (sym is) (lists_at es few j h)

  edge_at_lem : (j : ℕ) → j < length es → edge_in a j ≡ edge_at es j
  edge_at_lem j h =
      ap (λ (u : ℕ). edge u (get_or a.ends (j + edge_room) 0) (get_or a.weights j nan)) (ends_at j h).0
      ∙ ap (λ (v : ℕ). edge (edge_at es j).a v (get_or a.weights j nan)) (ends_at j h).1
      ∙ ap (λ (w : Float). edge (edge_at es j).a (edge_at es j).b w) (ap (λ (g : Adjacency). get_or g.weights j nan) is ∙ weight_at es few j h)

  pub edges_are : edges_in (length es) a ≡ es
  edges_are = tabulate_is (edge_in a) es (edge 0 0 nan) edge_at_lem
