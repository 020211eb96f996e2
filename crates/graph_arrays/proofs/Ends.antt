-- The ends of an edge, where arrays hold the lists of the edges es. Assumes nothing.
use mathlib.Core.Path.{◌≡◌, refl, sym, subst, ◌∙◌}
use mathlib.Core.Logic.{inl, inr}
use mathlib.Core.List.{List, [], ◌∷◌}
use Prim.Native.Nat.{ℕ, zero, suc, ◌+◌, ◌≤◌, ◌<◌}
use native.Mathlib.Nat.{add-zero, zero-add, add-suc, suc-add, le_of_suc-le-suc}
use native.Mathlib.Omega.{arith}
use lib.ListN.{length, get_or, set, length-set}
use lib.Seq.{get_or-set_same, get_or-set_other}
use Rattle.limits.specs.Limits.{most_nodes, edge_room}
use Rattle.graph_spec.specs.Graph.{Edge}
use Rattle.graph_spec.specs.Ways.{Inside}
use Rattle.graph_spec.proofs.EdgesAt.{edge_at}
use Rattle.graph_adjacency.specs.Lists.{Adjacency, no_edges, push, pushed, lists}
use Rattle.graph_adjacency.specs.Follow.{Ends}
use Rattle.graph_adjacency.proofs.Follow.{Sized, push_sized, lists_sized}

-- the ends of the edge j are what they were
abbrev Kept : ℕ → Adjacency → Adjacency → Type 0
Kept j g h = (get_or h.ends j 0 ≡ get_or g.ends j 0) × (get_or h.ends (j + edge_room) 0 ≡ get_or g.ends (j + edge_room) 0)

kept : (i j : ℕ) (es : List Edge) (g : Adjacency) → j < i → i + length es ≤ edge_room → Kept j g (pushed i es g)
unfolding pushed push
kept i j [] g h b = (refl, refl)
kept i j (e ∷ es) g h b =
    let r = kept (suc i) j es (push i e.a e.b e.weight g) (omega arith) (omega arith) in
    let one = set g.ends i e.a in (
      r.0 ∙ get_or-set_other one (i + edge_room) j e.b 0 (λ z. omega arith) ∙ get_or-set_other g.ends i j e.a 0 (λ z. omega arith),
      r.1 ∙ get_or-set_other one (i + edge_room) (j + edge_room) e.b 0 (λ z. omega arith) ∙ get_or-set_other g.ends i (j + edge_room) e.a 0 (λ z. omega arith),
    )

-- the ends of e stand at j
abbrev pub At : ℕ → Edge → List ℕ → Type 0
At j e ends = (get_or ends j 0 ≡ e.a) × (get_or ends (j + edge_room) 0 ≡ e.b)

new : (i : ℕ) (e : Edge) (g : Adjacency) → Sized g → i < edge_room → At i e (push i e.a e.b e.weight g).ends
unfolding push
new i e g s h =
    let one = set g.ends i e.a in
    let room : i < length g.ends = omega (arith, s.ends_long) in
    let more : i + edge_room < length one = simp length-set (omega (arith, s.ends_long)) in
    (get_or-set_other one (i + edge_room) i e.b 0 (λ z. omega arith) ∙ get_or-set_same g.ends i e.a 0 room, get_or-set_same one (i + edge_room) e.b 0 more)

placed : (i : ℕ) (es : List Edge) (g : Adjacency) → Sized g → i + length es ≤ edge_room → (j : ℕ) → j < length es → At (i + j) (edge_at es j) (pushed i es g).ends
unfolding pushed
placed i [] g s b j h = absurd (omega arith)
placed i (e ∷ es) g s b zero h =
    let g' = push i e.a e.b e.weight g in
    let k = kept (suc i) i es g' (omega arith) (omega arith) in
    let n = new i e g s (omega arith) in
    subst (λ (q : ℕ). At q e (pushed (suc i) es g').ends) (sym (add-zero i)) (k.0 ∙ n.0, k.1 ∙ n.1)
placed i (e ∷ es) g s b (suc j) h =
    let g' = push i e.a e.b e.weight g in
    subst (λ (q : ℕ). At q (edge_at es j) (pushed (suc i) es g').ends) (suc-add i j ∙ sym (add-suc i j))
    (placed (suc i) es g' (push_sized i e.a e.b e.weight g s) (omega arith) j (le_of_suc-le-suc h))

pub lists_at : (es : List Edge) → length es ≤ edge_room → (j : ℕ) → j < length es → At j (edge_at es j) (lists es).ends
unfolding lists pushed
lists_at es b j h = subst (λ (q : ℕ). At q (edge_at es j) (pushed 0 es no_edges).ends) (zero-add j) (placed 0 es no_edges (lists_sized []) (omega arith) j h)

-- for the laws of a node's list
pub inside_ends : (n : ℕ) (es : List Edge) → n ≤ most_nodes → Inside n es → Ends es
unfolding Ends
inside_ends n [] r h = tt
inside_ends n (e ∷ es) r h = let k = h e (inl refl) in (omega (arith, k.0), omega (arith, k.1), inside_ends n es r (λ x i. h x (inr i)))
