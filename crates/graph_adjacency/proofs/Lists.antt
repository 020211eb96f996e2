-- Laws of specs/Lists.
use mathlib.Core.Path.{◌≡◌, ap, ◌∙◌}
use Prim.Native.Nat.{ℕ, ◌+◌, ◌-◌, ◌≤◌, ◌<◌}
use mathlib.Core.List.{List}
use mathlib.Core.Bool.{Bool, true, false, cond}
use lib.ListN.{get_or}
use lib.Dec.{eqb}
use borrow.Author.Tests.{le-leb, lt-leb, eq-eqb, ne_eqb}
use Rattle.limits.specs.Limits.{most_nodes, edge_room}
use Rattle.graph_adjacency.specs.Lists.{edge_number, first_arc, next_arc, or_else}

-- ---- laws of what is read

pub else_some : (k n : ℕ) → (k ≡ 0 → ⊥) → or_else k n ≡ k
else_some k n h = ap (λ (t : Bool). cond t n k) (ne_eqb k 0 h)

pub else_none : (k n : ℕ) → k ≡ 0 → or_else k n ≡ n
else_none k n h = ap (λ (t : Bool). cond t n k) (eq-eqb k 0 h)

pub else_below : (k n b : ℕ) → k < b → n < b → or_else k n < b
else_below k n b p q = go (eqb k 0)
  where
    go : (t : Bool) → cond t n k < b
    go true = q
    go false = p

pub first_some : (hs : List ℕ) (v : ℕ) → (get_or hs v 0 ≡ 0 → ⊥) → first_arc hs v ≡ get_or hs v 0
unfolding first_arc
first_some hs v h = else_some _ _ h

pub first_none : (hs : List ℕ) (v : ℕ) → get_or hs v 0 ≡ 0 → first_arc hs v ≡ get_or hs (v + most_nodes) 0
unfolding first_arc
first_none hs v h = else_none _ _ h

module _ (ns hs : List ℕ) (v k : ℕ) where
  pub next_second : k ≤ edge_room → next_arc ns hs v k ≡ get_or ns (k - 1) 0
  unfolding next_arc
  next_second h = ap (λ (t : Bool). cond t (get_or ns (k - 1) 0) (or_else (get_or ns (k - 1) 0) (get_or hs (v + most_nodes) 0))) (le-leb k edge_room h)

  pub next_first : edge_room < k → next_arc ns hs v k ≡ or_else (get_or ns (k - 1) 0) (get_or hs (v + most_nodes) 0)
  unfolding next_arc
  next_first h = ap (λ (t : Bool). cond t (get_or ns (k - 1) 0) (or_else (get_or ns (k - 1) 0) (get_or hs (v + most_nodes) 0))) (lt-leb k edge_room h)

  pub next_some : edge_room < k → (get_or ns (k - 1) 0 ≡ 0 → ⊥) → next_arc ns hs v k ≡ get_or ns (k - 1) 0
  next_some h q = next_first h ∙ else_some _ _ q

  pub next_none : edge_room < k → get_or ns (k - 1) 0 ≡ 0 → next_arc ns hs v k ≡ get_or hs (v + most_nodes) 0
  next_none h q = next_first h ∙ else_none _ _ q

pub number_second : (k : ℕ) → k ≤ edge_room → edge_number k ≡ k - 1
unfolding edge_number
number_second k h = ap (λ (t : Bool). cond t (k - 1) (k - (edge_room + 1))) (le-leb k edge_room h)

pub number_first : (k : ℕ) → edge_room < k → edge_number k ≡ k - (edge_room + 1)
unfolding edge_number
number_first k h = ap (λ (t : Bool). cond t (k - 1) (k - (edge_room + 1))) (lt-leb k edge_room h)
