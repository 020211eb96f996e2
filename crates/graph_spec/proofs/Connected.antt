-- Ways go both ways and on, and stay among the nodes.
use mathlib.Core.Logic.{inl, inr}
use mathlib.Core.List.{List}
use Prim.Native.Nat.{ℕ, ◌<◌}
use Rattle.graph_spec.specs.Graph.{Edge}
use Rattle.graph_spec.specs.Ways.{Joins, Joined, Inside, Reach, here, on}
use Rattle.lists.specs.Members.{In}

pub joins_sym : (e : Edge) (u v : ℕ) → Joins e u v → Joins e v u
joins_sym e u v (inl p) = inr p
joins_sym e u v (inr p) = inl p

pub joins_inside : (n : ℕ) (es : List Edge) → Inside n es → (e : Edge) (u v : ℕ) → In e es → Joins e u v → v < n
joins_inside n es h e u v i (inl p) = rw (← p.1) (h e i).1
joins_inside n es h e u v i (inr p) = rw (← p.0) (h e i).0

pub joined_sym : {es : List Edge} {u v : ℕ} → Joined es u v → Joined es v u
joined_sym {u = u} {v = v} j = record { by = j.by; is_in = j.is_in; joins = joins_sym j.by u v j.joins }

pub reach_trans : {es : List Edge} {u v w : ℕ} → Reach es u v → Reach es v w → Reach es u w
reach_trans p here = p
reach_trans p (on q j) = on (reach_trans p q) j

pub reach_sym : {es : List Edge} {u v : ℕ} → Reach es u v → Reach es v u
reach_sym here = here
reach_sym (on q j) = reach_trans (on here (joined_sym j)) (reach_sym q)

-- with more edges nothing is lost
pub joined_more : {es fs : List Edge} {u v : ℕ} → ((e : Edge) → In e es → In e fs) → Joined es u v → Joined fs u v
joined_more h j = record { by = j.by; is_in = h j.by j.is_in; joins = j.joins }

pub reach_more : {es fs : List Edge} {u v : ℕ} → ((x y : ℕ) → Joined es x y → Joined fs x y) → Reach es u v → Reach fs u v
reach_more h here = here
reach_more h (on {u = x} {v = y} q j) = on (reach_more h q) (h x y j)
