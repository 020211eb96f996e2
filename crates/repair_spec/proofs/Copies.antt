-- The copies that a retrace lays: one for each step of its path, each a copy of an edge that was there, so that of all degrees only those of its two ends change parity.
use mathlib.Core.Path.{◌≡◌, refl, sym, ap, ◌∙◌}
use mathlib.Core.Logic.{inl, inr}
use mathlib.Core.List.{List, [], ◌∷◌, ◌++◌}
use mathlib.Core.Bool.{Bool, true, false}
use Prim.Native.Nat.{ℕ, ◌+◌, ◌%◌}
use native.Mathlib.Nat.{add-zero}
use native.Mathlib.Omega.{arith}
use lib.Dec.{eqb}
use lib.ListN.{length, length-append}
use lib.Ieee.{binary64, add}
use borrow.Author.Tests.{eqb-true, eqb-false}
use Rattle.sums.specs.Key.{Nonneg}
use Rattle.sums.proofs.Sum.{add_nonneg}
use Rattle.lists.proofs.Members.{in_left, in_append}
use Rattle.graph_spec.specs.Graph.{Edge, edge, Arc, edges_at}
use Rattle.graph_spec.specs.Odd.{hit, degree}
use Rattle.graph_spec.specs.Count.{sum_over, line_sum, joint, joining}
use Rattle.graph_spec.specs.Ways.{Joins, Joined, Inside, Walks}
use Rattle.lists.specs.Members.{In}
use Rattle.graph_spec.proofs.Sums.{sum_over_append, degree_sum}
use Rattle.graph_spec.proofs.Connected.{joined_more}
use Rattle.graph_spec.proofs.EdgesAt.{edge_at, number_of_lem, edges_at_all, edges_at_arc, arc_joins, other_end}
use Rattle.repair_spec.specs.Copies.{weight_to, Laid, lay}
use Rattle.graph_spec.specs.Weights.{Weights}

-- ---- one copy more

-- the copy for a step from u to v
abbrev pub copy : ℕ → ℕ → List Edge → Edge
copy u v es = edge u v (weight_to v (edges_at es u))

-- l with that copy
abbrev pub laid : ℕ → ℕ → Laid → Laid
laid u v l = record { edges = l.edges ++ (copy u v l.edges ∷ []); sum = add binary64 l.sum (weight_to v (edges_at l.edges u)) }

-- ---- counts: what is summed over the edges grows by the same sum over the steps of the path
module _ (g : ℕ → ℕ → ℕ) where
  abbrev of_ends : Edge → ℕ
  of_ends e = g e.a e.b

  lay_sum : (u : ℕ) (vs : List ℕ) (l : Laid) → sum_over of_ends (lay u vs l).edges ≡ sum_over of_ends l.edges + line_sum g (u ∷ vs)
  unfolding lay line_sum sum_over
  lay_sum u [] l = sym (add-zero _)
  lay_sum u (v ∷ vs) l = omega (arith, lay_sum v vs (laid u v l), sum_over_append of_ends l.edges (copy u v l.edges ∷ []))

pub lay_joining : (u : ℕ) (vs : List ℕ) (l : Laid) (p q : ℕ) → joining p q (lay u vs l).edges ≡ joining p q l.edges + line_sum (joint p q) (u ∷ vs)
lay_joining u vs l p q = lay_sum (joint p q) u vs l

pub lay_degree : (u : ℕ) (vs : List ℕ) (l : Laid) (v : ℕ) → degree (lay u vs l).edges v ≡ degree l.edges v + line_sum (λ (a b : ℕ). hit a v + hit b v) (u ∷ vs)
lay_degree u vs l v = rw (degree_sum (lay u vs l).edges v, degree_sum l.edges v) (lay_sum (λ (a b : ℕ). hit a v + hit b v) u vs l)

-- ---- parity: each node inside a walk is left as often as it is come to
walk_parity : (es : List Edge) (u : ℕ) (vs : List ℕ) (t : ℕ) → Walks es u vs t → (v : ℕ) → (line_sum (λ (a b : ℕ). hit a v + hit b v) (u ∷ vs) + hit u v + hit t v) % 2 ≡ 0
unfolding line_sum
walk_parity es u [] t w v = let e : hit u v ≡ hit t v = ap (λ (x : ℕ). hit x v) w in omega arith
walk_parity es u (x ∷ vs) t w v = omega (arith, walk_parity es x vs t w.1 v)

-- a retrace from u to t changes the parity of these two alone
pub lay_parity : (u : ℕ) (vs : List ℕ) (l : Laid) (t : ℕ) → Walks l.edges u vs t → (v : ℕ) → (degree (lay u vs l).edges v + degree l.edges v + hit u v + hit t v) % 2 ≡ 0
lay_parity u vs l t w v = omega (arith, lay_degree u vs l v, walk_parity l.edges u vs t w v)

-- ---- the edges that were there stay
pub lay_keeps : (u : ℕ) (vs : List ℕ) (l : Laid) (e : Edge) → In e l.edges → In e (lay u vs l).edges
unfolding lay
lay_keeps u [] l e i = i
lay_keeps u (v ∷ vs) l e i = lay_keeps v vs (laid u v l) e (in_left e l.edges (copy u v l.edges ∷ []) i)

pub lay_old : (u : ℕ) (vs : List ℕ) (l : Laid) (x y : ℕ) → Joined l.edges x y → Joined (lay u vs l).edges x y
lay_old u vs l x y k = joined_more (lay_keeps u vs l) k

-- one edge more for each step
pub lay_count : (u : ℕ) (vs : List ℕ) (l : Laid) → length (lay u vs l).edges ≡ length l.edges + length vs
unfolding lay
lay_count u [] l = omega arith
lay_count u (v ∷ vs) l = omega (arith, lay_count v vs (laid u v l), length-append l.edges (copy u v l.edges ∷ []))

-- ---- a copy is one of an edge that was there

-- some edge of es has the ends of e, in either order, and its weight
pub record Copied (es : List Edge) (e : Edge) : Type 0 where
  pub of : Edge
  pub is_in : In of es
  pub joins : Joins of e.a e.b
  pub weight_is : e.weight ≡ of.weight

joins_trans : (e f : Edge) (x y : ℕ) → Joins e f.a f.b → Joins f x y → Joins e x y
joins_trans e f x y (inl p) (inl q) = inl (p.0 ∙ q.0, p.1 ∙ q.1)
joins_trans e f x y (inl p) (inr q) = inr (p.0 ∙ q.0, p.1 ∙ q.1)
joins_trans e f x y (inr p) (inl q) = inr (p.0 ∙ q.1, p.1 ∙ q.0)
joins_trans e f x y (inr p) (inr q) = inl (p.0 ∙ q.1, p.1 ∙ q.0)

-- the weight taken is that of an arc to v, where there is one
weight_to_is : (v : ℕ) (rs : List Arc) (q : Arc) → In q rs → q.to ≡ v → (r : Arc) × In r rs × (r.to ≡ v) × (weight_to v rs ≡ r.weight)
unfolding weight_to
weight_to_is v (r ∷ rs) q i h = go (eqb r.to v) refl i (λ k. weight_to_is v rs q k h)
  where
    go : (b : Bool) → eqb r.to v ≡ b → In q (r ∷ rs) → (In q rs → (p : Arc) × In p rs × (p.to ≡ v) × (weight_to v rs ≡ p.weight))
        → (p : Arc) × In p (r ∷ rs) × (p.to ≡ v) × (elim b [ true ↦ r.weight | false ↦ weight_to v rs ] ≡ p.weight)
    go true e i rec = (r, inl refl, eqb-true r.to v e, refl)
    go false e (inl k) rec = absurd (eqb-false r.to v e (ap (λ (p : Arc). p.to) (sym k) ∙ h))
    go false e (inr k) rec = let p = rec k in (p.0, inr p.1, p.2, p.3)
weight_to_is v [] q i h = elim i [ ]

-- among a node's edges is one to each node that is joined with it
arc_to : (es : List Edge) (u v : ℕ) → Joined es u v → (r : Arc) × In r (edges_at es u) × (r.to ≡ v)
arc_to es u v k =
    let n = number_of_lem es k.by k.is_in in
    let j : Joins (edge_at es n.number) u v = rw n.is k.joins in
    let a = edges_at_all es n.number u v n.is_edge j in
    (a.arc, a.is_in, other_end (edge_at es n.number) u a.arc.to v (rw a.number_is at (edges_at_arc es u a.arc a.is_in).joins) j)

copy_of : (es : List Edge) (u v : ℕ) → Joined es u v → Copied es (copy u v es)
copy_of es u v k =
    let a = arc_to es u v k in
    let r = weight_to_is v (edges_at es u) a.0 a.1 a.2 in
    let q = arc_joins es u r.0 r.1 in
    record { of = q.0.by; is_in = q.0.is_in; joins = rw r.2 at q.0.joins; weight_is = cc (r.3, q.1) }

copied_trans : {es fs : List Edge} {e : Edge} → ((f : Edge) → In f fs → Copied es f) → Copied fs e → Copied es e
copied_trans {e = e} h c =
    let d = h c.of c.is_in in
    record { of = d.of; is_in = d.is_in; joins = joins_trans d.of c.of e.a e.b d.joins c.joins; weight_is = c.weight_is ∙ d.weight_is }

own : {es : List Edge} {e : Edge} → In e es → Copied es e
own {e = e} i = record { of = e; is_in = i; joins = inl (refl, refl); weight_is = refl }

laid_copied : (u v : ℕ) (l : Laid) → Joined l.edges u v → (e : Edge) → In e (laid u v l).edges → Copied l.edges e
laid_copied u v l k e i = elim (in_append e l.edges (copy u v l.edges ∷ []) i) [
  | inl j ↦ own j
  | inr j ↦ elim j [ inl h ↦ rw h (copy_of l.edges u v k) | inr h ↦ absurd h ]
]

laid_walks : (u v : ℕ) (l : Laid) (x : ℕ) (vs : List ℕ) (t : ℕ) → Walks l.edges x vs t → Walks (laid u v l).edges x vs t
laid_walks u v l x [] t w = w
laid_walks u v l x (y ∷ vs) t w =
    (joined_more (λ e i. in_left e l.edges (copy u v l.edges ∷ []) i) w.0, laid_walks u v l y vs t w.1)

-- every edge after a retrace was there, or is a copy of one that was
pub lay_copied : (u : ℕ) (vs : List ℕ) (l : Laid) (t : ℕ) → Walks l.edges u vs t → (e : Edge) → In e (lay u vs l).edges → Copied l.edges e
unfolding lay
lay_copied u [] l t w e i = own i
lay_copied u (v ∷ vs) l t w e i = copied_trans (laid_copied u v l w.0) (lay_copied v vs (laid u v l) t (laid_walks u v l v vs t w.1) e i)

copied_nonneg : {es : List Edge} {e : Edge} → Weights es → Copied es e → Nonneg binary64 e.weight
copied_nonneg weights c = rw c.weight_is (weights c.of c.is_in)

module _ (u : ℕ) (vs : List ℕ) (l : Laid) (t : ℕ) (w : Walks l.edges u vs t) where
  -- no copy lies where nothing was drawn
  pub lay_drawn : (x y : ℕ) → Joined (lay u vs l).edges x y → Joined l.edges x y
  lay_drawn x y k =
      let c = lay_copied u vs l t w k.by k.is_in in
      record { by = c.of; is_in = c.is_in; joins = joins_trans c.of k.by x y c.joins k.joins }

  pub lay_inside : (n : ℕ) → Inside n l.edges → Inside n (lay u vs l).edges
  lay_inside n inside e i =
      let c = lay_copied u vs l t w e i in
      let o = inside c.of c.is_in in
      elim c.joins [ inl p ↦ (rw p.0 at o.0, rw p.1 at o.1) | inr p ↦ (rw p.1 at o.1, rw p.0 at o.0) ]

  pub lay_weights : Weights l.edges → Weights (lay u vs l).edges
  lay_weights weights e i = copied_nonneg weights (lay_copied u vs l t w e i)

-- the length of a retrace is a sum of weights
pub lay_nonneg : (u : ℕ) (vs : List ℕ) (l : Laid) (t : ℕ) → Walks l.edges u vs t → Weights l.edges → Nonneg binary64 l.sum → Nonneg binary64 (lay u vs l).sum
unfolding lay
lay_nonneg u [] l t w weights n = n
lay_nonneg u (v ∷ vs) l t w weights n =
    lay_nonneg v vs (laid u v l) t (laid_walks u v l v vs t w.1) (λ e i. copied_nonneg weights (laid_copied u v l w.0 e i))
    (add_nonneg binary64 l.sum _ n (copied_nonneg weights (copy_of l.edges u v w.0)))
