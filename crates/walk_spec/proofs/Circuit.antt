-- The circuit of an even connected graph: it comes back to its start, and has every edge once.
use mathlib.Core.Path.{◌≡◌, refl, sym, ap, ◌∙◌, subst}
use mathlib.Core.Logic.{inl, inr}
use mathlib.Core.List.{List, [], ◌∷◌, map}
use mathlib.Core.Bool.{true, false, true≢false}
use Prim.Native.Nat.{ℕ, suc, ◌+◌, ◌*◌, ◌%◌, ◌<◌}
use native.Mathlib.Nat.{zero-add, not-suc-le-zero}
use native.Mathlib.Decide.{ℕ_discrete}
use native.Mathlib.Omega.{arith}
use lib.ListN.{length, set, replicate, get_or-replicate}
use Rattle.lists.proofs.Members.{all_in, all_map}
use Rattle.graph_spec.specs.Graph.{Edge}
use Rattle.graph_spec.specs.Odd.{hit, degree}
use Rattle.graph_spec.specs.Count.{sum_over}
use Rattle.graph_spec.specs.Ways.{Joins, Reach, here, on}
use Rattle.lists.specs.Members.{In}
use Rattle.graph_spec.proofs.Sums.{hit_same, hit_other, joins_hit, degree_sum}
use Rattle.graph_spec.proofs.EdgesAt.{edge_at, edge_at_in, number_of_lem}
use Rattle.walk_spec.specs.EulerLine.{Step, Along, Leads, times}
use Rattle.walk_spec.specs.Walk.{By, start, Entry, circuit, nodes_of}
use Rattle.walk_spec.proofs.EulerLine.{nodes_to}
use Rattle.walk_spec.proofs.Free.{Weight, all_sum, free_sum, is_free, free_sum_use, free_sum_none, free_sum_all, all_sum_ends, used_set}
use Rattle.walk_spec.proofs.Next.{at_node}
use Rattle.walk_spec.proofs.Trail.{by_weight, by_sum, Trail, Done, Walking, Walked, run}

-- 1 at the edge j
abbrev pub is_number : ℕ → Weight
is_number j i e = hit i j

pub record Circuit (es : List Edge) (s : ℕ) (o : List Entry) : Type 0 where
  pub first : Entry
  pub rest : List Entry
  pub is : o ≡ first ∷ rest
  pub begins : first.node ≡ s
  pub by_start : first.by ≡ start
  pub trail : Trail es s first rest
  pub once : (j : ℕ) → j < length es → by_sum es (is_number j) rest ≡ 1

-- ---- the walk has every edge, where all can be reached

-- among all edges the edge j stands once
number_once : (es : List Edge) (j : ℕ) → j < length es → all_sum (is_number j) 0 es ≡ 1
number_once es j l =
    let free = replicate (length es) false in
    let others : free_sum (is_number j) 0 es (set free j true) ≡ 0 =
    free_sum_none (is_number j) 0 es (set free j true) (λ k m f. rw zero-add (hit_other k j (λ e. true≢false (sym (used_set free j) ∙ rw e at f)))) in
    omega (arith, free_sum_all (is_number j) 0 es, rw zero-add at (free_sum_use (is_number j) 0 es free j l (get_or-replicate (length es) j false true l)), hit_same j, others)

module _ (es : List Edge) (s : ℕ) (o : List Entry) (w : Walked es s o) where
  done_at : (ts : List Entry) (v : ℕ) → Done es w.used ts → In v (nodes_of ts) → free_sum (at_node v) 0 es w.used ≡ 0
  done_at ts v d i = all_in (λ (u : ℕ). free_sum (at_node u) 0 es w.used ≡ 0) (nodes_of ts) (all_map (λ (t : Entry). t.node) _ ts d) v i

  -- an edge at a node that has no free edge is used
  used_at : (j u v : ℕ) → j < length es → Joins (edge_at es j) u v → free_sum (at_node u) 0 es w.used ≡ 0 → is_free w.used j → ⊥
  used_at j u v l k z f = omega (arith, free_sum_use (at_node u) 0 es w.used j l f, joins_hit (edge_at es j) u v u k, hit_same u)

  -- and is one of those by which the walk went
  among : (j : ℕ) → j < length es → (is_free w.used j → ⊥) → 0 < by_sum es (is_number j) w.rest
  among j l n =
      let z : free_sum (is_number j) 0 es w.used ≡ 0 =
      free_sum_none (is_number j) 0 es w.used (λ k m f. rw zero-add (hit_other k j (λ e. n (rw (← e) f)))) in
      omega (arith, w.each (is_number j), number_once es j l)

  -- so both its ends are visited
  ends_visited : (t : Entry) (ts : List Entry) (j u v : ℕ) → Trail es s t ts → 0 < by_sum es (is_number j) ts → Joins (edge_at es j) u v → In v (nodes_of (t ∷ ts))
  unfolding sum_over
  ends_visited t [] j u v q h k = absurd (not-suc-le-zero h)
  ends_visited t (x ∷ ts) j u v q h k =
      elim (ℕ_discrete q.0.number j) [
        | yes e ↦ ends (rw e at q.0.joins) k
        | no n ↦ inr (ends_visited x ts j u v q.1 (omega (arith, h, ap (by_weight es (is_number j)) q.0.by_is, hit_other q.0.number j n)) k)
      ]
    where
      ends : Joins (edge_at es j) t.node x.node → Joins (edge_at es j) u v → In v (nodes_of (t ∷ x ∷ ts))
      ends (inl p) (inl r) = inr (inl (sym r.1 ∙ p.1))
      ends (inl p) (inr r) = inl (sym r.0 ∙ p.0)
      ends (inr p) (inl r) = inl (sym r.1 ∙ p.1)
      ends (inr p) (inr r) = inr (inl (sym r.0 ∙ p.0))

  visited : (v : ℕ) → Reach es s v → In v (nodes_of (w.first ∷ w.rest))
  visited v here = inl (sym w.begins)
  visited v (on {u = u} q j) =
      let n = number_of_lem es j.by j.is_in in
      let k : Joins (edge_at es n.number) u v = rw n.is j.joins in
      ends_visited w.first w.rest n.number u v w.trail
      (among n.number n.is_edge (used_at n.number u v n.is_edge k (done_at (w.first ∷ w.rest) u w.done (visited u q)))) k

  all_used : ((e : Edge) → In e es → Reach es s e.a) → (g : Weight) → free_sum g 0 es w.used ≡ 0
  all_used c g = free_sum_none g 0 es w.used (λ j l f. absurd (used_at j (edge_at es j).a (edge_at es j).b l (inl (refl, refl))
      (done_at (w.first ∷ w.rest) (edge_at es j).a w.done (visited (edge_at es j).a (c (edge_at es j) (edge_at_in es j l)))) f))

-- ---- the circuit

begin : (es : List Edge) (s : ℕ) → ((v : ℕ) → degree es v % 2 ≡ 0) → Walking es s s (replicate (length es) false) (record { node = s; by = start }) [] []
unfolding sum_over
begin es s even = record {
  each = λ g. omega (arith, free_sum_all g 0 es);
  even = λ v. omega (arith, even v, free_sum_all (at_node v) 0 es, all_sum_ends (λ (e : Edge). hit e.a v + hit e.b v) 0 es, degree_sum es v);
  stacked = (refl, refl);
  from = refl;
  done = tt;
}

pub count_edges : (es : List Edge) (i : ℕ) → all_sum (λ (k : ℕ) (e : Edge). 1) i es ≡ length es
unfolding all_sum
count_edges [] i = refl
count_edges (e ∷ es) i = omega (arith, count_edges es (suc i))

pub circuit_is : (es : List Edge) (s : ℕ) → ((v : ℕ) → degree es v % 2 ≡ 0) → ((e : Edge) → In e es → Reach es s e.a) → Circuit es s (circuit es s)
unfolding circuit
circuit_is es s even reached =
    let w = run es s (2 * length es + 1) s (replicate (length es) false) (record { node = s; by = start }) [] [] (begin es s even)
    (omega (arith, free_sum_all (λ (k : ℕ) (e : Edge). 1) 0 es, count_edges es 0)) in
    record {
      first = w.first;
      rest = w.rest;
      is = w.is;
      begins = w.begins;
      by_start = w.by_start;
      trail = w.trail;
      once = λ j l. omega (arith, w.each (is_number j), all_used es s (circuit es s) w reached (is_number j), number_once es j l);
    }

-- ---- its steps

abbrev number_of : By → ℕ
number_of start = 0
number_of (By.edge i) = i

abbrev pub step_of : Entry → Step
step_of t = record { number = number_of t.by; to = t.node }

-- entries as steps: each goes along the edge that its node was entered by
abbrev pub steps_of : List Entry → List Step
steps_of ts = map step_of ts

pub steps_of_nodes : (ts : List Entry) → nodes_to (steps_of ts) ≡ nodes_of ts
steps_of_nodes [] = refl
steps_of_nodes (t ∷ ts) = ap (λ (l : List ℕ). t.node ∷ l) (steps_of_nodes ts)

pub trail_leads : (es : List Edge) (s : ℕ) (t : Entry) (ts : List Entry) → Trail es s t ts → Leads es t.node (steps_of ts) s
trail_leads es s t [] q = q
trail_leads es s t (x ∷ ts) q =
    let e : q.0.number ≡ number_of x.by = sym (ap number_of q.0.by_is) in
    (subst (λ (i : ℕ). Along es t.node (record { number = i; to = x.node })) e (record { is_edge = q.0.is_edge; joins = q.0.joins }), trail_leads es s x ts q.1)

pub trail_times : (es : List Edge) (s : ℕ) (t : Entry) (ts : List Entry) (i : ℕ) → Trail es s t ts → times i (steps_of ts) ≡ by_sum es (is_number i) ts
unfolding sum_over
trail_times es s t [] i q = refl
trail_times es s t (x ∷ ts) i q =
    omega (arith, trail_times es s x ts i q.1, ap (λ (b : By). hit (number_of b) i) q.0.by_is, ap (by_weight es (is_number i)) q.0.by_is)
