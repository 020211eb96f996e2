-- Laws of Euler lines: what is counted of the steps is counted of the edges, and a line reversed is one too.
use mathlib.Core.Path.{◌≡◌, refl, sym, ap, ◌∙◌, subst}
use mathlib.Core.Logic.{inl, inr}
use mathlib.Core.List.{List, [], ◌∷◌, ◌++◌, map, map-append, reverse, reverse-cons}
use mathlib.Core.Bool.{Bool, true, false, not}
use Prim.Native.Nat.{ℕ, ◌+◌, ◌<◌}
use native.Mathlib.Omega.{arith}
use lib.ListN.{length, length-append, get_or, set, replicate, get_or-replicate, get_or-append}
use lib.Seq.{get_or-set_other}
use Rattle.lists.specs.Members.{All}
use Rattle.graph_spec.specs.Graph.{Edge}
use Rattle.graph_spec.specs.Odd.{one, hit}
use Rattle.graph_spec.specs.Count.{sum_over, step_sum, last_from}
use Rattle.graph_spec.specs.Ways.{Inside, Joins}
use Rattle.graph_spec.proofs.Sums.{hit_same, HitCases, hit_cases, sum_over_append}
use Rattle.graph_spec.proofs.Odd.{odd_nodes_member}
use Rattle.graph_spec.proofs.Connected.{joins_sym, joins_inside}
use Rattle.graph_spec.proofs.EdgesAt.{edge_at, edge_at_in}
use Rattle.walk_spec.specs.EulerLine.{Step, Leads, times, EulerLine}
use Rattle.walk_spec.proofs.Free.{free_sum, is_free, free_sum_use, free_sum_none, free_sum_all, all_sum_ends, used_set}

-- the nodes that steps go to
abbrev pub nodes_to : List Step → List ℕ
nodes_to ss = map (λ (s : Step). s.to) ss

-- ---- steps one after another

module _ (es : List Edge) where
  pub leads_append : (u v w : ℕ) (ss ts : List Step) → Leads es u ss v → Leads es v ts w → Leads es u (ss ++ ts) w
  leads_append u v w [] ts l m = subst (λ (x : ℕ). Leads es x ts w) (sym l) m
  leads_append u v w (s ∷ ss) ts l m = (l.0, leads_append s.to v w ss ts l.1 m)

  -- the node between
  pub leads_split : (u w : ℕ) (ss ts : List Step) → Leads es u (ss ++ ts) w → (v : ℕ) × Leads es u ss v × Leads es v ts w
  leads_split u w [] ts l = (u, refl, l)
  leads_split u w (s ∷ ss) ts l = let r = leads_split s.to w ss ts l.1 in (r.0, (l.0, r.1), r.2)

  pub leads_last : (u v : ℕ) (ss : List Step) → Leads es u ss v → last_from u (nodes_to ss) ≡ v
  unfolding last_from
  leads_last u v [] l = l
  leads_last u v (s ∷ ss) l = leads_last s.to v ss l.1

  pub leads_within : (n u v : ℕ) (ss : List Step) → Inside n es → Leads es u ss v → All (λ (x : ℕ). x < n) (nodes_to ss)
  leads_within n u v [] h l = tt
  leads_within n u v (s ∷ ss) h l =
      (joins_inside n es h (edge_at es s.number) u s.to (edge_at_in es s.number l.0.is_edge) l.0.joins, leads_within n s.to v ss h l.1)

-- steps that never go along the last edge x lead the same way without it
pub leads_without : (es : List Edge) (x : Edge) (u v : ℕ) (ss : List Step) → Leads (es ++ (x ∷ [])) u ss v → times (length es) ss ≡ 0 → Leads es u ss v
unfolding sum_over
leads_without es x u v [] l z = l
leads_without es x u v (s ∷ ss) l z = (record { is_edge = low; joins = same }, leads_without es x s.to v ss l.1 (omega (arith, z)))
  where
    low : s.number < length es
    low = elim (hit_cases s.number (length es)) [
      | inl p ↦ absurd (omega (arith, z, p.1))
      | inr p ↦ let k = l.0.is_edge in let m = length-append es (x ∷ []) in let d = p.0 in omega (arith, k, m)
    ]

    same : Joins (edge_at es s.number) u s.to
    same = subst (λ (e : Edge). Joins e u s.to) (get_or-append es (x ∷ []) _ s.number low) l.0.joins

-- ---- what is counted of the steps is counted of the edges

module _ (es : List Edge) where
  -- what the edges of the steps count
  abbrev pub edge_sum : (Edge → ℕ) → List Step → ℕ
  edge_sum h ss = sum_over (λ (s : Step). h (edge_at es s.number)) ss

  -- the steps go once along each free edge, and along no other
  Left : List Bool → List Step → Type 0
  Left used ss = (i : ℕ) → i < length es → times i ss ≡ one (not (get_or used i true))

  -- so the edges that are free are used up one by one
  left_sum : (h : Edge → ℕ) (u v : ℕ) (ss : List Step) (used : List Bool) → Leads es u ss v → Left used ss → edge_sum h ss ≡ free_sum (λ (i : ℕ) (e : Edge). h e) 0 es used
  unfolding Left sum_over
  left_sum h u v [] used l left = sym (free_sum_none _ 0 es used (λ j k f. absurd (omega (arith, left j k, ap (λ (b : Bool). one (not b)) f))))
  left_sum h u v (s ∷ ss) used l left =
      omega (arith, left_sum h s.to v ss (set used s.number true) l.1 later, free_sum_use (λ (i : ℕ) (e : Edge). h e) 0 es used s.number l.0.is_edge is_free_lem)
    where
      at : hit s.number s.number + times s.number ss ≡ one (not (get_or used s.number true))
      at = left s.number l.0.is_edge

      is_free_lem : is_free used s.number
      is_free_lem = go (get_or used s.number true) refl
        where
          go : (b : Bool) → get_or used s.number true ≡ b → b ≡ false
          go false e = refl
          go true e = absurd (omega (arith, at, hit_same s.number, ap (λ (b : Bool). one (not b)) e))

      later : (i : ℕ) → i < length es → times i ss ≡ one (not (get_or (set used s.number true) i true))
      later i k = go (hit_cases s.number i)
        where
          go : HitCases s.number i → times i ss ≡ one (not (get_or (set used s.number true) i true))
          go (inl p) =
              rw (← p.0) (omega (arith, at, hit_same s.number, ap (λ (b : Bool). one (not b)) is_free_lem, ap (λ (b : Bool). one (not b)) (used_set used s.number)))
          go (inr p) = omega (arith, left i k, p.1, ap (λ (b : Bool). one (not b)) (get_or-set_other used s.number i true true (λ e. p.0 (sym e))))

  pub each_edge : (h : Edge → ℕ) (u v : ℕ) (ss : List Step) → Leads es u ss v → ((i : ℕ) → i < length es → times i ss ≡ 1) → edge_sum h ss ≡ sum_over h es
  unfolding Left
  each_edge h u v ss l once =
      left_sum h u v ss (replicate (length es) false) l (λ i k. once i k ∙ ap (λ (b : Bool). one (not b)) (sym (get_or-replicate (length es) i false true k)))
      ∙ free_sum_all (λ (i : ℕ) (e : Edge). h e) 0 es
      ∙ all_sum_ends h 0 es

  -- where a step along an edge counts what the edge does
  pub leads_sum : (f : ℕ → ℕ → ℕ) (h : Edge → ℕ) → ((e : Edge) (u v : ℕ) → Joins e u v → f u v ≡ h e)
      → (u v : ℕ) (ss : List Step) → Leads es u ss v → step_sum f u (nodes_to ss) ≡ edge_sum h ss
  unfolding step_sum sum_over
  leads_sum f h agree u v [] l = refl
  leads_sum f h agree u v (s ∷ ss) l = omega (arith, leads_sum f h agree s.to v ss l.1, agree (edge_at es s.number) u s.to l.0.joins)

pub sum_ones : {A : Type 0} (xs : List A) → sum_over (λ (x : A). 1) xs ≡ length xs
unfolding sum_over
sum_ones [] = refl
sum_ones (x ∷ xs) = omega (arith, sum_ones xs)

-- ---- reversed

-- the steps from u on, gone back
turned : ℕ → List Step → List Step
turned u [] = []
turned u (s ∷ ss) = turned s.to ss ++ (record { number = s.number; to = u } ∷ [])

leads_turned : (es : List Edge) (u v : ℕ) (ss : List Step) → Leads es u ss v → Leads es v (turned u ss) u
unfolding turned
leads_turned es u v [] l = sym l
leads_turned es u v (s ∷ ss) l =
    let first = l.0 in
    leads_append es v s.to u (turned s.to ss) (record { number = s.number; to = u } ∷ []) (leads_turned es s.to v ss l.1)
    (record { is_edge = first.is_edge; joins = joins_sym (edge_at es s.number) u s.to first.joins }, refl)

times_turned : (i u : ℕ) (ss : List Step) → times i (turned u ss) ≡ times i ss
unfolding turned sum_over
times_turned i u [] = refl
times_turned i u (s ∷ ss) =
    omega (arith, times_turned i s.to ss, sum_over_append (λ (t : Step). hit t.number i) (turned s.to ss) (record { number = s.number; to = u } ∷ []))

line_turned : (es : List Edge) (u v : ℕ) (ss : List Step) → Leads es u ss v → reverse (u ∷ nodes_to ss) ≡ v ∷ nodes_to (turned u ss)
unfolding turned
line_turned es u v [] l = ap (λ (x : ℕ). x ∷ []) l
line_turned es u v (s ∷ ss) l =
    reverse-cons u (nodes_to (s ∷ ss))
    ∙ ap (λ (xs : List ℕ). xs ++ (u ∷ [])) (line_turned es s.to v ss l.1)
    ∙ ap (λ (xs : List ℕ). v ∷ xs) (sym (map-append (λ (t : Step). t.to) (turned s.to ss) (record { number = s.number; to = u } ∷ [])))

module _ (n : ℕ) (es : List Edge) (line : List ℕ) (E : EulerLine n es line) where
  -- the last node is the first, or an odd one
  last_is_node : E.last < n
  last_is_node = elim E.ends [
    | inl c ↦ rw (← c.1) E.is_node
    | inr o ↦ elim o [
      | inl k ↦ ((odd_nodes_member n es E.last).0 (rw k (inr (inl refl)))).0
      | inr k ↦ ((odd_nodes_member n es E.last).0 (rw k (inl refl))).0
    ]
  ]

  pub euler_reverse : EulerLine n es (reverse line)
  euler_reverse = record {
    first = E.last;
    steps = turned E.first E.steps;
    last = E.first;
    is = ap reverse E.is ∙ line_turned es E.first E.last E.steps E.leads;
    is_node = last_is_node;
    leads = leads_turned es E.first E.last E.steps E.leads;
    once = λ i l. times_turned i E.first E.steps ∙ E.once i l;
    ends = elim E.ends [ inl c ↦ inl (c.0, sym c.1) | inr o ↦ inr (elim o [ inl k ↦ inr k | inr k ↦ inl k ]) ];
  }
