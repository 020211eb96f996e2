-- Laws of specs/Rounds.
-- Dijkstra's argument of 1959, for any choice among nodes that are equally near and any order of edges: whoever takes a nearest node that is not done each round, looks along
-- its edges, and stops where all nodes that are left are infinitely far, has the least cost over all ways to each node, each sum along a way rounded. That rounding keeps the
-- order of costs and that a sum is never below what was added to is all that the argument needs of it.
use mathlib.Core.Path.{◌≡◌, refl, sym, ap, ◌∙◌, subst₂}
use mathlib.Core.Logic.{◌⊎◌, inl, inr}
use mathlib.Core.List.{List, [], ◌∷◌}
use mathlib.Core.Bool.{Bool, true, false, not, true≢false, false≢true}
use Prim.Native.Nat.{ℕ, zero, suc, ◌+◌, ◌≤◌, ◌<◌, zero-le}
use native.Mathlib.Nat.{le_refl, le_trans, le_of_eq, le_of_suc-le-suc, not-suc-le-zero, not-le_of_lt}
use native.Mathlib.Decide.{dec_le}
use native.Mathlib.Omega.{arith}
use lib.ListN.{length, get_or, set, replicate, length-set, length-replicate, get_or-eq_default}
use lib.Seq.{get_or-set_same, set_out}
use lib.Ieee.{Float, binary64, add}
use Rattle.sums.specs.Key.{Nonneg, key}
use Rattle.sums.proofs.KeyLaws.{key_top}
use Rattle.sums.proofs.Sum.{add_above, add_mono, zero_nonneg, zero_key, inf_nonneg}
use Rattle.lists.proofs.Elements.{set_cases, get_d_same}
use Rattle.graph_spec.specs.Graph.{Edge}
use Rattle.graph_spec.specs.Odd.{one}
use Rattle.graph_spec.specs.Count.{sum_over}
use Rattle.graph_spec.specs.Ways.{Inside}
use Rattle.graph_spec.proofs.Connected.{joins_inside}
use Rattle.repair_spec.specs.Distance.{infinity, zero_length, distance_at}
use Rattle.repair_spec.specs.Relax.{key_at, AllNonneg}
use Rattle.repair_spec.proofs.Relax.{Improved, no_higher, still_nonneg, Next, next_nonneg}
use Rattle.repair_spec.proofs.Nearest.{Done, Open}
use Rattle.repair_spec.specs.Cost.{Way, here, step, Least}
use Rattle.graph_spec.specs.Weights.{Weights}
use Rattle.repair_spec.proofs.Cost.{way_nonneg}
use Rattle.repair_spec.specs.Rounds.{UpTo}

-- ---- each round but the idle ones marks one more node as done

undone : List Bool → ℕ
undone done = sum_over (λ (b : Bool). one (not b)) done

undone_set : (done : List Bool) (u : ℕ) → u < length done → Open done u → suc (undone (set done u true)) ≡ undone done
unfolding undone sum_over
undone_set [] u l o = absurd (not-suc-le-zero l)
undone_set (true ∷ done) zero l o = absurd (true≢false o)
undone_set (false ∷ done) zero l o = omega arith
undone_set (b ∷ done) (suc u) l o = omega (arith, undone_set done u (le_of_suc-le-suc l) o)

undone_none : (done : List Bool) (u : ℕ) → undone done ≡ 0 → u < length done → Open done u → ⊥
unfolding undone sum_over
undone_none [] u h l o = not-suc-le-zero l
undone_none (true ∷ done) zero h l o = true≢false o
undone_none (false ∷ done) zero h l o = omega arith
undone_none (b ∷ done) (suc u) h l o = undone_none done u (omega arith) (le_of_suc-le-suc l) o

undone_start : (n : ℕ) → undone (replicate n false) ≡ n
unfolding undone sum_over
undone_start zero = refl
undone_start (suc n) = omega (arith, undone_start n)

-- ---- the rounds

abbrev pub top : ℕ
top = key binary64 infinity

-- all nodes that are not done are infinitely far
abbrev pub Settled : List Float → List Bool → Type 0
Settled ds done = (v : ℕ) → Open done v → top ≤ key_at ds v

-- u is a node that is not done, at the distance d, or none
abbrev pub NodeOrNone : List Float → List Bool → ℕ → Float → Type 0
NodeOrNone ds done u d = ((u ≡ length ds) × (d ≡ infinity)) ⊎ ((u < length ds) × (d ≡ distance_at ds u) × Open done u)

-- what a round may take: a nearest node that is not done, or none where all of these are infinitely far
pub record Chosen (ds : List Float) (done : List Bool) (u : ℕ) (d : Float) : Type 0 where
  pub least : (v : ℕ) → Open done v → key binary64 d ≤ key_at ds v
  pub node : NodeOrNone ds done u d

-- k rounds from s on, which lead to the distances ds, with the nodes done that the rounds took
pub data Run (n : ℕ) (es : List Edge) (s : ℕ) : ℕ → List Float → List Bool → Type 0 where
  begin : Run n es s 0 (set (replicate n infinity) s zero_length) (replicate n false)
  round : {k : ℕ} {ds : List Float} {done : List Bool} → Run n es s k ds done → (u : ℕ) (d : Float) → Chosen ds done u d
      → (after : List Float) → Improved (Next u d es) ds after → Run n es s (suc k) after (set done u true)

-- what holds after every round
pub record Invariant (n : ℕ) (es : List Edge) (s : ℕ) (ds : List Float) (done : List Bool) : Type 0 where
  pub nodes : length ds ≡ n
  pub flags : length done ≡ n
  pub nonneg : AllNonneg ds
  pub source : distance_at ds s ≡ zero_length
  pub way : (v : ℕ) → (distance_at ds v ≡ infinity) ⊎ Way es s v (distance_at ds v)
  -- no node that is done is farther than one that is not, and its edges offer nothing nearer
  pub order : (u v : ℕ) → Done done u → Open done v → key_at ds u ≤ key_at ds v
  pub closed : (u : ℕ) → Done done u → (v : ℕ) (c : Float) → Next u (distance_at ds u) es v c → key_at ds v ≤ key binary64 c

pub beyond : (ds : List Float) (v : ℕ) → length ds ≤ v → distance_at ds v ≡ infinity
beyond ds v h = get_or-eq_default ds infinity h

module _ (n : ℕ) (es : List Edge) (weights : Weights es) (inside : Inside n es) (s : ℕ) where
  module _ (ds : List Float) (done : List Bool) (I : Invariant n es s ds done) (u : ℕ) (d : Float) (C : Chosen ds done u d) where
    chosen_nonneg : Nonneg binary64 d
    chosen_nonneg = elim C.node [ inl o ↦ rw o.1 (inf_nonneg binary64) | inr o ↦ rw o.1 (I.nonneg u) ]

    -- the nodes that are done are no farther
    most : (v : ℕ) → Done done v → key_at ds v ≤ key binary64 d
    most v h = elim C.node [ inl o ↦ rw o.1 (key_top binary64 (distance_at ds v) (I.nonneg v)) | inr o ↦ rw o.1 (I.order v u h o.2) ]

    module _ (after : List Float) (improved : Improved (Next u d es) ds after) where
      -- an edge's offer is no nearer than u itself
      above : (v : ℕ) (c : Float) → Next u d es v c → key binary64 d ≤ key binary64 c
      above v c o = rw o.3 (add_above binary64 d o.0.weight chosen_nonneg (weights o.0 o.1))

      -- what is no farther than d stays
      stays : (v : ℕ) → key_at ds v ≤ key binary64 d → distance_at after v ≡ distance_at ds v
      stays v h = elim (improved.change v) [ inl e ↦ e | inr q ↦ absurd (omega (arith, q.1, above v (distance_at after v) q.0)) ]

      -- what is no nearer than d is no nearer after
      no_nearer : (v : ℕ) → key binary64 d ≤ key_at ds v → key binary64 d ≤ key_at after v
      no_nearer v h = elim (improved.change v) [ inl e ↦ rw e h | inr q ↦ above v (distance_at after v) q.0 ]

      -- done after the round: done before, or u itself
      was : (v : ℕ) → Done (set done u true) v → Done done v ⊎ ((v ≡ u) × (d ≡ distance_at ds u))
      was v h =
          elim C.node [
            | inl o ↦ inl (rw (set_out done u true (le_of_eq (I.flags ∙ sym I.nodes ∙ sym o.0))) at h)
            | inr o ↦ elim (set_cases done u true false v) [ inl e ↦ inr (e.0, o.1) | inr e ↦ inl (sym e ∙ h) ]
          ]

      was_open : (v : ℕ) → Open (set done u true) v → Open done v
      was_open v h = elim (set_cases done u true false v) [ inl e ↦ absurd (true≢false (sym e.1 ∙ h)) | inr e ↦ sym e ∙ h ]

      near : (v : ℕ) → Done (set done u true) v → key_at ds v ≤ key binary64 d
      near v h = elim (was v h) [ inl p ↦ most v p | inr q ↦ rw (q.0, q.1) (le_refl _) ]

      -- a distance that changed is that of a way by u, to which there is a way, since beyond infinity nothing is nearer
      new_way : (v : ℕ) → (distance_at after v ≡ infinity) ⊎ Way es s v (distance_at after v)
      new_way v = elim (improved.change v) [ inl e ↦ rw e (I.way v) | inr q ↦ changed q.0 q.1 C.node ]
        where
          too_far : key_at after v < key_at ds v → Next u d es v (distance_at after v) → d ≡ infinity → ⊥
          too_far l o h = not-le_of_lt l (le_trans (key_top binary64 (distance_at ds v) (I.nonneg v)) (le_trans (le_of_eq (ap (λ (x : Float). key binary64 x) (sym h))) (above v (distance_at after v) o)))

          changed : Next u d es v (distance_at after v) → key_at after v < key_at ds v → NodeOrNone ds done u d
              → (distance_at after v ≡ infinity) ⊎ Way es s v (distance_at after v)
          changed o l (inl p) = absurd (too_far l o p.1)
          changed o l (inr p) =
              elim (I.way u) [
                | inl h ↦ absurd (too_far l o (p.1 ∙ h))
                | inr w ↦ inr (rw o.3 (step (rw (← p.1) at w) o.0 o.1 o.2))
              ]

      invariant_kept : Invariant n es s after (set done u true)
      invariant_kept =
          record {
            nodes = improved.same ∙ I.nodes;
            flags = length-set done u true ∙ I.flags;
            nonneg = still_nonneg improved I.nonneg (next_nonneg u d chosen_nonneg es weights);
            source = stays s (rw (I.source, zero_key binary64) zero-le) ∙ I.source;
            way = new_way;
            order = λ v w p q. rw (stays v (near v p)) (le_trans (near v p) (no_nearer w (C.least w (was_open w q))));
            closed = λ v p w c o. elim (was v p) [
              | inl q ↦ le_trans (no_higher improved w) (I.closed v q w c (rw (stays v (near v p)) at o))
              | inr q ↦
                  improved.taken w c
                  (subst₂ (λ (x : ℕ) (k : Float). Next x k es w c) q.0 (stays v (near v p) ∙ ap (λ (x : ℕ). distance_at ds x) q.0 ∙ sym q.1) o)
                  (rw I.nodes (joins_inside n es inside o.0 v w o.1 o.2))
            ];
          }

      -- where the nearest is infinitely far, so are the others
      settled : top ≤ key binary64 d → Settled after (set done u true)
      settled h v o = le_trans h (no_nearer v (C.least v (was_open v o)))

      -- the distances of nodes that are done, u among them, stay
      pub done_stays : (v : ℕ) → Done (set done u true) v → distance_at after v ≡ distance_at ds v
      done_stays v h = stays v (near v h)

      -- one node fewer is left, or all that are left are infinitely far
      counted : (k : ℕ) → (undone done + k ≡ n) ⊎ Settled ds done → (undone (set done u true) + suc k ≡ n) ⊎ Settled after (set done u true)
      counted k m =
          elim C.node [
            | inl o ↦ inr (settled (rw o.1 (le_refl _)))
            | inr o ↦ elim m [
              | inl l ↦ inl (omega (arith, l, undone_set done u (rw (I.flags, ← I.nodes) o.0) o.2))
              | inr t ↦ inr (settled (rw o.1 (t u o.2)))
            ]
          ]

  start : s < n → Invariant n es s (set (replicate n infinity) s zero_length) (replicate n false)
  start h =
      record {
        nodes = length-set (replicate n infinity) s zero_length ∙ length-replicate n infinity;
        flags = length-replicate n false;
        nonneg = λ v. elim (first v) [ inl p ↦ rw p.1 (zero_nonneg binary64) | inr q ↦ rw q (inf_nonneg binary64) ];
        source = get_or-set_same (replicate n infinity) s zero_length infinity (rw length-replicate h);
        way = λ v. elim (first v) [ inl p ↦ inr (rw (p.1, p.0) here) | inr q ↦ inl q ];
        order = λ u v p. absurd (false≢true (sym (get_d_same n u false) ∙ p));
        closed = λ u p. absurd (false≢true (sym (get_d_same n u false) ∙ p));
      }
    where
      first : (v : ℕ) → ((v ≡ s) × (distance_at (set (replicate n infinity) s zero_length) v ≡ zero_length)) ⊎ (distance_at (set (replicate n infinity) s zero_length) v ≡ infinity)
      first v = elim (set_cases (replicate n infinity) s zero_length infinity v) [ inl p ↦ inl p | inr q ↦ inr (q ∙ get_d_same n v infinity) ]

  -- ---- up to the nearest node that is not done no edge offers anything nearer, so neither does any way
  module _ (ds : List Float) (done : List Bool) (I : Invariant n es s ds done) (limit : Float) (far : (v : ℕ) → Open done v → key binary64 limit ≤ key_at ds v) where
    no_way_below : {v : ℕ} {c : Float} → Way es s v c → (key_at ds v ≤ key binary64 c) ⊎ (key binary64 limit ≤ key binary64 c)
    no_way_below here = inl (le_of_eq (ap (λ (d : Float). key binary64 d) I.source))
    no_way_below (step {u = u} {v} {c} w e i j) = elim (no_way_below w) [ inl h ↦ go (get_or done u false) refl h | inr h ↦ inr (le_trans h more) ]
      where
        more : key binary64 c ≤ key binary64 (add binary64 c e.weight)
        more = add_above binary64 c e.weight (way_nonneg es weights s w) (weights e i)

        go : (b : Bool) → get_or done u false ≡ b → key_at ds u ≤ key binary64 c
            → (key_at ds v ≤ key binary64 (add binary64 c e.weight)) ⊎ (key binary64 limit ≤ key binary64 (add binary64 c e.weight))
        go true o h = inl (le_trans (I.closed u o v (add binary64 (distance_at ds u) e.weight) (e, i, j, refl))
            (add_mono binary64 (distance_at ds u) c e.weight (I.nonneg u) (way_nonneg es weights s w) (weights e i) h))
        go false o h = inr (le_trans (far u o) (le_trans h more))

    up_to : (v : ℕ) → UpTo es s limit v (distance_at ds v)
    up_to v = record {
      near = λ h. record { below = λ c w. elim (no_way_below w) [ inl p ↦ p | inr p ↦ le_trans h p ]; reached = I.way v };
      far = λ h c w. elim (no_way_below w) [ inl p ↦ le_trans h p | inr p ↦ p ];
    }

  -- ---- every run
  module _ (is_node : s < n) where
    pub run_invariant : {k : ℕ} {ds : List Float} {done : List Bool} → Run n es s k ds done → Invariant n es s ds done
    run_invariant begin = start is_node
    run_invariant (round {ds = ds} {done} r u d C after improved) = invariant_kept ds done (run_invariant r) u d C after improved

    run_counted : {k : ℕ} {ds : List Float} {done : List Bool} → Run n es s k ds done → (undone done + k ≡ n) ⊎ Settled ds done
    run_counted begin = inl (omega (arith, undone_start n))
    run_counted (round {k} {ds} {done} r u d C after improved) = counted ds done (run_invariant r) u d C after improved k (run_counted r)

    -- as many rounds as there are nodes are enough
    pub run_settled : {k : ℕ} {ds : List Float} {done : List Bool} → Run n es s k ds done → n ≤ k → Settled ds done
    run_settled {k} {ds} {done} r h = elim (run_counted r) [
      | inl e ↦ λ v o. elim (dec_le (suc v) (length ds)) [
        | yes l ↦ absurd (undone_none done v (omega arith) (rw ((run_invariant r).flags, ← (run_invariant r).nodes) l) o)
        | no m ↦ rw (beyond ds v (omega arith)) (le_refl _)
      ]
      | inr t ↦ t
    ]

    -- A run that was stopped where no node is left that is nearer than the limit
    pub run_up_to : {k : ℕ} {ds : List Float} {done : List Bool} → Run n es s k ds done → (limit : Float) → ((v : ℕ) → Open done v → key binary64 limit ≤ key_at ds v)
        → (v : ℕ) → UpTo es s limit v (distance_at ds v)
    run_up_to {ds = ds} {done} r limit far = up_to ds done (run_invariant r) limit far

    -- A run that is settled has the least costs. A node with no way to it, and any v that is no node, is at infinity.
    pub run_least : {k : ℕ} {ds : List Float} {done : List Bool} → Run n es s k ds done → Settled ds done → (v : ℕ) → Least es s v (distance_at ds v)
    run_least {ds = ds} r t v = (run_up_to r infinity t v).near (key_top binary64 (distance_at ds v) ((run_invariant r).nonneg v))
