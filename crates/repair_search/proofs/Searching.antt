-- Laws of specs/Search.
use mathlib.Core.Path.{◌≡◌, refl, sym, ap, subst, ◌∙◌}
use mathlib.Core.Logic.{◌⊎◌, inl, inr}
use mathlib.Core.List.{List}
use mathlib.Core.Bool.{Bool, true, false, true≢false, false≢true}
use Prim.Native.Nat.{ℕ, suc, ◌+◌, ◌≤◌, ◌<◌}
use native.Mathlib.Nat.{le_refl, le_trans, le_of_eq, le_of_lt, le_antisymm, not-le_of_lt, lt_of_not-le}
use native.Mathlib.Numerals.{add-one}
use native.Mathlib.Decide.{dec_le}
use native.Mathlib.Omega.{arith}
use lib.ListN.{get_or, set, replicate, length-set, length-replicate, get_or-eq_default}
use lib.Seq.{get_or-set_same, get_or-set_other}
use lib.Ieee.{Float, binary64, lt}
use Rattle.limits.specs.Limits.{most_nodes}
use Rattle.sums.specs.Key.{Nonneg, key}
use Rattle.sums.proofs.KeyLaws.{key_top, lt_true, lt_false}
use Rattle.sums.proofs.Sum.{zero_nonneg, inf_nonneg}
use Rattle.lists.proofs.Elements.{get_d_same, set_cases}
use Rattle.graph_spec.specs.Graph.{Edge, edges_at}
use Rattle.graph_spec.specs.Ways.{Inside}
use Rattle.graph_spec.proofs.Connected.{joins_inside}
use Rattle.graph_spec.specs.Weights.{Weights}
use Rattle.graph_adjacency.specs.Lists.{Adjacency}
use Rattle.graph_arrays.specs.Arrays.{edges_in, EdgesHeld}
use Rattle.repair_tournament.specs.Tree.{at, value, Tree, Stored}
use Rattle.repair_tournament.proofs.Tree.{least}
use Rattle.repair_spec.specs.Distance.{infinity, zero_length, distance_at, distances}
use Rattle.repair_spec.specs.Cost.{Way, here, step, Least}
use Rattle.repair_spec.proofs.Cost.{least_unique}
use Rattle.repair_spec.specs.Relax.{key_at, AllNonneg}
use Rattle.repair_spec.proofs.Relax.{Improved, Next}
use Rattle.repair_spec.proofs.Nearest.{Done, Open}
use Rattle.repair_spec.specs.Rounds.{UpTo}
use Rattle.repair_spec.proofs.Rounds.{top, Chosen, Run, begin, round, Invariant, run_invariant, run_settled, run_up_to, done_stays}
use Rattle.repair_spec.proofs.Least.{least_distance}
use Rattle.repair_search.proofs.Arcs.{relaxed}
use Rattle.repair_search.specs.Offer.{Held}
use Rattle.repair_search.specs.Relaxing.{Relaxed}
use Rattle.repair_search.proofs.Touched.{searched}
use Rattle.repair_search.specs.Touched.{Listed, Touched, Unreached}
use Rattle.repair_search.specs.Search.{Found}

-- a node that is not done has its distance as its value, one that is done has none
abbrev pub Queue : ℕ → List Bool → List Float → List Float → Type 0
Queue n done ds t = (w : ℕ) → w < n → (Open done w → value n t w ≡ distance_at ds w) × (Done done w → value n t w ≡ infinity)

-- a run of some rounds
pub record Searching (n : ℕ) (es : List Edge) (s rounds : ℕ) (ds t : List Float) : Type 0 where
  pub done : List Bool
  pub run : Run most_nodes es s rounds ds done
  pub queue : Queue n done ds t

inside_room : (n : ℕ) (es : List Edge) → n ≤ most_nodes → Inside n es → Inside most_nodes es
inside_room n es few i e h = let p = i e h in (omega (arith, p.0), omega (arith, p.1))

-- a way ends at a node
way_inside : (n : ℕ) (es : List Edge) (s : ℕ) → Inside n es → s < n → {v : ℕ} {c : Float} → Way es s v c → v < n
way_inside n es s i h here = h
way_inside n es s i h (step {u = u} {v} w e p j) = joins_inside n es i e u v p j

-- before the first round only s has a value
first_values : (n s N : ℕ) (t t' : List Float) → s < N → ((w : ℕ) → w < n → value n t w ≡ infinity) → Stored n s zero_length t t' → (w : ℕ) → w < n
    → value n t' w ≡ distance_at (set (replicate N infinity) s zero_length) w
first_values n s N t t' h none S w l = elim (dec_le w s) [
  | yes a ↦ elim (dec_le s w) [
    | yes b ↦
        let e : s ≡ w = le_antisymm b a in
        subst (λ (x : ℕ). value n t' x ≡ distance_at (set (replicate N infinity) s zero_length) x) e
        (S.new ∙ sym (get_or-set_same (replicate N infinity) s zero_length infinity (subst (λ (k : ℕ). s < k) (sym (length-replicate N infinity)) h)))
    | no b ↦ other (omega arith)
  ]
  | no a ↦ other (omega arith)
]
  where
    other : (w ≡ s → ⊥) → value n t' w ≡ distance_at (set (replicate N infinity) s zero_length) w
    other q = S.others w q ∙ none w l ∙ sym (get_or-set_other (replicate N infinity) s w zero_length infinity q ∙ get_d_same N w infinity)

-- edges between n nodes, none of negative weight
module _ (n : ℕ) (few : n ≤ most_nodes) (es : List Edge) (inside : Inside n es) (weights : Weights es) where
  module _ (s : ℕ) (is_node : s < n) where
    in_room : s < most_nodes
    in_room = omega arith

    room : Inside most_nodes es
    room = inside_room n es few inside

    pub searching_begin : (t t' : List Float) → ((w : ℕ) → w < n → value n t w ≡ infinity) → Stored n s zero_length t t' → Searching n es s 0 (set (replicate most_nodes infinity) s zero_length) t'
    searching_begin t t' none S = record {
      done = replicate most_nodes false;
      run = begin;
      queue = λ w l. (λ o. first_values n s most_nodes t t' in_room none S w l, λ h. absurd (false≢true (sym (get_d_same most_nodes w false) ∙ h)));
    }

    module _ (rounds : ℕ) (ds t : List Float) (H : Held n ds t) (S : Searching n es s rounds ds t) where
      invariant : Invariant most_nodes es s ds S.done
      invariant = run_invariant most_nodes es weights room s in_room S.run

      first_nonneg : Nonneg binary64 (at t 1)
      first_nonneg = H.tree.nonneg 1 (omega arith)

      -- no node that is not done is nearer than what place 1 has
      nearest : (v : ℕ) → Open S.done v → key binary64 (at t 1) ≤ key_at ds v
      nearest v o = elim (dec_le (suc v) n) [
        | yes l ↦ subst (λ (x : Float). key binary64 (at t 1) ≤ key binary64 x) ((S.queue v l).0 o) (least n t H.tree few v l)
        | no m ↦ elim (invariant.way v) [
          | inl e ↦ rw e (key_top binary64 (at t 1) first_nonneg)
          | inr w ↦ absurd (m (way_inside n es s inside is_node w))
        ]
      ]

      -- where that is not below the limit, the search is at its end
      pub far_up_to : (limit : Float) → Nonneg binary64 limit → lt (at t 1) limit ≡ false → (v : ℕ) → UpTo es s limit v (distance_at ds v)
      far_up_to limit p h = run_up_to most_nodes es weights room s in_room S.run limit (λ v o. le_trans (lt_false (at t 1) limit first_nonneg p h) (nearest v o))

      -- and so it is after most_nodes rounds
      pub last_up_to : (limit : Float) → Nonneg binary64 limit → most_nodes ≤ rounds → (v : ℕ) → UpTo es s limit v (distance_at ds v)
      last_up_to limit p h =
          run_up_to most_nodes es weights room s in_room S.run limit
          (λ v o. le_trans (key_top binary64 limit p) (run_settled most_nodes es weights room s in_room S.run h v o))

      -- a round
      module _ (near : key binary64 (at t 1) < top) (u : ℕ) (is_least : u < n) (is : value n t u ≡ at t 1) where
        u_open : Open S.done u
        u_open = go (get_or S.done u false) refl
          where
            go : (b : Bool) → get_or S.done u false ≡ b → Open S.done u
            go false e = e
            go true e =
                let far : at t 1 ≡ infinity = sym is ∙ (S.queue u is_least).1 e in
                absurd (not-le_of_lt near (le_of_eq (ap (λ (x : Float). key binary64 x) (sym far))))

        is_distance : at t 1 ≡ distance_at ds u
        is_distance = sym is ∙ (S.queue u is_least).0 u_open

        chosen : Chosen ds S.done u (at t 1)
        chosen = record { least = nearest; node = inr (omega (arith, H.long), is_distance, u_open) }

        module _ (ds' t' : List Float) (R : Relaxed n (edges_at es u) (at t 1) ds t ds' t') (t'' : List Float) (P : Stored n u infinity t' t'') where
          improved : Improved (Next u (at t 1) es) ds ds'
          improved =
              subst (Improved (Next u (at t 1) es) ds) (sym R.improved)
              (relaxed (at t 1) first_nonneg es weights u ds H.nonneg)

          stays : (w : ℕ) → Done (set S.done u true) w → distance_at ds' w ≡ distance_at ds w
          stays = done_stays most_nodes es weights room s ds S.done invariant u (at t 1) chosen ds' improved

          open_value : (w : ℕ) → w < n → Open (set S.done u true) w → value n t'' w ≡ distance_at ds' w
          open_value w l o =
              let other : w ≡ u → ⊥ = λ e. true≢false (sym (get_or-set_same S.done u true false (omega (arith, invariant.flags))) ∙ subst (λ (x : ℕ). Open (set S.done u true) x) e o) in
              P.others w other ∙ elim (R.together w l) [
                | inl p ↦ p.1 ∙ (S.queue w l).0 (sym (get_or-set_other S.done u w true false other) ∙ o) ∙ sym p.0
                | inr p ↦ p.0
              ]

          done_value : (w : ℕ) → w < n → Done (set S.done u true) w → value n t'' w ≡ infinity
          done_value w l h = elim (dec_le w u) [
            | yes a ↦ elim (dec_le u w) [
              | yes b ↦ let e : w ≡ u = le_antisymm a b in rw e P.new
              | no b ↦ before (omega arith)
            ]
            | no a ↦ before (omega arith)
          ]
            where
              before : (w ≡ u → ⊥) → value n t'' w ≡ infinity
              before q = P.others w q ∙ elim (R.together w l) [
                | inl p ↦ p.1 ∙ (S.queue w l).1 (sym (get_or-set_other S.done u w true false q) ∙ h)
                | inr p ↦ absurd (omega (arith, p.1, ap (key binary64) (stays w h)))
              ]

          pub searching_step : Searching n es s (rounds + 1) ds' t''
          searching_step = record {
            done = set S.done u true;
            run = rw add-one (round S.run u (at t 1) chosen ds' improved);
            queue = λ w l. (open_value w l, done_value w l);
          }

-- ---- the loop of the code

-- what holds at the head of the loop
pub record Progress (n : ℕ) (es : List Edge) (s rounds : ℕ) (ds t : List Float) : Type 0 where
  pub held : Held n ds t
  pub search : Searching n es s rounds ds t

pub start_nonneg : (N s : ℕ) → AllNonneg (set (replicate N infinity) s zero_length)
start_nonneg N s v = elim (set_cases (replicate N infinity) s zero_length infinity v) [ inl p ↦ rw p.1 (zero_nonneg binary64) | inr q ↦ rw (q ∙ get_d_same N v infinity) (inf_nonneg binary64) ]

-- the tournament with a value taken out goes with the same distances
held_with : (n : ℕ) (ds t : List Float) → Held n ds t → (t' : List Float) → Tree n t' → Held n ds t'
held_with n ds t H t' T = record { tree = T; long = H.long; nonneg = H.nonneg }

module _ (n m : ℕ) (a : Adjacency) (H : EdgesHeld n m a) (s : ℕ) (is_node : s < n) where
  abbrev es : List Edge
  es = edges_in m a

  abbrev few : n ≤ most_nodes
  few = H.edges.few_nodes

  abbrev inside : Inside n es
  inside = H.searchable.inside

  abbrev weights : Weights es
  weights = H.searchable.weights

  pub progress_begin : (ds t : List Float) (touched : List ℕ) → Unreached n (searched ds t touched) → (t' : List Float) → Stored n s zero_length t t' → Progress n es s 0 (set ds s zero_length) t'
  progress_begin ds t touched U t' S =
      subst (λ (x : List Float). Progress n es s 0 (set x s zero_length) t') (sym U.none)
      (record {
        held = record {
          tree = S.tree;
          long = length-set (replicate most_nodes infinity) s zero_length ∙ length-replicate most_nodes infinity;
          nonneg = start_nonneg most_nodes s;
        };
        search = searching_begin n few es inside weights s is_node t t' U.values S;
      })

  -- a node that was not reached has no value
  pub progress_touched : (rounds : ℕ) (ds t : List Float) → Progress n es s rounds ds t → (touched : List ℕ) (count : ℕ) → Listed n ds touched count → Touched n (searched ds t touched) count
  progress_touched rounds ds t P touched count L = record {
    listed = L;
    long = P.held.long;
    tree = P.held.tree;
    values = λ w h e. go w h e (get_or P.search.done w false) refl;
  }
    where
      go : (w : ℕ) → w < n → distance_at ds w ≡ infinity → (b : Bool) → get_or P.search.done w false ≡ b → value n t w ≡ infinity
      go w h e true d = (P.search.queue w h).1 d
      go w h e false d = (P.search.queue w h).0 d ∙ e

  module _ (rounds : ℕ) (ds t : List Float) (P : Progress n es s rounds ds t) (goal : ℕ) (limit : Float) (is_limit : limit ≡ distance_at ds goal) where
    limit_nonneg : Nonneg binary64 limit
    limit_nonneg = subst (Nonneg binary64) (sym is_limit) (P.held.nonneg goal)

    pub progress_step : lt (at t 1) limit ≡ true → (u : ℕ) → u < n → value n t u ≡ at t 1 → (ds' t' : List Float) → Relaxed n (edges_at es u) (at t 1) ds t ds' t'
        → (t'' : List Float) → Stored n u infinity t' t'' → Progress n es s (rounds + 1) ds' t''
    progress_step near u l is ds' t' R t'' S = record {
      held = held_with n ds' t' R.held t'' S.tree;
      search = searching_step n few es inside weights s is_node rounds ds t P.held P.search
          (le_trans (lt_true (at t 1) limit (P.held.tree.nonneg 1 (omega arith)) limit_nonneg near) (key_top binary64 limit limit_nonneg))
          u l is ds' t' R t'' S;
    }

    pub progress_far : lt (at t 1) limit ≡ false → Found es s goal ds
    progress_far h = record {
      long = P.held.long;
      nonneg = P.held.nonneg;
      up_to = λ v. subst (λ (x : Float). UpTo es s x v (distance_at ds v)) is_limit (far_up_to n few es inside weights s is_node rounds ds t P.held P.search limit limit_nonneg h v);
    }

  pub progress_last : (rounds : ℕ) (ds t : List Float) → Progress n es s rounds ds t → most_nodes ≤ rounds → (goal : ℕ) → Found es s goal ds
  progress_last rounds ds t P none goal = record {
    long = P.held.long;
    nonneg = P.held.nonneg;
    up_to = last_up_to n few es inside weights s is_node rounds ds t P.held P.search (distance_at ds goal) (P.held.nonneg goal) none;
  }

-- ---- what is found are the definition's distances

module _ (es : List Edge) (s goal : ℕ) (ds : List Float) (F : Found es s goal ds) where
  -- the goal's distance is the least cost
  pub goal_least : Least es s goal (distance_at ds goal)
  goal_least = (F.up_to goal).near (le_refl _)

  -- with no node as goal, every distance is
  pub all_least : most_nodes ≤ goal → (v : ℕ) → Least es s v (distance_at ds v)
  all_least h v =
      let none : distance_at ds goal ≡ infinity = get_or-eq_default ds infinity (omega (arith, F.long)) in
      (F.up_to v).near (subst (λ (x : Float). key_at ds v ≤ key binary64 x) (sym none) (key_top binary64 (distance_at ds v) (F.nonneg v)))

  module _ (n : ℕ) (inside : Inside n es) (weights : Weights es) (is_node : s < n) where
    pub goal_same : distance_at ds goal ≡ distance_at (distances n es s) goal
    goal_same = least_unique es weights s goal_least (least_distance n es weights inside s is_node goal)

    pub all_same : most_nodes ≤ goal → (v : ℕ) → distance_at ds v ≡ distance_at (distances n es s) v
    all_same h v = least_unique es weights s (all_least h v) (least_distance n es weights inside s is_node v)

    -- a distance is the definition's, or neither the one nor the other is below the goal's
    pub same_or_far : (v : ℕ) → (distance_at ds v ≡ distance_at (distances n es s) v) ⊎ ((key_at ds goal ≤ key_at ds v) × (key_at ds goal ≤ key_at (distances n es s) v))
    same_or_far v =
        let U = F.up_to v in
        let L = least_distance n es weights inside s is_node v in
        elim (dec_le (key_at ds v) (key_at ds goal)) [
          | yes l ↦ inl (least_unique es weights s (U.near l) L)
          | no m ↦
              let q = le_of_lt (lt_of_not-le m) in
              inr (
                q,
                elim L.reached [
                  | inl e ↦ subst (λ (x : Float). key_at ds goal ≤ key binary64 x) (sym e) (key_top binary64 (distance_at ds goal) (F.nonneg goal))
                  | inr w ↦ U.far q (distance_at (distances n es s) v) w
                ],
              )
        ]
