-- Laws of specs/WayBack.
use mathlib.Core.Path.{◌≡◌, refl, sym, ap, ◌∙◌}
use mathlib.Core.Logic.{◌⊎◌, inl, inr}
use mathlib.Core.List.{List, [], ◌∷◌}
use mathlib.Core.Bool.{Bool, true, false, ◌&&◌, not, true≢false, false≢true}
use Prim.Native.Nat.{ℕ, zero, suc, ◌≤◌, ◌<◌}
use native.Mathlib.Nat.{le_refl, le_trans, le_of_lt, lt_of_not-le, not-le_of_lt, lt_of_lt_of_le, lt_trans}
use native.Mathlib.Decide.{dec_le}
use lib.Dec.{eqb}
use lib.Ieee.{Float, binary64}
use Rattle.sums.specs.Key.{Nonneg, key}
use Rattle.graph_spec.specs.Graph.{Edge, Arc, edges_at}
use Rattle.lists.specs.Members.{In}
use Rattle.graph_spec.proofs.EdgesAt.{arc_joins}
use Rattle.repair_spec.specs.Distance.{distance_at}
use Rattle.repair_spec.specs.Retrace.{Path, Step, to, none, found, error, on_way_back, member, step_back, way_back}
use Rattle.graph_spec.specs.Weights.{Weights, grid_step, Long}
use Rattle.repair_spec.specs.Relax.{key_at, AllNonneg}
use Rattle.repair_early_exit.proofs.NotBack.{InReach, none_back, not_back}

-- ds' serves for the way back from t as ds does: t's distance is the same, and any other is the same or, in both, no less than that of t
pub record Serves (t : ℕ) (ds ds' : List Float) : Type 0 where
  pub goal : distance_at ds' t ≡ distance_at ds t
  pub each : (v : ℕ) → (distance_at ds' v ≡ distance_at ds v) ⊎ ((key_at ds t ≤ key_at ds v) × (key_at ds t ≤ key_at ds' v))

-- so a distance below that of t, in either list, is the same in both
pub serves_final : {t : ℕ} {ds ds' : List Float} → Serves t ds ds' → (v : ℕ) → (key_at ds v < key_at ds t) ⊎ (key_at ds' v < key_at ds' t) → distance_at ds' v ≡ distance_at ds v
serves_final S v h = elim (S.each v) [
  | inl e ↦ e
  | inr m ↦ absurd (elim h [ inl l ↦ not-le_of_lt l m.0 | inr l ↦ not-le_of_lt (rw S.goal at l) m.1 ])
]

module _ (t : ℕ) (ds ds' : List Float) (n : AllNonneg ds) (n' : AllNonneg ds') (S : Serves t ds ds') where
  -- ---- one step back from a node at the distance c, which is no farther than t
  module _ (c : Float) (p : Nonneg binary64 c) (r : InReach c) (near : key binary64 c ≤ key_at ds t) where
    same_test : (u : ℕ) (w : Float) → Nonneg binary64 w → key binary64 grid_step ≤ key binary64 w → on_way_back (distance_at ds' u) w c ≡ on_way_back (distance_at ds u) w c
    same_test u w q k = elim (S.each u) [
      | inl e ↦ ap (λ (d : Float). on_way_back d w c) e
      | inr m ↦ not_back (distance_at ds' u) w c (n' u) q p k r (le_trans near m.1) ∙ sym (not_back (distance_at ds u) w c (n u) q p k r (le_trans near m.0))
    ]

    -- a node on the way back is nearer
    abbrev Nearer : ℕ → Type 0
    Nearer u = (key_at ds u < key binary64 c) × InReach (distance_at ds u)

    nearer : (u : ℕ) (w : Float) → Nonneg binary64 w → key binary64 grid_step ≤ key binary64 w → on_way_back (distance_at ds u) w c ≡ true → Nearer u
    nearer u w q k h =
        elim r [
          | inl e ↦ absurd (true≢false (sym h ∙ none_back (distance_at ds u) w c (n u) q e))
          | inr far ↦ elim (dec_le (key binary64 c) (key_at ds u)) [
            | yes l ↦ absurd (true≢false (sym h ∙ not_back (distance_at ds u) w c (n u) q p k (inr far) l))
            | no l ↦ (lt_of_not-le l, inr (lt_trans (lt_of_not-le l) far))
          ]
        ]

    -- the same step, or none, and where there is one it leads to a nearer node
    record SameStep (x y : Step) : Type 0 where
      same : x ≡ y
      down : (u : ℕ) → y ≡ to u → Nearer u

    same_step : (visited : List ℕ) (rs : List Arc) → ((a : Arc) → In a rs → Nonneg binary64 a.weight × (key binary64 grid_step ≤ key binary64 a.weight))
        → SameStep (step_back ds' c visited rs) (step_back ds c visited rs)
    unfolding step_back
    same_step visited [] long = record { same = refl; down = λ u e. absurd (true≢false (cc)) }
    same_step visited (a ∷ rs) long =
        go (not (member a.to visited)) (on_way_back (distance_at ds' a.to) a.weight c) (on_way_back (distance_at ds a.to) a.weight c)
        (same_test a.to a.weight (long a (inl refl)).0 (long a (inl refl)).1)
        (nearer a.to a.weight (long a (inl refl)).0 (long a (inl refl)).1)
        (same_step visited rs (λ b i. long b (inr i)))
      where
        go : (m x y : Bool) → x ≡ y → (y ≡ true → Nearer a.to)
            → SameStep (step_back ds' c visited rs) (step_back ds c visited rs)
            → SameStep (elim (m && x) [ true ↦ to a.to | false ↦ step_back ds' c visited rs ]) (elim (m && y) [ true ↦ to a.to | false ↦ step_back ds c visited rs ])
        go false x y e l rest = rest
        go true true true e l rest = record { same = refl; down = λ u h. (let i : a.to ≡ u = cc in rw (← i) (l refl)) }
        go true true false e l rest = absurd (true≢false e)
        go true false true e l rest = absurd (false≢true e)
        go true false false e l rest = rest

  -- ---- all steps
  module _ (es : List Edge) (weights : Weights es) (long : Long es) where
    arc_long : (v : ℕ) (a : Arc) → In a (edges_at es v) → Nonneg binary64 a.weight × (key binary64 grid_step ≤ key binary64 a.weight)
    arc_long v a i =
        let j = arc_joins es v a i in
        rw j.1 (weights j.0.by j.0.is_in, long j.0.by j.0.is_in)

    -- from a node whose distance is final and no more than that of t
    from_node : (k s v : ℕ) (after : List ℕ) → distance_at ds' v ≡ distance_at ds v → key_at ds v ≤ key_at ds t → InReach (distance_at ds v)
        → way_back k es ds' s v after ≡ way_back k es ds s v after
    unfolding way_back
    from_node zero s v after e near r = refl
    from_node (suc k) s v after e near r =
        let q = same_step (distance_at ds v) (n v) r near (v ∷ after) (edges_at es v) (arc_long v) in
        go (eqb v s) (step_back ds' (distance_at ds' v) (v ∷ after) (edges_at es v)) (step_back ds (distance_at ds v) (v ∷ after) (edges_at es v))
        (record { same = ap (λ (c : Float). step_back ds' c (v ∷ after) (edges_at es v)) e ∙ q.same; down = q.down }) (λ u. from_node k s u (v ∷ after))
      where
        go : (b : Bool) (x y : Step) → SameStep (distance_at ds v) (n v) r near x y
            → ((u : ℕ) → distance_at ds' u ≡ distance_at ds u → key_at ds u ≤ key_at ds t → InReach (distance_at ds u) → way_back k es ds' s u (v ∷ after) ≡ way_back k es ds s u (v ∷ after))
            → ◌≡◌ {A = Path} (elim b [ true ↦ found (v ∷ after) | false ↦ elim x [ to u ↦ way_back k es ds' s u (v ∷ after) | none ↦ error ] ])
            (elim b [ true ↦ found (v ∷ after) | false ↦ elim y [ to u ↦ way_back k es ds s u (v ∷ after) | none ↦ error ] ])
        go true x y q rec = refl
        go false (to u) (to w) q rec =
            let i : u ≡ w = cc q.same in
            let m = q.down w refl in
            ap (λ (z : ℕ). way_back k es ds' s z (v ∷ after)) i ∙ rec w (serves_final S w (inl (lt_of_lt_of_le m.0 near))) (le_trans (le_of_lt m.0) near) m.1
        go false (to u) none q rec = absurd (true≢false (cc q.same))
        go false none (to w) q rec = absurd (true≢false (cc q.same))
        go false none none q rec = refl

-- So a search from s may stop where t's distance is final and all others that are not are no less: the way back from t is the same.
pub same_way_back : (k : ℕ) (es : List Edge) (s t : ℕ) (ds ds' : List Float) → Weights es → Long es → AllNonneg ds → AllNonneg ds' → InReach (distance_at ds t)
    → Serves t ds ds' → way_back k es ds' s t [] ≡ way_back k es ds s t []
same_way_back k es s t ds ds' weights long n n' r S = from_node t ds ds' n n' S es weights long k s t [] S.goal (le_refl _) r
