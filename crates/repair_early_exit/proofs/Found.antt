-- Between two nodes that are joined by a way a retrace is always found: the least distance is a sum over a way, so the last edge of that way leads back exactly, each step back
-- leads to a nearer node, and so to none that was visited, and there are no more than n of them. So 12 can't happen in a drawing in which every node is reached.
use mathlib.Core.Path.{◌≡◌, refl, sym, ap, ◌∙◌}
use mathlib.Core.Logic.{inl, inr}
use mathlib.Core.List.{List, [], ◌∷◌}
use mathlib.Core.Bool.{Bool, true, false, ◌&&◌, ◌||◌, not, true≢false, false≢true}
use Prim.Native.Nat.{ℕ, zero, suc, ◌+◌, ◌*◌, ◌≤◌, ◌<◌}
use native.Mathlib.Nat.{le_refl, le_trans, le_of_lt, le_of_eq, lt_of_not-le, not-le_of_lt, lt_of_lt_of_le, lt_of_le_of_lt, le_of_suc-le-suc, not-suc-le-zero, le_antisymm}
use native.Mathlib.Decide.{dec_le}
use native.Mathlib.Omega.{arith}
use lib.Dec.{eqb, lit<, lit≤}
use borrow.Author.Tests.{eqb-true, eqb-false}
use lib.Ieee.{Float, binary64, add}
use lib.Ieee.Scale.{overflow}
use Rattle.sums.specs.Key.{Nonneg, key}
use Rattle.sums.proofs.KeyLaws.{key_inj}
use Rattle.sums.proofs.Sum.{add_nonneg, add_key, add_above, add_mono}
use Rattle.graph_spec.specs.Graph.{Edge, Arc, edges_at}
use Rattle.graph_spec.specs.Ways.{Joins, Reach, here, on}
use Rattle.lists.specs.Members.{In}
use Rattle.graph_spec.proofs.Connected.{joins_sym, joins_inside}
use Rattle.graph_spec.proofs.EdgesAt.{edge_at, number_of_lem, edges_at_all, edges_at_arc, arc_joins, other_end}
use Rattle.repair_spec.specs.Distance.{zero_length, distance_at, distances}
use Rattle.repair_spec.specs.Retrace.{Step, to, none, found, error, on_way_back, member, step_back, way_back, shortest_path}
use Rattle.repair_spec.specs.Cost.{Way, step, Least}
use Rattle.repair_spec.proofs.Cost.{way_nonneg, least_nonneg}
use Rattle.repair_spec.proofs.Least.{least_distance}
use Rattle.repair_spec.specs.Relax.{key_at}
use Rattle.repair_early_exit.proofs.Difference.{round_most}
use Rattle.graph_spec.specs.Weights.{grid_step, longest, Searchable}
use Rattle.repair_early_exit.proofs.NotBack.{farthest, not_back, exactly_back, finite_far}
use Rattle.repair_early_exit.proofs.Bounded.{distances_in_reach}
use Rattle.repair_early_exit.proofs.Rounds.{distances_length}
use Rattle.repair_early_exit.proofs.Closer.{closer, closer_less, closer_few}

-- ---- the first neighbour on the way back, where there is one that is not visited

-- the step p leads along one of the arcs rs to a node on the way back
abbrev Finds : List Float → Float → List Arc → Step → Type 0
Finds ds c rs p = (r : Arc) × In r rs × (p ≡ to r.to) × (on_way_back (distance_at ds r.to) r.weight c ≡ true)

step_finds : (ds : List Float) (c : Float) (visited : List ℕ) (rs : List Arc) (a : Arc) → In a rs → member a.to visited ≡ false
    → on_way_back (distance_at ds a.to) a.weight c ≡ true → Finds ds c rs (step_back ds c visited rs)
unfolding step_back
step_finds ds c visited [] a i m b = elim i [ ]
step_finds ds c visited (r ∷ rs) a i m b =
    go (member r.to visited) (on_way_back (distance_at ds r.to) r.weight c) refl refl i (λ k. step_finds ds c visited rs a k m b)
  where
    more : (p : Step) → Finds ds c rs p → Finds ds c (r ∷ rs) p
    more p q = (q.0, inr q.1, q.2, q.3)

    go : (x y : Bool) → member r.to visited ≡ x → on_way_back (distance_at ds r.to) r.weight c ≡ y → In a (r ∷ rs) → (In a rs → Finds ds c rs (step_back ds c visited rs))
        → Finds ds c (r ∷ rs) (elim (not x && y) [ true ↦ to r.to | false ↦ step_back ds c visited rs ])
    go false true e f i rec = (r, inl refl, refl, f)
    go false false e f (inl k) rec = absurd (true≢false (sym b ∙ ap (λ (q : Arc). on_way_back (distance_at ds q.to) q.weight c) k ∙ f))
    go false false e f (inr k) rec = more _ (rec k)
    go true true e f (inl k) rec = absurd (true≢false (sym e ∙ ap (λ (q : Arc). member q.to visited) (sym k) ∙ m))
    go true true e f (inr k) rec = more _ (rec k)
    go true false e f (inl k) rec = absurd (true≢false (sym e ∙ ap (λ (q : Arc). member q.to visited) (sym k) ∙ m))
    go true false e f (inr k) rec = more _ (rec k)

-- every edge of a node is among its arcs, with its weight
pub arc_along : (es : List Edge) (e : Edge) (u v : ℕ) → In e es → Joins e v u → (r : Arc) × In r (edges_at es v) × (r.to ≡ u) × (r.weight ≡ e.weight)
arc_along es e u v i j =
    let k = number_of_lem es e i in
    let j' : Joins (edge_at es k.number) v u = rw k.is j in
    let a = edges_at_all es k.number v u k.is_edge j' in
    let q = edges_at_arc es v a.arc a.is_in in (
      a.arc,
      a.is_in,
      other_end (edge_at es k.number) v a.arc.to u (rw a.number_is at q.joins) j',
      q.weight_is ∙ ap (λ (x : ℕ). (edge_at es x).weight) a.number_is ∙ ap (λ (x : Edge). x.weight) k.is,
    )

-- a distance in reach and a weight have a finite sum
sum_units : (a b m l : ℕ) → a < m → b ≤ l → l ≤ m → a + b ≤ 2 * m
sum_units a b m l h k g = omega arith

sum_finite : (d w : Float) → Nonneg binary64 d → Nonneg binary64 w → key binary64 d < key binary64 farthest → key binary64 w ≤ key binary64 longest
    → key binary64 (add binary64 d w) < overflow binary64
sum_finite d w p q h k =
    lt_of_le_of_lt (le_of_eq (add_key binary64 d w p q))
    (lt_of_le_of_lt
    (round_most binary64 (key binary64 d + key binary64 w) 2 1115 (lit< tt) (lit< tt) (sum_units (key binary64 d) (key binary64 w) (key binary64 farthest) (key binary64 longest) h k (lit≤ tt)))
    (lit< tt))

module _ (n : ℕ) (es : List Edge) (G : Searchable n es) (s : ℕ) (b : s < n) where
  abbrev ds : List Float
  ds = distances n es s

  least : (v : ℕ) → Least es s v (distance_at ds v)
  least = least_distance n es G.weights G.inside s b

  nonneg : (v : ℕ) → Nonneg binary64 (distance_at ds v)
  nonneg v = least_nonneg es G.weights s (least v)

  abbrev Near : ℕ → Type 0
  Near v = key_at ds v < key binary64 farthest

  near_way : (v : ℕ) → Near v → Way es s v (distance_at ds v)
  near_way v h = elim (least v).reached [ inl e ↦ absurd (not-le_of_lt h (rw e finite_far)) | inr w ↦ w ]

  -- what is not infinitely far is in reach
  finite_near : (v : ℕ) → key_at ds v < overflow binary64 → Near v
  finite_near v h = elim (distances_in_reach es G.weights G.short n s v G.few) [
    | inl e ↦ absurd (not-le_of_lt h (le_of_eq (ap (λ (d : Float). key binary64 d) (sym e))))
    | inr l ↦ l
  ]

  -- a node with a way to it is not infinitely far
  pub reached_near : {v : ℕ} → Reach es s v → Near v
  reached_near here = lt_of_le_of_lt ((least s).below zero_length Way.here) (lit< tt)
  reached_near (on {u} {v} r j) =
      let h = reached_near r in
      finite_near v (lt_of_le_of_lt ((least v).below _ (step (near_way u h) j.by j.is_in j.joins))
      (sum_finite (distance_at ds u) j.by.weight (nonneg u) (G.weights j.by j.is_in) h (G.short j.by j.is_in)))

  -- ---- a node other than s has a neighbour from which its distance is one sum, the last of a way that costs it
  last_step : {v : ℕ} {d : Float} → Way es s v d → d ≡ distance_at ds v → Near v → eqb v s ≡ false
      → (r : Arc) × In r (edges_at es v) × (on_way_back (distance_at ds r.to) r.weight (distance_at ds v) ≡ true)
  last_step Way.here e h f = absurd (eqb-false s s f refl)
  last_step (step {u = u} {v} {c} w e i j) eq h f =
      let q = G.weights e i in
      let p = way_nonneg es G.weights s w in
      let x = add binary64 (distance_at ds u) e.weight in
      let low : key_at ds u ≤ key binary64 c = (least u).below c w in
      let up : key binary64 c ≤ key_at ds v = rw (← eq) (add_above binary64 c e.weight p q) in
      let wu = near_way u (lt_of_le_of_lt (le_trans low up) h) in
      let under : key_at ds v ≤ key binary64 x = (least v).below x (step wu e i j) in
      let over : key binary64 x ≤ key_at ds v = rw (← eq) (add_mono binary64 (distance_at ds u) c e.weight (nonneg u) p q low) in
      let same : x ≡ distance_at ds v = key_inj binary64 x (distance_at ds v) (add_nonneg binary64 (distance_at ds u) e.weight (nonneg u) q) (nonneg v) (le_antisymm over under) in
      let a = arc_along es e u v i (joins_sym e u v j) in
      (a.0, a.1, rw (a.2, a.3) (exactly_back (distance_at ds u) e.weight (distance_at ds v) (nonneg v) same h))

  -- ---- a step back leads to a nearer node
  nearer : (v : ℕ) (r : Arc) → Near v → In r (edges_at es v) → on_way_back (distance_at ds r.to) r.weight (distance_at ds v) ≡ true → key_at ds r.to < key_at ds v
  nearer v r h i back =
      let j = arc_joins es v r i in
      let q : Nonneg binary64 r.weight = rw j.1 (G.weights j.0.by j.0.is_in) in
      let k : key binary64 grid_step ≤ key binary64 r.weight = rw j.1 (G.long j.0.by j.0.is_in) in
      elim (dec_le (key_at ds v) (key_at ds r.to)) [
        | yes l ↦ absurd (true≢false (sym back ∙ not_back (distance_at ds r.to) r.weight (distance_at ds v) (nonneg r.to) q (nonneg v) k (inr h) l))
        | no l ↦ lt_of_not-le l
      ]

  -- the nodes visited are no nearer than v
  abbrev Farther : ℕ → List ℕ → Type 0
  Farther v visited = (x : ℕ) → member x visited ≡ true → key_at ds v ≤ key_at ds x

  farther_new : (u v : ℕ) (visited : List ℕ) → key_at ds u < key_at ds v → Farther v visited → member u visited ≡ false
  farther_new u v visited l f = go (member u visited) refl
    where
      go : (t : Bool) → member u visited ≡ t → t ≡ false
      go true e = absurd (not-le_of_lt l (f u e))
      go false e = refl

  farther_more : (u v : ℕ) (visited : List ℕ) → key_at ds u < key_at ds v → Farther v visited → Farther u (u ∷ visited)
  unfolding member
  farther_more u v visited l f x = go (eqb x u) refl
    where
      go : (t : Bool) → eqb x u ≡ t → t || member x visited ≡ true → key_at ds u ≤ key_at ds x
      go true e m = rw (eqb-true x u e) (le_refl _)
      go false e m = le_trans (le_of_lt l) (f x m)

  -- ---- so the way back from a node that is in reach ends at s
  way_found : (k v : ℕ) (after : List ℕ) → v < n → Near v → Farther v (v ∷ after) → closer (key_at ds v) ds < k → (path : List ℕ) × (way_back k es ds s v after ≡ found path)
  unfolding way_back
  way_found zero v after l h f c = absurd (not-suc-le-zero c)
  way_found (suc k) v after l h f c = go (eqb v s) refl (λ u. way_found k u (v ∷ after))
    where
      next : (r : Arc) → In r (edges_at es v) → on_way_back (distance_at ds r.to) r.weight (distance_at ds v) ≡ true
          → ((u : ℕ) → u < n → Near u → Farther u (u ∷ v ∷ after) → closer (key_at ds u) ds < k → (path : List ℕ) × (way_back k es ds s u (v ∷ after) ≡ found path))
          → (path : List ℕ) × (way_back k es ds s r.to (v ∷ after) ≡ found path)
      next r i back rec =
          let m = nearer v r h i back in
          let j = (arc_joins es v r i).0 in
          let inside = joins_inside n es G.inside j.by v r.to j.is_in j.joins in
          let less = closer_less ds r.to (key_at ds v) (rw (distances_length n es G.weights s) inside) m in
          rec r.to inside (lt_of_lt_of_le m (le_of_lt h)) (farther_more r.to v (v ∷ after) m f) (lt_of_lt_of_le less (le_of_suc-le-suc c))

      go : (t : Bool) → eqb v s ≡ t
          → ((u : ℕ) → u < n → Near u → Farther u (u ∷ v ∷ after) → closer (key_at ds u) ds < k → (path : List ℕ) × (way_back k es ds s u (v ∷ after) ≡ found path))
          → (path : List ℕ)
          × (elim t [
            | true ↦ found (v ∷ after)
            | false ↦ elim (step_back ds (distance_at ds v) (v ∷ after) (edges_at es v)) [ to u ↦ way_back k es ds s u (v ∷ after) | none ↦ error ]
          ] ≡ found path)
      go true e rec = (v ∷ after, refl)
      go false e rec =
          let a = last_step (near_way v h) refl h e in
          let new = farther_new a.0.to v (v ∷ after) (nearer v a.0 h a.1 a.2) f in
          let p = step_finds ds (distance_at ds v) (v ∷ after) (edges_at es v) a.0 a.1 new a.2 in
          let q = next p.0 p.1 p.3 rec in
          (q.0, rw p.2 q.1)

  own_farther : (t : ℕ) → Farther t (t ∷ [])
  unfolding member
  own_farther t x = go (eqb x t) refl
    where
      go : (y : Bool) → eqb x t ≡ y → y || false ≡ true → key_at ds t ≤ key_at ds x
      go true e m = rw (eqb-true x t e) (le_refl _)
      go false e m = absurd (false≢true m)

  pub path_found : (t : ℕ) → t < n → Reach es s t → (path : List ℕ) × (shortest_path n es s t ≡ found path)
  unfolding shortest_path
  path_found t l r = way_found n t [] l (reached_near r) (own_farther t) (rw (distances_length n es G.weights s) at (closer_few ds t (rw (distances_length n es G.weights s) l)))
