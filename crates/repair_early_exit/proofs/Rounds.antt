-- What the rounds of `dijkstra` keep: sizes, that no distance is negative, and that no node that is done is farther than one that is not. Assumes nothing.
use mathlib.Core.Path.{◌≡◌, refl, sym, ap, ◌∙◌}
use mathlib.Core.Logic.{◌⊎◌, inl, inr}
use mathlib.Core.List.{List}
use mathlib.Core.Bool.{Bool, true, false, true≢false, false≢true}
use Prim.Native.Nat.{ℕ, zero, suc, ◌+◌, ◌≤◌, ◌<◌}
use native.Mathlib.Nat.{le_refl, le_trans}
use native.Mathlib.Decide.{dec_le}
use native.Mathlib.Omega.{arith}
use lib.ListN.{length, set, replicate, length-set, length-replicate}
use lib.Ieee.{Float, binary64}
use Rattle.sums.specs.Key.{Nonneg, key}
use Rattle.sums.proofs.KeyLaws.{key_top}
use Rattle.sums.proofs.Sum.{add_above, zero_nonneg, inf_nonneg}
use Rattle.lists.proofs.Elements.{set_cases, get_d_same}
use Rattle.graph_spec.specs.Graph.{Edge}
use Rattle.repair_spec.specs.Distance.{infinity, zero_length, distance_at, Nearest, pick, relax_all, dijkstra, distances}
use Rattle.repair_spec.specs.Relax.{key_at, AllNonneg}
use Rattle.repair_spec.proofs.Relax.{Improved, still_nonneg, Next, next_nonneg, relax_all_is}
use Rattle.repair_spec.proofs.Rounds.{beyond}
use Rattle.repair_spec.proofs.Nearest.{Done, Open, Picked, pick_is}
use Rattle.graph_spec.specs.Weights.{Weights}

-- no node that is done is farther than one that is not
pub record Ordered (ds : List Float) (done : List Bool) : Type 0 where
  pub sizes : length done ≡ length ds
  pub nonneg : AllNonneg ds
  pub order : (u v : ℕ) → Done done u → Open done v → key_at ds u ≤ key_at ds v

-- what a round takes
abbrev pub taken : List Float → List Bool → Nearest
taken ds done = pick ds done 0 (record { node = length ds; distance = infinity })

-- what a round leaves
abbrev pub next_distances : List Edge → List Float → List Bool → List Float
next_distances es ds done = relax_all (taken ds done).node (taken ds done).distance es ds

abbrev pub next_done : List Float → List Bool → List Bool
next_done ds done = set done (taken ds done).node true

-- ---- what is taken: the nearest node that is not done, or none where all of these are infinitely far
module _ (ds : List Float) (done : List Bool) (O : Ordered ds done) where
  picked : Picked ds done 0 (record { node = length ds; distance = infinity }) (taken ds done)
  picked = pick_is ds done 0 (record { node = length ds; distance = infinity }) O.sizes O.nonneg (inf_nonneg binary64)

  -- it is at the distance of its node, or there is none
  pub taken_node : ((taken ds done).distance ≡ infinity) ⊎ (((taken ds done).distance ≡ distance_at ds (taken ds done).node) × Open done (taken ds done).node)
  taken_node = go (taken ds done) picked.which
    where
      go : (p : Nearest) → (p ≡ record { node = length ds; distance = infinity }) ⊎ ((j : ℕ) × (j < length ds) × (p.node ≡ 0 + j) × (p.distance ≡ distance_at ds j) × Open done j)
          → (p.distance ≡ infinity) ⊎ ((p.distance ≡ distance_at ds p.node) × Open done p.node)
      go p (inl e) = inl (ap (λ (r : Nearest). r.distance) e)
      go p (inr w) = let e : p.node ≡ w.0 = omega (arith, w.2) in inr (rw e w.3, rw e w.4)

  pub taken_nonneg : Nonneg binary64 (taken ds done).distance
  taken_nonneg = elim taken_node [ inl e ↦ rw e (inf_nonneg binary64) | inr q ↦ rw q.0 (O.nonneg (taken ds done).node) ]

  taken_least : (v : ℕ) → Open done v → key binary64 (taken ds done).distance ≤ key_at ds v
  taken_least v o = elim (dec_le (suc v) (length ds)) [
    | yes l ↦ picked.least v l o
    | no m ↦ rw (beyond ds v (omega arith)) (key_top binary64 (taken ds done).distance taken_nonneg)
  ]

  taken_most : (v : ℕ) → Done done v → key_at ds v ≤ key binary64 (taken ds done).distance
  taken_most v h = elim taken_node [
    | inl e ↦ rw e (key_top binary64 (distance_at ds v) (O.nonneg v))
    | inr q ↦ rw q.0 (O.order v (taken ds done).node h q.1)
  ]

  -- ---- a round
  module _ (es : List Edge) (weights : Weights es) where
    pub improved : Improved (Next (taken ds done).node (taken ds done).distance es) ds (next_distances es ds done)
    improved = relax_all_is (taken ds done).node (taken ds done).distance taken_nonneg es ds weights O.nonneg

    -- an edge's offer is no nearer than the node taken
    pub above : (v : ℕ) (c : Float) → Next (taken ds done).node (taken ds done).distance es v c → key binary64 (taken ds done).distance ≤ key binary64 c
    above v c o = rw o.3 (add_above binary64 (taken ds done).distance o.0.weight taken_nonneg (weights o.0 o.1))

    stays : (v : ℕ) → key_at ds v ≤ key binary64 (taken ds done).distance → distance_at (next_distances es ds done) v ≡ distance_at ds v
    stays v h = elim (improved.change v) [ inl e ↦ e | inr q ↦ absurd (omega (arith, q.1, above v (distance_at (next_distances es ds done) v) q.0)) ]

    no_nearer : (v : ℕ) → key binary64 (taken ds done).distance ≤ key_at ds v → key binary64 (taken ds done).distance ≤ key_at (next_distances es ds done) v
    no_nearer v h = elim (improved.change v) [ inl e ↦ rw e h | inr q ↦ above v (distance_at (next_distances es ds done) v) q.0 ]

    was_open : (v : ℕ) → Open (next_done ds done) v → Open done v
    was_open v h = elim (set_cases done (taken ds done).node true false v) [ inl e ↦ absurd (true≢false (sym e.1 ∙ h)) | inr e ↦ sym e ∙ h ]

    near : (v : ℕ) → Done (next_done ds done) v → key_at ds v ≤ key binary64 (taken ds done).distance
    near v h = elim (set_cases done (taken ds done).node true false v) [
      | inl e ↦ elim taken_node [ inl i ↦ rw i (key_top binary64 (distance_at ds v) (O.nonneg v)) | inr q ↦ rw (q.0, e.0) (le_refl _) ]
      | inr e ↦ taken_most v (sym e ∙ h)
    ]

    pub round_ordered : Ordered (next_distances es ds done) (next_done ds done)
    round_ordered =
        record {
          sizes = length-set done (taken ds done).node true ∙ O.sizes ∙ sym improved.same;
          nonneg = still_nonneg improved O.nonneg (next_nonneg (taken ds done).node (taken ds done).distance taken_nonneg es weights);
          order = λ v w p q. rw (stays v (near v p)) (le_trans (near v p) (no_nearer w (taken_least w (was_open w q))));
        }

-- however many rounds are left
pub rounds_length : (k : ℕ) (es : List Edge) → Weights es → (ds : List Float) (done : List Bool) → Ordered ds done → length (dijkstra k es ds done) ≡ length ds
unfolding dijkstra
rounds_length zero es weights ds done O = refl
rounds_length (suc k) es weights ds done O = rounds_length k es weights _ _ (round_ordered ds done O es weights) ∙ (improved ds done O es weights).same

pub rounds_nonneg : (k : ℕ) (es : List Edge) → Weights es → (ds : List Float) (done : List Bool) → Ordered ds done → AllNonneg (dijkstra k es ds done)
unfolding dijkstra
rounds_nonneg zero es weights ds done O = O.nonneg
rounds_nonneg (suc k) es weights ds done O = rounds_nonneg k es weights _ _ (round_ordered ds done O es weights)

-- ---- a search that makes the rounds of the definition, with k of them left
pub record Standing (n : ℕ) (es : List Edge) (s k : ℕ) (ds : List Float) (done : List Bool) : Type 0 where
  pub nodes : length ds ≡ n
  pub ordered : Ordered ds done
  pub rest : dijkstra k es ds done ≡ distances n es s

pub standing_start : (n : ℕ) (es : List Edge) (s : ℕ) → Standing n es s n (set (replicate n infinity) s zero_length) (replicate n false)
unfolding distances
standing_start n es s =
    let l = length-set (replicate n infinity) s zero_length ∙ length-replicate n infinity in
    record {
      nodes = l;
      ordered = record {
        sizes = length-replicate n false ∙ sym l;
        nonneg = λ v. elim (set_cases (replicate n infinity) s zero_length infinity v) [
          | inl p ↦ rw p.1 (zero_nonneg binary64)
          | inr q ↦ rw (q, get_d_same n v infinity) (inf_nonneg binary64)
        ];
        order = λ u v p. absurd (false≢true (sym (get_d_same n u false) ∙ p));
      };
      rest = refl;
    }

pub distances_length : (n : ℕ) (es : List Edge) → Weights es → (s : ℕ) → length (distances n es s) ≡ n
distances_length n es weights s =
    let S = standing_start n es s in
    ap length (sym S.rest) ∙ rounds_length n es weights _ _ S.ordered ∙ S.nodes
