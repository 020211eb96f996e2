-- Laws of specs/Bounded.
use mathlib.Core.Path.{◌≡◌, ◌∙◌}
use mathlib.Core.Logic.{◌⊎◌, inl, inr}
use mathlib.Core.List.{List}
use mathlib.Core.Bool.{Bool, false}
use Prim.Native.Nat.{ℕ, zero, suc, ◌+◌, ◌*◌, ◌^◌, ◌≤◌, ◌<◌, zero-le}
use native.Mathlib.Nat.{le_trans, le_of_eq, lt_of_lt_of_le, lt_of_le_of_lt, not-le_of_lt, mul-lt-mul_of_pos_right}
use native.Mathlib.Omega.{arith}
use lib.Dec.{lit≤}
use lib.Pow.{pow_pos}
use lib.ListN.{set, replicate}
use lib.Ieee.{Float, binary64, add}
use lib.Ieee.Scale.{overflow}
use Rattle.sums.specs.Key.{Nonneg, key}
use Rattle.sums.proofs.KeyLaws.{key_top}
use Rattle.sums.proofs.Sum.{add_key, zero_key}
use Rattle.lists.proofs.Elements.{set_cases, get_d_same}
use Rattle.graph_spec.specs.Graph.{Edge}
use Rattle.repair_spec.specs.Distance.{infinity, zero_length, distance_at, dijkstra, distances}
use Rattle.repair_spec.specs.Relax.{key_at}
use Rattle.repair_spec.proofs.Relax.{Next}
use Rattle.graph_spec.specs.Weights.{Weights, Short, longest}
use Rattle.repair_early_exit.proofs.Difference.{round_most}
use Rattle.repair_early_exit.proofs.NotBack.{farthest, InReach}
use Rattle.repair_early_exit.proofs.Rounds.{Ordered, taken, taken_node, next_distances, taken_nonneg, improved, above, round_ordered, standing_start}

-- each distance is infinity, or that of i edges at most
abbrev Within : ℕ → List Float → Type 0
Within i ds = (v : ℕ) → (distance_at ds v ≡ infinity) ⊎ (key_at ds v ≤ i * 2 ^ 1088)

-- as many rounds as keep every distance below 2 ^ 41
abbrev Few : ℕ → Type 0
Few i = i < 2 ^ 27

-- one more to a sum of i, each at most l units
one_more : (a b i l : ℕ) → a ≤ i * l → b ≤ l → a + b ≤ suc i * l
one_more a b i l h k = omega arith

-- and where that is a number of few digits, rounding does not take the sum past it
pub one_more_kept : (j i : ℕ) (x y : Float) → suc i < 2 ^ 53 → suc i * 2 ^ j < overflow binary64 → Nonneg binary64 x → Nonneg binary64 y → key binary64 x ≤ i * 2 ^ j → key binary64 y ≤ 2 ^ j
    → key binary64 (add binary64 x y) ≤ suc i * 2 ^ j
one_more_kept j i x y small fine p q h k =
    le_trans (le_of_eq (add_key binary64 x y p q)) (round_most binary64 (key binary64 x + key binary64 y) (suc i) j small fine (one_more (key binary64 x) (key binary64 y) i (2 ^ j) h k))

weaker : (a i l : ℕ) → a ≤ i * l → a ≤ suc i * l
weaker a i l h = omega arith

few_kept : (i : ℕ) → Few i → i * 2 ^ 1088 < key binary64 farthest
few_kept i h = mul-lt-mul_of_pos_right h (pow_pos 1088)

one_edge_kept : (d w : Float) (i : ℕ) → Few (suc i) → Nonneg binary64 d → Nonneg binary64 w → key binary64 d ≤ i * 2 ^ 1088 → key binary64 w ≤ key binary64 longest
    → key binary64 (add binary64 d w) ≤ suc i * 2 ^ 1088
one_edge_kept d w i few p q h k = one_more_kept 1088 i d w (lt_of_lt_of_le few (lit≤ tt)) (lt_of_lt_of_le (few_kept (suc i) few) (lit≤ tt)) p q h k

module _ (es : List Edge) (weights : Weights es) (short : Short es) where
  module _ (ds : List Float) (done : List Bool) (O : Ordered ds done) (i : ℕ) (few : Few (suc i)) (W : Within i ds) where
    taken_within : ((taken ds done).distance ≡ infinity) ⊎ (key binary64 (taken ds done).distance ≤ i * 2 ^ 1088)
    taken_within = elim (taken_node ds done O) [ inl e ↦ inl e | inr q ↦ rw q.0 (W (taken ds done).node) ]

    offered : (v : ℕ) (c : Float) → Next (taken ds done).node (taken ds done).distance es v c → key binary64 c < key_at ds v → key binary64 c ≤ suc i * 2 ^ 1088
    offered v c o l = elim taken_within [
      | inl e ↦ absurd (not-le_of_lt l (le_trans (key_top binary64 (distance_at ds v) (O.nonneg v)) (rw e at (above ds done O es weights v c o))))
      | inr h ↦ rw o.3 (one_edge_kept (taken ds done).distance o.0.weight i few (taken_nonneg ds done O) (weights o.0 o.1) h (short o.0 o.1))
    ]

    round_within : Within (suc i) (next_distances es ds done)
    round_within v = elim ((improved ds done O es weights).change v) [
      | inl e ↦ rw e (elim (W v) [ inl h ↦ inl h | inr h ↦ inr (weaker (key_at ds v) i (2 ^ 1088) h) ])
      | inr q ↦ inr (offered v _ q.0 q.1)
    ]

  rounds_within : (k : ℕ) (ds : List Float) (done : List Bool) → Ordered ds done → (i n : ℕ) → i + k ≡ n → Few n → Within i ds → Within n (dijkstra k es ds done)
  unfolding dijkstra
  rounds_within zero ds done O i n e few W = let h : i ≡ n = omega arith in rw (← h) W
  rounds_within (suc k) ds done O i n e few W =
      rounds_within k _ _ (round_ordered ds done O es weights) (suc i) n (omega arith) few (round_within ds done O i (omega arith) W)

  -- so the test of the way back is exact enough at every distance
  pub distances_in_reach : (n s v : ℕ) → n < 2 ^ 27 → InReach (distance_at (distances n es s) v)
  distances_in_reach n s v few =
      let S = standing_start n es s in
      elim (rw S.rest at (rounds_within n (set (replicate n infinity) s zero_length) (replicate n false) S.ordered 0 n (omega arith) few (start n s)) v) [
        | inl e ↦ inl e
        | inr h ↦ inr (lt_of_le_of_lt h (few_kept n few))
      ]
    where
      start : (n s : ℕ) → Within 0 (set (replicate n infinity) s zero_length)
      start n s u = elim (set_cases (replicate n infinity) s zero_length infinity u) [
        | inl p ↦ inr (rw (p.1, zero_key binary64) zero-le)
        | inr q ↦ inl (q ∙ get_d_same n u infinity)
      ]
