-- The definition's distances are the least costs over all ways, each sum along a way rounded: its rounds are a run of Dijkstra's algorithm of 1959.
use mathlib.Core.Path.{◌≡◌, sym, ap, ◌∙◌}
use mathlib.Core.Logic.{inl, inr}
use mathlib.Core.List.{List}
use mathlib.Core.Bool.{Bool, true, false}
use Prim.Native.Nat.{ℕ, zero, suc, ◌+◌, ◌<◌}
use native.Mathlib.Nat.{le_of_eq, zero-add, add-zero, add-suc, suc-add}
use native.Mathlib.Decide.{dec_le}
use native.Mathlib.Omega.{arith}
use lib.ListN.{length, set, replicate}
use lib.Ieee.{Float, binary64}
use Rattle.sums.specs.Key.{Nonneg}
use Rattle.sums.proofs.KeyLaws.{key_top}
use Rattle.sums.proofs.Sum.{inf_nonneg}
use Rattle.graph_spec.specs.Graph.{Edge}
use Rattle.graph_spec.specs.Ways.{Inside}
use Rattle.repair_spec.specs.Distance.{infinity, zero_length, distance_at, Nearest, pick, relax_all, dijkstra, distances}
use Rattle.repair_spec.proofs.Relax.{relax_all_is}
use Rattle.repair_spec.proofs.Nearest.{Picked, pick_is}
use Rattle.repair_spec.proofs.Rounds.{Chosen, NodeOrNone, Run, begin, round, Invariant, beyond, run_invariant, run_settled, run_least}
use Rattle.repair_spec.specs.Cost.{Least}
use Rattle.graph_spec.specs.Weights.{Weights}

abbrev no_node : List Float → Nearest
no_node ds = record { node = length ds; distance = infinity }

module _ (n : ℕ) (es : List Edge) (weights : Weights es) (inside : Inside n es) (s : ℕ) (is_node : s < n) where
  -- what `pick` picks a round may take
  module _ (ds : List Float) (done : List Bool) (I : Invariant n es s ds done) (p : Nearest) (P : Picked ds done 0 (no_node ds) p) where
    which : NodeOrNone ds done p.node p.distance
    which = elim P.which [
      | inl e ↦ inl (ap (λ (r : Nearest). r.node) e, ap (λ (r : Nearest). r.distance) e)
      | inr w ↦ let e : p.node ≡ w.0 = omega (arith, w.2) in inr (rw e w.1, rw e w.3, rw e w.4)
    ]

    picked_nonneg : Nonneg binary64 p.distance
    picked_nonneg = elim which [ inl o ↦ rw o.1 (inf_nonneg binary64) | inr o ↦ rw o.1 (I.nonneg p.node) ]

    chosen : Chosen ds done p.node p.distance
    chosen = record {
      least = λ v o. elim (dec_le (suc v) (length ds)) [ yes l ↦ P.least v l o | no m ↦ rw (beyond ds v (omega arith)) (key_top binary64 p.distance picked_nonneg) ];
      node = which;
    }

  rounds : (j k : ℕ) (ds : List Float) (done : List Bool) → Run n es s j ds done → (all : List Bool) × Run n es s (j + k) (dijkstra k es ds done) all
  unfolding dijkstra
  rounds j zero ds done r = (done, rw add-zero r)
  rounds j (suc k) ds done r =
      let I = run_invariant n es weights inside s is_node r in
      let p = pick ds done 0 (no_node ds) in
      let P = pick_is ds done 0 (no_node ds) (I.flags ∙ sym I.nodes) I.nonneg (inf_nonneg binary64) in
      let after = relax_all p.node p.distance es ds in
      let improved = relax_all_is p.node p.distance (picked_nonneg ds done I p P) es ds weights I.nonneg in
      rw (add-suc, ← suc-add) (rounds (suc j) k after (set done p.node true) (round r p.node p.distance (chosen ds done I p P) after improved))

-- The distances from s are the least costs, whatever the order of the edges. A node with no way to it, and any v that is no node, is at infinity.
pub least_distance : (n : ℕ) (es : List Edge) → Weights es → Inside n es → (s : ℕ) → s < n → (v : ℕ) → Least es s v (distance_at (distances n es s) v)
unfolding distances
least_distance n es weights inside s h v =
    let r = rounds n es weights inside s h 0 n (set (replicate n infinity) s zero_length) (replicate n false) begin in
    run_least n es weights inside s h r.1 (run_settled n es weights inside s h r.1 (le_of_eq (sym (zero-add n)))) v
