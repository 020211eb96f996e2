-- Laws of specs/Cost.
use mathlib.Core.Path.{◌≡◌}
use mathlib.Core.Logic.{inl, inr}
use mathlib.Core.List.{List}
use Prim.Native.Nat.{ℕ, ◌≤◌}
use native.Mathlib.Nat.{le_antisymm}
use lib.Ieee.{Float, binary64}
use Rattle.sums.specs.Key.{Nonneg, key}
use Rattle.sums.proofs.KeyLaws.{key_top, key_inj}
use Rattle.sums.proofs.Sum.{add_nonneg, zero_nonneg, inf_nonneg}
use Rattle.graph_spec.specs.Graph.{Edge}
use Rattle.repair_spec.specs.Cost.{Least, Way, here, step}
use Rattle.graph_spec.specs.Weights.{Weights}

module _ (es : List Edge) (weights : Weights es) (s : ℕ) where
  pub way_nonneg : {v : ℕ} {c : Float} → Way es s v c → Nonneg binary64 c
  way_nonneg here = zero_nonneg binary64
  way_nonneg (step {c = c} w e i j) = add_nonneg binary64 c e.weight (way_nonneg w) (weights e i)

  pub least_nonneg : {v : ℕ} {d : Float} → Least es s v d → Nonneg binary64 d
  least_nonneg l = elim l.reached [ inl h ↦ rw h (inf_nonneg binary64) | inr w ↦ way_nonneg w ]

  least_below : {v : ℕ} {d c : Float} → Least es s v d → Least es s v c → key binary64 d ≤ key binary64 c
  least_below {d = d} {c} l m = elim m.reached [ inl h ↦ rw h (key_top binary64 d (least_nonneg l)) | inr w ↦ l.below c w ]

  -- there is one least cost, so whatever computes one computes the same
  pub least_unique : {v : ℕ} {d c : Float} → Least es s v d → Least es s v c → d ≡ c
  least_unique {d = d} {c} l m = key_inj binary64 d c (least_nonneg l) (least_nonneg m) (le_antisymm (least_below l m) (least_below m l))
