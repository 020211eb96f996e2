-- The pairs that are kept above 20 odd nodes cost no more than Greedy's, and no more than the nearest by graph distance.
use mathlib.Core.Path.{◌≡◌, refl, sym, subst}
use mathlib.Core.Bool.{Bool, true, false, ◌||◌}
use mathlib.Core.List.{List, [], ◌∷◌}
use Prim.Native.Nat.{ℕ, ◌≤◌}
use native.Mathlib.Nat.{le_refl}
use lib.ListN.{length}
use lib.Dec.{T, ltb}
use lib.Ieee.{Float, binary64, lt, le, eq}
use Rattle.sums.specs.Key.{Nonneg, key}
use Rattle.sums.proofs.KeyLaws.{lt_false}
use Rattle.sums.proofs.Sum.{add_nonneg, zero_nonneg, le→key}
use Rattle.lists.specs.Members.{All}
use Rattle.drawing_spec.specs.Drawing.{Point}
use Rattle.repair_spec.specs.Pairing.{Pair, apart, greedy_pairs, graph_pairs, add_pairs, cost_of, less_costly, busy_pairs}
use Rattle.repair_spec.proofs.Alike.{nearest_ends}

-- where it is not true that x is at most y, y is at most x
not_le : (x y : Float) → Nonneg binary64 x → Nonneg binary64 y → le x y ≡ false → key binary64 y ≤ key binary64 x
unfolding le
not_le x y p q h = lt_false x y p q (first (lt x y) (eq x y) h)
  where
    first : (a b : Bool) → a || b ≡ false → a ≡ false
    first true b e = e
    first false b e = refl

module _ (d : ℕ → ℕ → Float) where
  abbrev cost : List Pair → ℕ
  cost ps = key binary64 (cost_of d ps)

  kept : (ps qs : List Pair) → Nonneg binary64 (cost_of d ps) → Nonneg binary64 (cost_of d qs) → (cost (less_costly d ps qs) ≤ cost ps) × (cost (less_costly d ps qs) ≤ cost qs)
  unfolding less_costly
  kept ps qs p q = go (le (cost_of d ps) (cost_of d qs)) refl
    where
      go : (t : Bool) → le (cost_of d ps) (cost_of d qs) ≡ t
          → (cost (elim t [ true ↦ ps | false ↦ qs ]) ≤ cost ps) × (cost (elim t [ true ↦ ps | false ↦ qs ]) ≤ cost qs)
      go true e = (le_refl (cost ps), le→key binary64 (cost_of d ps) (cost_of d qs) p q (subst T (sym e) tt))
      go false e = (not_le (cost_of d ps) (cost_of d qs) p q e, le_refl (cost qs))

  module _ (P : ℕ → Type 0) (nonneg : (u v : ℕ) → P u → P v → Nonneg binary64 (d u v)) where
    sum_nonneg : (ps : List Pair) (x : Float) → Nonneg binary64 x → All (λ (p : Pair). P p.from × P p.to) ps → Nonneg binary64 (add_pairs d ps x)
    unfolding add_pairs
    sum_nonneg [] x n h = n
    sum_nonneg (p ∷ ps) x n h = sum_nonneg ps _ (add_nonneg binary64 x (d p.from p.to) n (nonneg p.from p.to h.0.0 h.0.1)) h.1

    pub cost_nonneg : (ps : List Pair) → All (λ (p : Pair). P p.from × P p.to) ps → Nonneg binary64 (cost_of d ps)
    unfolding cost_of
    cost_nonneg ps h = sum_nonneg ps _ (zero_nonneg binary64) h

    pub busy_no_dearer : (ns : List Point) (vs : List ℕ) → All P vs → (cost (busy_pairs ns d vs) ≤ cost (greedy_pairs (length vs) ns vs)) × (cost (busy_pairs ns d vs) ≤ cost (graph_pairs d vs))
    unfolding busy_pairs greedy_pairs graph_pairs
    busy_no_dearer ns vs h =
        kept (greedy_pairs (length vs) ns vs) (graph_pairs d vs)
        (cost_nonneg (greedy_pairs (length vs) ns vs) (nearest_ends P ltb (length vs) (apart ns) vs h)) (cost_nonneg (graph_pairs d vs) (nearest_ends P lt (length vs) d vs h))
