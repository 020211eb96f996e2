-- Laws of specs/Repair.
use mathlib.Core.Path.{◌≡◌, refl, ap}
use mathlib.Core.List.{List, [], ◌∷◌}
use mathlib.Core.Bool.{Bool, true, false}
use Prim.Native.Nat.{ℕ, zero, suc, ◌<◌}
use native.Mathlib.Nat.{le_of_suc-le-suc}
use native.Mathlib.Omega.{arith}
use lib.ListN.{length, get_or}
use lib.Dec.{eqb}
use borrow.Author.Tests.{eqb-true, eq-eqb}
use Rattle.graph_spec.specs.Graph.{Edge}
use Rattle.repair_spec.specs.Distance.{distance_at, distances}
use Rattle.repair_spec.specs.Repair.{rows, distance_in}

-- the row of a node, where it has one, has the distances from it
pub row_known : (n : ℕ) (es : List Edge) (vs : List ℕ) (i v : ℕ) → i < length vs → distance_in (rows n es vs) (get_or vs i 0) v ≡ distance_at (distances n es (get_or vs i 0)) v
unfolding rows distance_in
row_known n es [] i v h = absurd (omega arith)
row_known n es (u ∷ us) zero v h =
    ap (λ (t : Bool). elim t [ true ↦ distance_at (distances n es u) v | false ↦ distance_in (rows n es us) u v ]) (eq-eqb u u refl)
row_known n es (u ∷ us) (suc i) v h = go (eqb u (get_or us i 0)) refl (row_known n es us i v (le_of_suc-le-suc h))
  where
    go : (t : Bool) → eqb u (get_or us i 0) ≡ t → distance_in (rows n es us) (get_or us i 0) v ≡ distance_at (distances n es (get_or us i 0)) v
        → elim t [ true ↦ distance_at (distances n es u) v | false ↦ distance_in (rows n es us) (get_or us i 0) v ] ≡ distance_at (distances n es (get_or us i 0)) v
    go true e r = ap (λ (w : ℕ). distance_at (distances n es w) v) (eqb-true u (get_or us i 0) e)
    go false e r = r
