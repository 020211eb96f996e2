-- A retrace leads along edges, from one node of its pair to the other.
use mathlib.Core.Path.{◌≡◌, refl}
use mathlib.Core.Logic.{inl, inr}
use mathlib.Core.List.{List, [], ◌∷◌}
use mathlib.Core.Bool.{Bool, true, false, ◌&&◌, not, true≢false}
use Prim.Native.Nat.{ℕ, zero, suc}
use lib.Dec.{eqb}
use lib.Ieee.{Float}
use borrow.Author.Tests.{eqb-true}
use Rattle.graph_spec.specs.Graph.{Edge, Arc, edges_at}
use Rattle.graph_spec.specs.Ways.{Joined, Walks}
use Rattle.lists.specs.Members.{In}
use Rattle.graph_spec.proofs.Connected.{joined_sym}
use Rattle.graph_spec.proofs.EdgesAt.{arc_joins}
use Rattle.repair_spec.specs.Distance.{distance_at, distances}
use Rattle.repair_spec.specs.Retrace.{Step, to, none, found, error, on_way_back, member, step_back, way_back, shortest_path}

-- a step back goes to a neighbour
step_back_in : (ds : List Float) (c : Float) (visited : List ℕ) (rs : List Arc) (u : ℕ) → step_back ds c visited rs ≡ to u → (r : Arc) × In r rs × (r.to ≡ u)
unfolding step_back
step_back_in ds c visited [] u h = absurd (true≢false (cc))
step_back_in ds c visited (r ∷ rs) u h = go (not (member r.to visited) && on_way_back (distance_at ds r.to) r.weight c) (step_back_in ds c visited rs u) h
  where
    go : (b : Bool) → (step_back ds c visited rs ≡ to u → (q : Arc) × In q rs × (q.to ≡ u)) → elim b [ true ↦ to r.to | false ↦ step_back ds c visited rs ] ≡ to u
        → (q : Arc) × In q (r ∷ rs) × (q.to ≡ u)
    go true rest e = (r, inl refl, cc)
    go false rest e = let q = rest e in (q.0, inr q.1, q.2)

module _ (es : List Edge) (ds : List Float) (s t : ℕ) (path : List ℕ) where
  -- what is walked already, from v on, stays the end of the path
  way_back_along : (k v : ℕ) (after : List ℕ) → Walks es v after t → way_back k es ds s v after ≡ found path → (rest : List ℕ) × (path ≡ s ∷ rest) × Walks es s rest t
  unfolding way_back
  way_back_along zero v after w h = absurd (true≢false (cc))
  way_back_along (suc k) v after w h = go (eqb v s) refl (step_back ds (distance_at ds v) (v ∷ after) (edges_at es v)) refl (λ u. way_back_along k u (v ∷ after)) h
    where
      go : (b : Bool) → eqb v s ≡ b → (p : Step) → step_back ds (distance_at ds v) (v ∷ after) (edges_at es v) ≡ p
          → ((u : ℕ) → Walks es u (v ∷ after) t → way_back k es ds s u (v ∷ after) ≡ found path → (rest : List ℕ) × (path ≡ s ∷ rest) × Walks es s rest t)
          → elim b [ true ↦ found (v ∷ after) | false ↦ elim p [ to u ↦ way_back k es ds s u (v ∷ after) | none ↦ error ] ] ≡ found path
          → (rest : List ℕ) × (path ≡ s ∷ rest) × Walks es s rest t
      go true e p q rec h =
          let same : v ≡ s = eqb-true v s e in
          (after, cc, rw same at w)
      go false e (to u) q rec h =
          let r = step_back_in ds (distance_at ds v) (v ∷ after) (edges_at es v) u q in
          let k : Joined es v u = rw r.2 at (arc_joins es v r.0 r.1).0 in
          rec u (joined_sym k, w) h
      go false e none q rec h = absurd (true≢false (cc))

pub shortest_along : (n : ℕ) (es : List Edge) (s t : ℕ) (path : List ℕ) → shortest_path n es s t ≡ found path → (rest : List ℕ) × (path ≡ s ∷ rest) × Walks es s rest t
unfolding shortest_path
shortest_along n es s t path h = way_back_along es (distances n es s) s t path n t [] refl h
