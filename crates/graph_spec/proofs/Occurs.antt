-- How often a number stands in a list, and which nodes stand among the odd ones.
use Prim.Native.Nat.{ℕ, zero, suc, ◌+◌, ◌%◌, ◌≤◌, ◌<◌}
use native.Mathlib.Omega.{arith}
use mathlib.Core.Path.{◌≡◌, refl, ap}
use mathlib.Core.Logic.{inl, inr}
use mathlib.Core.List.{List, [], ◌∷◌}
use lib.ListN.{length}
use Rattle.graph_spec.specs.Graph.{Edge}
use Rattle.graph_spec.specs.Odd.{hit, degree, odd_from, odd_nodes}
use Rattle.graph_spec.proofs.Sums.{hit_other, HitCases, hit_cases}
use Rattle.graph_spec.proofs.Odd.{odd_nodes_ascends}
use Rattle.graph_spec.proofs.Handshake.{OddStep, odd_step}

-- how often v stands in a list
unfoldable pub count : ℕ → List ℕ → ℕ
count v [] = 0
count v (u ∷ us) = hit u v + count v us

-- a node that is none of those from w on does not stand among the odd ones of them
pub count_outside : (es : List Edge) (n v w : ℕ) → ((u : ℕ) → w ≤ u → u < w + n → u ≡ v → ⊥) → count v (odd_from es n w) ≡ 0
unfolding count odd_from
count_outside es zero v w h = refl
count_outside es (suc n) v w h = go (odd_step es n w) (count_outside es n v (suc w) (λ u a b. h u (omega arith) (omega arith)))
  where
    go : OddStep es n w → count v (odd_from es n (suc w)) ≡ 0 → count v (odd_from es (suc n) w) ≡ 0
    go (inl p) r = omega (arith, ap (count v) p.1, hit_other w v (h w (omega arith) (omega arith)))
    go (inr p) r = omega (arith, ap (count v) p.1)

-- one of those stands there once if it is odd, and nowhere if it is even
count_from : (es : List Edge) (n v w : ℕ) → w ≤ v → v < w + n → count v (odd_from es n w) ≡ degree es v % 2
unfolding count odd_from
count_from es zero v w h k = absurd (omega arith)
count_from es (suc n) v w h k = go (odd_step es n w) (hit_cases w v) (λ l. count_from es n v (suc w) l (omega arith))
  where
    after : w ≡ v → count v (odd_from es n (suc w)) ≡ 0
    after e = count_outside es n v (suc w) (λ u a b q. omega arith)

    go : OddStep es n w → HitCases w v → (w < v → count v (odd_from es n (suc w)) ≡ degree es v % 2) → count v (odd_from es (suc n) w) ≡ degree es v % 2
    go (inl p) (inl q) r = omega (arith, ap (count v) p.1, after q.0, ap (λ (x : ℕ). degree es x % 2) q.0)
    go (inl p) (inr q) r = omega (arith, ap (count v) p.1, r (omega arith))
    go (inr p) (inl q) r = omega (arith, ap (count v) p.1, after q.0, ap (λ (x : ℕ). degree es x % 2) q.0)
    go (inr p) (inr q) r = omega (arith, ap (count v) p.1, r (omega arith))

pub count_odd : (n : ℕ) (es : List Edge) (v : ℕ) → v < n → count v (odd_nodes n es) ≡ degree es v % 2
count_odd n es v h = count_from es n v 0 (omega arith) (omega arith)

pub two_odd : (n : ℕ) (es : List Edge) → length (odd_nodes n es) ≡ 2 → (u v : ℕ) × (u < v) × (odd_nodes n es ≡ u ∷ v ∷ [])
two_odd n es h = go (odd_nodes n es) refl h
  where
    go : (us : List ℕ) → odd_nodes n es ≡ us → length us ≡ 2 → (u v : ℕ) × (u < v) × (odd_nodes n es ≡ u ∷ v ∷ [])
    go [] e l = absurd (omega arith)
    go (u ∷ []) e l = absurd (omega arith)
    go (u ∷ v ∷ []) e l = (u, v, odd_nodes_ascends n es u (v ∷ []) e v (inl refl), e)
    go (u ∷ v ∷ w ∷ us) e l = absurd (omega arith)
