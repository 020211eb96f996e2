-- The number of odd nodes is even: every edge has two ends.
use Prim.Native.Nat.{ℕ, zero, suc, ◌+◌, ◌%◌, ◌≤◌, ◌<◌}
use native.Mathlib.Omega.{arith}
use mathlib.Core.Path.{◌≡◌, refl, ap, ap₂}
use mathlib.Core.Logic.{◌⊎◌, inl, inr}
use mathlib.Core.List.{List, [], ◌∷◌}
use mathlib.Core.Bool.{Bool, true, false}
use borrow.Author.Tests.{eqb-true, eqb-false}
use lib.ListN.{length}
use Rattle.graph_spec.specs.Graph.{Edge}
use Rattle.graph_spec.specs.Odd.{hit, degree, is_odd, odd_from, odd_nodes}
use Rattle.graph_spec.specs.Ways.{Inside}
use Rattle.graph_spec.proofs.Sums.{hit_other, HitCases, hit_cases}

-- a weight summed over the n nodes from the node v on
unfoldable pub sum_from : (ℕ → ℕ) → ℕ → ℕ → ℕ
sum_from f zero v = 0
sum_from f (suc n) v = f v + sum_from f n (suc v)

pub sum_add : (f g : ℕ → ℕ) (n v : ℕ) → sum_from (λ (u : ℕ). f u + g u) n v ≡ sum_from f n v + sum_from g n v
unfolding sum_from
sum_add f g zero v = refl
sum_add f g (suc n) v = omega (arith, sum_add f g n (suc v))

-- weights that are equal there have equal sums
pub sum_same : (f g : ℕ → ℕ) (n v : ℕ) → ((u : ℕ) → v ≤ u → u < v + n → f u ≡ g u) → sum_from f n v ≡ sum_from g n v
unfolding sum_from
sum_same f g zero v h = refl
sum_same f g (suc n) v h = ap₂ (λ (a b : ℕ). a + b) (h v (omega arith) (omega arith)) (sum_same f g n (suc v) (λ u a b. h u (omega arith) (omega arith)))

pub sum_none : (f : ℕ → ℕ) (n v : ℕ) → ((u : ℕ) → v ≤ u → u < v + n → f u ≡ 0) → sum_from f n v ≡ 0
unfolding sum_from
sum_none f zero v h = refl
sum_none f (suc n) v h = omega (arith, h v (omega arith) (omega arith), sum_none f n (suc v) (λ u a b. h u (omega arith) (omega arith)))

-- a node among them counts once
pub sum_hit : (u n v : ℕ) → v ≤ u → u < v + n → sum_from (hit u) n v ≡ 1
unfolding sum_from
sum_hit u zero v h k = absurd (omega arith)
sum_hit u (suc n) v h k = go (hit_cases u v) (λ l. sum_hit u n (suc v) l (omega arith))
  where
    go : HitCases u v → (v < u → sum_from (hit u) n (suc v) ≡ 1) → hit u v + sum_from (hit u) n (suc v) ≡ 1
    go (inl p) r = omega (arith, sum_none (hit u) n (suc v) (λ w a b. hit_other u w (omega arith)))
    go (inr p) r = omega (arith, r (omega arith))

-- so the degrees add up to twice the number of edges
sum_degree : (n : ℕ) (es : List Edge) → Inside n es → sum_from (degree es) n 0 ≡ length es + length es
unfolding degree
sum_degree n [] h = sum_none (degree []) n 0 (λ u a b. refl)
sum_degree n (e ∷ es) h =
    let i = h e (inl refl) in
    omega (
      arith,
      sum_add (λ (u : ℕ). hit e.a u + hit e.b u) (degree es) n 0,
      sum_add (hit e.a) (hit e.b) n 0,
      sum_hit e.a n 0 (omega arith) (omega arith),
      sum_hit e.b n 0 (omega arith) (omega arith),
      sum_degree n es (λ x m. h x (inr m)),
    )

-- the first of the nodes is odd and stands first among the odd ones, or is even and does not stand there
abbrev pub OddStep : List Edge → ℕ → ℕ → Type 0
OddStep es n v =
    ((degree es v % 2 ≡ 1) × (odd_from es (suc n) v ≡ v ∷ odd_from es n (suc v)))
    ⊎ ((degree es v % 2 ≡ 0) × (odd_from es (suc n) v ≡ odd_from es n (suc v)))

pub odd_step : (es : List Edge) (n v : ℕ) → OddStep es n v
unfolding odd_from
odd_step es n v = go (is_odd (degree es v)) refl
  where
    go : (t : Bool) → is_odd (degree es v) ≡ t → OddStep es n v
    go true e = inl (eqb-true (degree es v % 2) 1 e, rw (e, odd_from))
    go false e = inr (omega (arith, eqb-false (degree es v % 2) 1 e), rw (e, odd_from))

-- the odd nodes, counted
pub length_odd : (es : List Edge) (n v : ℕ) → length (odd_from es n v) ≡ sum_from (λ (u : ℕ). degree es u % 2) n v
unfolding odd_from sum_from
length_odd es zero v = refl
length_odd es (suc n) v = go (odd_step es n v) (length_odd es n (suc v))
  where
    go : OddStep es n v → length (odd_from es n (suc v)) ≡ sum_from (λ (u : ℕ). degree es u % 2) n (suc v)
        → length (odd_from es (suc n) v) ≡ degree es v % 2 + sum_from (λ (u : ℕ). degree es u % 2) n (suc v)
    go (inl p) r = omega (arith, ap length p.1)
    go (inr p) r = omega (arith, ap length p.1)

-- a sum has the parity of the sum of the parities
sum_parity : (f : ℕ → ℕ) (n v : ℕ) → (sum_from f n v + sum_from (λ (u : ℕ). f u % 2) n v) % 2 ≡ 0
unfolding sum_from
sum_parity f zero v = refl
sum_parity f (suc n) v = omega (arith, sum_parity f n (suc v))

pub handshake : (n : ℕ) (es : List Edge) → Inside n es → length (odd_nodes n es) % 2 ≡ 0
handshake n es h = omega (arith, length_odd es n 0, sum_parity (degree es) n 0, sum_degree n es h)
