-- How often a node stands in a list, and a list without one of its nodes.
use Prim.Native.Nat.{ℕ, suc, ◌+◌, ◌≤◌, ◌<◌}
use native.Mathlib.Omega.{arith}
use mathlib.Core.Path.{◌≡◌, refl, sym, ap}
use mathlib.Core.Logic.{◌⊎◌, inl, inr}
use mathlib.Core.List.{List, [], ◌∷◌}
use mathlib.Core.Bool.{Bool, true, false}
use lib.ListN.{length}
use lib.Dec.{eqb}
use borrow.Author.Tests.{eqb-true}
use Rattle.lists.specs.Members.{In, All}
use Rattle.lists.proofs.Members.{either, all_in, in_all}
use Rattle.graph_spec.specs.Odd.{one, hit}
use Rattle.graph_spec.proofs.Sums.{hit_same, hit_cases}
use Rattle.graph_spec.proofs.Occurs.{count}
use Rattle.repair_spec.specs.Pairing.{without}

pub in_count : (v : ℕ) (us : List ℕ) → In v us → 0 < count v us
unfolding count
in_count v (u ∷ us) (inl e) = omega (arith, hit_same u, ap (hit u) e)
in_count v (u ∷ us) (inr i) = omega (arith, in_count v us i)
in_count v [] x' = elim x' [ ]

pub count_in : (v : ℕ) (us : List ℕ) → 0 < count v us → In v us
unfolding count
count_in v [] h = absurd (omega arith)
count_in v (u ∷ us) h = elim (hit_cases u v) [ inl p ↦ inl (sym p.0) | inr p ↦ inr (count_in v us (omega (arith, p.1))) ]

-- v is the first element and goes, or is not and goes from the others
abbrev Without : ℕ → ℕ → List ℕ → Type 0
Without v u us = ((u ≡ v) × (without v (u ∷ us) ≡ us)) ⊎ ((hit u v ≡ 0) × (without v (u ∷ us) ≡ u ∷ without v us))

without_step : (v u : ℕ) (us : List ℕ) → Without v u us
unfolding without
without_step v u us = go (eqb u v) refl
  where
    go : (t : Bool) → eqb u v ≡ t → Without v u us
    go true e = inl (eqb-true u v e, rw (e, without))
    go false e = inr (ap one e, rw (e, without))

pub without_count : (v : ℕ) (us : List ℕ) (w : ℕ) → 0 < count v us → hit v w + count w (without v us) ≡ count w us
unfolding count
without_count v [] w h = absurd (omega arith)
without_count v (u ∷ us) w h = go (without_step v u us) (λ l. without_count v us w l)
  where
    go : Without v u us → (0 < count v us → hit v w + count w (without v us) ≡ count w us) → hit v w + count w (without v (u ∷ us)) ≡ hit u w + count w us
    go (inl p) r = omega (arith, ap (count w) p.1, ap (λ (x : ℕ). hit x w) p.0)
    go (inr p) r = omega (arith, ap (count w) p.1, r (omega arith))

pub without_length : (v : ℕ) (us : List ℕ) → 0 < count v us → suc (length (without v us)) ≡ length us
unfolding count
without_length v [] h = absurd (omega arith)
without_length v (u ∷ us) h = go (without_step v u us) (λ l. without_length v us l)
  where
    go : Without v u us → (0 < count v us → suc (length (without v us)) ≡ length us) → suc (length (without v (u ∷ us))) ≡ suc (length us)
    go (inl p) r = omega (arith, ap length p.1)
    go (inr p) r = omega (arith, ap length p.1, r (omega arith))

pub without_all : (P : ℕ → Type 0) (v : ℕ) (us : List ℕ) → All P us → All P (without v us)
unfolding without
without_all P v [] a = tt
without_all P v (u ∷ us) a = either (All P) us (u ∷ without v us) a.1 (a.0, without_all P v us a.1) (eqb u v)

pub without_in : (v : ℕ) (us : List ℕ) (w : ℕ) → In w (without v us) → In w us
without_in v us = all_in (λ (w : ℕ). In w us) (without v us) (without_all (λ (w : ℕ). In w us) v us (in_all (λ (w : ℕ). In w us) us (λ w i. i)))

-- every number stands in cs at most as often as in vs
abbrev pub Among : List ℕ → List ℕ → Type 0
Among cs vs = (v : ℕ) → count v cs ≤ count v vs

-- the first of cs stands in vs; the others are among vs, and among vs without the first
pub stands : (c : ℕ) (cs vs : List ℕ) → Among (c ∷ cs) vs → 0 < count c vs
unfolding count
stands c cs vs h = omega (arith, h c, hit_same c)

pub later : (c : ℕ) (cs vs : List ℕ) → Among (c ∷ cs) vs → Among cs vs
unfolding count
later c cs vs h v = omega (arith, h v)

pub after_first : (c : ℕ) (cs vs : List ℕ) → Among (c ∷ cs) vs → Among cs (without c vs)
unfolding count
after_first c cs vs sub v = omega (arith, sub v, without_count c vs v (stands c cs vs sub))
