-- How many distances of a list are below a given one: the measure by which a way back ends.
use mathlib.Core.Path.{◌≡◌, refl, ap}
use mathlib.Core.List.{List, [], ◌∷◌}
use mathlib.Core.Bool.{Bool, true, false}
use Prim.Native.Nat.{ℕ, zero, suc, ◌+◌, ◌≤◌, ◌<◌}
use native.Mathlib.Nat.{le_refl, lt_of_lt_of_le, le_of_suc-le-suc, not-suc-le-zero, not-le_of_lt, le_of_lt}
use native.Mathlib.Omega.{arith}
use lib.ListN.{length}
use lib.Dec.{ltb}
use borrow.Author.Tests.{ltb-true, ltb-false, lt-ltb, le-ltb}
use lib.Ieee.{Float, binary64}
use Rattle.sums.specs.Key.{key}
use Rattle.graph_spec.specs.Odd.{one}
use Rattle.repair_spec.specs.Relax.{key_at}

pub closer : ℕ → List Float → ℕ
closer m [] = 0
closer m (d ∷ ds) = one (ltb (key binary64 d) m) + closer m ds

one_mono : (k a b : ℕ) → a ≤ b → one (ltb k a) ≤ one (ltb k b)
one_mono k a b h = go (ltb k a) (ltb k b) refl refl
  where
    go : (x y : Bool) → ltb k a ≡ x → ltb k b ≡ y → one x ≤ one y
    go true true e f = le_refl 1
    go true false e f = absurd (not-le_of_lt (lt_of_lt_of_le (ltb-true k a e) h) (ltb-false k b f))
    go false true e f = omega arith
    go false false e f = le_refl 0

closer_mono : (a b : ℕ) → a ≤ b → (ds : List Float) → closer a ds ≤ closer b ds
unfolding closer
closer_mono a b h [] = le_refl 0
closer_mono a b h (d ∷ ds) = omega (arith, one_mono (key binary64 d) a b h, closer_mono a b h ds)

-- fewer are closer than u than are closer than what is farther than u
pub closer_less : (ds : List Float) (u m : ℕ) → u < length ds → key_at ds u < m → closer (key_at ds u) ds < closer m ds
unfolding closer
closer_less [] u m l h = absurd (not-suc-le-zero l)
closer_less (d ∷ ds) zero m l h =
    let a : one (ltb (key binary64 d) (key binary64 d)) ≡ 0 = ap one (le-ltb (key binary64 d) (key binary64 d) (le_refl _)) in
    let b : one (ltb (key binary64 d) m) ≡ 1 = ap one (lt-ltb (key binary64 d) m h) in
    omega (arith, a, b, closer_mono (key binary64 d) m (le_of_lt h) ds)
closer_less (d ∷ ds) (suc u) m l h = omega (arith, one_mono (key binary64 d) (key_at ds u) m (le_of_lt h), closer_less ds u m (le_of_suc-le-suc l) h)

one_le : (b : Bool) → one b ≤ 1
one_le true = le_refl 1
one_le false = omega arith

closer_le : (m : ℕ) (ds : List Float) → closer m ds ≤ length ds
unfolding closer
closer_le m [] = le_refl 0
closer_le m (d ∷ ds) = omega (arith, one_le (ltb (key binary64 d) m), closer_le m ds)

-- v itself is not closer than v
pub closer_few : (ds : List Float) (v : ℕ) → v < length ds → closer (key_at ds v) ds < length ds
unfolding closer
closer_few [] v l = absurd (not-suc-le-zero l)
closer_few (d ∷ ds) zero l =
    let a : one (ltb (key binary64 d) (key binary64 d)) ≡ 0 = ap one (le-ltb (key binary64 d) (key binary64 d) (le_refl _)) in
    omega (arith, a, closer_le (key binary64 d) ds)
closer_few (d ∷ ds) (suc v) l = omega (arith, one_le (ltb (key binary64 d) (key_at ds v)), closer_few ds v (le_of_suc-le-suc l))
