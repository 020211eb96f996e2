-- The whole root and the nearest whole number are what they are called.
use mathlib.Core.Path.{◌≡◌, refl}
use mathlib.Core.Bool.{Bool, true, false, not, cond}
use mathlib.Core.Logic.{◌⊎◌, inl, inr, ⊎_elim}
use Prim.Native.Nat.{ℕ, zero, suc, ◌+◌, ◌-◌, ◌*◌, ◌/◌, ◌^◌, ◌≤◌, ◌<◌, zero-le}
use native.Mathlib.Nat.{le_trans, lt_of_not-le, not-le_of_lt, mul-le-mul, pow-suc}
use native.Mathlib.Omega.{arith}
use lib.Dec.{T, leb, ltb, leb→le, nleb→lt, ltb→lt, nltb→le}
use Rattle.length.specs.Root.{square, whole_root, near_root}

pub record IsWholeRoot (n r : ℕ) : Type 0 where
  pub reached : square r ≤ n
  pub next : n < square (r + 1)

pub whole_root_lem : (d n : ℕ) → n < 4 ^ d → IsWholeRoot n (whole_root d n)
unfolding whole_root
whole_root_lem zero n h = record { reached = zero-le; next = h }
whole_root_lem (suc d) n h =
    let s = whole_root d (n / 4) in
    digit s (whole_root_lem d (n / 4) (omega (arith, pow-suc 4 d))) (leb (square (2 * s + 1)) n) (leb→le (square (2 * s + 1)) n) (nleb→lt (square (2 * s + 1)) n)
  where
    digit : (s : ℕ) → IsWholeRoot (n / 4) s → (b : Bool) → (T b → square (2 * s + 1) ≤ n) → (T (not b) → n < square (2 * s + 1))
        → IsWholeRoot n (cond b (2 * s + 1) (2 * s))
    digit s r true y z = record { reached = y tt; next = omega (arith, r.next) }
    digit s r false y z = record { reached = omega (arith, r.reached); next = z tt }

-- a root below b, by squares
pub root_lt : (n r b : ℕ) → square r ≤ n → n < square b → r < b
root_lt n r b h l = lt_of_not-le (λ g. not-le_of_lt l (le_trans (mul-le-mul g g) h))

pub whole_root_unique : (n r s : ℕ) → IsWholeRoot n r → IsWholeRoot n s → r ≡ s
whole_root_unique n r s p q =
    let a = root_lt n r (s + 1) p.reached q.next in
    let b = root_lt n s (r + 1) q.reached p.next in
    omega arith

-- Rounded to a: the root is below a + 1/2, and it is a at least, or a is one above the whole root r and the root is above r + 1/2. Doubled and squared.
pub record IsNearRoot (n r a : ℕ) : Type 0 where
  pub under : 4 * n < square (2 * a + 1)
  pub over : ((a ≡ r) × (square r ≤ n)) ⊎ ((a ≡ r + 1) × (square (2 * r + 1) < 4 * n))

pub near_root_lem : (d n : ℕ) → n < 4 ^ d → IsNearRoot n (whole_root d n) (near_root d n)
unfolding near_root
near_root_lem d n h =
    let r = whole_root d n in
    side r (whole_root_lem d n h) (ltb r (n - square r)) (ltb→lt r (n - square r)) (nltb→le r (n - square r))
  where
    side : (r : ℕ) → IsWholeRoot n r → (b : Bool) → (T b → r < n - square r) → (T (not b) → n - square r ≤ r) → IsNearRoot n r (cond b (r + 1) r)
    side r p true y z = let up = y tt in record { under = omega (arith, p.next); over = inr (refl, omega (arith, p.reached)) }
    side r p false y z = let down = z tt in record { under = omega (arith, p.reached); over = inl (refl, p.reached) }

-- a is no more than 1/2 above the root
pub near_low : (n r a : ℕ) → IsNearRoot n r a → square a ≤ n + a
near_low n r a p = ⊎_elim (λ w. rw w.0 (omega (arith, w.1))) (λ w. rw w.0 (omega (arith, w.1))) p.over
