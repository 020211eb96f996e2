-- Laws of specs/Steps.
use mathlib.Core.Path.{◌≡◌, ap, sym, ◌∙◌}
use mathlib.Core.Bool.{Bool, cond}
use Prim.Native.Nat.{ℕ, zero, suc, ◌+◌, ◌-◌, ◌*◌, ◌/◌, ◌%◌, ◌^◌, ◌≤◌, ◌<◌}
use native.Mathlib.Nat.{lt_irrefl, mul-le-mul, mod-lt, div-add-mod', lt-div-mul-add, div-lt_iff_lt-mul}
use native.Mathlib.Decide.{dec_le}
use native.Mathlib.Omega.{arith}
use lib.Dec.{ltb}
use borrow.Author.Tests.{lt-ltb, le-ltb}
use Rattle.length.specs.Root.{square, whole_root, near_root}
use Rattle.length.proofs.Whole.{root_lt, whole_root_lem, whole_root_unique}
use Rattle.length.specs.Steps.{Rooted}

-- ---- Heron's step
-- the product of two numbers is at most the square of their mean
product_le : (a k : ℕ) → 4 * (a * (a + k)) ≤ square (a + (a + k))
product_le a k = omega arith

ordered : (a b : ℕ) → a ≤ b → 4 * (a * b) ≤ square (a + b)
ordered a b h = let e : a + (b - a) ≡ b = omega arith in rw e at (product_le a (b - a))

mean_square : (a b : ℕ) → 4 * (a * b) ≤ square (a + b)
mean_square a b = elim (dec_le a b) [ yes h ↦ ordered a b h | no g ↦ omega (arith, ordered b a (omega arith)) ]

mean_reaches : (m s q r : ℕ) → m < q * s + s → s + q ≤ 2 * r + 1 → m < square (r + 1)
mean_reaches m s q r h l =
    let k : s + (q + 1) ≤ 2 * (r + 1) = omega arith in
    omega (arith, mean_square s (q + 1), mul-le-mul k k)

pub mean_above : (m s : ℕ) → 0 < s → m < square ((s + m / s) / 2 + 1)
mean_above m s p = mean_reaches m s (m / s) ((s + m / s) / 2) (lt-div-mul-add p) (omega arith)

pub quotient_lt : (m s c : ℕ) → 0 < s → m < s * c → m / s < c
quotient_lt m s c p h = (div-lt_iff_lt-mul {k = s} {x = m} {y = c} p).1 (omega arith)

-- what a step gives, where the root of m is k at least
pub record Mean (k c m r : ℕ) : Type 0 where
  pub reached : m < square (r + 1)
  pub low : k ≤ r
  pub high : r < c

pub mean : (k c m s : ℕ) → square k ≤ m → 0 < s → s < c → m < s * c → Mean k c m ((s + m / s) / 2)
mean k c m s low p below high =
    let q = quotient_lt m s c p high in
    record { reached = mean_above m s p; low = omega (arith, root_lt m k ((s + m / s) / 2 + 1) low (mean_above m s p)); high = omega arith }

-- ---- roots by what is left of the number
square_pred : (s : ℕ) → 0 < s → square (s - 1) + 2 * s ≡ square s + 1
square_pred zero h = absurd (lt_irrefl 0 h)
square_pred (suc s) h = let e : suc s - 1 ≡ s = omega arith in rw e (omega arith)

-- the root of a number that s² and what is left make up, less what is to be taken: where that fits, it is s
with_rest : (n s left take : ℕ) → n + take ≡ square s + left → take ≤ left → left ≤ take + 2 * s → Rooted n s (left - take)
with_rest n s left take e h l = record { whole = omega arith; small = omega arith }

-- where it does not, one less
one_less : (n s left take : ℕ) → n + take ≡ square s + left → 0 < s → left < take → take < left + 2 * s → Rooted n (s - 1) (left + (2 * s - 1) - take)
one_less n s left take e p h l = record { whole = omega (arith, square_pred s p); small = omega arith }

-- ---- from a whole root to the nearest number
near_of : (d n root rest : ℕ) → n < 4 ^ d → Rooted n root rest → near_root d n ≡ cond (ltb root rest) (root + 1) root
unfolding near_root
near_of d n root rest h p =
    let e : whole_root d n ≡ root = whole_root_unique n (whole_root d n) root (whole_root_lem d n h) (record { reached = omega (arith, p.whole); next = omega (arith, p.whole, p.small) }) in
    let f : n - square root ≡ rest = omega (arith, p.whole) in
    ap (λ (r : ℕ). cond (ltb r (n - square r)) (r + 1) r) e ∙ ap (λ (t : ℕ). cond (ltb root t) (root + 1) root) f

pub near_up : (d n root rest : ℕ) → n < 4 ^ d → Rooted n root rest → root < rest → root + 1 ≡ near_root d n
near_up d n root rest h p l = sym (near_of d n root rest h p ∙ ap (λ (b : Bool). cond b (root + 1) root) (lt-ltb root rest l))

pub near_down : (d n root rest : ℕ) → n < 4 ^ d → Rooted n root rest → rest ≤ root → root ≡ near_root d n
near_down d n root rest h p l = sym (near_of d n root rest h p ∙ ap (λ (b : Bool). cond b (root + 1) root) (le-ltb root rest l))

-- ---- Zimmermann's step, by 21 digits. The rest's quotient by the doubled root is that of half of the rest by the root.
module _ (m root rest : ℕ) (p : Rooted m root rest) (normal : 2 ^ 62 ≤ m) (word : m < 2 ^ 64) where
  abbrev q : ℕ
  q = rest * 2 ^ 20 / root

  abbrev t : ℕ
  t = rest * 2 ^ 20 % root

  abbrev s : ℕ
  s = root * 2 ^ 21 + q

  long : 2 ^ 31 ≤ root
  long = omega (arith, root_lt m (2 ^ 31) (root + 1) normal (omega (arith, p.whole, p.small)))

  fits : root < 2 ^ 32
  fits = root_lt m root (2 ^ 32) (omega (arith, p.whole)) word

  divided : q * root + t ≡ rest * 2 ^ 20
  divided = div-add-mod' (rest * 2 ^ 20) root

  remainder_lt : t < root
  remainder_lt = mod-lt (rest * 2 ^ 20) (omega (arith, long))

  quotient_le : q ≤ 2 ^ 21
  quotient_le = omega (arith, quotient_lt (rest * 2 ^ 20) root (2 ^ 21 + 1) (omega (arith, long)) (omega (arith, long, p.small)))

  -- nothing in the step comes near 2 ^ 64
  pub record InRange : Type 0 where
    pub root_long : 2 ^ 31 ≤ root
    pub root_fits : root < 2 ^ 32
    pub rest_small : rest ≤ 2 * root
    pub remainder : t < root
    pub quotient : q ≤ 2 ^ 21
    pub quotient_squared : q * q ≤ 2 ^ 21 * 2 ^ 21

  pub in_range : InRange
  in_range = record { root_long = long; root_fits = fits; rest_small = p.small; remainder = remainder_lt; quotient = quotient_le; quotient_squared = mul-le-mul quotient_le quotient_le }

  -- what is left, t * 2 ^ 22, is what q * q is still to be taken from
  exact : m * 4 ^ 21 + q * q ≡ square s + t * 2 ^ 22
  exact = omega (arith, p.whole, divided)

  fitted : q * q ≤ t * 2 ^ 22 → Rooted (m * 4 ^ 21) s (t * 2 ^ 22 - q * q)
  fitted h = with_rest (m * 4 ^ 21) s (t * 2 ^ 22) (q * q) exact h (omega (arith, remainder_lt))

  lowered : t * 2 ^ 22 < q * q → Rooted (m * 4 ^ 21) (s - 1) (t * 2 ^ 22 + (2 * s - 1) - q * q)
  lowered h = one_less (m * 4 ^ 21) s (t * 2 ^ 22) (q * q) exact (omega (arith, long)) h (omega (arith, in_range))

  short : m * 4 ^ 21 < 4 ^ 53
  short = omega arith

  pub rounded_up : s + q * q < t * 2 ^ 22 → s + 1 ≡ near_root 53 (m * 4 ^ 21)
  rounded_up h = near_up 53 (m * 4 ^ 21) s (t * 2 ^ 22 - q * q) short (fitted (omega arith)) (omega arith)

  -- where q * q does not fit, the whole root is one less, and s is the nearest
  pub rounded_down : t * 2 ^ 22 ≤ s + q * q → s ≡ near_root 53 (m * 4 ^ 21)
  rounded_down h =
      elim (dec_le (q * q) (t * 2 ^ 22)) [
        | yes l ↦ near_down 53 (m * 4 ^ 21) s (t * 2 ^ 22 - q * q) short (fitted l) (omega arith)
        | no g ↦ omega (arith, long, near_up 53 (m * 4 ^ 21) (s - 1) (t * 2 ^ 22 + (2 * s - 1) - q * q) short (lowered (omega arith)) (omega (arith, in_range)))
      ]
