-- There and back between the 64-bit patterns that check 7 passes and the places 0 to twice the origin: each way undoes the other, but that minus zero comes back as plain zero.
-- So at one place there is one pattern, minus zero aside.
-- Proved for every grid of 1 / 2 ^ g with g at most 40, on which each place's number of steps fits an f64's 53 digits, and so for the grid of every file. Assumes nothing.
use Rattle.std.specs.Prelude.{Some}
use mathlib.Core.Path.{◌≡◌, refl, sym, ap, ◌∙◌, subst}
use Prim.Native.Nat.{ℕ, suc, ◌+◌, ◌-◌, ◌*◌, ◌/◌, ◌%◌, ◌^◌, ◌≤◌, ◌<◌}
use native.Mathlib.Nat.{mul_assoc, mul-one, zero-mul, zero-div, lt_of_le_of_lt, lt_of_lt_of_le, mul-le-mul_left}
use native.Mathlib.Omega.{arith}
use mathlib.Core.Bool.{Bool, true, false, true≢false, not, ◌&&◌, cond}
use lib.Dec.{T, ltb, eqb, lit<, lit≤, ltb→lt, nltb→le}
use lib.IntN.{ℤ, pos}
use lib.Pow.{pow-add, pow_pos, pow_mono, shl_lt}
use lib.Ieee.{Float, nan, inf, fin, Format, binary32, binary64, prec, emax, low, up, down, size, hid, top, is_nan, fits, round, of_bits, to_bits}
use lib.Ieee.Fits.{down_pos, round-fits}
use lib.Ieee.Exact.{HasValue, round_exact}
use lib.Ieee.Bits.{of_bits-to_bits, to_bits-of_bits}
use borrow.Author.Tests.{lt-ltb, le-ltb, ltb-true, ltb-false, eqb-true, eqb-false, ne_eqb}
use Rattle.grid.specs.Grid.{grid_exponent, reach, origin, origin_of_grid, place_of_steps, place_on_grid, place_of, read_on_grid, read_place, minus_zero, clean, gap, coordinate_on_grid, coordinate, write_on_grid, write_place}
use Rattle.grid.proofs.Same.{divided, scaled, same_quotient, same_steps, place_of_value, at_place, passed}

-- ---- the definitions, opened one step

pub read_is : (g b : ℕ) → read_on_grid g b ≡ place_on_grid g (of_bits binary64 b)
unfolding read_on_grid
read_is g b = refl

pub coordinate_is : (g p : ℕ) → coordinate_on_grid g p ≡ round binary64 (ltb p (origin_of_grid g)) (gap p (origin_of_grid g)) (2 ^ g)
unfolding coordinate_on_grid
coordinate_is g p = refl

pub write_is : (g p : ℕ) → write_on_grid g p ≡ to_bits binary64 (coordinate_on_grid g p)
unfolding write_on_grid
write_is g p = refl

-- ---- a float's pattern turns on its sign and its size alone

-- the pattern of n of the format's smallest values
abbrev pattern : Format → Bool → ℕ → ℕ
pattern f s n = cond s (top f) 0 + (size n - prec f) * hid f + n / 2 ^ (size n - prec f)

pattern_of : (f : Format) (s : Bool) (m : ℕ) (e : ℤ) → to_bits f (fin s m e) ≡ pattern f s (m * up e * 2 ^ low f / down e)
unfolding to_bits
pattern_of f s m e = refl

pattern_of_value : (f : Format) (x : Float) (s : Bool) (a c : ℕ) → 0 < c → HasValue x s a c → to_bits f x ≡ pattern f s (a * 2 ^ low f / c)
pattern_of_value f nan s a c C v = absurd v
pattern_of_value f (inf t) s a c C v = absurd v
pattern_of_value f (fin t m e) s a c C v =
    pattern_of f t m e
    ∙ ap (λ (t : Bool). pattern f t (m * up e * 2 ^ low f / down e)) v.0
    ∙ ap (λ (n : ℕ). pattern f s n)
    (same_quotient (m * up e * 2 ^ low f) (down e) (a * 2 ^ low f) c (down_pos e) C
    (scaled (m * up e) (down e) a c (2 ^ low f) v.1))

-- ---- the float at a place is exact

-- a larger power of two by a smaller
pub split : (l g : ℕ) → g ≤ l → 2 ^ l ≡ 2 ^ (l - g) * 2 ^ g
split l g h = let e : l ≡ l - g + g = omega arith in ap (λ (x : ℕ). 2 ^ x) e ∙ pow-add 2 (l - g) g

-- a format's values have room for as many whole digits as it keeps
pub room_above : (f : Format) → prec f < suc (emax f)
room_above binary32 = lit< tt
room_above binary64 = lit< tt

pub exact_fraction : (f : Format) (s : Bool) (n g : ℕ) → g ≤ low f → n < 2 ^ prec f → HasValue (round f s n (2 ^ g)) s n (2 ^ g)
exact_fraction f s n g G h =
    let j = low f - g in
    round_exact f s n (2 ^ g) n j (pow_pos g) h (lt_of_lt_of_le (shl_lt (prec f) j h) (pow_mono (omega (arith, room_above f))))
    (ap (λ (x : ℕ). n * x) (split (low f) g G) ∙ sym (mul_assoc n (2 ^ j) (2 ^ g)))

pub coordinate_fits : (g p : ℕ) → T (fits binary64 (coordinate_on_grid g p))
coordinate_fits g p = subst (λ (x : Float). T (fits binary64 x)) (sym (coordinate_is g p)) (round-fits binary64 (ltb p (origin_of_grid g)) (gap p (origin_of_grid g)) (2 ^ g))

pub coordinate_value : (g p : ℕ) → g ≤ 40 → gap p (origin_of_grid g) < 2 ^ 53 → HasValue (coordinate_on_grid g p) (ltb p (origin_of_grid g)) (gap p (origin_of_grid g)) (2 ^ g)
coordinate_value g p G h =
    let o = origin_of_grid g in
    subst (λ (x : Float). HasValue x (ltb p o) (gap p o) (2 ^ g)) (sym (coordinate_is g p)) (exact_fraction binary64 (ltb p o) (gap p o) g (omega arith) h)

-- a coordinate is a number
no_nan : (x : Float) (s : Bool) (a d : ℕ) → HasValue x s a d → T (not (is_nan x))
unfolding is_nan
no_nan nan s a d v = v
no_nan (inf t) s a d v = tt
no_nan (fin t m e) s a d v = tt

pub coordinate_no_nan : (p : ℕ) → p < 2 ^ 32 → T (not (is_nan (coordinate p)))
coordinate_no_nan p h = no_nan (coordinate p) (ltb p origin) (gap p origin) (2 ^ grid_exponent) (coordinate_value grid_exponent p (lit≤ tt) (omega arith))

-- ---- the two zeros

pub clean_true : (b : ℕ) → eqb b minus_zero ≡ true → clean b ≡ 0
unfolding clean
clean_true b e = rw (e, cond)

pub clean_false : (b : ℕ) → eqb b minus_zero ≡ false → clean b ≡ b
unfolding clean
clean_false b e = rw (e, cond)

pub clean_minus : clean minus_zero ≡ 0
unfolding clean
clean_minus = refl

pub clean_other : (b : ℕ) → (b ≡ minus_zero → ⊥) → clean b ≡ b
clean_other b n = clean_false b (ne_eqb b minus_zero n)

pub clean_plain : (b : ℕ) → clean b ≡ minus_zero → ⊥
clean_plain b e = go (eqb b minus_zero) refl
  where
    go : (t : Bool) → eqb b minus_zero ≡ t → ⊥
    go true t = let z = sym (clean_true b t) ∙ e in omega arith
    go false t = eqb-false b minus_zero t (sym (clean_false b t) ∙ e)

minus_zero_is : of_bits binary64 minus_zero ≡ fin true 0 (pos 0)
unfolding of_bits
minus_zero_is = refl

plain_zero_is : of_bits binary64 0 ≡ fin false 0 (pos 0)
unfolding of_bits
plain_zero_is = refl

-- zero has no steps, whatever they are
no_steps : (g : ℕ) (s : Bool) → pattern binary64 s (0 * 2 ^ 1074 / 2 ^ g) ≡ cond s minus_zero 0
unfolding size
no_steps g s = ap (pattern binary64 s) (ap (λ (n : ℕ). n / 2 ^ g) (zero-mul (2 ^ 1074)) ∙ zero-div (2 ^ g)) ∙ by s
  where
    by : (s : Bool) → pattern binary64 s 0 ≡ cond s minus_zero 0
    by true = refl
    by false = refl

-- a number with the sign and no size has the pattern of minus zero, however it is written
pub zero_pattern : (g m : ℕ) (e : ℤ) → m * up e * 2 ^ g ≡ 0 → to_bits binary64 (fin true m e) ≡ minus_zero
zero_pattern g m e z = pattern_of_value binary64 (fin true m e) true 0 (2 ^ g) (pow_pos g) (refl, z ∙ sym (zero-mul (down e))) ∙ no_steps g true

-- both zeros lie at the origin
zero_place : (g : ℕ) (s : Bool) → place_on_grid g (fin s 0 (pos 0)) ≡ Some (origin_of_grid g)
unfolding place_on_grid
zero_place g s = ap (λ (a : ℕ). place_of_steps (origin_of_grid g) s a 1) (zero-mul (2 ^ g)) ∙ at_place (origin_of_grid g) s 0 1 (omega arith) (omega arith) ∙ by s
  where
    by : (s : Bool) → Some (cond s (origin_of_grid g - 0 / 1) (origin_of_grid g + 0 / 1)) ≡ Some (origin_of_grid g)
    by true = ap (λ (n : ℕ). Some n) (omega arith)
    by false = ap (λ (n : ℕ). Some n) (omega arith)

plain_read : (g : ℕ) → read_on_grid g 0 ≡ Some (origin_of_grid g)
plain_read g = read_is g 0 ∙ ap (place_on_grid g) plain_zero_is ∙ zero_place g false

minus_read : (g : ℕ) → read_on_grid g minus_zero ≡ Some (origin_of_grid g)
minus_read g = read_is g minus_zero ∙ ap (place_on_grid g) minus_zero_is ∙ zero_place g true

-- and are the patterns that are 0 but for the sign
pub zero_read : (g b : ℕ) → b < 2 ^ 64 → b % 2 ^ 63 ≡ 0 → read_on_grid g b ≡ Some (origin_of_grid g)
zero_read g b h z = go (ltb b minus_zero) refl
  where
    go : (t : Bool) → ltb b minus_zero ≡ t → read_on_grid g b ≡ Some (origin_of_grid g)
    go true e = let l = ltb-true b minus_zero e in let is : b ≡ 0 = omega arith in ap (read_on_grid g) is ∙ plain_read g
    go false e = let l = ltb-false b minus_zero e in let is : b ≡ minus_zero = omega arith in ap (read_on_grid g) is ∙ minus_read g

module _ (g : ℕ) (G : g ≤ 40) where
  origin_small : origin_of_grid g < 2 ^ 53
  origin_small = lt_of_le_of_lt (mul-le-mul_left reach (pow_mono G)) (omega arith)

  small : (p : ℕ) → p ≤ 2 * origin_of_grid g → gap p (origin_of_grid g) < 2 ^ 53
  small p h = omega (arith, origin_small)

  -- ---- from a place to its pattern and back

  own_steps : (o p : ℕ) → p ≤ 2 * o → place_of_steps o (ltb p o) (gap p o) 1 ≡ Some p
  own_steps o p h = go (ltb p o) (ltb→lt p o) (nltb→le p o)
    where
      go : (s : Bool) → (T s → p < o) → (T (not s) → o ≤ p) → place_of_steps o s (gap p o) 1 ≡ Some p
      go true l k =
          let below : p < o = l tt in
          at_place o true (gap p o) 1 (omega arith) (omega arith) ∙ ap (λ (n : ℕ). Some n) (omega arith)
      go false l k =
          let above : o ≤ p = k tt in
          at_place o false (gap p o) 1 (omega arith) (omega arith) ∙ ap (λ (n : ℕ). Some n) (omega arith)

  pub read_write_grid : (p : ℕ) → p ≤ 2 * origin_of_grid g → read_on_grid g (write_on_grid g p) ≡ Some p
  read_write_grid p h =
      let o = origin_of_grid g in
      let n = gap p o in
      read_is g (write_on_grid g p)
      ∙ ap (λ (b : ℕ). place_on_grid g (of_bits binary64 b)) (write_is g p)
      ∙ ap (λ (x : Float). place_on_grid g x) (of_bits-to_bits binary64 (coordinate_on_grid g p) (coordinate_fits g p))
      ∙ place_of_value g (coordinate_on_grid g p) (ltb p o) n (2 ^ g) (pow_pos g) (coordinate_value g p G (small p h))
      ∙ same_steps o (ltb p o) (n * 2 ^ g) (2 ^ g) n 1 (pow_pos g) (lit≤ tt) (mul-one (n * 2 ^ g))
      ∙ own_steps o p h

  -- ---- no place has the pattern of minus zero

  -- a float with that pattern is minus zero: it has the sign, and is 0 in size
  signed_zero : (x : Float) (s : Bool) (a c : ℕ) → x ≡ of_bits binary64 minus_zero → HasValue x s a c → (s ≡ true) × (a ≡ 0)
  signed_zero x s a c e v =
      let w : HasValue (fin true 0 (pos 0)) s a c = subst (λ (y : Float). HasValue y s a c) (e ∙ minus_zero_is) v in
      (sym w.0, omega (arith, w.1))

  pub written_plain : (p : ℕ) → gap p (origin_of_grid g) < 2 ^ 53 → write_on_grid g p ≡ minus_zero → ⊥
  written_plain p h e =
      let o = origin_of_grid g in
      let x = coordinate_on_grid g p in
      let is : x ≡ of_bits binary64 minus_zero = sym (of_bits-to_bits binary64 x (coordinate_fits g p)) ∙ ap (of_bits binary64) (sym (write_is g p) ∙ e) in
      let z = signed_zero x (ltb p o) (gap p o) (2 ^ g) is (coordinate_value g p G h) in
      let below = ltb-true p o z.0 in
      let none = z.1 in
      omega arith

  -- and that of the origin is plain zero's
  write_origin : write_on_grid g (origin_of_grid g) ≡ 0
  write_origin =
      let o = origin_of_grid g in
      let none : gap o o ≡ 0 = omega arith in
      let v = coordinate_value g o G (small o (omega arith)) in
      write_is g o
      ∙ pattern_of_value binary64 (coordinate_on_grid g o) (ltb o o) (gap o o) (2 ^ g) (pow_pos g) v
      ∙ (λ j. pattern binary64 (le-ltb o o (omega arith) j) (none j * 2 ^ 1074 / 2 ^ g))
      ∙ no_steps g false

  -- ---- from a pattern to its place and back

  -- ±n steps from the origin, and not minus zero, lie on the side that the sign says, n steps from it
  side : (s : Bool) (o n p : ℕ) → n ≤ o → (s && eqb n 0) ≡ false → p ≡ cond s (o - n) (o + n) → (p ≤ 2 * o) × (ltb p o ≡ s) × (gap p o ≡ n)
  side true o n p h k e =
      let some : n ≡ 0 → ⊥ = eqb-false n 0 k in
      (omega arith, lt-ltb p o (omega arith), omega arith)
  side false o n p h k e = (omega arith, le-ltb p o (omega arith), omega arith)

  module _ (x : Float) (s : Bool) (n p : ℕ) (v : HasValue x s n (2 ^ g)) (h : n ≤ origin_of_grid g) (i : p ≡ cond s (origin_of_grid g - n) (origin_of_grid g + n)) where
    -- a number that is not minus zero has the pattern of its place
    plain_pattern : (s && eqb n 0) ≡ false → (p ≤ 2 * origin_of_grid g) × (write_on_grid g p ≡ clean (to_bits binary64 x))
    plain_pattern k =
        let z = side s (origin_of_grid g) n p h k i in
        let w : HasValue (coordinate_on_grid g p) s n (2 ^ g) =
        subst (λ (k : ℕ). HasValue (coordinate_on_grid g p) s k (2 ^ g)) z.2
        (subst (λ (t : Bool). HasValue (coordinate_on_grid g p) t (gap p (origin_of_grid g)) (2 ^ g)) z.1 (coordinate_value g p G (small p z.0))) in
        let same : write_on_grid g p ≡ to_bits binary64 x = write_is g p ∙ pattern_of_value binary64 (coordinate_on_grid g p) s n (2 ^ g) (pow_pos g) w ∙ sym (pattern_of_value binary64 x s n (2 ^ g) (pow_pos g) v) in
        (z.0, sym (clean_other (write_on_grid g p) (written_plain p (small p z.0))) ∙ ap clean same)

    -- minus zero has another, and cleaned it has that one
    signed_pattern : s ≡ true → n ≡ 0 → (p ≤ 2 * origin_of_grid g) × (write_on_grid g p ≡ clean (to_bits binary64 x))
    signed_pattern t z =
        let here : p ≡ origin_of_grid g - 0 = i ∙ (λ j. cond (t j) (origin_of_grid g - z j) (origin_of_grid g + z j)) in
        let at : p ≡ origin_of_grid g = omega arith in
        let bits : to_bits binary64 x ≡ minus_zero = pattern_of_value binary64 x s n (2 ^ g) (pow_pos g) v ∙ (λ j. pattern binary64 (t j) (z j * 2 ^ 1074 / 2 ^ g)) ∙ no_steps g true in
        (omega arith, ap (write_on_grid g) at ∙ write_origin ∙ sym (ap clean bits ∙ clean_minus))

  at_pattern : (x : Float) (s : Bool) (n p : ℕ) → HasValue x s n (2 ^ g) → n ≤ origin_of_grid g → p ≡ cond s (origin_of_grid g - n) (origin_of_grid g + n) → (p ≤ 2 * origin_of_grid g) × (write_on_grid g p ≡ clean (to_bits binary64 x))
  at_pattern x false n p v h i = plain_pattern x false n p v h i refl
  at_pattern x true n p v h i = go (eqb n 0) refl
    where
      go : (t : Bool) → eqb n 0 ≡ t → (p ≤ 2 * origin_of_grid g) × (write_on_grid g p ≡ clean (to_bits binary64 x))
      go true e = signed_pattern x true n p v h i refl (eqb-true n 0 e)
      go false e = plain_pattern x true n p v h i e

  found : (x : Float) (p : ℕ) → place_on_grid g x ≡ Some p → T (not (is_nan x)) × ((p ≤ 2 * origin_of_grid g) × (write_on_grid g p ≡ clean (to_bits binary64 x)))
  unfolding place_on_grid is_nan
  found nan p h = absurd (true≢false (cc))
  found (inf s) p h = absurd (true≢false (cc))
  found (fin s m e) p h =
      let a = m * up e * 2 ^ g in
      let is = passed (origin_of_grid g) s a (down e) p h in
      (tt, at_pattern (fin s m e) s (a / down e) p (refl, divided a (down e) is.is_whole) is.near is.is)

  pub write_read_grid : (b p : ℕ) → b < 2 ^ 64 → read_on_grid g b ≡ Some p → (p ≤ 2 * origin_of_grid g) × (write_on_grid g p ≡ clean b)
  write_read_grid b p h e =
      let z = found (of_bits binary64 b) p (sym (read_is g b) ∙ e) in
      (z.1.0, z.1.1 ∙ ap clean (to_bits-of_bits binary64 b h z.0))

  -- minus zero is read where plain zero is
  pub read_clean_grid : (b : ℕ) → read_on_grid g (clean b) ≡ read_on_grid g b
  read_clean_grid b = go (eqb b minus_zero) refl
    where
      go : (t : Bool) → eqb b minus_zero ≡ t → read_on_grid g (clean b) ≡ read_on_grid g b
      go true e = ap (read_on_grid g) (clean_true b e) ∙ plain_read g ∙ sym (ap (read_on_grid g) (eqb-true b minus_zero e) ∙ minus_read g)
      go false e = ap (read_on_grid g) (clean_false b e)

-- ---- for the grid of every file

-- Whatever pattern is read at a place, the place is in range, and its pattern is that one, with plain zero for minus zero.
pub write_read : (b p : ℕ) → b < 2 ^ 64 → read_place b ≡ Some p → (p ≤ 2 * origin) × (write_place p ≡ clean b)
write_read = write_read_grid grid_exponent (lit≤ tt)

-- each place in range is where its own pattern is read
pub read_write : (p : ℕ) → p ≤ 2 * origin → read_place (write_place p) ≡ Some p
read_write = read_write_grid grid_exponent (lit≤ tt)

-- a pattern is read where the cleaned one is
pub read_clean : (b : ℕ) → read_place (clean b) ≡ read_place b
read_clean = read_clean_grid grid_exponent (lit≤ tt)

-- no coordinate is written as minus zero
pub never_minus_zero : (p : ℕ) → p < 2 ^ 32 → write_place p ≡ minus_zero → ⊥
never_minus_zero p h = written_plain grid_exponent (lit≤ tt) p (omega arith)

-- So at one place there is one pattern, minus zero aside: two that are read there are one where each is cleaned,
pub one_pattern : (b d p : ℕ) → b < 2 ^ 64 → d < 2 ^ 64 → read_place b ≡ Some p → read_place d ≡ Some p → clean b ≡ clean d
one_pattern b d p hb hd eb ed = sym (write_read b p hb eb).1 ∙ (write_read d p hd ed).1

-- and so are one where neither is minus zero;
pub one_plain_pattern : (b d p : ℕ) → b < 2 ^ 64 → d < 2 ^ 64 → (b ≡ minus_zero → ⊥) → (d ≡ minus_zero → ⊥) → read_place b ≡ Some p → read_place d ≡ Some p → b ≡ d
one_plain_pattern b d p hb hd nb nd eb ed = sym (clean_other b nb) ∙ one_pattern b d p hb hd eb ed ∙ clean_other d nd

-- and the float that the cleaned one stands for is the coordinate at that place
pub float_read : (b p : ℕ) → b < 2 ^ 64 → read_place b ≡ Some p → of_bits binary64 (clean b) ≡ coordinate p
float_read b p h e = ap (λ (x : ℕ). of_bits binary64 x) (sym (write_read b p h e).1 ∙ write_is grid_exponent p) ∙ of_bits-to_bits binary64 (coordinate p) (coordinate_fits grid_exponent p)

pub place_coordinate : (p : ℕ) → p ≤ 2 * origin → place_of (coordinate p) ≡ Some p
place_coordinate p h =
    ap place_of (sym (of_bits-to_bits binary64 (coordinate p) (coordinate_fits grid_exponent p)) ∙ ap (of_bits binary64) (sym (write_is grid_exponent p)))
    ∙ sym (read_is grid_exponent (write_place p)) ∙ read_write p h
