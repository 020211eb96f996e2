-- Laws of specs/Text: the digits that `io` spells are the decimal, and how long a number's text is.
use mathlib.Core.Path.{◌≡◌, refl, sym, ap, ◌∙◌}
use mathlib.Core.List.{List, [], ◌∷◌, ◌++◌}
use mathlib.Core.Bool.{Bool, true, false}
use Prim.Native.Nat.{ℕ, zero, suc, ◌-◌, ◌*◌, ◌/◌, ◌%◌, ◌^◌, ◌≤◌, ◌<◌}
use native.Mathlib.Nat.{pow-suc, one-le-pow, pow-le-pow_right}
use native.Mathlib.Omega.{arith}
use lib.ListN.{length, length-append}
use lib.Dec.{ltb, leb}
use borrow.Author.Tests.{ltb-true, ltb-false, leb-true, leb-false, lt-ltb, le-ltb}
use Rattle.grid.specs.Grid.{origin}
use Rattle.io.specs.Digits.{hex_digit_ascii, last_digits, IsDigitCount}
use Rattle.planner_text.specs.Text.{decimal_in, decimal, hex, minus, steps_text}

-- ---- a decimal, digit by digit

decimal_one : (k n : ℕ) → n < 10 → decimal_in (suc k) n ≡ hex_digit_ascii n ∷ []
unfolding decimal_in
decimal_one k n h = ap (λ (t : Bool). elim t [ true ↦ hex_digit_ascii n ∷ [] | false ↦ decimal_in k (n / 10) ++ (hex_digit_ascii (n % 10) ∷ []) ]) (lt-ltb n 10 h)

decimal_more : (k n : ℕ) → 10 ≤ n → decimal_in (suc k) n ≡ decimal_in k (n / 10) ++ (hex_digit_ascii (n % 10) ∷ [])
unfolding decimal_in
decimal_more k n h = ap (λ (t : Bool). elim t [ true ↦ hex_digit_ascii n ∷ [] | false ↦ decimal_in k (n / 10) ++ (hex_digit_ascii (n % 10) ∷ []) ]) (le-ltb n 10 h)

power_ten : (d : ℕ) → 10 ^ suc d ≡ 10 ^ d * 10
power_ten d = pow-suc 10 d

power_less : (d : ℕ) → 10 ^ (suc d - 1) ≡ 10 ^ d
power_less d = let e : suc d - 1 ≡ d = omega arith in ap (λ (k : ℕ). 10 ^ k) e

-- a number below 10 ^ d has at most d digits
pub decimal_short : (k d n : ℕ) → 0 < d → n < 10 ^ d → length (decimal_in k n) ≤ d
unfolding decimal_in
decimal_short zero d n some low = omega arith
decimal_short (suc k) zero n some low = absurd (omega arith)
decimal_short (suc k) (suc d) n some low = go (λ e. decimal_short k (suc e) (n / 10) (omega arith)) (ltb n 10) refl d low
  where
    go : ((e : ℕ) → n / 10 < 10 ^ suc e → length (decimal_in k (n / 10)) ≤ suc e) → (t : Bool) → ltb n 10 ≡ t → (e : ℕ) → n < 10 ^ suc e → length (decimal_in (suc k) n) ≤ suc e
    go shorter true h e low = omega (arith, ap length (decimal_one k n (ltb-true n 10 h)))
    go shorter false h zero low = absurd (omega (arith, ltb-false n 10 h, power_ten 0))
    go shorter false h (suc e) low =
        omega (
          arith,
          ap length (decimal_more k n (ltb-false n 10 h)),
          length-append (decimal_in k (n / 10)) (hex_digit_ascii (n % 10) ∷ []),
          shorter e (omega (arith, power_ten (suc e))),
        )

-- the fewest digits that hold a number are its decimal
pub decimal_digits : (k r n : ℕ) → r ≤ k → IsDigitCount 10 1 n r → decimal_in k n ≡ last_digits 10 r n
decimal_digits zero r n few h = absurd (omega (arith, h.0))
decimal_digits (suc k) zero n few h = absurd (omega (arith, h.0))
decimal_digits (suc k) (suc r) n few h = go (λ r. decimal_digits k r (n / 10)) (ltb n 10) refl r few h
  where
    go : ((r : ℕ) → r ≤ k → IsDigitCount 10 1 (n / 10) r → decimal_in k (n / 10) ≡ last_digits 10 r (n / 10)) → (t : Bool) → ltb n 10 ≡ t → (r : ℕ) → suc r ≤ suc k → IsDigitCount 10 1 n (suc r) → decimal_in (suc k) n ≡ last_digits 10 (suc r) n
    go others true e zero few h = let low = ltb-true n 10 e in let m : n % 10 ≡ n = omega arith in decimal_one k n low ∙ ap (λ (d : ℕ). hex_digit_ascii d ∷ []) (sym m)
    go others true e (suc r) few h = absurd (omega (arith, ltb-true n 10 e, h.2 (omega arith), power_ten r, one-le-pow r 10 (omega arith), power_less (suc r)))
    go others false e zero few h = absurd (omega (arith, ltb-false n 10 e, h.1, power_ten 0))
    go others false e (suc r) few h =
        decimal_more k n (ltb-false n 10 e)
        ∙ ap (λ (l : List ℕ). l ++ (hex_digit_ascii (n % 10) ∷ []))
        (others (suc r) (omega arith) (omega arith, omega (arith, h.1, power_ten (suc r)), λ some. omega (arith, h.2 (omega arith), power_ten r, power_less r, power_less (suc r))))

pub spelled_decimal : (r n : ℕ) → r ≤ 20 → IsDigitCount 10 1 n r → decimal n ≡ last_digits 10 r n
unfolding decimal
spelled_decimal r n few h = decimal_digits 20 r n few h

pub spelled_hex : (r n : ℕ) → r ≡ 16 → last_digits 16 r n ≡ hex n
unfolding hex
spelled_hex r n e = ap (λ (k : ℕ). last_digits 16 k n) e

-- ---- how many digits there are

pub few_digits : (b least most n r : ℕ) → 0 < b → least ≤ most → n < b ^ most → IsDigitCount b least n r → r ≤ most
few_digits b least most n r some fits low h = go (leb r most) refl
  where
    go : (t : Bool) → leb r most ≡ t → r ≤ most
    go true e = leb-true r most e
    go false e =
        let more = leb-false r most e in
        absurd (omega (arith, h.2 (omega arith), pow-le-pow_right {n = b} some {i = most} {j = r - 1} (omega arith)))

-- ---- grid steps

pub steps_below : (place : ℕ) → place < origin → minus ∷ decimal (origin - place) ≡ steps_text place
unfolding steps_text
steps_below place h = sym (ap (λ (t : Bool). elim t [ true ↦ minus ∷ decimal (origin - place) | false ↦ decimal (place - origin) ]) (lt-ltb place origin h))

pub steps_above : (place : ℕ) → origin ≤ place → decimal (place - origin) ≡ steps_text place
unfolding steps_text
steps_above place h = sym (ap (λ (t : Bool). elim t [ true ↦ minus ∷ decimal (origin - place) | false ↦ decimal (place - origin) ]) (le-ltb place origin h))

pub steps_short : (place : ℕ) → place < 2 ^ 32 → length (steps_text place) ≤ 10
unfolding decimal
steps_short place low = go (ltb place origin) refl
  where
    go : (t : Bool) → ltb place origin ≡ t → length (steps_text place) ≤ 10
    go true e = omega (arith, ap length (steps_below place (ltb-true place origin e)), decimal_short 20 7 (origin - place) (omega arith) (omega arith))
    go false e = omega (arith, ap length (steps_above place (ltb-false place origin e)), decimal_short 20 10 (place - origin) (omega arith) (omega arith))
