-- The place of ±a / c steps turns on the number a / c alone, and not on how it is written. Assumes nothing.
use Rattle.std.specs.Prelude.{Some, None}
use mathlib.Core.Path.{◌≡◌, refl, sym, ap, ◌∙◌}
use Prim.Native.Nat.{ℕ, ◌+◌, ◌-◌, ◌*◌, ◌/◌, ◌%◌, ◌^◌, ◌≤◌, ◌<◌}
use native.Mathlib.Nat.{mul_comm, mul_right_comm, mul-div-mul_right, mul-mod_left, div-add-mod', eq_of_mul-eq-mul_right, add-zero}
use mathlib.Core.Bool.{Bool, true, false, true≢false, ◌&&◌, cond}
use lib.Dec.{T, leb, eqb, eqb→eq, leb→le}
use lib.Ieee.{Float, nan, inf, fin, up, down}
use lib.Ieee.Exact.{HasValue}
use borrow.Author.Tests.{le-leb, eq-eqb}
use lib.Ieee.Fits.{and_l, and_r, eq→eqb, down_pos}
use Rattle.grid.specs.Grid.{origin_of_grid, place_of_steps, place_on_grid}

pub same_test : (t u : Bool) → (T t → T u) → (T u → T t) → t ≡ u
same_test true true h k = refl
same_test true false h k = absurd (h tt)
same_test false true h k = absurd (k tt)
same_test false false h k = refl

-- an a that c divides, by its quotient
pub divided : (a c : ℕ) → a % c ≡ 0 → a ≡ a / c * c
divided a c w = sym (div-add-mod' a c) ∙ ap (λ (r : ℕ). a / c * c + r) w ∙ add-zero (a / c * c)

-- two fractions of one size, both taken k times
pub scaled : (a c b d k : ℕ) → a * d ≡ b * c → a * k * d ≡ b * k * c
scaled a c b d k h = mul_right_comm a k d ∙ ap (λ (x : ℕ). x * k) h ∙ mul_right_comm b c k

-- what holds of a whole number of steps holds of it however its fraction is written
module _ (a c b d : ℕ) (C : 0 < c) (D : 0 < d) (h : a * d ≡ b * c) where
  pub same_quotient : a / c ≡ b / d
  same_quotient = sym (mul-div-mul_right a c D) ∙ ap (λ (x : ℕ). x / (c * d)) h ∙ ap (λ (x : ℕ). b * c / x) (mul_comm c d) ∙ mul-div-mul_right b d C

  whole : a % c ≡ 0 → b % d ≡ 0
  whole w =
      let n = a / c in
      let b_is : n * d ≡ b = eq_of_mul-eq-mul_right c C (n * d) b (mul_right_comm n d c ∙ ap (λ (x : ℕ). x * d) (sym (divided a c w)) ∙ h) in
      ap (λ (x : ℕ). x % d) (sym b_is) ∙ mul-mod_left n d

pub same_steps : (o : ℕ) (s : Bool) (a c b d : ℕ) → 0 < c → 0 < d → a * d ≡ b * c → place_of_steps o s a c ≡ place_of_steps o s b d
same_steps o s a c b d C D h =
    let quotient : a / c ≡ b / d = same_quotient a c b d C D h in
    let wholes : eqb (a % c) 0 ≡ eqb (b % d) 0 =
    same_test (eqb (a % c) 0) (eqb (b % d) 0) (λ t. eq→eqb (whole a c b d C D h (eqb→eq (a % c) 0 t))) (λ t. eq→eqb (whole b d a c D C (sym h) (eqb→eq (b % d) 0 t))) in
    cc

-- a float's place, from any fraction that says its size
pub place_of_value : (g : ℕ) (x : Float) (s : Bool) (a c : ℕ) → 0 < c → HasValue x s a c → place_on_grid g x ≡ place_of_steps (origin_of_grid g) s (a * 2 ^ g) c
unfolding place_on_grid
place_of_value g nan s a c C v = absurd v
place_of_value g (inf t) s a c C v = absurd v
place_of_value g (fin t m e) s a c C v =
    ap (λ (t : Bool). place_of_steps (origin_of_grid g) t (m * up e * 2 ^ g) (down e)) v.0
    ∙ same_steps (origin_of_grid g) s (m * up e * 2 ^ g) (down e) (a * 2 ^ g) c (down_pos e) C
    (scaled (m * up e) (down e) a c (2 ^ g) v.1)

-- ---- what it takes to be at a place

pub at_place : (o : ℕ) (s : Bool) (a c : ℕ) → a % c ≡ 0 → a / c ≤ o → place_of_steps o s a c ≡ Some (cond s (o - a / c) (o + a / c))
at_place o s a c w h = simp (eq-eqb (a % c) 0 w, le-leb (a / c) o h)

-- what check 7 found of ±a / c steps that it put at p
pub record Passed (o : ℕ) (s : Bool) (a c p : ℕ) : Type 0 where
  pub is_whole : a % c ≡ 0
  pub near : a / c ≤ o
  pub is : p ≡ cond s (o - a / c) (o + a / c)

pub passed : (o : ℕ) (s : Bool) (a c p : ℕ) → place_of_steps o s a c ≡ Some p → Passed o s a c p
passed o s a c p h = go (eqb (a % c) 0 && leb (a / c) o) (λ t. t) h
  where
    go : (t : Bool) → (T t → T (eqb (a % c) 0 && leb (a / c) o)) → cond t (Some (cond s (o - a / c) (o + a / c))) None ≡ Some p → Passed o s a c p
    go true k e =
        let w = eqb (a % c) 0 in
        let n = leb (a / c) o in
        record { is_whole = eqb→eq (a % c) 0 (and_l w n (k tt)); near = leb→le (a / c) o (and_r w n (k tt)); is = cc }
    go false k e = absurd (true≢false (cc))
