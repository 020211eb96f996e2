-- Laws of specs/NotBack.
use mathlib.Core.Path.{◌≡◌, refl, sym, ap, ◌∙◌, subst}
use mathlib.Core.Logic.{◌⊎◌, inl, inr}
use mathlib.Core.Bool.{true, false}
use Prim.Native.Nat.{ℕ, ◌+◌, ◌-◌, ◌*◌, ◌^◌, ◌≤◌, ◌<◌}
use native.Mathlib.Nat.{le_refl, le_trans, le_of_eq, not-le_of_lt}
use native.Mathlib.Omega.{arith}
use lib.IntN.{ℤ, pos}
use lib.Dec.{T, lit<, lit≤}
use lib.Ieee.{Float, nan, inf, fin, binary64, prec, low, fits, round, add, sub, lt}
use lib.Ieee.Scale.{overflow}
use borrow.Author.Tests.{lt-ltb, le-ltb}
use Rattle.sums.specs.Key.{Nonneg, key}
use Rattle.sums.proofs.KeyLaws.{any_two, key_top, lt_key}
use Rattle.sums.proofs.Sum.{rounded, round_nonneg, round_key, round_own, inf_nonneg, add_nonneg, add_key}
use Rattle.repair_spec.specs.Distance.{infinity}
use Rattle.repair_spec.specs.Retrace.{magnitude, tolerance, on_way_back}
use Rattle.repair_early_exit.proofs.Difference.{round_keeps, round_near, sub_is}
use Rattle.graph_spec.specs.Weights.{grid_step}

-- 2 ^ 41
abbrev pub farthest : Float
farthest = fin false 1 (pos 41)

tolerance_nonneg : Nonneg binary64 tolerance
tolerance_nonneg = round_nonneg binary64 1 (10 ^ 10)

magnitude_same : (x : Float) → Nonneg binary64 x → magnitude x ≡ x
magnitude_same nan p = refl
magnitude_same (inf true) p = absurd p.sign
magnitude_same (inf false) p = refl
magnitude_same (fin true m e) p = absurd p.sign
magnitude_same (fin false m e) p = refl

not_less : (x : Float) → Nonneg binary64 x → key binary64 tolerance ≤ key binary64 x → lt (magnitude x) tolerance ≡ false
not_less x p h =
    ap (λ (y : Float). lt y tolerance) (magnitude_same x p)
    ∙ lt_key binary64 x tolerance p tolerance_nonneg
    ∙ le-ltb (key binary64 x) (key binary64 tolerance) h

-- ---- a value that is more than another by the tolerance stays so after rounding

abbrev Apart : Float → Float → Type 0
Apart x y = key binary64 y < overflow binary64 → key binary64 y + key binary64 tolerance ≤ key binary64 x → lt (magnitude (sub binary64 x y)) tolerance ≡ false

whole_apart : (m : ℕ) (e : ℤ) (n : ℕ) (d : ℤ) → T (fits binary64 (fin false m e)) → T (fits binary64 (fin false n d)) → Apart (fin false m e) (fin false n d)
whole_apart m e n d h k l c =
    let u = key binary64 (fin false m e) in
    let v = key binary64 (fin false n d) in
    let t = key binary64 tolerance in
    let r : t ≤ u - v = omega arith in
    ap (λ (z : Float). lt (magnitude z) tolerance) (sub_is binary64 m e n d h k (omega arith))
    ∙ not_less (rounded binary64 (u - v)) (round_nonneg binary64 (u - v) (2 ^ low binary64))
    (le_trans (le_of_eq (sym (round_own binary64 tolerance tolerance_nonneg))) (round_key binary64 t (u - v) r))

apart : (x y : Float) → Nonneg binary64 x → Nonneg binary64 y → Apart x y
unfolding sub
apart =
    any_two binary64 Apart
    (λ l c. absurd (not-le_of_lt l (le_refl _)))
    (λ n d k l c. not_less infinity (inf_nonneg binary64) (key_top binary64 tolerance tolerance_nonneg))
    (λ m e h l c. absurd (not-le_of_lt l (le_refl _)))
    whole_apart

-- ---- a sum with a grid step's length or more is more by the tolerance

-- the last digit that is kept below 2 ^ 42 is worth 2 ^ -11, 2 ^ 1063 units, and that with the tolerance is less than a grid step
step_enough : 2 ^ 1063 + key binary64 tolerance ≤ key binary64 grid_step
unfolding round
step_enough = lit≤ tt

below_next : key binary64 farthest + key binary64 grid_step ≤ 2 ^ (prec binary64 + 1063)
below_next = lit≤ tt

-- c and a step g, rounded to r with a loss of less than h
still_more : (c g h t r : ℕ) → c + g < r + h → h + t ≤ g → c + t ≤ r
still_more c g h t r l e = omega arith

in_reach : (c g m p : ℕ) → c < m → m + g ≤ p → c + g < p
in_reach c g m p l e = omega arith

both_more : (c d g w : ℕ) → c ≤ d → g ≤ w → c + g ≤ d + w
both_more c d g w h k = omega arith

rises : (d w c : Float) → Nonneg binary64 d → Nonneg binary64 w → key binary64 c ≤ key binary64 d → key binary64 grid_step ≤ key binary64 w → key binary64 c < key binary64 farthest
    → key binary64 c + key binary64 tolerance ≤ key binary64 (add binary64 d w)
rises d w c p q h k l =
    let u = key binary64 c + key binary64 grid_step in
    let near = round_near binary64 u 1063 (in_reach (key binary64 c) (key binary64 grid_step) (key binary64 farthest) (2 ^ (prec binary64 + 1063)) l below_next) (lit≤ tt) in
    le_trans
    (still_more (key binary64 c) (key binary64 grid_step) (2 ^ 1063) (key binary64 tolerance) (key binary64 (rounded binary64 u)) near step_enough)
    (le_trans
    (round_key binary64 u (key binary64 d + key binary64 w) (both_more (key binary64 c) (key binary64 d) (key binary64 grid_step) (key binary64 w) h k))
    (le_of_eq (sym (add_key binary64 d w p q))))

-- ---- the test

-- a distance as far as the test is exact enough; a node with no way to it is at infinity
abbrev pub InReach : Float → Type 0
InReach c = (c ≡ infinity) ⊎ (key binary64 c < key binary64 farthest)

-- from infinity nothing is on the way back: the difference is an infinity or no number
from_infinity : (a : Float) → Nonneg binary64 a → lt (magnitude (sub binary64 a infinity)) tolerance ≡ false
unfolding sub lt
from_infinity nan p = absurd p.sign
from_infinity (inf true) p = absurd p.sign
from_infinity (inf false) p = refl
from_infinity (fin s m e) p = not_less infinity (inf_nonneg binary64) (key_top binary64 tolerance tolerance_nonneg)

pub finite_far : key binary64 farthest ≤ overflow binary64
finite_far = lit≤ tt

-- from a node at infinity no node is on the way back
pub none_back : (d w c : Float) → Nonneg binary64 d → Nonneg binary64 w → c ≡ infinity → on_way_back d w c ≡ false
unfolding on_way_back
none_back d w c p q e =
    subst (λ (x : Float). lt (magnitude (sub binary64 (add binary64 d w) x)) tolerance ≡ false) (sym e) (from_infinity (add binary64 d w) (add_nonneg binary64 d w p q))

-- and from a node at the distance c none that is as far or farther
pub not_back : (d w c : Float) → Nonneg binary64 d → Nonneg binary64 w → Nonneg binary64 c → key binary64 grid_step ≤ key binary64 w → InReach c
    → key binary64 c ≤ key binary64 d → on_way_back d w c ≡ false
unfolding on_way_back
not_back d w c p q r k (inl e) h = none_back d w c p q e
not_back d w c p q r k (inr l) h = apart (add binary64 d w) c (add_nonneg binary64 d w p q) r (le_trans l finite_far) (rises d w c p q h k l)

-- ---- and where the sum is the distance c itself, the node is on the way back

tolerance_pos : 0 < key binary64 tolerance
unfolding round
tolerance_pos = lit< tt

no_difference : (x : Float) → Nonneg binary64 x → key binary64 x < overflow binary64 → lt (magnitude (sub binary64 x x)) tolerance ≡ true
no_difference nan p l = absurd p.sign
no_difference (inf s) p l = absurd (not-le_of_lt l (le_refl _))
no_difference (fin true m e) p l = absurd p.sign
no_difference (fin false m e) p l =
    let u = key binary64 (fin false m e) in
    let z : u - u ≡ 0 * 2 ^ 0 = omega arith in
    let r = rounded binary64 (u - u) in
    let none : key binary64 r ≡ 0 = ap (λ (x : ℕ). key binary64 (rounded binary64 x)) z ∙ round_keeps binary64 0 0 (lit< tt) (lit< tt) in
    ap (λ (x : Float). lt (magnitude x) tolerance) (sub_is binary64 m e m e p.fit p.fit (le_refl u))
    ∙ ap (λ (x : Float). lt x tolerance) (magnitude_same r (round_nonneg binary64 (u - u) (2 ^ low binary64)))
    ∙ lt_key binary64 r tolerance (round_nonneg binary64 (u - u) (2 ^ low binary64)) tolerance_nonneg
    ∙ lt-ltb (key binary64 r) (key binary64 tolerance) (rw none tolerance_pos)

pub exactly_back : (d w c : Float) → Nonneg binary64 c → add binary64 d w ≡ c → key binary64 c < key binary64 farthest → on_way_back d w c ≡ true
unfolding on_way_back
exactly_back d w c p e l = ap (λ (x : Float). lt (magnitude (sub binary64 x c)) tolerance) e ∙ no_difference c p (le_trans l finite_far)
