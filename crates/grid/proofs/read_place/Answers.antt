-- `grid::read_place` meets its contract: each return is the law of `Fields` for the fields that lead there.
use mathlib.Core.Path.{◌≡◌, sym, ap, ◌∙◌}
use Prim.Native.Nat.{ℕ, ◌+◌, ◌-◌, ◌*◌, ◌/◌, ◌%◌, ◌^◌, ◌≤◌, ◌<◌}
use native.Mathlib.Omega.{arith}
use mathlib.Core.Bool.{Bool, true, false, cond}
use borrow.Author.Rules.{rules}
use borrow.Author.Tests.{le-leb, lt-leb}
use Rattle.std.specs.Prelude.{Some}
use Rattle.grid.specs.Grid.{grid_exponent, origin, place_of_steps, read_place}
use Rattle.grid.proofs.Same.{at_place}
use Rattle.grid.proofs.Back.{zero_read}
use Rattle.grid.proofs.Fields.{negative, exponent, digits, part_of_step, too_far, read_below, read_above, read_between, shifts_back, shifts_off}
use Rattle.grid.proofs.read_place.Goals as goal

-- the code's locals
abbrev whole : ℕ → ℕ
whole b = 2 ^ 52 + digits b

abbrev below : ℕ → ℕ
below b = 1065 - exponent b

abbrev steps : ℕ → ℕ
steps b = whole b / 2 ^ below b

whole_fits : (b : ℕ) → whole b < 2 ^ 64
whole_fits b = omega arith

between : (b : ℕ) → 1013 ≤ exponent b → exponent b ≤ 1035 → read_place b ≡ place_of_steps origin (negative b) (whole b) (2 ^ below b)
between b h k = read_between grid_exponent b (omega arith) (omega arith)

on : (b : ℕ) (s : Bool) → negative b ≡ s → 1013 ≤ exponent b → exponent b ≤ 1035 → steps b * 2 ^ below b % 2 ^ 64 ≡ whole b → steps b ≤ origin
    → read_place b ≡ Some (cond s (origin - steps b) (origin + steps b))
on b s e h k w n =
    between b h k
    ∙ ap (λ (s : Bool). place_of_steps origin s (whole b) (2 ^ below b)) e
    ∙ at_place origin s (whole b) (2 ^ below b) (shifts_back (whole b) (2 ^ below b) (whole_fits b) w) n

pub returns-then-bits-eq0 : goal.returns-then-bits-eq0
returns-then-bits-eq0 c = sym (zero_read grid_exponent c.args.bits (search rules) (omega arith))

pub returns-then-field-lt-ONE_STEP : goal.returns-then-field-lt-ONE_STEP
returns-then-field-lt-ONE_STEP c = sym (read_below grid_exponent c.args.bits (search rules) c.if-bits-eq0.false (omega arith))

pub returns-then-field-gt-LARGEST : goal.returns-then-field-gt-LARGEST
returns-then-field-gt-LARGEST c = sym (read_above grid_exponent c.args.bits (omega arith))

pub returns-then-steps-below : goal.returns-then-steps-below
returns-then-steps-below c =
    let b = c.args.bits in
    sym (between b (omega arith) (omega arith) ∙ part_of_step origin (negative b) (whole b) (2 ^ below b) (shifts_off (whole b) (2 ^ below b) (whole_fits b) c.if-steps-below.true))

pub returns-then-steps : goal.returns-then-steps
returns-then-steps c =
    let b = c.args.bits in
    sym (between b (omega arith) (omega arith) ∙ too_far origin (negative b) (whole b) (2 ^ below b) (omega arith))

pub returns-then-positive : goal.returns-then-positive
returns-then-positive c =
    let b = c.args.bits in
    sym (on b false (lt-leb (2 ^ 63) b (omega arith)) (omega arith) (omega arith) c.if-steps-below.false (omega arith))

pub returns-else-positive : goal.returns-else-positive
returns-else-positive c =
    let b = c.args.bits in
    sym (on b true (le-leb (2 ^ 63) b (omega arith)) (omega arith) (omega arith) c.if-steps-below.false (omega arith))
