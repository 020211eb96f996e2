-- Laws of specs/Refusal.
use mathlib.Core.Path.{◌≡◌, refl, sym, ap, ◌∙◌}
use mathlib.Core.Bool.{Bool, true, false}
use mathlib.Core.List.{[], ◌∷◌}
use Prim.Native.Nat.{ℕ, ◌+◌, ◌*◌, ◌^◌, ◌≤◌, ◌<◌}
use native.Mathlib.Nat.{lt_of_not-le}
use native.Mathlib.Decide.{dec_le}
use native.Mathlib.Omega.{arith}
use lib.Dec.{eqb, ltb}
use borrow.Author.Tests.{eq-eqb, ne_eqb, le-leb, lt-leb, lt-ltb, le-ltb}
use Rattle.limits.specs.Limits.{most_odd, refused_tables}
use Rattle.limits.specs.declared.Refusal.{Refusal}
use Rattle.limits.specs.declared.Refusal.TheVariants.{Bytes, Cut, Kinds, Lengths, Settings, Counts, OwnLinks, Coordinates, Links, Apart, Tables, Path, Edges, Output, Destination}
use Rattle.limits.specs.Refused.{number_of}
use Rattle.drawing_spec.specs.Drawing as drawing
use Rattle.drawing_spec.specs.Refusal.{condition, verdict, refusal_of}
use Rattle.repair_spec.specs.Repair.{table_short}
use Rattle.repair_pairs.specs.Refusal.{table_conditions, refusal, short, Room}

pub number_some : (r : Refusal) → number_of r ≡ 0 → ⊥
number_some Bytes e = omega arith
number_some Cut e = omega arith
number_some Kinds e = omega arith
number_some Lengths e = omega arith
number_some Settings e = omega arith
number_some Counts e = omega arith
number_some OwnLinks e = omega arith
number_some Coordinates e = omega arith
number_some Links e = omega arith
number_some Apart e = omega arith
number_some Tables e = omega arith
number_some Path e = omega arith
number_some Edges e = omega arith
number_some Output e = omega arith
number_some Destination e = omega arith

pub short_yes : (entries floats : ℕ) → floats < entries → refused_tables ≡ short entries floats
unfolding short
short_yes entries floats h = sym (ap (λ (t : Bool). elim t [ true ↦ refused_tables | false ↦ 0 ]) (lt-ltb floats entries h))

pub short_none : (entries floats : ℕ) → entries ≤ floats → 0 ≡ short entries floats
unfolding short
short_none entries floats h = sym (ap (λ (t : Bool). elim t [ true ↦ refused_tables | false ↦ 0 ]) (le-ltb floats entries h))

module _ (s : drawing.Settings) (n floats bytes : ℕ) where
  pub refused_greedy : (s.pairing ≡ 1 → ⊥) → 0 ≡ refusal s n floats bytes
  unfolding table_conditions verdict table_short
  refused_greedy h = rw (ne_eqb s.pairing 1 h)

  module _ (h : s.pairing ≡ 1) where
    is_optimal : eqb s.pairing 1 ≡ true
    is_optimal = eq-eqb s.pairing 1 h

    pub refused_few : n < 4 → 0 ≡ refusal s n floats bytes
    unfolding table_conditions verdict table_short
    refused_few m = rw (is_optimal, lt-leb 4 n m)

    -- more nodes than all pairings are tried of
    pub refused_busy : most_odd < n → short (n * n) floats ≡ refusal s n floats bytes
    unfolding table_conditions verdict table_short short
    refused_busy m = let some : 4 ≤ n = omega arith in rw (is_optimal, le-leb 4 n some, lt-leb n most_odd m) (go (ltb floats (n * n)))
      where
        go : (t : Bool) → ◌≡◌ {A = ℕ} (elim t [ true ↦ refused_tables | false ↦ 0 ]) (refusal_of (verdict (condition refused_tables t ∷ [])))
        go true = refl
        go false = refl

    pub room_busy : most_odd < n → refusal s n floats bytes ≡ 0 → n * n ≤ floats
    room_busy m z = elim (dec_le (n * n) floats) [
      | yes enough ↦ enough
      | no few ↦ absurd (omega (arith, refused_busy m, short_yes (n * n) floats (lt_of_not-le few)))
    ]

    module _ (some : 4 ≤ n) (few : n ≤ most_odd) where
      pub refused_floats : floats < 2 ^ n + n * n → refused_tables ≡ refusal s n floats bytes
      unfolding table_conditions verdict table_short
      refused_floats m = rw (is_optimal, le-leb 4 n some, le-leb n most_odd few, lt-ltb floats (2 ^ n + n * n) m)

      pub refused_bytes_lem : 2 ^ n + n * n ≤ floats → bytes < 2 ^ n → refused_tables ≡ refusal s n floats bytes
      unfolding table_conditions verdict table_short
      refused_bytes_lem m l = rw (is_optimal, le-leb 4 n some, le-leb n most_odd few, le-ltb floats (2 ^ n + n * n) m, lt-ltb bytes (2 ^ n) l)

      pub refused_neither : 2 ^ n + n * n ≤ floats → 2 ^ n ≤ bytes → 0 ≡ refusal s n floats bytes
      unfolding table_conditions verdict table_short
      refused_neither m l = rw (is_optimal, le-leb 4 n some, le-leb n most_odd few, le-ltb floats (2 ^ n + n * n) m, le-ltb bytes (2 ^ n) l)

      -- the condition, by one table and then by the other
      pub floats_first : (r : Refusal) (states : ℕ) → states ≡ 2 ^ n → number_of r ≡ short (states + n * n) floats → number_of r ≡ refusal s n floats bytes
      floats_first r states e q = elim (dec_le (2 ^ n + n * n) floats) [
        | yes enough ↦ absurd (number_some r (q ∙ sym (short_none (states + n * n) floats (omega arith))))
        | no few_floats ↦ q ∙ sym (short_yes (states + n * n) floats (omega (arith, lt_of_not-le few_floats))) ∙ refused_floats (lt_of_not-le few_floats)
      ]

      pub bytes_then : (states : ℕ) → states ≡ 2 ^ n → 0 ≡ short (states + n * n) floats → short states bytes ≡ refusal s n floats bytes
      bytes_then states e q = elim (dec_le (2 ^ n + n * n) floats) [
        | no few_floats ↦ absurd (omega (arith, short_yes (states + n * n) floats (omega (arith, lt_of_not-le few_floats))))
        | yes enough ↦ elim (dec_le (2 ^ n) bytes) [
          | no few_bytes ↦ sym (short_yes states bytes (omega (arith, lt_of_not-le few_bytes))) ∙ refused_bytes_lem enough (lt_of_not-le few_bytes)
          | yes fits ↦ sym (short_none states bytes (omega arith)) ∙ refused_neither enough fits
        ]
      ]

      -- where the condition does not hold, Optimal has its room
      pub room_left : refusal s n floats bytes ≡ 0 → Room n floats bytes
      room_left z = elim (dec_le (2 ^ n + n * n) floats) [
        | no short ↦ absurd (omega (arith, refused_floats (lt_of_not-le short)))
        | yes enough ↦ elim (dec_le (2 ^ n) bytes) [
          | no short ↦ absurd (omega (arith, refused_bytes_lem enough (lt_of_not-le short)))
          | yes fits ↦ record { few = few; for_floats = enough; for_bytes = fits }
        ]
      ]
