-- What the third flag and number 15 have left as it was: a file that does not ask for links is judged by the conditions that stood before them.
use mathlib.Core.Path.{◌≡◌, refl, ap, ◌∙◌}
use mathlib.Core.List.{List, [], ◌∷◌}
use mathlib.Core.Bool.{Bool, true, false, ◌&&◌, ◌||◌, not}
use Prim.Native.Nat.{ℕ, ◌/◌, ◌%◌}
use native.Mathlib.Omega.{arith}
use lib.ListN.{length}
use lib.Dec.{eqb, leb, ltb}
use borrow.Author.Tests.{leb-true, leb-false, le-leb, eqb-false}
use Rattle.drawing_spec.specs.Drawing.{Settings, DrawingOf, linking}
use Rattle.drawing_spec.specs.Refusal.{Condition, condition, verdict, holds}
use Rattle.drawing_spec.proofs.Refusal.{without, one_fewer}
use Rattle.drawing_spec.specs.Read.{records_of, is_cut, sketch_of, kinds_fit, lengths_fit, settings_fit, counts_fit, own_links_fit, coordinates_fit, links_fit, read_conditions}

-- ---- the eight conditions that document 01 has, in its order: flags run to 3, and there is no number 15; 7 is without the clause that CR 3 ended

abbrev pub settings_before : Settings → Bool
settings_before s = leb s.width 8192 && leb s.height 8192 && leb s.pairing 1 && leb s.flags 3

abbrev pub conditions_before : List ℕ → List Condition
conditions_before file =
    let rs = records_of file in
    let s = sketch_of rs in
    condition 1 (ltb 65536 (length file))
    ∷ condition 2 (is_cut file)
    ∷ condition 3 (not (kinds_fit rs))
    ∷ condition 4 (not (lengths_fit rs))
    ∷ condition 5 (not (settings_before s.settings))
    ∷ condition 6 (not (counts_fit s))
    ∷ condition 7 (not (coordinates_fit s))
    ∷ condition 8 (not (links_fit s))
    ∷ []

-- ---- where the third flag is not set, check 5 asks what it asked, and 15 does not hold

-- with bit 4 unset, 4 to 7 are no flags
no_flags : (n : ℕ) → eqb (n / 4 % 2) 1 ≡ false → leb n 3 ≡ false → leb n 7 ≡ false
no_flags n h e = go (leb n 7) refl
  where
    go : (t : Bool) → leb n 7 ≡ t → t ≡ false
    go true f = let k = leb-false n 3 e in let m = leb-true n 7 f in absurd (eqb-false (n / 4 % 2) 1 h (omega arith))
    go false f = refl

same_flags : (n : ℕ) → eqb (n / 4 % 2) 1 ≡ false → leb n 7 ≡ leb n 3
same_flags n h = go (leb n 3) refl
  where
    go : (t : Bool) → leb n 3 ≡ t → leb n 7 ≡ t
    go true e = let k = leb-true n 3 e in le-leb n 7 (omega arith)
    go false e = no_flags n h e

same_settings : (s : Settings) → linking s ≡ false → settings_fit s ≡ settings_before s
unfolding settings_fit
same_settings s h = ap (λ (b : Bool). leb s.width 8192 && leb s.height 8192 && leb s.pairing 1 && b) (same_flags s.flags h)

own_links_allowed : {C : Type 0} (d : DrawingOf C) → linking d.settings ≡ false → own_links_fit d ≡ true
unfolding own_links_fit
own_links_allowed d h = ap (λ (b : Bool). not b || eqb (length d.links) 0) h

-- ---- so the verdict is what it was

module _ (file : List ℕ) (h : linking (sketch_of (records_of file)).settings ≡ false) where
  fifteen_fails : holds 15 (read_conditions file) ≡ false
  unfolding read_conditions holds
  fifteen_fails = ap not (own_links_allowed (sketch_of (records_of file)) h)

  without_fifteen : without 15 (read_conditions file) ≡ conditions_before file
  unfolding read_conditions without
  without_fifteen = rw (same_settings (sketch_of (records_of file)).settings h)

  pub unflagged_verdict : verdict (read_conditions file) ≡ verdict (conditions_before file)
  unflagged_verdict = one_fewer 15 (read_conditions file) fifteen_fails ∙ ap verdict without_fifteen
