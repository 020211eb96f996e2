-- Laws of specs/Accepted.
use mathlib.Core.Path.{◌≡◌, refl, sym, ap, ◌∙◌}
use mathlib.Core.List.{List, [], ◌∷◌, ◌++◌, map}
use mathlib.Core.Bool.{Bool, true, not, ◌||◌}
use Prim.Native.Nat.{ℕ}
use native.Mathlib.Omega.{arith}
use lib.ListN.{length}
use lib.Dec.{eqb}
use borrow.Author.Tests.{ltb-false, leb-true, eqb-true, not-false}
use Rattle.limits.specs.Limits.{most_bytes, most_lines, most_points, most_links}
use Rattle.limits.specs.Limits.{refused_bytes, refused_cut, refused_kinds, refused_lengths, refused_settings, refused_counts, refused_own_links, refused_coordinates, refused_links}
use Rattle.drawing_spec.specs.Drawing.{DrawingOf, LinkOf, linking}
use Rattle.lists.specs.Members.{All}
use Rattle.drawing_spec.proofs.Same.{both}
use Rattle.drawing_spec.specs.Refusal.{accepted, verdict, until, holds}
use Rattle.drawing_spec.proofs.Refusal.{fails, accepted_before}
use Rattle.drawing_spec.proofs.Placed.{counts_placed, own_links_placed, links_placed}
use Rattle.drawing_spec.specs.Read.{sketch_of, drawing_of, every, kinds_fit, lengths_fit, settings_fit, counts_fit, own_links_fit, coordinates_fit, links_fit, records_of, record_conditions, sketch_conditions, read_conditions}
use Rattle.drawing_spec.specs.Accepted.{Passed, Counts, InLimits}
use Rattle.drawing_spec.proofs.OnGrid.{lines_on, links_on}

pub conditions_are : (file : List ℕ) → read_conditions file ≡ record_conditions file ++ sketch_conditions (sketch_of (records_of file))
unfolding read_conditions
conditions_are file = refl

-- ---- where none of the conditions before check 8 holds, each check passes

pub passes : (file : List ℕ) → verdict (until refused_links (read_conditions file)) ≡ accepted → Passed file
unfolding read_conditions until holds
passes file e =
    let rs = records_of file in
    let none = fails (until refused_links (read_conditions file)) e in
    record {
      small = ltb-false most_bytes (length file) (none refused_bytes);
      is_whole = none refused_cut;
      in_order = not-false (kinds_fit rs) (none refused_kinds);
      long = not-false (lengths_fit rs) (none refused_lengths);
      settings_fit_known = not-false (settings_fit (sketch_of rs).settings) (none refused_settings);
      few = not-false (counts_fit (sketch_of rs)) (none refused_counts);
      own_links = not-false (own_links_fit (sketch_of rs)) (none refused_own_links);
      on_grid = not-false (coordinates_fit (sketch_of rs)) (none refused_coordinates);
    }

-- ---- a file that is accepted passes them, and check 8

pub accepted_passes : (file : List ℕ) → verdict (read_conditions file) ≡ accepted → Passed file
accepted_passes file e = passes file (accepted_before refused_links (read_conditions file) e)

pub accepted_links : (file : List ℕ) → verdict (read_conditions file) ≡ accepted → links_fit (drawing_of (records_of file)) ≡ true
unfolding read_conditions holds
accepted_links file e = links_placed (records_of file) ∙ not-false (links_fit (sketch_of (records_of file))) (fails (read_conditions file) e refused_links)

-- ---- the drawing keeps check 6, and its points are on the grid

pub counts_fit_lem : {C : Type 0} (d : DrawingOf C) → counts_fit d ≡ true → Counts d
unfolding counts_fit
counts_fit_lem d e =
    let a = both _ _ e in
    let b = both _ _ a.0 in
    record { lines = leb-true (length d.lines) most_lines b.0; points = leb-true _ most_points b.1; links = leb-true (length d.links) most_links a.1 }

pub passed_counts : (file : List ℕ) → Passed file → Counts (drawing_of (records_of file))
passed_counts file p = counts_fit_lem (drawing_of (records_of file)) (counts_placed (records_of file) ∙ p.few)

pub in_limits : (file : List ℕ) → Passed file → InLimits (drawing_of (records_of file))
in_limits file p = record { counts = passed_counts file p; lines_on = lines_on (records_of file) p.on_grid; links_on = links_on (records_of file) p.on_grid }

pub every_all : {A : Type 0} (f : A → Bool) (xs : List A) → every f xs ≡ true → All (λ (x : A). f x ≡ true) xs
unfolding every
every_all f [] e = tt
every_all f (x ∷ xs) e = let t = both (f x) (every f xs) e in (t.0, every_all f xs t.1)

pub every_map : {A B : Type 0} (f : A → B) (test : B → Bool) (xs : List A) → All (λ (x : A). test (f x) ≡ true) xs → every test (map f xs) ≡ true
unfolding every
every_map f test [] a = refl
every_map f test (x ∷ xs) a = rw a.0 (every_map f test xs a.1)

-- ---- where the planner makes the links, a file that passes has none of its own

none_held : {C : Type 0} (ks : List (LinkOf C)) → length ks ≡ 0 → ks ≡ []
none_held [] e = refl
none_held (k ∷ ks) e = absurd (omega arith)

no_links : {C : Type 0} (d : DrawingOf C) → own_links_fit d ≡ true → linking d.settings ≡ true → d.links ≡ []
unfolding own_links_fit
no_links d e h = none_held d.links (eqb-true (length d.links) 0 (sym (ap (λ (b : Bool). not b || eqb (length d.links) 0) h) ∙ e))

pub sketch_no_links : (file : List ℕ) → Passed file → linking (sketch_of (records_of file)).settings ≡ true → (sketch_of (records_of file)).links ≡ []
sketch_no_links file p h = no_links (sketch_of (records_of file)) p.own_links h

pub drawing_no_links : (file : List ℕ) → Passed file → linking (drawing_of (records_of file)).settings ≡ true → (drawing_of (records_of file)).links ≡ []
drawing_no_links file p h = no_links (drawing_of (records_of file)) (own_links_placed (records_of file) ∙ p.own_links) h
