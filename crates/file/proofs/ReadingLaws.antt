-- Laws of specs/Reading.
use Prim.Native.Nat.{ℕ, ◌≤◌, ◌<◌}
use mathlib.Core.Path.{◌≡◌, refl, ap, ◌∙◌}
use mathlib.Core.List.{List}
use mathlib.Core.Bool.{true, false, not}
use lib.ListN.{length}
use borrow.Author.Tests.{lt-ltb, le-ltb}
use Rattle.limits.specs.Limits.{most_bytes}
use Rattle.limits.specs.Limits.{refused_bytes, refused_cut, refused_kinds, refused_lengths, refused_settings, refused_counts, refused_own_links, refused_coordinates, refused_links}
use Rattle.limits.specs.Refused.{number_of}
use Rattle.limits.specs.declared.Refusal.{Refusal}
use Rattle.drawing_spec.specs.Refusal as refusal
use Rattle.drawing_spec.specs.Read.{kinds_fit, lengths_fit, settings_fit, counts_fit, own_links_fit, coordinates_fit, links_fit, records_of, is_cut, sketch_of, drawing_of, read_conditions}
use Rattle.drawing_spec.proofs.Refusal.{one_more, first_holds, refused_before}
use Rattle.drawing_spec.specs.Accepted.{Passed}
use Rattle.drawing_spec.proofs.Accepted.{accepted_passes, accepted_links}
use Rattle.drawing_spec.proofs.OnGrid.{links_on}
use Rattle.file_drawing.specs.declared.Drawing.{Drawing}
use Rattle.file.specs.Reading.{Accepted, Refused, RefusedEarly, early}
use Rattle.file_drawing.specs.Held.{drawing_held}
use Rattle.file_drawing.specs.Back.{drawing_from}
use Rattle.file_drawing.proofs.Back.{drawing_back}

-- ---- the checks before check 8, one after another: each is named by its number, and has one law for where it is the first that refuses

-- none of the conditions before a number holds
abbrev Past : List ℕ → ℕ → Type 0
Past file n = refusal.verdict (refusal.until n (early file)) ≡ refusal.accepted

stop : (file : List ℕ) (n : ℕ) → Past file n → refusal.holds n (early file) ≡ true → refusal.verdict (early file) ≡ refusal.refused n
stop file n p h = first_holds n (early file) p h

module _ (file : List ℕ) where
  at_bytes : Past file refused_bytes
  unfolding read_conditions refusal.until refusal.verdict
  at_bytes = refl

  pub refused_bytes_lem : most_bytes < length file → refusal.verdict (early file) ≡ refusal.refused refused_bytes
  unfolding read_conditions refusal.until refusal.holds
  refused_bytes_lem h = stop file refused_bytes at_bytes (lt-ltb most_bytes (length file) h)

  module _ (s : length file ≤ most_bytes) where
    at_cut : Past file refused_cut
    unfolding read_conditions refusal.until
    at_cut = one_more _ refused_bytes _ at_bytes (le-ltb most_bytes (length file) s)

    pub refused_cut_lem : is_cut file ≡ true → refusal.verdict (early file) ≡ refusal.refused refused_cut
    unfolding read_conditions refusal.until refusal.holds
    refused_cut_lem h = stop file refused_cut at_cut h

    module _ (w : is_cut file ≡ false) where
      at_kinds : Past file refused_kinds
      unfolding read_conditions refusal.until
      at_kinds = one_more (refusal.until refused_cut (early file)) refused_cut _ at_cut w

      pub refused_kinds_lem : kinds_fit (records_of file) ≡ false → refusal.verdict (early file) ≡ refusal.refused refused_kinds
      unfolding read_conditions refusal.until refusal.holds
      refused_kinds_lem h = stop file refused_kinds at_kinds (ap not h)

      module _ (k : kinds_fit (records_of file) ≡ true) where
        at_lengths : Past file refused_lengths
        unfolding read_conditions refusal.until
        at_lengths = one_more (refusal.until refused_kinds (early file)) refused_kinds _ at_kinds (ap not k)

        pub refused_lengths_lem : lengths_fit (records_of file) ≡ false → refusal.verdict (early file) ≡ refusal.refused refused_lengths
        unfolding read_conditions refusal.until refusal.holds
        refused_lengths_lem h = stop file refused_lengths at_lengths (ap not h)

        module _ (l : lengths_fit (records_of file) ≡ true) where
          at_settings : Past file refused_settings
          unfolding read_conditions refusal.until
          at_settings = one_more (refusal.until refused_lengths (early file)) refused_lengths _ at_lengths (ap not l)

          pub refused_settings_lem : settings_fit (sketch_of (records_of file)).settings ≡ false → refusal.verdict (early file) ≡ refusal.refused refused_settings
          unfolding read_conditions refusal.until refusal.holds
          refused_settings_lem h = stop file refused_settings at_settings (ap not h)

          module _ (t : settings_fit (sketch_of (records_of file)).settings ≡ true) where
            at_counts : Past file refused_counts
            unfolding read_conditions refusal.until
            at_counts = one_more (refusal.until refused_settings (early file)) refused_settings _ at_settings (ap not t)

            pub refused_counts_lem : counts_fit (sketch_of (records_of file)) ≡ false → refusal.verdict (early file) ≡ refusal.refused refused_counts
            unfolding read_conditions refusal.until refusal.holds
            refused_counts_lem h = stop file refused_counts at_counts (ap not h)

            module _ (c : counts_fit (sketch_of (records_of file)) ≡ true) where
              at_own_links : Past file refused_own_links
              unfolding read_conditions refusal.until
              at_own_links = one_more (refusal.until refused_counts (early file)) refused_counts _ at_counts (ap not c)

              pub refused_own_links_lem : own_links_fit (sketch_of (records_of file)) ≡ false → refusal.verdict (early file) ≡ refusal.refused refused_own_links
              unfolding read_conditions refusal.until refusal.holds
              refused_own_links_lem h = stop file refused_own_links at_own_links (ap not h)

              module _ (o : own_links_fit (sketch_of (records_of file)) ≡ true) where
                at_coordinates : Past file refused_coordinates
                unfolding read_conditions refusal.until
                at_coordinates = one_more (refusal.until refused_own_links (early file)) refused_own_links _ at_own_links (ap not o)

                pub refused_coordinates_lem : coordinates_fit (sketch_of (records_of file)) ≡ false → refusal.verdict (early file) ≡ refusal.refused refused_coordinates
                unfolding read_conditions refusal.until refusal.holds
                refused_coordinates_lem h = stop file refused_coordinates at_coordinates (ap not h)

                module _ (g : coordinates_fit (sketch_of (records_of file)) ≡ true) where
                  pub refused_none : refusal.verdict (early file) ≡ refusal.accepted
                  unfolding read_conditions refusal.until
                  refused_none = one_more (refusal.until refused_coordinates (early file)) refused_coordinates _ at_coordinates (ap not g)

-- ---- the whole answer

module _ (file : List ℕ) where
  pub refused_early : (r : Refusal) → RefusedEarly file r → Refused file r
  refused_early r e = refused_before refused_links (number_of r) (read_conditions file) e

  module _ (p : Passed file) where
    none_early : refusal.verdict (early file) ≡ refusal.accepted
    none_early = refused_none file p.small p.is_whole p.in_order p.long p.settings_fit_known p.few p.own_links p.on_grid

    pub refused_links_lem : links_fit (sketch_of (records_of file)) ≡ false → refusal.verdict (read_conditions file) ≡ refusal.refused refused_links
    unfolding read_conditions refusal.holds
    refused_links_lem h = first_holds refused_links (read_conditions file) none_early (ap not h)

    pub accepted_as : links_fit (sketch_of (records_of file)) ≡ true → refusal.verdict (read_conditions file) ≡ refusal.accepted
    unfolding read_conditions refusal.until
    accepted_as h = one_more (early file) refused_links _ none_early (ap not h)

-- ---- what an accepted file is known by

pub record Taken (file : List ℕ) (d : Drawing) : Type 0 where
  pub passes : Passed file
  pub links_fit_known : links_fit (drawing_of (records_of file)) ≡ true
  pub drawing_is : d ≡ drawing_held (drawing_of (records_of file))

pub taken : (file : List ℕ) (d : Drawing) → Accepted file d → Taken file d
taken file d a = record { passes = accepted_passes file a.verdict_is; links_fit_known = accepted_links file a.verdict_is; drawing_is = a.drawing_is }

-- what an accepted file's reading holds is the drawing that the definitions give for the file
pub accepted_drawing : (file : List ℕ) (d : Drawing) → Accepted file d → drawing_from d ≡ drawing_of (records_of file)
accepted_drawing file d a =
    let t = taken file d a in
    ap drawing_from t.drawing_is ∙ drawing_back (drawing_of (records_of file)) (links_on (records_of file) t.passes.on_grid)
