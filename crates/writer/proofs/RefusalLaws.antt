-- The writer's conditions, one after another: each is named by its number, and has one law for where it is the first that refuses.
use mathlib.Core.Path.{◌≡◌, refl, sym, ap, ◌∙◌}
use mathlib.Core.Bool.{Bool, true, false, ◌&&◌, ◌||◌, not}
use Prim.Native.Nat.{ℕ, ◌/◌, ◌≤◌, ◌<◌}
use lib.ListN.{length}
use lib.Dec.{eqb, ltb}
use borrow.Author.Tests.{lt-ltb, le-ltb}
use Rattle.limits.specs.Limits.{refused_lengths, refused_settings, refused_counts, refused_own_links, refused_coordinates, refused_links, refused_destination}
use Rattle.drawing_spec.proofs.Refusal.{one_more, first_holds}
use Rattle.drawing_spec.specs.Drawing.{linking}
use Rattle.drawing_spec.specs.Refusal.{accepted, verdict, refusal_of, until, holds}
use Rattle.drawing_spec.specs.Read.{settings_fit, counts_fit, own_links_fit, coordinates_fit, links_fit}
use Rattle.writer_spec.specs.Save.{saved_file}
use Rattle.writer_spec.specs.Given.{Given, fitting, sketch_given, given_conditions}
use Rattle.writer_spec.proofs.Given.{Fitting, fits}
use Rattle.writer_checks.specs.Checked.{all_on, links_in}
use Rattle.writer_checks.proofs.CheckedLaws.{counts_in, size_in, counts_are, own_links_are, coordinates_are, links_are, size_is}

module _ (g : Given) (room : ℕ) where
  abbrev pub Says : ℕ → Type 0
  Says n = n ≡ refusal_of (verdict (given_conditions g room))

  -- none of the conditions before a number holds
  abbrev Past : ℕ → Type 0
  Past n = verdict (until n (given_conditions g room)) ≡ accepted

  stop : (n : ℕ) → Past n → holds n (given_conditions g room) ≡ true → Says n
  stop n p h = sym (ap refusal_of (first_holds n (given_conditions g room) p h))

  at_lengths : Past refused_lengths
  unfolding given_conditions until verdict
  at_lengths = refl

  module _ (t : Bool) (e : t ≡ fitting g.sizes g.coordinates g.segments g.ends) where
    pub refused_lengths_lem : t ≡ false → Says refused_lengths
    unfolding given_conditions holds
    refused_lengths_lem q = stop refused_lengths at_lengths (ap not (sym e ∙ q))

    module _ (q : t ≡ true) where
      fit : Fitting g
      fit = fits g (sym e ∙ q)

      at_settings : Past refused_settings
      unfolding given_conditions until
      at_settings = one_more (until refused_lengths (given_conditions g room)) refused_lengths _ at_lengths (ap not (sym e ∙ q))

      module _ (u : Bool) (i : u ≡ settings_fit g.settings) where
        pub refused_settings_lem : u ≡ false → Says refused_settings
        unfolding given_conditions sketch_given holds
        refused_settings_lem r = stop refused_settings at_settings (ap not (sym i ∙ r))

        module _ (r : u ≡ true) where
          at_counts : Past refused_counts
          unfolding given_conditions sketch_given until
          at_counts = one_more (until refused_settings (given_conditions g room)) refused_settings _ at_settings (ap not (sym i ∙ r))

          module _ (v : Bool) (j : v ≡ counts_in g) where
            counted : (b : Bool) → v ≡ b → counts_fit (sketch_given g) ≡ b
            counted b h = counts_are g fit ∙ sym j ∙ h

            pub refused_counts_lem : v ≡ false → Says refused_counts
            unfolding given_conditions holds
            refused_counts_lem s = stop refused_counts at_counts (ap not (counted false s))

            module _ (s : v ≡ true) where
              at_own_links : Past refused_own_links
              unfolding given_conditions until
              at_own_links = one_more (until refused_counts (given_conditions g room)) refused_counts _ at_counts (ap not (counted true s))

              module _ (w : Bool) (k : w ≡ (not (linking g.settings) || eqb (length g.segments / 4) 0)) where
                owned : (b : Bool) → w ≡ b → own_links_fit (sketch_given g) ≡ b
                owned b h = own_links_are g ∙ sym k ∙ h

                pub refused_own_links_lem : w ≡ false → Says refused_own_links
                unfolding given_conditions holds
                refused_own_links_lem o = stop refused_own_links at_own_links (ap not (owned false o))

                module _ (o : w ≡ true) where
                  at_coordinates : Past refused_coordinates
                  unfolding given_conditions until
                  at_coordinates = one_more (until refused_own_links (given_conditions g room)) refused_own_links _ at_own_links (ap not (owned true o))

                  module _ (x : Bool) (l : x ≡ (all_on g.coordinates && all_on g.ends)) where
                    placed : (b : Bool) → x ≡ b → coordinates_fit (sketch_given g) ≡ b
                    placed b h = coordinates_are g fit ∙ sym l ∙ h

                    pub refused_coordinates_lem : x ≡ false → Says refused_coordinates
                    unfolding given_conditions holds
                    refused_coordinates_lem m = stop refused_coordinates at_coordinates (ap not (placed false m))

                    module _ (m : x ≡ true) where
                      at_links : Past refused_links
                      unfolding given_conditions until
                      at_links = one_more (until refused_coordinates (given_conditions g room)) refused_coordinates _ at_coordinates (ap not (placed true m))

                      module _ (y : Bool) (n : y ≡ links_in g.sizes g.segments (length g.segments / 4) 0) where
                        linked : (b : Bool) → y ≡ b → links_fit (sketch_given g) ≡ b
                        linked b h = links_are g ∙ sym n ∙ h

                        pub refused_links_lem : y ≡ false → Says refused_links
                        unfolding given_conditions holds
                        refused_links_lem z = stop refused_links at_links (ap not (linked false z))

                        module _ (z : y ≡ true) (size : ℕ) (is : size ≡ size_in g) where
                          at_destination : Past refused_destination
                          unfolding given_conditions until
                          at_destination = one_more (until refused_links (given_conditions g room)) refused_links _ at_links (ap not (linked true z))

                          long : length (saved_file (sketch_given g)) ≡ size
                          long = size_is g fit ∙ sym is

                          pub refused_destination_lem : room < size → Says refused_destination
                          unfolding given_conditions holds
                          refused_destination_lem h = stop refused_destination at_destination (ap (ltb room) long ∙ lt-ltb room size h)

                          pub refused_none : size ≤ room → Says 0
                          unfolding given_conditions until
                          refused_none h = sym (ap refusal_of (one_more (until refused_destination (given_conditions g room)) refused_destination _ at_destination (ap (ltb room) long ∙ le-ltb room size h)))
