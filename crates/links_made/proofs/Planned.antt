-- The drawing that is planned, in flat arrays: with the links that are made for it where flag 4 asks for them, and else as it is.
use mathlib.Core.Path.{◌≡◌, refl, sym, ap, ◌∙◌, subst}
use mathlib.Core.Logic.{◌⊎◌, inl, inr}
use mathlib.Core.Bool.{Bool, true, false}
use Prim.Native.Nat.{◌≤◌}
use lib.ListN.{length}
use Rattle.limits.specs.Limits.{most_links}
use Rattle.lists.specs.Members.{All}
use Rattle.drawing_spec.specs.Drawing as drawn
use Rattle.drawing_spec.specs.Drawing.{linking}
use Rattle.drawing_spec.specs.OnGrid.{OnGrid, AtEnds}
use Rattle.drawing_spec.specs.Accepted.{InLimits}
use Rattle.drawing_spec.specs.Read.{links_fit}
use Rattle.file_drawing.specs.declared.Drawing.{Drawing}
use Rattle.file_drawing.specs.Held.{drawing_held}
use Rattle.file_drawing.specs.Back.{drawing_from}
use Rattle.links_spec.specs.Made.{linked, to_plan}
use Rattle.links_spec.proofs.Fits.{made_few}
use Rattle.links_spec.proofs.ToPlan.{asked, not_asked}
use Rattle.file_records.specs.Meaning.{settings_of}
use Rattle.links_made.specs.Linkable.{Linkable}
use Rattle.links_made.proofs.Whole.{linked_sound}

module _ (d : drawn.Drawing) where
  which : (to_plan d ≡ linked d) ⊎ (to_plan d ≡ d)
  which = go (linking d.settings) refl
    where
      go : (t : Bool) → linking d.settings ≡ t → (to_plan d ≡ linked d) ⊎ (to_plan d ≡ d)
      go true h = inl (asked d h)
      go false h = inr (not_asked d h)

module _ (d : Drawing) (L : Linkable d) where
  pub planned_linked : (r : Drawing) (t : Bool) → t ≡ linking (settings_of d.settings) → t ≡ true → r ≡ drawing_held (linked (drawing_from d)) → r ≡ drawing_held (to_plan (drawing_from d))
  unfolding drawing_from
  planned_linked r t is h e = e ∙ ap drawing_held (sym (asked (drawing_from d) (sym is ∙ h)))

  pub planned_kept : (t : Bool) → t ≡ linking (settings_of d.settings) → t ≡ false → d ≡ drawing_held (to_plan (drawing_from d))
  unfolding drawing_from
  planned_kept t is h = L.held ∙ ap drawing_held (sym (not_asked (drawing_from d) (sym is ∙ h)))

  pub planned_few : length (to_plan (drawing_from d)).links ≤ most_links
  unfolding linked
  planned_few = elim (which (drawing_from d)) [ inl p ↦ rw p (made_few (drawing_from d).lines L.counts.lines) | inr p ↦ rw p L.counts.links ]

  -- what `Sound` asks of the arrays that are planned, where the drawing's own links are sound
  pub planned_sound : links_fit (drawing_from d) ≡ true → All (AtEnds OnGrid) (drawing_from d).links → (r : Drawing) → r ≡ drawing_held (to_plan (drawing_from d))
      → (r ≡ drawing_held (drawing_from r)) × (drawing_from r ≡ to_plan (drawing_from d)) × (links_fit (drawing_from r) ≡ true) × InLimits (drawing_from r)
  planned_sound fit on r e = elim (which (drawing_from d)) [
    | inl p ↦ let s = linked_sound d L r (e ∙ ap drawing_held p) in (s.0, s.1 ∙ sym p, s.2, s.3)
    | inr p ↦
        let same : d ≡ r = L.held ∙ ap drawing_held (sym p) ∙ sym e in
        let back : drawing_from d ≡ drawing_from r = ap drawing_from same in (
          sym same ∙ L.held ∙ ap drawing_held back,
          sym back ∙ sym p,
          subst (λ (x : drawn.Drawing). links_fit x ≡ true) back fit,
          subst InLimits back (record { counts = L.counts; lines_on = L.lines_on; links_on = on }),
        )
  ]
