-- The drawing that is planned: the file's own, or that with the links made. Checks 6 to 8 hold of it as they do of the file's.
use mathlib.Core.Path.{◌≡◌, refl, ap}
use mathlib.Core.Bool.{Bool, true, false}
use Rattle.drawing_spec.specs.Drawing.{Drawing, linking}
use Rattle.drawing_spec.specs.Read.{links_fit}
use Rattle.drawing_spec.specs.Accepted.{InLimits}
use Rattle.links_spec.specs.Made.{linked, to_plan}
use Rattle.links_spec.proofs.Fits.{linked_within, linked_fit}

module _ (d : Drawing) where
  abbrev if_asked : Bool → Drawing
  if_asked t = elim t [ true ↦ linked d | false ↦ d ]

  pub asked : linking d.settings ≡ true → to_plan d ≡ linked d
  unfolding to_plan
  asked h = ap if_asked h

  pub not_asked : linking d.settings ≡ false → to_plan d ≡ d
  unfolding to_plan
  not_asked h = ap if_asked h

  -- what holds of the drawing, and of it with the links made
  either_way : (P : Drawing → Type 0) → P (linked d) → P d → P (to_plan d)
  unfolding to_plan
  either_way P p q = go (linking d.settings)
    where
      go : (t : Bool) → P (if_asked t)
      go true = p
      go false = q

  pub plan_settings : (to_plan d).settings ≡ d.settings
  unfolding linked
  plan_settings = either_way (λ (e : Drawing). e.settings ≡ d.settings) refl refl

  pub plan_lines : (to_plan d).lines ≡ d.lines
  unfolding linked
  plan_lines = either_way (λ (e : Drawing). e.lines ≡ d.lines) refl refl

  -- checks 6 and 7
  pub plan_within : InLimits d → InLimits (to_plan d)
  plan_within l = either_way InLimits (linked_within d l.counts.lines l.counts.points l.lines_on) l

  -- check 8
  pub plan_fit : links_fit d ≡ true → links_fit (to_plan d) ≡ true
  plan_fit h = either_way (λ (e : Drawing). links_fit e ≡ true) (linked_fit d) h
