-- What the planner asks of a drawing: that its arrays are sound, and the canvas is none that check 5 refuses.
use Rattle.std.specs.Prelude.{◌≤◌}
use Rattle.limits.specs.Limits.{most_side}
use Rattle.file_drawing.specs.declared.Drawing.{Drawing}
use Rattle.graph.specs.Sound.{Sound}

pub record Drawable (d : Drawing) : Type 0 where
  pub sound : Sound d
  pub wide : d.settings.width ≤ most_side
  pub high : d.settings.height ≤ most_side
