-- What is known of an accepted file's arrays: they hold the drawing that they say; it has no more lines, points and links than check 6 allows, the ends of its links
-- pass check 8, and all its points lie on the grid.
use Rattle.std.specs.Prelude.{◌≡◌, true}
use Rattle.lists.specs.Members.{All}
use Rattle.drawing_spec.specs.OnGrid.{OnGrid, AtEnds}
use Rattle.drawing_spec.specs.Read.{links_fit}
use Rattle.drawing_spec.specs.Accepted.{Counts}
use Rattle.file_drawing.specs.declared.Drawing.{Drawing}
use Rattle.file_drawing.specs.Held.{drawing_held}
use Rattle.file_drawing.specs.Back.{drawing_from}

pub record Sound (d : Drawing) : Type 0 where
  pub held : d ≡ drawing_held (drawing_from d)
  pub counts : Counts (drawing_from d)
  pub links_fit_known : links_fit (drawing_from d) ≡ true
  pub lines_on : All (All OnGrid) (drawing_from d).lines
  pub links_on : All (AtEnds OnGrid) (drawing_from d).links
