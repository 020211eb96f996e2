-- Laws of specs/Sound: an accepted file's arrays are sound.
use mathlib.Core.Path.{◌≡◌, sym, ap, subst, ◌∙◌}
use mathlib.Core.List.{List}
use Prim.Native.Nat.{ℕ}
use Rattle.drawing_spec.specs.Drawing as drawn
use mathlib.Core.Bool.{true}
use Rattle.lists.specs.Members.{All}
use Rattle.drawing_spec.specs.OnGrid.{OnGrid, AtEnds}
use Rattle.drawing_spec.proofs.OnGrid.{lines_on, links_on}
use Rattle.drawing_spec.specs.Read.{links_fit, records_of, drawing_of}
use Rattle.drawing_spec.specs.Accepted.{Counts}
use Rattle.drawing_spec.proofs.Accepted.{passed_counts}
use Rattle.file_drawing.specs.Held.{drawing_held}
use Rattle.file_drawing.specs.declared.Drawing.{Drawing}
use Rattle.file.specs.Reading.{Accepted}
use Rattle.file.proofs.ReadingLaws.{taken}
use Rattle.file_drawing.specs.Back.{drawing_from}
use Rattle.file.proofs.ReadingLaws.{accepted_drawing}
use Rattle.graph.specs.Sound.{Sound}

pub accepted_sound : (file : List ℕ) (d : Drawing) → Accepted file d → Sound d
accepted_sound file d a =
    let t = taken file d a in
    let rs = records_of file in
    let is : drawing_of rs ≡ drawing_from d = sym (accepted_drawing file d a) in
    record {
      held = t.drawing_is ∙ ap drawing_held is;
      counts = subst Counts is (passed_counts file t.passes);
      links_fit_known = subst (λ (d : drawn.Drawing). links_fit d ≡ true) is t.links_fit_known;
      lines_on = subst (λ (d : drawn.Drawing). All (All OnGrid) d.lines) is (lines_on rs t.passes.on_grid);
      links_on = subst (λ (d : drawn.Drawing). All (AtEnds OnGrid) d.links) is (links_on rs t.passes.on_grid);
    }
