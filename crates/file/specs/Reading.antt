-- What the reader answers to a file: document 01's verdict, and the drawing in flat arrays.
use Rattle.std.specs.Prelude.{◌≡◌, List, ℕ}
use Rattle.limits.specs.Limits.{refused_links}
use Rattle.limits.specs.Refused.{number_of}
use Rattle.limits.specs.declared.Refusal.{Refusal}
use Rattle.drawing_spec.specs.Refusal as refusal
use Rattle.drawing_spec.specs.Read.{records_of, drawing_of, read_conditions}
use Rattle.file_drawing.specs.declared.Drawing.{Drawing}
use Rattle.file_drawing.specs.Held.{drawing_held}

-- ---- what is answered

-- of an accepted file its drawing
pub record Accepted (file : List ℕ) (d : Drawing) : Type 0 where
  pub verdict_is : refusal.verdict (read_conditions file) ≡ refusal.accepted
  pub drawing_is : d ≡ drawing_held (drawing_of (records_of file))

-- and of another why it is refused, by document 01's number of the first condition that holds
abbrev pub Refused : List ℕ → Refusal → Type 0
Refused file r = refusal.verdict (read_conditions file) ≡ refusal.refused (number_of r)

-- ---- the first of the checks before check 8, which is made on the drawing's arrays

abbrev pub early : List ℕ → List refusal.Condition
early file = refusal.until refused_links (read_conditions file)

abbrev pub NoneEarly : List ℕ → Type 0
NoneEarly file = refusal.verdict (early file) ≡ refusal.accepted

abbrev pub RefusedEarly : List ℕ → Refusal → Type 0
RefusedEarly file r = refusal.verdict (early file) ≡ refusal.refused (number_of r)
