-- The whole answer: what is saved from the arrays of a file that the reader takes is what `save_again` says of the file.
use mathlib.Core.Path.{◌≡◌, sym, ap, subst, ◌∙◌}
use mathlib.Core.List.{List}
use Prim.Native.Nat.{ℕ}
use Rattle.lists.specs.Members.{All}
use Rattle.drawing_spec.specs.Bytes.{in_front}
use Rattle.drawing_spec.specs.Drawing.{Sketch}
use Rattle.drawing_spec.specs.Cleaned.{cleaned}
use Rattle.drawing_spec.specs.Read.{records_of, sketch_of, drawing_of}
use Rattle.drawing_spec.proofs.Accepted.{accepted_passes, in_limits}
use Rattle.std.proofs.Common.{Result, Ok, Err}
use Rattle.limits.specs.declared.Refusal.{Refusal}
use Rattle.limits.specs.Refused.{number_of}
use Rattle.file.specs.Reading.{Accepted, Refused}
use Rattle.file_drawing.specs.declared.Drawing.{Drawing}
use Rattle.writer_spec.specs.Save.{Saved, refusal, save, save_again}
use Rattle.writer_spec.specs.Given.{sketch_given, save_given}
use Rattle.writer_spec.specs.OneFile.{Byte}
use Rattle.writer_spec.proofs.Given.{Fitting, fitting_true}
use Rattle.writer_spec.proofs.Cleaned.{drawing_bits}
use Rattle.writer_spec.proofs.Saved.{given_saved, save_cleaned, again_refused, again_saved, again_only}
use Rattle.writer.specs.Saved.{saved_from}
use Rattle.writer_again.specs.Again.{WritesCleaned}
use Rattle.writer_again.specs.Filled.{given_in, Savable}
use Rattle.writer_again.proofs.Sketch.{held_fitting, held_given}
use Rattle.writer_again.proofs.Held.{held_savable}

-- ---- of a file that the reader takes, by its arrays

module _ (file : List ℕ) (r : Drawing) (a : Accepted file r) where
  pub savable_again : Savable r
  savable_again = subst Savable (sym a.drawing_is) (held_savable (drawing_of (records_of file)) (in_limits file (accepted_passes file a.verdict_is)))

  -- the sketch of what is saved is the file's, cleaned
  read_sketch : All Byte file → sketch_given (given_in r) ≡ cleaned (sketch_of (records_of file))
  read_sketch b =
      ap (λ (r : Drawing). sketch_given (given_in r)) a.drawing_is
      ∙ held_given (drawing_of (records_of file))
      ∙ drawing_bits file b a.verdict_is

  pub accepted_again : All Byte file → (d : List ℕ) → save_given (given_in r) d ≡ save_again file d
  accepted_again b d =
      given_saved (given_in r) d (fitting_true (given_in r) (subst (λ (r : Drawing). Fitting (given_in r)) (sym a.drawing_is) (held_fitting (drawing_of (records_of file)))))
      ∙ ap (λ (s : Sketch). save s d) (read_sketch b)
      ∙ save_cleaned (sketch_of (records_of file)) d
      ∙ sym (again_saved file d a.verdict_is)

-- ---- of one that it refuses

pub refused_again : (file d : List ℕ) (r : Refusal) → Refused file r → ◌≡◌ {A = Saved} (record { answer = refusal (number_of r); destination = d }) (save_again file d)
refused_again file d r h = sym (again_refused file d (number_of r) h)

pub writes_cleaned : (file d : List ℕ) → All Byte file → (r : Result ℕ Refusal) (after : List ℕ) → saved_from r after ≡ save_again file d → WritesCleaned r file d after
writes_cleaned file d b (Err k) after s = tt
writes_cleaned file d b (Ok n) after s =
    let o = again_only file d b n (sym (ap (λ (t : Saved). t.answer) s)) in
    let is = ap (λ (t : Saved). t.destination) s ∙ o.1 in
    (o.0, is, λ p. is ∙ ap (λ (l : List ℕ). in_front l d) (o.2 p))
