-- What the writer refuses: what the reader would, in the reader's order, and last a destination that is too short. What it answers, and the destination afterwards.
use Rattle.std.specs.Prelude.{ℕ, List, [], ◌∷◌, ◌++◌, length, ltb}
use Rattle.limits.specs.Limits.{refused_destination}
use Rattle.drawing_spec.specs.Bytes.{in_front}
use Rattle.drawing_spec.specs.Drawing.{Sketch}
use Rattle.drawing_spec.specs.Refusal.{Condition, condition, Verdict, refused, accepted, verdict}
use Rattle.drawing_spec.specs.Read.{records_of, sketch_of, record_conditions, sketch_conditions}
use Rattle.drawing_spec.specs.Cleaned.{cleaned}
use Rattle.writer_spec.specs.File.{file_of}

-- what is saved: the file of the sketch with a plain zero for each minus zero
unfoldable pub saved_file : Sketch → List ℕ
unfolding file_of cleaned
saved_file s = file_of (cleaned s)

-- ---- the conditions: 5, 6, 15, 7, 8, then 16

-- room is the destination's length
unfoldable pub write_conditions : Sketch → ℕ → List Condition
unfolding sketch_conditions saved_file
write_conditions s room = sketch_conditions s ++ condition refused_destination (ltb room (length (saved_file s))) ∷ []

-- ---- the answer, and the destination afterwards

pub data Answer : Type 0 where
  refusal : ℕ → Answer
  -- how many bytes the file has
  written : ℕ → Answer

pub record Saved : Type 0 where
  pub answer : Answer
  pub destination : List ℕ

-- Refused, the destination keeps all its bytes; otherwise it holds the file, and its later bytes keep their value.
unfoldable pub answered : Sketch → List ℕ → Verdict → Saved
unfolding saved_file
answered s destination (refused n) = record { answer = refusal n; destination = destination }
answered s destination accepted = record { answer = written (length (saved_file s)); destination = in_front (saved_file s) destination }

unfoldable pub save : Sketch → List ℕ → Saved
unfolding verdict write_conditions answered
save s destination = answered s destination (verdict (write_conditions s (length destination)))

-- ---- a file read and saved again: refused as the reader would, and otherwise what was read is saved

unfoldable pub save_again : List ℕ → List ℕ → Saved
unfolding verdict record_conditions sketch_of records_of write_conditions answered
save_again file destination =
    let s = sketch_of (records_of file) in
    answered s destination (verdict (record_conditions file ++ write_conditions s (length destination)))
