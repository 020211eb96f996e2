-- Check 14, and the record.
use Rattle.std.specs.Prelude.{List, Bool, true, false, ℕ, ◌+◌, ◌*◌, length, ltb, Option, Some, None}
use Rattle.planner_spec.specs.LineRecord.{line_record}
use Rattle.drawing_spec.specs.Bytes.{in_front}
use Rattle.drawing_spec.specs.Drawing.{Point}

-- whether the output is too short for a line of so many points: check 14
abbrev pub short : List ℕ → ℕ → Bool
short output points = ltb (length output) (6 + 16 * points)

-- by that test: the answer to a line, and the output with it
abbrev pub emitted_by : Bool → ℕ → Option ℕ
emitted_by true points = None
emitted_by false points = Some points

abbrev pub output_by : Bool → List ℕ → List Point → List ℕ
output_by true output line = output
output_by false output line = in_front (line_record line) output

abbrev pub emitted_of : List ℕ → List Point → Option ℕ
emitted_of output line = emitted_by (short output (length line)) (length line)

abbrev pub output_with : List ℕ → List Point → List ℕ
output_with output line = output_by (short output (length line)) output line
