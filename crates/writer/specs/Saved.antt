-- The writer's answer.
use Rattle.std.specs.Prelude.{ℕ, List, take, Result, Ok, Err}
use Rattle.limits.specs.declared.Refusal.{Refusal}
use Rattle.limits.specs.Refused.{number_of}
use Rattle.drawing_spec.specs.Drawing.{Sketch}
use Rattle.writer_spec.specs.Save as write
use Rattle.writer_spec.specs.OneFile.{OneFile}

-- the number of the condition that holds, and 0 where none does
abbrev pub number_or_none : Result (Unit {0}) Refusal → ℕ
number_or_none (Ok _) = 0
number_or_none (Err r) = number_of r

-- the definitions' answer for each case of the result, and the destination after the call
abbrev pub saved_from : Result ℕ Refusal → List ℕ → write.Saved
saved_from (Err r) d = record { answer = write.refusal (number_of r); destination = d }
saved_from (Ok n) d = record { answer = write.written n; destination = d }

-- What is written, at the front of the destination, is the one file without minus zero that reads back as the sketch; of a refusal nothing is said.
abbrev pub WritesOne : Result ℕ Refusal → Sketch → List ℕ → Type 0
WritesOne (Err r) s d = Unit
WritesOne (Ok n) s d = OneFile s (take n d)
