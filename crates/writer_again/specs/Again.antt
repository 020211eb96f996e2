-- What is written for a file.
use Rattle.std.specs.Prelude.{ℕ, ◌≡◌, List, length, Result, Ok, Err}
use Rattle.drawing_spec.specs.Bytes.{in_front}
use Rattle.drawing_spec.specs.Cleaned.{cleaned_file, WithoutMinusZero}
use Rattle.limits.specs.declared.Refusal.{Refusal}

-- The cleaned file, at the front of the destination, whose later bytes keep their value; and so the file itself where it has no minus zero. Of a refusal nothing is said.
abbrev pub WritesCleaned : Result ℕ Refusal → List ℕ → List ℕ → List ℕ → Type 0
WritesCleaned (Err r) file before after = Unit
WritesCleaned (Ok n) file before after = (n ≡ length file) × (after ≡ in_front (cleaned_file file) before) × (WithoutMinusZero file → after ≡ in_front file before)
