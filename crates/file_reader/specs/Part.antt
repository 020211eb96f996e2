-- The body of a record as a part of the file, and the place behind it.
use Rattle.std.specs.Prelude.{ℕ, List, [], cond}
use Rattle.file_records.specs.Walk.{body_at, next_at}
use Rattle.file_records.specs.Body.{whole_at}

unfoldable pub body_part : List ℕ → ℕ → List ℕ
body_part file at = cond (whole_at file at) (body_at file at) []

-- where no record stands whole, the place itself
unfoldable pub behind_at : List ℕ → ℕ → ℕ
behind_at file at = cond (whole_at file at) (next_at file at) at
