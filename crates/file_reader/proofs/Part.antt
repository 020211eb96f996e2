-- Laws of specs/Part.
use Prim.Native.Nat.{ℕ, ◌+◌, ◌-◌, ◌≤◌, ◌<◌}
use native.Mathlib.Omega.{arith}
use mathlib.Core.Path.{◌≡◌, refl, sym, ap, ◌∙◌}
use mathlib.Core.List.{List, []}
use mathlib.Core.Bool.{Bool, true, false}
use lib.ListN.{length, take, drop}
use borrow.Author.Tests.{leb-true, le-leb}
use Rattle.file_records.specs.Walk.{size_at, body_at, next_at, cut_from}
use Rattle.file_records.proofs.Walk.{room}
use Rattle.file_records.specs.Body.{whole_at}
use Rattle.file_reader.specs.Part.{body_part, behind_at}

-- ---- what a test for a whole record tells. Assumes nothing.

module _ (file : List ℕ) (at : ℕ) (t : Bool) (w : t ≡ whole_at file at) where
  pub within : t ≡ true → next_at file at ≤ length file
  within e = leb-true (next_at file at) (length file) (sym w ∙ e)

  pub part_whole : (n : ℕ) → t ≡ true → n ≡ size_at file at → take (at + 6 + n - (at + 6)) (drop (at + 6) file) ≡ body_part file at
  unfolding body_part
  part_whole n e i =
      let m : at + 6 + n - (at + 6) ≡ size_at file at = omega arith in
      rw (sym w ∙ e, m)

  pub part_none : t ≡ false → [] ≡ body_part file at
  unfolding body_part
  part_none e = rw (sym w ∙ e)

  pub behind_next : t ≡ true → behind_at file at ≡ next_at file at
  unfolding behind_at
  behind_next e = rw (sym w ∙ e)

  pub behind_whole : (n : ℕ) → t ≡ true → n ≡ size_at file at → at + (6 + n) ≡ behind_at file at
  behind_whole n e i = ap (λ (m : ℕ). at + (6 + m)) i ∙ sym (behind_next e)

  pub behind_none : t ≡ false → at ≡ behind_at file at
  unfolding behind_at
  behind_none e = rw (sym w ∙ e)

-- ---- in a file that is not cut every record stands whole: the part is its body, and behind it the next record stands

module _ (file : List ℕ) (at : ℕ) (h : at < length file) (w : cut_from file at ≡ false) where
  is_whole : whole_at file at ≡ true
  is_whole = le-leb (next_at file at) (length file) (room file at h w)

  pub part_is : body_part file at ≡ body_at file at
  unfolding body_part
  part_is = rw is_whole

  pub behind_is : behind_at file at ≡ next_at file at
  behind_is = behind_next file at true (sym is_whole) refl
