-- What is written for a sketch with minus zeros, and for a file: the file, cleaned.
use mathlib.Core.Path.{◌≡◌, refl, sym, ap, ◌∙◌}
use mathlib.Core.List.{List, [], ◌∷◌, ◌++◌, map}
use mathlib.Core.Bool.{Bool, true, false}
use Prim.Native.Nat.{ℕ, zero, suc, ◌+◌, ◌/◌}
use native.Mathlib.Omega.{arith}
use lib.ListN.{length, take, drop, replicate}
use lib.Dec.{eqb, leb}
use Rattle.grid.specs.Grid.{minus_zero, clean}
use Rattle.grid.proofs.Back.{clean_true, clean_false}
use Rattle.limits.specs.Limits.{kind_line, kind_link}
use Rattle.lists.specs.Members.{All}
use Rattle.lists.proofs.Members.{all_append, all_take, all_drop}
use Rattle.drawing_spec.specs.Bytes.{number}
use Rattle.drawing_spec.specs.Drawing.{PointOf, LinkOf, Pattern, Sketch, over_point, over_link, over}
use Rattle.drawing_spec.specs.Refusal.{accepted, verdict}
use Rattle.drawing_spec.specs.Read.{records_of, sketch_of, drawing_of, read_conditions}
use Rattle.drawing_spec.specs.Cleaned.{clean_pattern, cleaned, cleaned_word, cleaned_words, cleaned_body, cleaned_records, cleaned_file, WithoutMinusZero}
use Rattle.drawing_spec.proofs.Accepted.{accepted_passes}
use Rattle.drawing_spec.proofs.Cleaned.{plain_cleaned}
use Rattle.drawing_spec.proofs.CleanedFile.{cleaned_sketch, cleaned_verdict, records_taken}
use Rattle.writer_spec.specs.File.{file_of}
use Rattle.writer_spec.specs.Save.{saved_file}
use Rattle.writer_spec.specs.OneFile.{Byte, Word, PointHeld, Patterned}
use Rattle.writer_spec.proofs.Again.{records_again, read_written}
use Rattle.writer_spec.proofs.Words.{file_patterned}
use Rattle.writer_spec.proofs.SameBits.{bits_at, same_bits}

-- ---- a cleaned coordinate has 64 bits too

clean_word : (b : ℕ) → Word b → Word (clean b)
clean_word b h = go (eqb b minus_zero) refl
  where
    go : (t : Bool) → eqb b minus_zero ≡ t → Word (clean b)
    go true e = let z = clean_true b e in omega arith
    go false e = let z = clean_false b e in omega arith

point_held : (p : PointOf Pattern) → PointHeld p → PointHeld (over_point clean_pattern p)
point_held p h = (clean_word p.x.bits h.0, clean_word p.y.bits h.1)

points_held : (l : List (PointOf Pattern)) → All PointHeld l → All PointHeld (map (over_point clean_pattern) l)
points_held [] a = tt
points_held (p ∷ l) a = (point_held p a.0, points_held l a.1)

lines_held : (ls : List (List (PointOf Pattern))) → All (All PointHeld) ls → All (All PointHeld) (map (map (over_point clean_pattern)) ls)
lines_held [] a = tt
lines_held (l ∷ ls) a = (points_held l a.0, lines_held ls a.1)

links_held : (ks : List (LinkOf Pattern)) → All (λ (l : LinkOf Pattern). PointHeld l.first.point × PointHeld l.second.point) ks
    → All (λ (l : LinkOf Pattern). PointHeld l.first.point × PointHeld l.second.point) (map (over_link clean_pattern) ks)
links_held [] a = tt
links_held (k ∷ ks) a = ((point_held k.first.point a.0.0, point_held k.second.point a.0.1), links_held ks a.1)

pub cleaned_patterned : (s : Sketch) → Patterned s → Patterned (cleaned s)
unfolding cleaned
cleaned_patterned s p = record { lines = lines_held s.lines p.lines; links = links_held s.links p.links }

-- ---- the bytes of a cleaned file are bytes

word_bytes : (bs : List ℕ) → All Byte bs → All Byte (cleaned_word bs)
unfolding cleaned_word
word_bytes bs a = go (eqb (number 8 bs) minus_zero)
  where
    zeros : (n : ℕ) → All Byte (replicate n 0)
    zeros zero = tt
    zeros (suc n) = (omega arith, zeros n)

    go : (t : Bool) → All Byte (elim t [ true ↦ replicate 8 0 | false ↦ take 8 bs ])
    go true = zeros 8
    go false = all_take Byte 8 bs a

words_bytes : (n : ℕ) (bs : List ℕ) → All Byte bs → All Byte (cleaned_words n bs)
unfolding cleaned_words
words_bytes zero bs a = a
words_bytes (suc n) bs a = all_append Byte (cleaned_word bs) (cleaned_words n (drop 8 bs)) (word_bytes bs a) (words_bytes n (drop 8 bs) (all_drop Byte 8 bs a))

body_bytes : (kind : ℕ) (bs : List ℕ) → All Byte bs → All Byte (cleaned_body kind bs)
unfolding cleaned_body
body_bytes kind bs a = go (eqb kind kind_line) (eqb kind kind_link)
  where
    row : List ℕ
    row = cleaned_words (length (drop 8 bs) / 8) (drop 8 bs)

    go : (t u : Bool) → All Byte (elim t [ true ↦ cleaned_words (length bs / 8) bs | false ↦ elim u [ true ↦ take 8 bs ++ cleaned_words (length (drop 8 bs) / 8) (drop 8 bs) | false ↦ bs ] ])
    go true u = words_bytes (length bs / 8) bs a
    go false true = all_append Byte (take 8 bs) row (all_take Byte 8 bs a) (words_bytes (length (drop 8 bs) / 8) (drop 8 bs) (all_drop Byte 8 bs a))
    go false false = a

records_bytes : (n : ℕ) (bs : List ℕ) → All Byte bs → All Byte (cleaned_records n bs)
unfolding cleaned_records
records_bytes zero bs a = a
records_bytes (suc n) [] a = tt
records_bytes (suc n) (b ∷ bs) a = go (leb (6 + number 4 (b ∷ bs)) (length (b ∷ bs))) (records_bytes n (drop (6 + number 4 (b ∷ bs)) (b ∷ bs)) (all_drop Byte (6 + number 4 (b ∷ bs)) (b ∷ bs) a))
  where
    file : List ℕ
    file = b ∷ bs

    body : List ℕ
    body = cleaned_body (number 2 (drop 4 file)) (take (number 4 file) (drop 6 file))

    go : (t : Bool) → All Byte (cleaned_records n (drop (6 + number 4 file) file)) → All Byte (elim t [ false ↦ file | true ↦ take 6 file ++ body ++ cleaned_records n (drop (6 + number 4 file) file) ])
    go false later = a
    go true later =
        all_append Byte (take 6 file ++ body) (cleaned_records n (drop (6 + number 4 file) file))
        (all_append Byte (take 6 file) body (all_take Byte 6 file a) (body_bytes (number 2 (drop 4 file)) (take (number 4 file) (drop 6 file)) (all_take Byte (number 4 file) (drop 6 file) (all_drop Byte 6 file a))))
        later

cleaned_bytes : (file : List ℕ) → All Byte file → All Byte (cleaned_file file)
unfolding cleaned_file
cleaned_bytes file a = records_bytes (length file) file a

-- ---- a file that the reader takes, written again

module _ (file : List ℕ) (b : All Byte file) (e : verdict (read_conditions file) ≡ accepted) where
  -- it is the cleaned file,
  pub cleaned_written : saved_file (sketch_of (records_of file)) ≡ cleaned_file file
  unfolding saved_file
  cleaned_written = sym (ap file_of (cleaned_sketch file (records_taken file e))) ∙ read_written (cleaned_file file) (cleaned_bytes file b) (cleaned_verdict file ∙ e)

  -- and so itself where it has no minus zero
  pub plain_written : WithoutMinusZero file → cleaned_file file ≡ file
  unfolding saved_file
  plain_written p = sym cleaned_written ∙ ap file_of (plain_cleaned (sketch_of (records_of file)) p) ∙ read_written file b e

  -- the drawing that is read says the cleaned sketch
  pub drawing_bits : over bits_at (drawing_of (records_of file)) ≡ cleaned (sketch_of (records_of file))
  unfolding drawing_of
  drawing_bits =
      let p = accepted_passes file e in
      same_bits (sketch_of (records_of file)) (file_patterned (records_of file) (records_again file p.is_whole b).bodies_are) p.on_grid
