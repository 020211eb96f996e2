-- Minus zero is a zero: a sketch and a file with a plain zero in place of each minus zero, and what it is to have none.
use Rattle.std.specs.Prelude.{ℕ, zero, suc, ◌+◌, ◌/◌, ◌≡◌, List, [], ◌∷◌, ◌++◌, true, false, length, take, drop, replicate, eqb, leb}
use Rattle.grid.specs.Grid.{minus_zero, clean}
use Rattle.limits.specs.Limits.{head_size, kind_line, kind_link}
use Rattle.lists.specs.Members.{All}
use Rattle.drawing_spec.specs.Bytes.{number}
use Rattle.drawing_spec.specs.Drawing.{PointOf, LinkOf, Pattern, Sketch, over}
use Rattle.drawing_spec.specs.Read.{records_of, sketch_of}

-- ---- a sketch

abbrev pub clean_pattern : Pattern → Pattern
clean_pattern w = record { bits = clean w.bits }

unfoldable pub cleaned : Sketch → Sketch
unfolding clean over
cleaned s = over clean_pattern s

-- ---- the bytes of a file

-- eight bytes, and eight zeros for those of a minus zero
unfoldable pub cleaned_word : List ℕ → List ℕ
unfolding number
cleaned_word bs = elim (eqb (number 8 bs) minus_zero) [ true ↦ replicate 8 0 | false ↦ take 8 bs ]

-- n coordinates, and what stands behind them
unfoldable pub cleaned_words : ℕ → List ℕ → List ℕ
unfolding cleaned_word
cleaned_words zero bs = bs
cleaned_words (suc n) bs = cleaned_word bs ++ cleaned_words n (drop 8 bs)

abbrev pub cleaned_row : List ℕ → List ℕ
cleaned_row bs = cleaned_words (length bs / 8) bs

-- A line's body is a row of coordinates; a link's has one behind four numbers of two bytes. No other body has any.
unfoldable pub cleaned_body : ℕ → List ℕ → List ℕ
unfolding cleaned_words
cleaned_body kind body = elim (eqb kind kind_line) [
  | true ↦ cleaned_row body
  | false ↦ elim (eqb kind kind_link) [ true ↦ take 8 body ++ cleaned_row (drop 8 body) | false ↦ body ]
]

-- record by record, as `split` goes; n is at least the file's length
unfoldable pub cleaned_records : ℕ → List ℕ → List ℕ
unfolding number cleaned_body
cleaned_records zero bs = bs
cleaned_records (suc n) [] = []
cleaned_records (suc n) (b ∷ bs) =
    let file : List ℕ = b ∷ bs in
    let size = number 4 file in
    elim (leb (head_size + size) (length file)) [
      | false ↦ file
      | true ↦ take head_size file ++ cleaned_body (number 2 (drop 4 file)) (take size (drop head_size file)) ++ cleaned_records n (drop (head_size + size) file)
    ]

unfoldable pub cleaned_file : List ℕ → List ℕ
unfolding cleaned_records
cleaned_file file = cleaned_records (length file) file

-- ---- without minus zero

abbrev pub PointPlain : PointOf Pattern → Type 0
PointPlain p = (p.x.bits ≡ minus_zero → ⊥) × (p.y.bits ≡ minus_zero → ⊥)

pub record Plain (s : Sketch) : Type 0 where
  pub lines : All (All PointPlain) s.lines
  pub links : All (λ (l : LinkOf Pattern). PointPlain l.first.point × PointPlain l.second.point) s.links

-- No coordinate that is read in the file is a minus zero. It is asked of files that pass checks 2 and 4: in one that is cut nothing is read.
abbrev pub WithoutMinusZero : List ℕ → Type 0
WithoutMinusZero file = Plain (sketch_of (records_of file))
