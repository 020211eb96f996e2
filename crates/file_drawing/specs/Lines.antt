-- The lines of a file, read one after another into flat arrays.
use Rattle.std.specs.Prelude.{ℕ, ◌≤◌, ◌≡◌, List, map, true, false, length}
use Rattle.std.proofs.lemmas.List.Edits.{sets}
use Rattle.limits.specs.Limits.{kind_line, kind_link, most_lines, most_points}
use Rattle.drawing_spec.specs.Drawing.{Point, line_points}
use Rattle.drawing_spec.specs.Read.{points_of_line, bodies, lines_then_links, lengths_fit, all_links}
use Rattle.file_records.specs.Walk.{records_from, cut_from}
use Rattle.file_checks.specs.Tally.{points_in}
use Rattle.file_drawing.specs.Stores.{xs_of, ys_of, ends_from}

-- ---- the lines from a place on

abbrev pub lines_from : List ℕ → ℕ → List (List Point)
lines_from file at = map points_of_line (bodies kind_line (records_from file at))

-- lines and then links from a place on, so many lines and no more points than there is room for
pub record AtLines (file : List ℕ) (at count : ℕ) : Type 0 where
  pub inside : at ≤ length file
  pub is_whole : cut_from file at ≡ false
  pub in_order : lines_then_links (records_from file at) ≡ true
  pub lengths_fit_known : lengths_fit (records_from file at) ≡ true
  pub counted : length (bodies kind_line (records_from file at)) ≡ count
  pub few_lines : count ≤ most_lines
  pub few_points : points_in (bodies kind_line (records_from file at)) ≤ most_points

-- the arrays that lines are read into
pub record Arrays : Type 0 where
  pub starts : List ℕ
  pub xs : List ℕ
  pub ys : List ℕ

abbrev pub arrays : List ℕ → List ℕ → List ℕ → Arrays
arrays starts xs ys = record { starts = starts; xs = xs; ys = ys }

-- the lines in the arrays, with what was there behind them, and the place where the links start
pub record LinesRead (file : List ℕ) (start : ℕ) (a b : Arrays) (end : ℕ) : Type 0 where
  pub starts_are : b.starts ≡ sets a.starts 1 (ends_from 0 (lines_from file start))
  pub xs_are : b.xs ≡ sets a.xs 0 (xs_of (line_points (lines_from file start)))
  pub ys_are : b.ys ≡ sets a.ys 0 (ys_of (line_points (lines_from file start)))
  pub end_inside : end ≤ length file
  pub end_whole : cut_from file end ≡ false
  pub links_left : all_links (records_from file end) ≡ true
  pub end_lengths : lengths_fit (records_from file end) ≡ true
  pub same_links : bodies kind_link (records_from file end) ≡ bodies kind_link (records_from file start)
