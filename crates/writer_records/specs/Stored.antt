-- What is stored, by the lists that are handed in: numbers of one width, one behind the other, and records made of them. That it is the file is in proofs/FileLaws.
use Rattle.std.specs.Prelude.{ℕ, zero, suc, ◌+◌, ◌*◌, ◌/◌, ◌≤◌, List, [], ◌∷◌, ◌++◌, map, ◌≡◌, length, take, drop}
use Rattle.std.proofs.lemmas.List.Edits.{sets}
use Rattle.grid.specs.Grid.{clean}
use Rattle.drawing_spec.specs.Read.{total}
use Rattle.writer_spec.specs.Given.{Given}
use Rattle.limits.specs.Limits.{kind_line, kind_link, head_size, settings_size, point_size, link_size}
use Rattle.drawing_spec.specs.Bytes.{bytes}

unfoldable pub numbers_bytes : ℕ → List ℕ → List ℕ
numbers_bytes n [] = []
numbers_bytes n (v ∷ vs) = bytes n v ++ numbers_bytes n vs

-- so many numbers of a list from a place on
abbrev pub part : List ℕ → ℕ → ℕ → List ℕ
part vs from count = take count (drop from vs)

-- coordinates, with plain zero for minus zero
abbrev pub coordinates_stored : List ℕ → ℕ → ℕ → List ℕ
coordinates_stored words from count = numbers_bytes 8 (part (map clean words) from count)

-- a record's head, a line's record and a link's, by the numbers from a place on
abbrev pub head_bytes : ℕ → ℕ → List ℕ
head_bytes size kind = bytes 4 size ++ bytes 2 kind

unfoldable pub line_stored : List ℕ → ℕ → ℕ → List ℕ
line_stored words from points = head_bytes (point_size * points) kind_line ++ coordinates_stored words from (2 * points)

unfoldable pub link_stored : List ℕ → List ℕ → ℕ → List ℕ
link_stored segments words from = head_bytes link_size kind_link ++ numbers_bytes 2 (part segments from 4) ++ coordinates_stored words from 4

-- ---- all lines, from a place among the coordinates on

unfoldable pub lines_stored : List ℕ → List ℕ → ℕ → List ℕ
lines_stored [] words from = []
lines_stored (n ∷ ns) words from = line_stored words from n ++ lines_stored ns words (from + 2 * n)

unfoldable pub lines_size : List ℕ → ℕ
lines_size [] = 0
lines_size (n ∷ ns) = (head_size + point_size * n) + lines_size ns

pub record LinesRoom (d : List ℕ) (at : ℕ) (sizes words : List ℕ) : Type 0 where
  pub room : at + lines_size sizes ≤ length d
  pub inside : 2 * total sizes ≤ length words

pub record LinesPut (d : List ℕ) (at : ℕ) (sizes words d' : List ℕ) (end : ℕ) : Type 0 where
  pub is : d' ≡ sets d at (lines_stored sizes words 0)
  pub behind : end ≡ at + lines_size sizes

-- ---- so many links, from a place among their numbers and their coordinates on

unfoldable pub links_stored : ℕ → List ℕ → List ℕ → ℕ → List ℕ
links_stored zero segments words from = []
links_stored (suc k) segments words from = link_stored segments words from ++ links_stored k segments words (from + 4)

pub record LinksRoom (d : List ℕ) (at : ℕ) (segments words : List ℕ) : Type 0 where
  pub room : at + (head_size + link_size) * (length segments / 4) ≤ length d
  pub inside : 4 * (length segments / 4) ≤ length words

-- ---- a whole file

pub record FileRoom (d : List ℕ) (g : Given) : Type 0 where
  pub room : head_size + settings_size + (lines_size g.sizes + (head_size + link_size) * (length g.segments / 4)) ≤ length d
  pub points_in_known : 2 * total g.sizes ≤ length g.coordinates
  pub links_in_known : 4 * (length g.segments / 4) ≤ length g.ends
