-- The one file without minus zero that reads back as a sketch.
use Rattle.std.specs.Prelude.{ℕ, ◌<◌, ◌^◌, ◌≡◌, List}
use Rattle.lists.specs.Members.{All}
use Rattle.drawing_spec.specs.Drawing.{PointOf, Settings, EndOf, LinkOf, Pattern, Sketch, over}
use Rattle.drawing_spec.specs.Refusal.{accepted, verdict}
use Rattle.drawing_spec.specs.Read.{placed, records_of, sketch_of, drawing_of, read_conditions}
use Rattle.drawing_spec.specs.Cleaned.{cleaned, cleaned_file, WithoutMinusZero}

abbrev pub Byte : ℕ → Type 0
Byte b = b < 256

-- 64 bits
abbrev pub Word : ℕ → Type 0
Word w = w < 256 ^ 8

-- the reader takes these bytes, and what it reads is the drawing that the sketch is
pub record ReadsAs (s : Sketch) (file : List ℕ) : Type 0 where
  pub in_bytes : All Byte file
  pub taken : verdict (read_conditions file) ≡ accepted
  pub same : drawing_of (records_of file) ≡ over placed s

-- Of the files without minus zero, the reader takes this one and no other as the sketch.
pub record OneFile (s : Sketch) (file : List ℕ) : Type 0 where
  pub reads : ReadsAs s file
  pub plain : WithoutMinusZero file
  pub only : (other : List ℕ) → WithoutMinusZero other → ReadsAs s other → other ≡ file
  -- whatever file it takes as the sketch, cleaned it is this one
  pub only_cleaned : (other : List ℕ) → ReadsAs s other → cleaned_file other ≡ file
  -- and this one holds the sketch's own bits, with plain zero for minus zero
  pub bits : sketch_of (records_of file) ≡ cleaned s

-- ---- numbers of the width that a file has for them

pub record SettingsHeld (s : Settings) : Type 0 where
  pub width : s.width < 256 ^ 4
  pub height : s.height < 256 ^ 4
  pub pairing : s.pairing < 256 ^ 1
  pub flags : s.flags < 256 ^ 1

abbrev pub PointHeld : PointOf Pattern → Type 0
PointHeld p = Word p.x.bits × Word p.y.bits

pub record EndHeld (e : EndOf Pattern) : Type 0 where
  pub line : e.line < 256 ^ 2
  pub segment : e.segment < 256 ^ 2
  pub point : PointHeld e.point

pub record LinkHeld (l : LinkOf Pattern) : Type 0 where
  pub first : EndHeld l.first
  pub second : EndHeld l.second

pub record Held (s : Sketch) : Type 0 where
  pub settings : SettingsHeld s.settings
  pub lines : All (All PointHeld) s.lines
  pub links : All LinkHeld s.links

-- The same of the coordinates alone, which are 64 bits each; that the other numbers fit follows from the checks (proofs/Widths: `taken_held`).
pub record Patterned (s : Sketch) : Type 0 where
  pub lines : All (All PointHeld) s.lines
  pub links : All (λ (l : LinkOf Pattern). PointHeld l.first.point × PointHeld l.second.point) s.links
