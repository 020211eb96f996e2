-- What a record read holds: the code's types, from the values that document 01's definitions give.
use Rattle.std.specs.Prelude.{ℕ, ◌/◌, ◌%◌, ◌≡◌, List, Bool, cond, length, eqb, leb}
use Rattle.std.specs.Float.{binary64}
use Rattle.std.specs.Float.Ieee.{to_bits}
use Rattle.limits.specs.Limits.{kind_settings, kind_line, kind_link, settings_size, point_size, link_size}
use Rattle.grid.specs.Grid.{minus_zero, coordinate}
use Rattle.drawing_spec.specs.Drawing as drawn
use Rattle.drawing_spec.specs.Read.{settings_of, link_of}
use Rattle.file_records.specs.declared.Settings.{Settings}
use Rattle.file_records.specs.declared.Point.{Point}
use Rattle.file_records.specs.declared.MstEdge.{MstEdge}
use Rattle.file_records.specs.declared.Body.{Body}
use Rattle.file_records.specs.declared.Body.TheVariants as body
use Rattle.file_records.specs.declared.Record.{Record}
use Rattle.file_records.specs.Walk.{size_at, kind_at, body_at, next_at}

abbrev pub settings_from : drawn.Settings → Settings
settings_from s = record { width = s.width; height = s.height; pairing = s.pairing; flags = s.flags }

-- a point of a link is held as floats: the coordinates at its places
abbrev pub point_from : drawn.Point → Point
point_from p = record { x = coordinate p.x; y = coordinate p.y }

abbrev pub edge_from : drawn.Link → MstEdge
edge_from l = record {
  poly_a = l.first.line;
  seg_a = l.first.segment;
  poly_b = l.second.line;
  seg_b = l.second.segment;
  point_a = point_from l.first.point;
  point_b = point_from l.second.point;
}

-- no float of the link is a minus zero
pub record EdgePlain (e : MstEdge) : Type 0 where
  pub ax : to_bits binary64 e.point_a.x ≡ minus_zero → ⊥
  pub ay : to_bits binary64 e.point_a.y ≡ minus_zero → ⊥
  pub bx : to_bits binary64 e.point_b.x ≡ minus_zero → ⊥
  pub by : to_bits binary64 e.point_b.y ≡ minus_zero → ⊥

-- document 01's values for each case of `Body`: of a record that stands whole in the file, by its kind and its length
unfoldable pub body_read : List ℕ → ℕ → Body
body_read file at =
    cond (eqb (kind_at file at) kind_settings) (cond (eqb (size_at file at) settings_size) (body.Settings (settings_from (settings_of (body_at file at)))) body.Other)
    (cond (eqb (kind_at file at) kind_line) (cond (eqb (size_at file at % point_size) 0) (body.Line (size_at file at / point_size)) body.Other)
    (cond (eqb (kind_at file at) kind_link) (cond (eqb (size_at file at) link_size) (body.Link (edge_from (link_of (body_at file at)))) body.Other) body.Other))

-- whether a record stands whole at a place
abbrev pub whole_at : List ℕ → ℕ → Bool
whole_at file at = leb (next_at file at) (length file)

-- the record read at a place, whatever stands there
unfoldable pub record_read : List ℕ → ℕ → Record
record_read file at = record { at = at; body = cond (whole_at file at) (body_read file at) body.Other }
