-- The file of a sketch: its records, one after the other. Each body is what `drawing_spec` reads in a body of its kind.
use Rattle.std.specs.Prelude.{ℕ, List, [], ◌∷◌, ◌++◌, map, length}
use Rattle.limits.specs.Limits.{kind_settings, kind_line, kind_link}
use Rattle.drawing_spec.specs.Bytes.{bytes}
use Rattle.drawing_spec.specs.Drawing.{PointOf, Settings, LinkOf, Pattern, Sketch}
use Rattle.drawing_spec.specs.Read.{Record}

-- ---- a record: a 4-byte body length, a 2-byte kind, the body; and one record after the other

unfoldable pub record_bytes : Record → List ℕ
unfolding bytes
record_bytes r = bytes 4 (length r.body) ++ bytes 2 r.kind ++ r.body

unfoldable pub joined : List Record → List ℕ
unfolding record_bytes
joined [] = []
joined (r ∷ rs) = record_bytes r ++ joined rs

-- ---- the bodies

unfoldable pub settings_bytes : Settings → List ℕ
unfolding bytes
settings_bytes s = bytes 4 s.width ++ bytes 4 s.height ++ bytes 1 s.pairing ++ bytes 1 s.flags

unfoldable pub spot_bytes : PointOf Pattern → List ℕ
unfolding bytes
spot_bytes p = bytes 8 p.x.bits ++ bytes 8 p.y.bits

unfoldable pub line_bytes : List (PointOf Pattern) → List ℕ
unfolding spot_bytes
line_bytes [] = []
line_bytes (p ∷ ps) = spot_bytes p ++ line_bytes ps

unfoldable pub link_bytes : LinkOf Pattern → List ℕ
unfolding bytes spot_bytes
link_bytes l =
    bytes 2 l.first.line ++ bytes 2 l.first.segment ++ bytes 2 l.second.line ++ bytes 2 l.second.segment ++ spot_bytes l.first.point ++ spot_bytes l.second.point

-- ---- the records of a sketch, and its file

abbrev pub settings_as_record : Settings → Record
settings_as_record s = record { kind = kind_settings; body = settings_bytes s }

abbrev pub line_as_record : List (PointOf Pattern) → Record
line_as_record l = record { kind = kind_line; body = line_bytes l }

abbrev pub link_as_record : LinkOf Pattern → Record
link_as_record l = record { kind = kind_link; body = link_bytes l }

unfoldable pub records_for : Sketch → List Record
unfolding settings_bytes line_bytes link_bytes
records_for s = settings_as_record s.settings ∷ map line_as_record s.lines ++ map link_as_record s.links

unfoldable pub file_of : Sketch → List ℕ
unfolding joined records_for
file_of s = joined (records_for s)
