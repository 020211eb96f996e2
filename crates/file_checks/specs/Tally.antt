-- Checks 3, 4 and 6 from one pass over the heads of a file's records.
use Rattle.std.specs.Prelude.{ℕ, ◌+◌, ◌/◌, ◌%◌, List, [], ◌∷◌, map, Bool, true, false, ◌&&◌, length, eqb}
use Rattle.limits.specs.Limits.{settings_size, point_size, link_size}
use Rattle.drawing_spec.specs.Read.{Record, total}
use Rattle.file_records.specs.declared.Kind.{Kind}
use Rattle.file_records.specs.declared.Kind.TheVariants as kind
use Rattle.file_records.specs.Kind.{kind_of}
use Rattle.file_checks.specs.declared.Order.{Order}
use Rattle.file_checks.specs.declared.Order.TheVariants.{Settings, Lines, Links, Broken}
use Rattle.file_checks.specs.declared.Tally.{Tally}

-- ---- what the code computes

abbrev pub after : Order → Kind → Order
after Settings kind.Settings = Lines
after Lines kind.Line = Lines
after Lines kind.Link = Links
after Links kind.Link = Links
after _ _ = Broken

-- check 3 for each case of `Order`, at the end of the file
abbrev pub order_fits : Order → Bool
order_fits Settings = false
order_fits Lines = true
order_fits Links = true
order_fits Broken = false

abbrev pub length_fits : Kind → ℕ → Bool
length_fits kind.Settings n = eqb n settings_size
length_fits kind.Line n = eqb (n % point_size) 0
length_fits kind.Link n = eqb n link_size
length_fits kind.Other n = true

-- what a record of a kind adds to the lines, to the points and to the links
abbrev pub lines_in : Kind → ℕ
lines_in kind.Settings = 0
lines_in kind.Line = 1
lines_in kind.Link = 0
lines_in kind.Other = 0

abbrev pub points_of : Kind → ℕ → ℕ
points_of kind.Settings n = 0
points_of kind.Line n = n / point_size
points_of kind.Link n = 0
points_of kind.Other n = 0

abbrev pub links_in : Kind → ℕ
links_in kind.Settings = 0
links_in kind.Line = 0
links_in kind.Link = 1
links_in kind.Other = 0

unfoldable pub counted_as : Tally → Kind → ℕ → Tally
counted_as t k n = record {
  order = after t.order k;
  lengths = t.lengths && length_fits k n;
  lines = t.lines + lines_in k;
  points = t.points + points_of k n;
  links = t.links + links_in k;
}

unfoldable pub tallied : List Record → Tally → Tally
tallied [] t = t
tallied (r ∷ rs) t = tallied rs (counted_as t (kind_of r.kind) (length r.body))

abbrev pub no_tally : Tally
no_tally = record { order = Settings; lengths = true; lines = 0; points = 0; links = 0 }

-- the points that a line's body has room for
abbrev pub points_in : List (List ℕ) → ℕ
points_in bs = total (map (λ (b : List ℕ). length b / point_size) bs)
