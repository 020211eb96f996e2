-- Reading a drawing file. Each check of document 01 covers the whole file before the next, and the first condition that holds gives its number.
use Rattle.std.specs.Prelude.{ℕ, zero, suc, ◌+◌, ◌-◌, ◌/◌, ◌%◌, List, [], ◌∷◌, ◌++◌, map, Bool, true, false, ◌&&◌, ◌||◌, not, length, get_or, take, drop, eqb, leb, ltb}
use Rattle.grid.specs.Grid.{read_place, read_on_grid, place_at, on_grid}
use Rattle.limits.specs.Limits.{head_size, kind_settings, kind_line, kind_link, settings_size, point_size, link_size}
use Rattle.limits.specs.Limits.{most_bytes, most_side, most_pairing, most_flags, most_lines, most_points, most_links}
use Rattle.limits.specs.Limits.{refused_bytes, refused_cut, refused_kinds, refused_lengths, refused_settings, refused_counts, refused_own_links, refused_coordinates, refused_links}
use Rattle.drawing_spec.specs.Bytes.{number}
use Rattle.drawing_spec.specs.Refusal.{Condition, condition}
use Rattle.drawing_spec.specs.Drawing.{PointOf, Point, Settings, EndOf, LinkOf, DrawingOf, Link, Pattern, Sketch, Drawing, linking, over_point, over_link, over}

-- ---- records: a 4-byte body length, a 2-byte kind, the body

pub record Record : Type 0 where
  pub kind : ℕ
  pub body : List ℕ

-- the file's records, or that one of them passes its end
pub data Split : Type 0 where
  whole : List Record → Split
  cut : Split

unfoldable pub before : Record → Split → Split
before r (whole rs) = whole (r ∷ rs)
before r cut = cut

-- A head has 6 bytes, so a file has at most as many records as bytes: n is at least the file's length.
unfoldable pub split : ℕ → List ℕ → Split
unfolding number before
split zero bs = whole []
split (suc n) [] = whole []
split (suc n) (b ∷ bs) =
    let file : List ℕ = b ∷ bs in
    let size = number 4 file in
    elim (leb (head_size + size) (length file)) [
      | false ↦ cut
      | true ↦ before (record { kind = number 2 (drop 4 file); body = take size (drop head_size file) }) (split n (drop (head_size + size) file))
    ]

-- ---- what the bodies hold

-- the coordinate in the first 8 bytes
abbrev pub pattern : List ℕ → Pattern
pattern bs = record { bits = number 8 bs }

-- the point in the first 16 bytes, x then y
unfoldable pub spot : List ℕ → PointOf Pattern
unfolding number
spot bs = record { x = pattern bs; y = pattern (drop 8 bs) }

-- n points
unfoldable pub spots : ℕ → List ℕ → List (PointOf Pattern)
unfolding spot
spots zero bs = []
spots (suc n) bs = spot bs ∷ spots n (drop point_size bs)

unfoldable pub settings_of : List ℕ → Settings
unfolding number
settings_of bs = record { width = number 4 bs; height = number 4 (drop 4 bs); pairing = number 1 (drop 8 bs); flags = number 1 (drop 9 bs) }

unfoldable pub spots_of_line : List ℕ → List (PointOf Pattern)
unfolding spots
spots_of_line bs = spots (length bs / point_size) bs

unfoldable pub sketched_link : List ℕ → LinkOf Pattern
unfolding number spot
sketched_link bs = record {
  first = record { line = number 2 bs; segment = number 2 (drop 2 bs); point = spot (drop 8 bs) };
  second = record { line = number 2 (drop 4 bs); segment = number 2 (drop 6 bs); point = spot (drop 24 bs) };
}

-- the bodies of one kind, in file order
unfoldable pub bodies : ℕ → List Record → List (List ℕ)
bodies k [] = []
bodies k (r ∷ rs) = elim (eqb r.kind k) [ true ↦ r.body ∷ bodies k rs | false ↦ bodies k rs ]

unfoldable pub sketch_of : List Record → Sketch
unfolding bodies settings_of spots_of_line sketched_link
sketch_of rs = record {
  settings = settings_of (get_or (bodies kind_settings rs) 0 []);
  lines = map spots_of_line (bodies kind_line rs);
  links = map sketched_link (bodies kind_link rs);
}

-- ---- what its coordinates mean

-- The place of a coordinate. One that is off the grid is nowhere, so a drawing has all its points on the grid just where check 7 passes (proofs/OnGrid: `on_grid_fits`).
abbrev pub placed : Pattern → ℕ
placed w = place_at (read_place w.bits)

-- the drawing of a file's records: its sketch with each coordinate placed
unfoldable pub drawing_of : List Record → Drawing
unfolding sketch_of over read_on_grid
drawing_of rs = over placed (sketch_of rs)

-- the same of one point, of n, of a line's body and of a link's
unfoldable pub point : List ℕ → Point
unfolding spot read_on_grid
point bs = over_point placed (spot bs)

unfoldable pub points : ℕ → List ℕ → List Point
unfolding spots read_on_grid
points n bs = map (over_point placed) (spots n bs)

unfoldable pub points_of_line : List ℕ → List Point
unfolding points
points_of_line bs = points (length bs / point_size) bs

unfoldable pub link_of : List ℕ → Link
unfolding sketched_link read_on_grid
link_of bs = over_link placed (sketched_link bs)

-- ---- the checks: what passes them

unfoldable pub every : {A : Type 0} → (A → Bool) → List A → Bool
every f [] = true
every f (x ∷ xs) = f x && every f xs

unfoldable pub total : List ℕ → ℕ
total [] = 0
total (n ∷ ns) = n + total ns

-- 3: one 1, then any 2s, then any 3s
abbrev pub all_links : List Record → Bool
all_links rs = every (λ (l : Record). eqb l.kind kind_link) rs

unfoldable pub lines_then_links : List Record → Bool
unfolding every
lines_then_links [] = true
lines_then_links (r ∷ rs) = (eqb r.kind kind_line && lines_then_links rs) || all_links (r ∷ rs)

unfoldable pub kinds_fit : List Record → Bool
unfolding lines_then_links
kinds_fit [] = false
kinds_fit (r ∷ rs) = eqb r.kind kind_settings && lines_then_links rs

-- 4: 10 bytes of settings, 16 bytes for each point of a line, 40 bytes of link
unfoldable pub lengths_fit : List Record → Bool
unfolding every bodies
lengths_fit rs =
    every (λ (b : List ℕ). eqb (length b) settings_size) (bodies kind_settings rs)
    && every (λ (b : List ℕ). eqb (length b % point_size) 0) (bodies kind_line rs)
    && every (λ (b : List ℕ). eqb (length b) link_size) (bodies kind_link rs)

-- 5
unfoldable pub settings_fit : Settings → Bool
settings_fit s = leb s.width most_side && leb s.height most_side && leb s.pairing most_pairing && leb s.flags most_flags

-- 6, of a sketch and of a drawing alike
unfoldable pub counts_fit : {C : Type 0} → DrawingOf C → Bool
unfolding total
counts_fit {C} d =
    leb (length d.lines) most_lines
    && leb (total (map (λ (l : List (PointOf C)). length l) d.lines)) most_points
    && leb (length d.links) most_links

-- 15: no links of its own where the planner makes them
unfoldable pub own_links_fit : {C : Type 0} → DrawingOf C → Bool
own_links_fit d = not (linking d.settings) || eqb (length d.links) 0

-- 7
abbrev pub coordinate_fits : Pattern → Bool
coordinate_fits w = on_grid (read_place w.bits)

abbrev pub point_fits : PointOf Pattern → Bool
point_fits p = coordinate_fits p.x && coordinate_fits p.y

unfoldable pub coordinates_fit : Sketch → Bool
unfolding every read_on_grid
coordinates_fit s =
    every (λ (l : List (PointOf Pattern)). every (λ (p : PointOf Pattern). point_fits p) l) s.lines
    && every (λ (l : LinkOf Pattern). point_fits l.first.point && point_fits l.second.point) s.links

-- 8: the line is there and has points, and the segment is at most the larger of 0 and its points less 2
unfoldable pub end_fits : {C : Type 0} → List (List (PointOf C)) → EndOf C → Bool
end_fits ls e = let n = length (get_or ls e.line []) in ltb 0 n && leb e.segment (n - 2)

unfoldable pub links_fit : {C : Type 0} → DrawingOf C → Bool
unfolding every end_fits
links_fit {C} d = every (λ (l : LinkOf C). end_fits d.lines l.first && end_fits d.lines l.second) d.links

-- ---- conditions 5, 6, 15, 7 and 8, of a sketch, whether or not a file holds it

unfoldable pub sketch_conditions : Sketch → List Condition
unfolding settings_fit counts_fit own_links_fit coordinates_fit links_fit
sketch_conditions s =
    condition refused_settings (not (settings_fit s.settings))
    ∷ condition refused_counts (not (counts_fit s))
    ∷ condition refused_own_links (not (own_links_fit s))
    ∷ condition refused_coordinates (not (coordinates_fit s))
    ∷ condition refused_links (not (links_fit s))
    ∷ []

-- ---- conditions 1 to 8 and 15 of a file, in the papers' order, and the drawing of a file that meets none

unfoldable pub records_of : List ℕ → List Record
unfolding split
records_of file = elim (split (length file) file) [ whole rs ↦ rs | cut ↦ [] ]

unfoldable pub is_cut : List ℕ → Bool
unfolding split
is_cut file = elim (split (length file) file) [ whole rs ↦ false | cut ↦ true ]

unfoldable pub record_conditions : List ℕ → List Condition
unfolding records_of is_cut kinds_fit lengths_fit
record_conditions file =
    let rs = records_of file in
    condition refused_bytes (ltb most_bytes (length file))
    ∷ condition refused_cut (is_cut file)
    ∷ condition refused_kinds (not (kinds_fit rs))
    ∷ condition refused_lengths (not (lengths_fit rs))
    ∷ []

unfoldable pub read_conditions : List ℕ → List Condition
unfolding record_conditions sketch_of sketch_conditions
read_conditions file = record_conditions file ++ sketch_conditions (sketch_of (records_of file))
