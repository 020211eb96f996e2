-- The bits at the place of a coordinate that check 7 passes are those that it has, with plain zero for minus zero. So a sketch, placed and given bits again, is the sketch, cleaned.
use Rattle.std.specs.Prelude.{Option, Some, None}
use mathlib.Core.Path.{◌≡◌, refl, ap, ◌∙◌}
use mathlib.Core.List.{List, [], ◌∷◌, map}
use mathlib.Core.Bool.{true, true≢false, ◌&&◌}
use Prim.Native.Nat.{ℕ}
use Rattle.grid.specs.Grid.{read_place, place_at, on_grid, write_place}
use Rattle.grid.proofs.Back.{write_read}
use Rattle.lists.specs.Members.{All}
use Rattle.drawing_spec.proofs.Same.{both}
use Rattle.drawing_spec.specs.Drawing.{PointOf, LinkOf, Pattern, Sketch, over_point, over_link, over}
use Rattle.drawing_spec.specs.Cleaned.{clean_pattern, cleaned}
use Rattle.drawing_spec.specs.Read.{placed, every, coordinate_fits, point_fits, coordinates_fit}
use Rattle.writer_spec.specs.OneFile.{Word, PointHeld, Patterned}

-- the bits at a place
abbrev pub bits_at : ℕ → Pattern
bits_at p = record { bits = write_place p }

same_pattern : (w : Pattern) → Word w.bits → coordinate_fits w ≡ true → bits_at (placed w) ≡ clean_pattern w
same_pattern w h t = go (read_place w.bits) refl t
  where
    go : (x : Option ℕ) → read_place w.bits ≡ x → on_grid x ≡ true → bits_at (placed w) ≡ clean_pattern w
    go (Some p) e t = ap (λ (b : ℕ). record { bits = b }) (ap (λ (x : Option ℕ). write_place (place_at x)) e ∙ (write_read w.bits p h e).1)
    go None e t = absurd (true≢false (cc))

same_point : (p : PointOf Pattern) → PointHeld p → point_fits p ≡ true → over_point bits_at (over_point placed p) ≡ over_point clean_pattern p
same_point p h t =
    let f = both (coordinate_fits p.x) (coordinate_fits p.y) t in
    let x = same_pattern p.x h.0 f.0 in
    let y = same_pattern p.y h.1 f.1 in
    λ v. record { x = x v; y = y v }

same_line : (l : List (PointOf Pattern)) → All PointHeld l → every (λ (p : PointOf Pattern). point_fits p) l ≡ true → map (over_point bits_at) (map (over_point placed) l) ≡ map (over_point clean_pattern) l
unfolding every
same_line [] h t = refl
same_line (p ∷ l) h t =
    let f = both (point_fits p) (every (λ (p : PointOf Pattern). point_fits p) l) t in
    λ v. same_point p h.0 f.0 v ∷ same_line l h.1 f.1 v

same_lines : (ls : List (List (PointOf Pattern))) → All (All PointHeld) ls → every (λ (l : List (PointOf Pattern)). every (λ (p : PointOf Pattern). point_fits p) l) ls ≡ true
    → map (map (over_point bits_at)) (map (map (over_point placed)) ls) ≡ map (map (over_point clean_pattern)) ls
unfolding every
same_lines [] h t = refl
same_lines (l ∷ ls) h t =
    let f = both (every (λ (p : PointOf Pattern). point_fits p) l) (every (λ (l : List (PointOf Pattern)). every (λ (p : PointOf Pattern). point_fits p) l) ls) t in
    λ v. same_line l h.0 f.0 v ∷ same_lines ls h.1 f.1 v

same_link : (l : LinkOf Pattern) → PointHeld l.first.point × PointHeld l.second.point → (point_fits l.first.point && point_fits l.second.point) ≡ true → over_link bits_at (over_link placed l) ≡ over_link clean_pattern l
same_link l h t =
    let f = both (point_fits l.first.point) (point_fits l.second.point) t in
    let a = same_point l.first.point h.0 f.0 in
    let b = same_point l.second.point h.1 f.1 in
    λ v. record { first = record { line = l.first.line; segment = l.first.segment; point = a v }; second = record { line = l.second.line; segment = l.second.segment; point = b v } }

same_links : (ks : List (LinkOf Pattern)) → All (λ (l : LinkOf Pattern). PointHeld l.first.point × PointHeld l.second.point) ks
    → every (λ (l : LinkOf Pattern). point_fits l.first.point && point_fits l.second.point) ks ≡ true → map (over_link bits_at) (map (over_link placed) ks) ≡ map (over_link clean_pattern) ks
unfolding every
same_links [] h t = refl
same_links (k ∷ ks) h t =
    let f = both (point_fits k.first.point && point_fits k.second.point) (every (λ (l : LinkOf Pattern). point_fits l.first.point && point_fits l.second.point) ks) t in
    λ v. same_link k h.0 f.0 v ∷ same_links ks h.1 f.1 v

pub same_bits : (s : Sketch) → Patterned s → coordinates_fit s ≡ true → over bits_at (over placed s) ≡ cleaned s
unfolding coordinates_fit over cleaned
same_bits s h t =
    let f = both (every (λ (l : List (PointOf Pattern)). every (λ (p : PointOf Pattern). point_fits p) l) s.lines) _ t in
    let lines = same_lines s.lines h.lines f.0 in
    let links = same_links s.links h.links f.1 in
    λ v. record { settings = s.settings; lines = lines v; links = links v }
