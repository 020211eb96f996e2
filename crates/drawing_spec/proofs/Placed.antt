-- From a sketch to the drawing that it is: what placing keeps.
use mathlib.Core.Path.{◌≡◌, refl, ap, ◌∙◌}
use mathlib.Core.List.{List, [], ◌∷◌, map, map-map}
use mathlib.Core.Bool.{◌&&◌}
use Prim.Native.Nat.{ℕ, zero, suc, ◌-◌}
use lib.ListN.{length, get_or, drop, length-map}
use lib.Dec.{leb, ltb}
use Rattle.limits.specs.Limits.{kind_settings, kind_line, kind_link}
use Rattle.grid.specs.Grid.{read_place, place_at}
use Rattle.drawing_spec.specs.Bytes.{number}
use Rattle.drawing_spec.specs.Drawing.{PointOf, EndOf, LinkOf, Link, DrawingOf, over_point, over_end, over_link, over}
use Rattle.drawing_spec.specs.Read.{Record, placed, spot, spots, settings_of, spots_of_line, sketched_link, bodies, sketch_of, drawing_of, point, points, points_of_line, link_of, every, counts_fit, own_links_fit, end_fits, links_fit}

-- ---- what the bodies hold, part by part

pub spot_parts : (bs : List ℕ) → spot bs ≡ record { x = record { bits = number 8 bs }; y = record { bits = number 8 (drop 8 bs) } }
unfolding spot
spot_parts bs = refl

pub spots_one : (m : ℕ) (bs : List ℕ) → spots (suc m) bs ≡ spot bs ∷ spots m (drop 16 bs)
unfolding spots
spots_one m bs = refl

pub no_spots : (bs : List ℕ) → spots zero bs ≡ []
unfolding spots
no_spots bs = refl

pub link_parts_lem : (bs : List ℕ)
    → sketched_link bs
    ≡ record {
      first = record { line = number 2 bs; segment = number 2 (drop 2 bs); point = spot (drop 8 bs) };
      second = record { line = number 2 (drop 4 bs); segment = number 2 (drop 6 bs); point = spot (drop 24 bs) };
    }
unfolding sketched_link
link_parts_lem bs = refl

pub sketch_parts : (rs : List Record) → sketch_of rs ≡ record { settings = settings_of (get_or (bodies kind_settings rs) 0 []); lines = map spots_of_line (bodies kind_line rs); links = map sketched_link (bodies kind_link rs) }
unfolding sketch_of
sketch_parts rs = refl

-- ---- the drawing of a file's records, body by body

pub lines_are : (rs : List Record) → (drawing_of rs).lines ≡ map points_of_line (bodies kind_line rs)
unfolding drawing_of points_of_line
lines_are rs = map-map (map (over_point placed)) spots_of_line (bodies kind_line rs)

pub links_are : (rs : List Record) → (drawing_of rs).links ≡ map link_of (bodies kind_link rs)
unfolding drawing_of link_of
links_are rs = map-map (over_link placed) sketched_link (bodies kind_link rs)

pub settings_are : (rs : List Record) → (drawing_of rs).settings ≡ (sketch_of rs).settings
unfolding drawing_of
settings_are rs = refl

-- a link and a point of a body, part by part
abbrev pub link_parts : List ℕ → Link
link_parts bs = record {
  first = record { line = number 2 bs; segment = number 2 (drop 2 bs); point = point (drop 8 bs) };
  second = record { line = number 2 (drop 4 bs); segment = number 2 (drop 6 bs); point = point (drop 24 bs) };
}

pub link_is : (bs : List ℕ) → link_of bs ≡ link_parts bs
unfolding link_of point
link_is bs = refl

pub point_is : (bs : List ℕ) → point bs ≡ record { x = place_at (read_place (number 8 bs)); y = place_at (read_place (number 8 (drop 8 bs))) }
unfolding point
point_is bs = refl

pub points_one : (n : ℕ) (bs : List ℕ) → points (suc n) bs ≡ point bs ∷ points n (drop 16 bs)
unfolding points point
points_one n bs = refl

pub no_points : (bs : List ℕ) → points 0 bs ≡ []
unfolding points
no_points bs = refl

-- ---- checks 6, 15 and 8 do not look at coordinates

module _ {A B : Type 0} (f : A → B) where
  pub lengths_over : (ls : List (List (PointOf A))) → map (λ (l : List (PointOf B)). length l) (map (map (over_point f)) ls) ≡ map (λ (l : List (PointOf A)). length l) ls
  lengths_over ls = map-map (λ (l : List (PointOf B)). length l) (map (over_point f)) ls ∙ (λ i. map (λ (l : List (PointOf A)). length-map l (over_point f) i) ls)

  pub counts_over : (d : DrawingOf A) → counts_fit (over f d) ≡ counts_fit d
  unfolding counts_fit over
  counts_over d = rw (length-map d.lines (map (over_point f)), lengths_over d.lines, length-map d.links (over_link f))

  pub own_links_over : (d : DrawingOf A) → own_links_fit (over f d) ≡ own_links_fit d
  unfolding own_links_fit over
  own_links_over d = rw (length-map d.links (over_link f))

  line_over : (ls : List (List (PointOf A))) (i : ℕ) → length (get_or (map (map (over_point f)) ls) i []) ≡ length (get_or ls i [])
  line_over [] i = refl
  line_over (l ∷ ls) zero = length-map l (over_point f)
  line_over (l ∷ ls) (suc i) = line_over ls i

  end_over : (ls : List (List (PointOf A))) (e : EndOf A) → end_fits (map (map (over_point f)) ls) (over_end f e) ≡ end_fits ls e
  unfolding end_fits
  end_over ls e = ap (λ (n : ℕ). ltb 0 n && leb e.segment (n - 2)) (line_over ls e.line)

  every_over : (ls : List (List (PointOf A))) (ks : List (LinkOf A))
      → every (λ (l : LinkOf B). end_fits (map (map (over_point f)) ls) l.first && end_fits (map (map (over_point f)) ls) l.second) (map (over_link f) ks)
      ≡ every (λ (l : LinkOf A). end_fits ls l.first && end_fits ls l.second) ks
  unfolding every
  every_over ls [] = refl
  every_over ls (k ∷ ks) = λ i. (end_over ls k.first i && end_over ls k.second i) && every_over ls ks i

  pub links_over : (d : DrawingOf A) → links_fit (over f d) ≡ links_fit d
  unfolding links_fit over
  links_over d = every_over d.lines d.links

pub counts_placed : (rs : List Record) → counts_fit (drawing_of rs) ≡ counts_fit (sketch_of rs)
unfolding drawing_of
counts_placed rs = counts_over placed (sketch_of rs)

pub own_links_placed : (rs : List Record) → own_links_fit (drawing_of rs) ≡ own_links_fit (sketch_of rs)
unfolding drawing_of
own_links_placed rs = own_links_over placed (sketch_of rs)

pub links_placed : (rs : List Record) → links_fit (drawing_of rs) ≡ links_fit (sketch_of rs)
unfolding drawing_of
links_placed rs = links_over placed (sketch_of rs)
