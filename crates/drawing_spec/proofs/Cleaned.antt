-- A sketch cleaned is the same drawing, and the checks say the same of it. Where it has no minus zero, it is as it was.
use mathlib.Core.Path.{◌≡◌, refl, sym, ap, ◌∙◌, fun_ext, subst}
use mathlib.Core.List.{List, [], ◌∷◌, map, map-map}
use mathlib.Core.Bool.{true}
use Prim.Native.Nat.{ℕ}
use Rattle.grid.specs.Grid.{clean, place_at}
use Rattle.grid.proofs.Back.{read_clean, clean_plain, clean_other}
use Rattle.lists.specs.Members.{All}
use Rattle.drawing_spec.specs.Drawing.{PointOf, LinkOf, DrawingOf, Pattern, Sketch, Drawing, over_point, over_link, over}
use Rattle.drawing_spec.specs.Read.{placed, settings_fit, counts_fit, own_links_fit, coordinates_fit, links_fit, sketch_conditions}
use Rattle.drawing_spec.specs.OnGrid.{AtEnds, OnGrid}
use Rattle.drawing_spec.specs.Cleaned.{clean_pattern, cleaned, PointPlain, Plain}
use Rattle.drawing_spec.proofs.Placed.{counts_over, own_links_over, links_over}
use Rattle.drawing_spec.proofs.OnGrid.{on_grid_fits}
use Rattle.drawing_spec.proofs.Same.{same_tests}

-- ---- two things done to each coordinate, one after the other

over_over : {A B C : Type 0} (f : B → C) (g : A → B) (d : DrawingOf A) → over f (over g d) ≡ over (λ (a : A). f (g a)) d
unfolding over
over_over {A} f g d =
    let lines = map-map (map (over_point f)) (map (over_point g)) d.lines ∙ (λ i. map (λ (l : List (PointOf A)). map-map (over_point f) (over_point g) l i) d.lines) in
    let links = map-map (over_link f) (over_link g) d.links in
    λ i. record { settings = d.settings; lines = lines i; links = links i }

cleaned_is : (s : Sketch) → cleaned s ≡ over clean_pattern s
unfolding cleaned
cleaned_is s = refl

-- ---- it is the same drawing

pub cleaned_drawing : (s : Sketch) → over placed (cleaned s) ≡ over placed s
cleaned_drawing s =
    ap (over placed) (cleaned_is s)
    ∙ over_over placed clean_pattern s
    ∙ ap (λ (f : Pattern → ℕ). over f s) (fun_ext (λ (w : Pattern). ap place_at (read_clean w.bits)))

pub cleaned_twice : (s : Sketch) → cleaned (cleaned s) ≡ cleaned s
cleaned_twice s =
    cleaned_is (cleaned s)
    ∙ ap (over clean_pattern) (cleaned_is s)
    ∙ over_over clean_pattern clean_pattern s
    ∙ ap (λ (f : Pattern → Pattern). over f s) (fun_ext (λ (w : Pattern). ap (λ (b : ℕ). record { bits = b }) (clean_other (clean w.bits) (clean_plain w.bits))))
    ∙ sym (cleaned_is s)

-- ---- and conditions 5, 6, 15, 7 and 8 are of the drawing

module _ (s t : Sketch) (e : over placed s ≡ over placed t) where
  on_grid_too : coordinates_fit s ≡ true → coordinates_fit t ≡ true
  on_grid_too h = (on_grid_fits t).1 (subst (λ (d : Drawing). All (All OnGrid) d.lines × All (AtEnds OnGrid) d.links) e ((on_grid_fits s).0 h))

  settings_alike : s.settings ≡ t.settings
  unfolding over
  settings_alike = ap (λ (d : Drawing). d.settings) e

pub same_conditions : (s t : Sketch) → over placed s ≡ over placed t → sketch_conditions s ≡ sketch_conditions t
unfolding sketch_conditions
same_conditions s t e =
    let settings : settings_fit s.settings ≡ settings_fit t.settings = ap settings_fit (settings_alike s t e) in
    let counts : counts_fit s ≡ counts_fit t = sym (counts_over placed s) ∙ ap counts_fit e ∙ counts_over placed t in
    let own : own_links_fit s ≡ own_links_fit t = sym (own_links_over placed s) ∙ ap own_links_fit e ∙ own_links_over placed t in
    let coordinates : coordinates_fit s ≡ coordinates_fit t = same_tests (coordinates_fit s) (coordinates_fit t) (on_grid_too s t e) (on_grid_too t s (sym e)) in
    let links : links_fit s ≡ links_fit t = sym (links_over placed s) ∙ ap links_fit e ∙ links_over placed t in
    rw (settings, counts, own, coordinates, links)

-- so whatever is refused with a plain zero in its place is refused with a minus zero, and nothing else
pub cleaned_conditions : (s : Sketch) → sketch_conditions (cleaned s) ≡ sketch_conditions s
cleaned_conditions s = same_conditions (cleaned s) s (cleaned_drawing s)

-- ---- it has no minus zero, and is as it was where there was none

point_plain : (p : PointOf Pattern) → PointPlain (over_point clean_pattern p)
point_plain p = (clean_plain p.x.bits, clean_plain p.y.bits)

points_plain : (l : List (PointOf Pattern)) → All PointPlain (map (over_point clean_pattern) l)
points_plain [] = tt
points_plain (p ∷ l) = (point_plain p, points_plain l)

lines_plain : (ls : List (List (PointOf Pattern))) → All (All PointPlain) (map (map (over_point clean_pattern)) ls)
lines_plain [] = tt
lines_plain (l ∷ ls) = (points_plain l, lines_plain ls)

links_plain : (ks : List (LinkOf Pattern)) → All (λ (l : LinkOf Pattern). PointPlain l.first.point × PointPlain l.second.point) (map (over_link clean_pattern) ks)
links_plain [] = tt
links_plain (k ∷ ks) = ((point_plain k.first.point, point_plain k.second.point), links_plain ks)

pub cleaned_plain : (s : Sketch) → Plain (cleaned s)
unfolding cleaned
cleaned_plain s = record { lines = lines_plain s.lines; links = links_plain s.links }

point_stays : (p : PointOf Pattern) → PointPlain p → over_point clean_pattern p ≡ p
point_stays p a = λ i. record { x = record { bits = clean_other p.x.bits a.0 i }; y = record { bits = clean_other p.y.bits a.1 i } }

points_stay : (l : List (PointOf Pattern)) → All PointPlain l → map (over_point clean_pattern) l ≡ l
points_stay [] a = refl
points_stay (p ∷ l) a = λ i. point_stays p a.0 i ∷ points_stay l a.1 i

lines_stay : (ls : List (List (PointOf Pattern))) → All (All PointPlain) ls → map (map (over_point clean_pattern)) ls ≡ ls
lines_stay [] a = refl
lines_stay (l ∷ ls) a = λ i. points_stay l a.0 i ∷ lines_stay ls a.1 i

links_stay : (ks : List (LinkOf Pattern)) → All (λ (l : LinkOf Pattern). PointPlain l.first.point × PointPlain l.second.point) ks → map (over_link clean_pattern) ks ≡ ks
links_stay [] a = refl
links_stay (k ∷ ks) a =
    let f = point_stays k.first.point a.0.0 in
    let s = point_stays k.second.point a.0.1 in
    λ i. record { first = record { line = k.first.line; segment = k.first.segment; point = f i }; second = record { line = k.second.line; segment = k.second.segment; point = s i } } ∷ links_stay ks a.1 i

pub plain_cleaned : (s : Sketch) → Plain s → cleaned s ≡ s
unfolding cleaned
plain_cleaned s p =
    let lines = lines_stay s.lines p.lines in
    let links = links_stay s.links p.links in
    λ i. record { settings = s.settings; lines = lines i; links = links i }
