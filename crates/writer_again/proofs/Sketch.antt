-- The sketch of the lists that a drawing in flat arrays is saved from. Whatever the drawing is, they say it with the bits that `write_place` gives for each place; that a file has these bits, minus zero aside, is in `writer_spec/proofs/SameBits`.
use mathlib.Core.Path.{◌≡◌, refl, sym, ap, ◌∙◌}
use mathlib.Core.List.{List, [], ◌∷◌, ◌++◌, map}
use Prim.Native.Nat.{ℕ, suc, ◌+◌, ◌-◌, ◌*◌, ◌/◌}
use native.Mathlib.Omega.{arith}
use lib.ListN.{length, get_or, drop, replicate}
use lib.Ieee.{binary64, to_bits}
use Rattle.limits.specs.Limits.{most_lines, most_points, most_links}
use Rattle.lists.proofs.Parts.{at_front, behind_front}
use Rattle.grid.specs.Grid.{grid_exponent, coordinate, write_place}
use Rattle.grid.proofs.Back.{write_is}
use Rattle.drawing_spec.specs.Drawing as drawn
use Rattle.drawing_spec.specs.Drawing.{PointOf, Pattern, line_points, over_point, over_link, over}
use Rattle.drawing_spec.specs.Read.{total}
use Rattle.drawing_spec.proofs.Drawing.{length_line_points}
use Rattle.file_records.specs.Body.{edge_from}
use Rattle.file_records.specs.declared.MstEdge.{MstEdge}
use Rattle.file_drawing.specs.Held.{no_link, past_end, drawing_held}
use Rattle.file_drawing.specs.Stores.{padded, xs_of, ys_of, ends_from}
use Rattle.writer_spec.specs.Given.{points_given, lines_given, links_given, sketch_given}
use Rattle.writer_spec.proofs.Given.{Fitting}
use Rattle.writer_spec.proofs.SameBits.{bits_at}
use Rattle.writer_again.specs.Filled.{appended, size_at, bits_of, segments_of, ends_of, given_in}

-- ---- the lists, from the drawing's own

point_bits : List drawn.Point → List ℕ
point_bits [] = []
point_bits (p ∷ ps) = bits_of p.x p.y ++ point_bits ps

link_segments : List drawn.Link → List ℕ
link_segments [] = []
link_segments (l ∷ ls) = segments_of (edge_from l) ++ link_segments ls

link_bits : List drawn.Link → List ℕ
link_bits [] = []
link_bits (l ∷ ls) = ends_of (edge_from l) ++ link_bits ls

sizes_are : (ls : List (List drawn.Point)) (i k : ℕ) (starts q : List ℕ) → drop i starts ≡ k ∷ (ends_from k ls ++ q)
    → appended (λ (i : ℕ). size_at starts i ∷ []) (length ls) i ≡ map (λ (l : List drawn.Point). length l) ls
unfolding appended ends_from
sizes_are [] i k starts q e = refl
sizes_are (l ∷ ls) i k starts q e =
    let n = k + length l in
    let next = behind_front starts i k 0 (n ∷ (ends_from n ls ++ q)) e in
    let here : get_or starts i 0 ≡ k = at_front starts i k 0 (n ∷ (ends_from n ls ++ q)) e in
    let one : i + 1 ≡ suc i = omega arith in
    let there : get_or starts (i + 1) 0 ≡ n = ap (λ (j : ℕ). get_or starts j 0) one ∙ at_front starts (suc i) n 0 (ends_from n ls ++ q) next in
    let size : size_at starts i ≡ length l = omega arith in
    λ v. size v ∷ sizes_are ls (suc i) n starts q next v

coordinates_are : (ps : List drawn.Point) (k : ℕ) (xs ys r s : List ℕ) → drop k xs ≡ xs_of ps ++ r → drop k ys ≡ ys_of ps ++ s
    → appended (λ (i : ℕ). bits_of (get_or xs i 0) (get_or ys i 0)) (length ps) k ≡ point_bits ps
unfolding appended point_bits
coordinates_are [] k xs ys r s ex ey = refl
coordinates_are (p ∷ ps) k xs ys r s ex ey =
    let x = at_front xs k p.x 0 (xs_of ps ++ r) ex in
    let y = at_front ys k p.y 0 (ys_of ps ++ s) ey in
    let later = coordinates_are ps (suc k) xs ys r s (behind_front xs k p.x 0 (xs_of ps ++ r) ex) (behind_front ys k p.y 0 (ys_of ps ++ s) ey) in
    λ v. bits_of (x v) (y v) ++ later v

module _ (f : MstEdge → List ℕ) where
  links_are : (ls : List drawn.Link) (i : ℕ) (edges r : List MstEdge) (g : List drawn.Link → List ℕ) → g [] ≡ [] → ((l : drawn.Link) (ls : List drawn.Link) → g (l ∷ ls) ≡ f (edge_from l) ++ g ls)
      → drop i edges ≡ map edge_from ls ++ r → appended (λ (i : ℕ). f (get_or edges i past_end)) (length ls) i ≡ g ls
  unfolding appended
  links_are [] i edges r g none some e = sym none
  links_are (l ∷ ls) i edges r g none some e =
      let here = at_front edges i (edge_from l) past_end (map edge_from ls ++ r) e in
      let later = links_are ls (suc i) edges r g none some (behind_front edges i (edge_from l) past_end (map edge_from ls ++ r) e) in
      (λ v. f (here v) ++ later v) ∙ sym (some l ls)

-- ---- what they are the sketch of

bits_append : (ps qs : List drawn.Point) → point_bits (ps ++ qs) ≡ point_bits ps ++ point_bits qs
unfolding point_bits
bits_append [] qs = refl
bits_append (p ∷ ps) qs = ap (λ (m : List ℕ). write_place p.x ∷ write_place p.y ∷ m) (bits_append ps qs)

points_given_lem : (l : List drawn.Point) (rest : List ℕ) → points_given (length l) (point_bits l ++ rest) ≡ map (over_point bits_at) l
unfolding points_given point_bits
points_given_lem [] rest = refl
points_given_lem (p ∷ l) rest = ap (λ (m : List (PointOf Pattern)). over_point bits_at p ∷ m) (points_given_lem l rest)

points_behind : (l : List drawn.Point) (rest : List ℕ) → drop (2 * length l) (point_bits l ++ rest) ≡ rest
unfolding point_bits
points_behind [] rest = refl
points_behind (p ∷ l) rest =
    let e : 2 * suc (length l) ≡ suc (suc (2 * length l)) = omega arith in
    ap (λ (k : ℕ). drop k (point_bits (p ∷ l) ++ rest)) e ∙ points_behind l rest

lines_given_lem : (ls : List (List drawn.Point)) → lines_given (map (λ (l : List drawn.Point). length l) ls) (point_bits (line_points ls)) ≡ map (map (over_point bits_at)) ls
unfolding lines_given line_points
lines_given_lem [] = refl
lines_given_lem (l ∷ ls) =
    let rest = point_bits (line_points ls) in
    let here = points_given_lem l rest in
    let behind = points_behind l rest in
    let ns = map (λ (l : List drawn.Point). length l) ls in
    ap (λ (cs : List ℕ). points_given (length l) cs ∷ lines_given ns (drop (2 * length l) cs)) (bits_append l (line_points ls))
    ∙ (λ v. here v ∷ lines_given ns (behind v))
    ∙ ap (λ (ms : List (List (PointOf Pattern))). map (over_point bits_at) l ∷ ms) (lines_given_lem ls)

link_given : (l : drawn.Link) → over_link (λ (p : ℕ). record { bits = to_bits binary64 (coordinate p) }) l ≡ over_link bits_at l
link_given l = sym (λ v. over_link (λ (p : ℕ). record { bits = write_is grid_exponent p v }) l)

links_given_lem : (ls : List drawn.Link) → links_given (length ls) (link_segments ls) (link_bits ls) ≡ map (over_link bits_at) ls
unfolding links_given link_segments link_bits
links_given_lem [] = refl
links_given_lem (l ∷ ls) = λ v. link_given l v ∷ links_given_lem ls v

-- ---- how long they are

bits_long : (ps : List drawn.Point) → length (point_bits ps) ≡ 2 * length ps
unfolding point_bits
bits_long [] = refl
bits_long (p ∷ ps) = omega (arith, bits_long ps)

segments_long : (ls : List drawn.Link) → length (link_segments ls) ≡ 4 * length ls
unfolding link_segments
segments_long [] = refl
segments_long (l ∷ ls) = omega (arith, segments_long ls)

ends_long : (ls : List drawn.Link) → length (link_bits ls) ≡ 4 * length ls
unfolding link_bits
ends_long [] = refl
ends_long (l ∷ ls) = omega (arith, ends_long ls)

-- ---- of a drawing

module _ (d : drawn.Drawing) where
  sizes_held : (given_in (drawing_held d)).sizes ≡ map (λ (l : List drawn.Point). length l) d.lines
  unfolding drawing_held
  sizes_held = sizes_are d.lines 0 0 (padded (most_lines + 1) 0 (0 ∷ ends_from 0 d.lines)) (replicate ((most_lines + 1) - length (0 ∷ ends_from 0 d.lines)) 0) refl

  coordinates_held : (given_in (drawing_held d)).coordinates ≡ point_bits (line_points d.lines)
  unfolding drawing_held
  coordinates_held =
      let ps = line_points d.lines in
      coordinates_are ps 0 (padded most_points 0 (xs_of ps)) (padded most_points 0 (ys_of ps)) (replicate (most_points - length (xs_of ps)) 0) (replicate (most_points - length (ys_of ps)) 0) refl refl

  segments_held : (given_in (drawing_held d)).segments ≡ link_segments d.links
  unfolding drawing_held link_segments
  segments_held = links_are segments_of d.links 0 (padded most_links no_link (map edge_from d.links)) (replicate (most_links - length (map edge_from d.links)) no_link) link_segments refl (λ l ls. refl) refl

  ends_held : (given_in (drawing_held d)).ends ≡ link_bits d.links
  unfolding drawing_held link_bits
  ends_held = links_are ends_of d.links 0 (padded most_links no_link (map edge_from d.links)) (replicate (most_links - length (map edge_from d.links)) no_link) link_bits refl (λ l ls. refl) refl

  -- the lists fit one another
  pub held_fitting : Fitting (given_in (drawing_held d))
  held_fitting =
      let p = length_line_points d.lines in
      let b = bits_long (line_points d.lines) in
      let s = segments_long d.links in
      let e = ends_long d.links in
      let t = ap total sizes_held in
      let c = ap (λ (l : List ℕ). length l) coordinates_held in
      let m = ap (λ (l : List ℕ). length l) segments_held in
      let n = ap (λ (l : List ℕ). length l) ends_held in
      record { points = omega arith; fours = omega arith; alike = omega arith }

  -- and say the drawing, each coordinate by the bits at its place
  pub held_given : sketch_given (given_in (drawing_held d)) ≡ over bits_at d
  unfolding sketch_given over drawing_held
  held_given =
      let s = segments_long d.links in
      let m = ap (λ (l : List ℕ). length l) segments_held in
      let count : length (given_in (drawing_held d)).segments / 4 ≡ length d.links = omega arith in
      let lines : lines_given (given_in (drawing_held d)).sizes (given_in (drawing_held d)).coordinates ≡ map (map (over_point bits_at)) d.lines = (λ v. lines_given (sizes_held v) (coordinates_held v)) ∙ lines_given_lem d.lines in
      let links : links_given (length (given_in (drawing_held d)).segments / 4) (given_in (drawing_held d)).segments (given_in (drawing_held d)).ends ≡ map (over_link bits_at) d.links = (λ v. links_given (count v) (segments_held v) (ends_held v)) ∙ links_given_lem d.links in
      λ v. record { settings = d.settings; lines = lines v; links = links v }
