-- Laws of specs/Checked: on slices that fit one another, the checks are those of the sketch.
use mathlib.Core.Path.{◌≡◌, refl, sym, ap, ◌∙◌}
use mathlib.Core.List.{List, [], ◌∷◌, map}
use mathlib.Core.Bool.{Bool, true, false, ◌&&◌, ◌||◌, not}
use Prim.Native.Nat.{ℕ, zero, suc, ◌+◌, ◌-◌, ◌*◌, ◌/◌, ◌≤◌, ◌<◌}
use native.Mathlib.Nat.{add-zero}
use native.Mathlib.Numerals.{add-one}
use native.Mathlib.Omega.{arith}
use lib.ListN.{length, get_or, take, drop, length-drop, drop_of_length-le}
use lib.Seq.{drop-drop, drop-cons, get_or-drop}
use lib.Dec.{eqb, leb, ltb}
use borrow.Author.Tests.{eqb-true, eqb-false, eq-eqb, ne_eqb, leb-true}
use Rattle.std.proofs.Common.{get_or-take}
use Rattle.std.specs.List.{list_all}
use Rattle.std.specs.Simd.{first_chunks}
use Rattle.limits.specs.Limits.{file_size, most_lines, most_points, most_links}
use Rattle.grid.specs.Grid.{read_place, on_grid}
use Rattle.drawing_spec.proofs.Same.{both}
use Rattle.drawing_spec.specs.Drawing.{PointOf, EndOf, LinkOf, Pattern, linking}
use Rattle.drawing_spec.specs.Read.{every, total, counts_fit, own_links_fit, coordinates_fit, point_fits, end_fits, links_fit}
use Rattle.file_checks.proofs.TallyLaws.{and_assoc}
use Rattle.writer_spec.specs.Save.{saved_file}
use Rattle.writer_spec.specs.Given.{Given, points_given, lines_given, link_given, links_given, sketch_given}
use Rattle.writer_spec.proofs.Lengths.{file_length, saved_length}
use Rattle.writer_spec.proofs.Given.{Fitting, total_cons, total_nil, lines_long, sizes_are, line_long, links_long}
use Rattle.writer_checks.specs.Checked.{all_on, end_in, link_in, links_in}

abbrev pub on : ℕ → Bool
on w = on_grid (read_place w)

abbrev points_on : List (PointOf Pattern) → Bool
points_on l = every (λ (p : PointOf Pattern). point_fits p) l

-- ---- coordinates

points_on_lem : (n : ℕ) (ws : List ℕ) → 2 * n ≤ length ws → all_on (take (2 * n) ws) ≡ points_on (points_given n ws)
unfolding all_on every points_given
points_on_lem zero ws h = refl
points_on_lem (suc n) [] h = absurd (omega arith)
points_on_lem (suc n) (a ∷ []) h = absurd (omega arith)
points_on_lem (suc n) (a ∷ b ∷ ws) h =
    let e : 2 * suc n ≡ suc (suc (2 * n)) = omega arith in
    ap (λ (k : ℕ). all_on (take k (a ∷ b ∷ ws))) e ∙ ap (λ (t : Bool). on a && (on b && t)) (points_on_lem n ws (omega arith)) ∙ sym (and_assoc (on a) (on b) (points_on (points_given n ws)))

on_parts : (k : ℕ) (ws : List ℕ) → all_on ws ≡ all_on (take k ws) && all_on (drop k ws)
unfolding all_on every
on_parts zero ws = refl
on_parts (suc k) [] = refl
on_parts (suc k) (w ∷ ws) = ap (λ (t : Bool). on w && t) (on_parts k ws) ∙ sym (and_assoc (on w) (all_on (take k ws)) (all_on (drop k ws)))

none_on : (ws : List ℕ) → length ws ≡ 0 → all_on ws ≡ true
unfolding all_on every
none_on [] h = refl
none_on (w ∷ ws) h = absurd (omega arith)

lines_on : (ns ws : List ℕ) → length ws ≡ 2 * total ns → all_on ws ≡ every (λ (l : List (PointOf Pattern)). points_on l) (lines_given ns ws)
unfolding every lines_given total
lines_on [] ws h = none_on ws h
lines_on (n ∷ ns) ws h =
    let l = length-drop (2 * n) ws in
    on_parts (2 * n) ws ∙ λ i. points_on_lem n ws (omega arith) i && lines_on ns (drop (2 * n) ws) (omega arith) i

four : (a b c d e : Bool) → a && (b && (c && (d && e))) ≡ ((a && b) && (c && d)) && e
four true true true true e = refl
four true true true false e = refl
four true true false d e = refl
four true false c d e = refl
four false b c d e = refl

links_on : (k : ℕ) (es ws : List ℕ) → length ws ≡ 4 * k → all_on ws ≡ every (λ (l : LinkOf Pattern). point_fits l.first.point && point_fits l.second.point) (links_given k es ws)
unfolding every links_given all_on
links_on zero es ws h = none_on ws h
links_on (suc k) es [] h = absurd (omega arith)
links_on (suc k) es (x ∷ []) h = absurd (omega arith)
links_on (suc k) es (x ∷ y ∷ []) h = absurd (omega arith)
links_on (suc k) es (x ∷ y ∷ z ∷ []) h = absurd (omega arith)
links_on (suc k) es (x ∷ y ∷ z ∷ w ∷ ws) h = ap (λ (t : Bool). on x && (on y && (on z && (on w && t)))) (links_on k (drop 4 es) ws (omega arith)) ∙ four (on x) (on y) (on z) (on w) _

-- ---- links

end_is : (ns ws : List ℕ) (e : EndOf Pattern) → end_fits (lines_given ns ws) e ≡ end_in ns e.line e.segment
unfolding end_fits end_in
end_is ns ws e = ap (λ (n : ℕ). ltb 0 n && leb e.segment (n - 2)) (line_long ns ws e.line)

at_zero : (from : ℕ) (es : List ℕ) → get_or (drop from es) 0 0 ≡ get_or es from 0
at_zero from es = get_or-drop from es 0 0 ∙ ap (λ (k : ℕ). get_or es k 0) (add-zero from)

links_in_known : (ns ws0 : List ℕ) (k : ℕ) (segments ws : List ℕ) (from : ℕ)
    → every (λ (l : LinkOf Pattern). end_fits (lines_given ns ws0) l.first && end_fits (lines_given ns ws0) l.second) (links_given k (drop from segments) ws) ≡ links_in ns segments k from
unfolding every links_given links_in
links_in_known ns ws0 zero segments ws from = refl
links_in_known ns ws0 (suc k) segments ws from =
    let l = link_given (drop from segments) ws in
    let here : end_fits (lines_given ns ws0) l.first && end_fits (lines_given ns ws0) l.second ≡ link_in ns segments from =
    (λ i. end_is ns ws0 l.first i && end_is ns ws0 l.second i)
    ∙ λ i. end_in ns (at_zero from segments i) (get_or-drop from segments 1 0 i) && end_in ns (get_or-drop from segments 2 0 i) (get_or-drop from segments 3 0 i) in
    (λ i. here i && every (λ (l : LinkOf Pattern). end_fits (lines_given ns ws0) l.first && end_fits (lines_given ns ws0) l.second) (links_given k (drop-drop 4 from segments i) (drop 4 ws)))
    ∙ ap (λ (t : Bool). link_in ns segments from && t) (links_in_known ns ws0 k segments (drop 4 ws) (from + 4))

-- ---- the sketch's checks

-- check 6, and the bytes of the file, by the lengths of lists that fit one another
abbrev pub counts_in : Given → Bool
counts_in g = leb (length g.sizes) most_lines && leb (length g.coordinates / 2) most_points && leb (length g.segments / 4) most_links

pub counts_few : (g : Given) → counts_in g ≡ true → (length g.sizes ≤ most_lines) × (length g.coordinates / 2 ≤ most_points) × (length g.segments / 4 ≤ most_links)
counts_few g e =
    let x = leb (length g.sizes) most_lines in
    let y = leb (length g.coordinates / 2) most_points in
    let p = both (x && y) (leb (length g.segments / 4) most_links) e in
    let o = both x y p.0 in
    (leb-true _ most_lines o.0, leb-true _ most_points o.1, leb-true _ most_links p.1)

abbrev pub size_in : Given → ℕ
size_in g = file_size (length g.sizes) (length g.coordinates / 2) (length g.segments / 4)

module _ (g : Given) where
  pub links_are : links_fit (sketch_given g) ≡ links_in g.sizes g.segments (length g.segments / 4) 0
  unfolding links_fit sketch_given
  links_are = links_in_known g.sizes g.coordinates (length g.segments / 4) g.segments g.ends 0

  pub own_links_are : own_links_fit (sketch_given g) ≡ (not (linking g.settings) || eqb (length g.segments / 4) 0)
  unfolding own_links_fit sketch_given
  own_links_are = ap (λ (k : ℕ). not (linking g.settings) || eqb k 0) (links_long (length g.segments / 4) g.segments g.ends)

  module _ (f : Fitting g) where
    half : length g.coordinates / 2 ≡ total g.sizes
    half = let p = f.points in omega arith

    pub counts_are : counts_fit (sketch_given g) ≡ counts_in g
    unfolding counts_fit sketch_given
    counts_are = rw (lines_long g.sizes g.coordinates, sizes_are g.sizes g.coordinates, links_long (length g.segments / 4) g.segments g.ends, half)

    pub coordinates_are : coordinates_fit (sketch_given g) ≡ all_on g.coordinates && all_on g.ends
    unfolding coordinates_fit sketch_given
    coordinates_are =
        let t = f.alike in
        let q = f.fours in
        let n : length g.ends ≡ 4 * (length g.segments / 4) = omega arith in
        sym (λ i. lines_on g.sizes g.coordinates (sym f.points) i && links_on (length g.segments / 4) g.segments g.ends n i)

    parts : file_size (length (sketch_given g).lines) (total (map (λ (l : List (PointOf Pattern)). length l) (sketch_given g).lines)) (length (sketch_given g).links) ≡ size_in g
    unfolding sketch_given
    parts =
        let lines = lines_long g.sizes g.coordinates in
        let points = ap total (sizes_are g.sizes g.coordinates) in
        let links = links_long (length g.segments / 4) g.segments g.ends in
        let n = half in
        omega arith

    pub size_is : length (saved_file (sketch_given g)) ≡ size_in g
    size_is = saved_length (sketch_given g) ∙ file_length (sketch_given g) ∙ parts

-- ---- the chains over coordinates and over links

on_step : (ws : List ℕ) (i : ℕ) → i < length ws → all_on (drop i ws) ≡ on (get_or ws i 0) && all_on (drop (i + 1) ws)
unfolding all_on every
on_step ws i h = ap all_on (drop-cons ws i 0 h) ∙ ap (λ (k : ℕ). on (get_or ws i 0) && all_on (drop k ws)) (sym (add-one i))

module _ (ws : List ℕ) (i : ℕ) (e : all_on (drop i ws) ≡ all_on ws) where
  pub row_on : i < length ws → (t : Bool) → t ≡ on (get_or ws i 0) → t ≡ true → all_on (drop (i + 1) ws) ≡ all_on ws
  row_on h t k q = sym (on_step ws i h ∙ ap (λ (b : Bool). b && all_on (drop (i + 1) ws)) (sym k ∙ q)) ∙ e

  pub row_off : i < length ws → (t : Bool) → t ≡ on (get_or ws i 0) → t ≡ false → false ≡ all_on ws
  row_off h t k q = sym (on_step ws i h ∙ ap (λ (b : Bool). b && all_on (drop (i + 1) ws)) (sym k ∙ q)) ∙ e

  pub row_end : length ws ≤ i → true ≡ all_on ws
  unfolding all_on every
  row_end h = sym (ap all_on (drop_of_length-le ws {i = i} h)) ∙ e

in_four : (from j : ℕ) (vs : List ℕ) → j < 4 → get_or (take 4 (drop from vs)) j 0 ≡ get_or vs (from + j) 0
in_four from j vs h = get_or-take 4 (drop from vs) j 0 h ∙ get_or-drop from vs j 0

pub links_are_all : (sizes segments : List ℕ) (k from : ℕ) → links_in sizes segments k from ≡ list_all (λ (l : List ℕ). link_in sizes l 0) (first_chunks 4 k (drop from segments))
unfolding links_in
links_are_all sizes segments zero from = refl
links_are_all sizes segments (suc k) from =
    let first = in_four from 0 segments (omega arith) ∙ ap (λ (j : ℕ). get_or segments j 0) (add-zero from) in
    let second = in_four from 1 segments (omega arith) in
    let third = in_four from 2 segments (omega arith) in
    let fourth = in_four from 3 segments (omega arith) in
    (λ i. (end_in sizes (sym first i) (sym second i) && end_in sizes (sym third i) (sym fourth i)) && links_are_all sizes segments k (from + 4) i)
    ∙ ap (λ (vs : List ℕ). link_in sizes (take 4 (drop from segments)) 0 && list_all (λ (l : List ℕ). link_in sizes l 0) (first_chunks 4 k vs)) (sym (drop-drop 4 from segments))

-- ---- the loop over the lines' points

pub record Counting (sizes words : List ℕ) (left line : ℕ) : Type 0 where
  pub is : left + 2 * total sizes ≡ length words + 2 * total (drop line sizes)

module _ (sizes words : List ℕ) where
  pub counting_none : Counting sizes words (length words) 0
  counting_none = record { is = refl }

  module _ (left line n : ℕ) (c : Counting sizes words left line) (h : line < length sizes) (v : n ≡ get_or sizes line 0) where
    here : total (drop line sizes) ≡ n + total (drop (line + 1) sizes)
    here = ap total (drop-cons sizes line 0 h) ∙ (λ z. total (sym v z ∷ drop (sym (add-one line) z) sizes)) ∙ total_cons n (drop (line + 1) sizes)

    pub counting_more : 2 * n ≤ left → Counting sizes words (left - 2 * n) (line + 1)
    counting_more k = let a = c.is in let b = here in record { is = omega arith }

    pub counting_short : left < 2 * n → false ≡ eqb (2 * total sizes) (length words)
    counting_short k = let a = c.is in let b = here in sym (ne_eqb (2 * total sizes) (length words) (λ q. omega arith))

  pub counting_end : (left line : ℕ) → Counting sizes words left line → length sizes ≤ line → eqb left 0 ≡ eqb (2 * total sizes) (length words)
  counting_end left line c h = go (eqb left 0) refl
    where
      none : total (drop line sizes) ≡ 0
      none = ap total (drop_of_length-le sizes {i = line} h) ∙ total_nil

      go : (t : Bool) → eqb left 0 ≡ t → t ≡ eqb (2 * total sizes) (length words)
      go true e = let z = eqb-true left 0 e in let a = c.is in let b = none in sym (eq-eqb (2 * total sizes) (length words) (omega arith))
      go false e = let z = eqb-false left 0 e in let a = c.is in let b = none in sym (ne_eqb (2 * total sizes) (length words) (λ q. z (omega arith)))
