-- Laws of specs/Coordinates.
use Prim.Native.Nat.{ℕ, zero, suc, ◌+◌, ◌-◌, ◌*◌, ◌/◌, ◌%◌, ◌≤◌, ◌<◌}
use native.Mathlib.Omega.{arith}
use mathlib.Core.Path.{◌≡◌, refl, sym, ap, ◌∙◌}
use mathlib.Core.List.{List, [], ◌∷◌, map}
use mathlib.Core.Bool.{Bool, true, false, ◌&&◌}
use lib.ListN.{length, drop}
use lib.Seq.{drop-drop}
use lib.Dec.{eqb}
use borrow.Author.Tests.{eqb-true}
use Rattle.limits.specs.Limits.{kind_line, kind_link}
use Rattle.grid.specs.Grid.{read_place, on_grid}
use Rattle.drawing_spec.specs.Bytes.{number}
use Rattle.drawing_spec.specs.Drawing.{PointOf, LinkOf, Pattern}
use Rattle.drawing_spec.specs.Read.{Record, bodies, every, lengths_fit, coordinates_fit, point_fits, spots, spots_of_line, sketched_link, sketch_of, records_of, is_cut}
use Rattle.drawing_spec.proofs.Records.{bodies_here, bodies_other}
use Rattle.file_records.specs.declared.Kind.{Kind}
use Rattle.file_records.specs.Kind.{kind_of}
use Rattle.file_records.specs.Walk.{size_at, kind_at, body_at, next_at, records_from, cut_from}
use Rattle.file_records.proofs.KindsLaws.{Number, first, second, third, none, number_of}
use Rattle.file_records.proofs.Walk.{record_at, none_left, room, still_whole, record_here, body_long}
use Rattle.file_reader.specs.Part.{body_part, behind_at}
use Rattle.file_reader.proofs.Part.{part_is, behind_is}
use Rattle.file_checks.specs.Tally.{length_fits}
use Rattle.file_checks.proofs.TallyLaws.{and_assoc, lengths_cons}
use Rattle.file_checks.specs.Coordinates.{body_on, words, words_on}

-- ---- what the code computes

abbrev pub on : ℕ → Bool
on w = on_grid (read_place w)

-- ---- a row of coordinates, one at a time

pub row_none : (file : List ℕ) (at : ℕ) → words_on file at 0 ≡ true
unfolding words_on words every
row_none file at = refl

pub row_step : (file : List ℕ) (at n : ℕ) → 0 < n → words_on file at n ≡ on (number 8 (drop at file)) && words_on file (at + 8) (n - 1)
unfolding words_on words every
row_step file at n h =
    let e : n ≡ suc (n - 1) = omega arith in
    ap (words_on file at) e ∙ ap (λ (l : List ℕ). on (number 8 (drop at file)) && every (λ (w : ℕ). on_grid (read_place w)) (words (n - 1) l)) (drop-drop 8 at file)

-- ---- a record

-- of every record; where each body has the length that its kind asks, this is check 7 of the sketch (`coordinates_are`)
unfoldable pub coordinates_in : List Record → Bool
coordinates_in rs =
    every (λ (b : List ℕ). every (λ (w : ℕ). on_grid (read_place w)) (words (length b / 8) b)) (bodies kind_line rs)
    && every (λ (b : List ℕ). every (λ (w : ℕ). on_grid (read_place w)) (words 4 (drop 8 b))) (bodies kind_link rs)

and_swap : (x a b : Bool) → a && (x && b) ≡ x && (a && b)
and_swap true a b = refl
and_swap false true b = refl
and_swap false false b = refl

coordinates_cons : (r : Record) (rs : List Record) → coordinates_in (r ∷ rs) ≡ body_on (kind_of r.kind) r.body && coordinates_in rs
unfolding coordinates_in every words_on
coordinates_cons r rs = go (number_of r.kind)
  where
    two : List Record → Bool
    two rs = every (λ (b : List ℕ). every (λ (w : ℕ). on_grid (read_place w)) (words (length b / 8) b)) (bodies 2 rs)

    three : List Record → Bool
    three rs = every (λ (b : List ℕ). every (λ (w : ℕ). on_grid (read_place w)) (words 4 (drop 8 b))) (bodies 3 rs)

    go : Number r.kind → coordinates_in (r ∷ rs) ≡ body_on (kind_of r.kind) r.body && coordinates_in rs
    go (first e) = rw (bodies_other 2 r rs (λ q. omega arith), bodies_other 3 r rs (λ q. omega arith), e)
    go (second e) = rw (bodies_here 2 r rs e, bodies_other 3 r rs (λ q. omega arith), e) (and_assoc (words_on r.body 0 (length r.body / 8)) (two rs) (three rs))
    go (third e) = rw (bodies_other 2 r rs (λ q. omega arith), bodies_here 3 r rs e, e) (and_swap (words_on r.body 8 4) (two rs) (three rs))
    go (none p q s o) = rw (bodies_other 2 r rs q, bodies_other 3 r rs s, o)

pub and_first : (a b : Bool) → a && b ≡ true → a ≡ true
and_first true b h = refl
and_first false b h = h

pub and_second : (a b : Bool) → a && b ≡ true → b ≡ true
and_second true b h = h
and_second false b h = let z : ◌≡◌ {A = ℕ} 0 1 = cc in absurd (omega arith)

-- the record at a place of a file that is whole there and whose bodies have their lengths
module _ (file : List ℕ) (at : ℕ) (h : at < length file) (w : cut_from file at ≡ false) (l : lengths_fit (records_from file at) ≡ true) where
  both : length_fits (kind_of (kind_at file at)) (length (body_at file at)) && lengths_fit (records_from file (next_at file at)) ≡ true
  both = sym (lengths_cons (record_at file at) (records_from file (next_at file at))) ∙ sym (ap lengths_fit (record_here file at h w)) ∙ l

  pub length_here : length_fits (kind_of (kind_at file at)) (size_at file at) ≡ true
  length_here =
      ap (length_fits (kind_of (kind_at file at))) (sym (body_long file at h w))
      ∙ and_first (length_fits (kind_of (kind_at file at)) (length (body_at file at))) (lengths_fit (records_from file (next_at file at))) both

  pub lengths_after : lengths_fit (records_from file (next_at file at)) ≡ true
  lengths_after = and_second (length_fits (kind_of (kind_at file at)) (length (body_at file at))) (lengths_fit (records_from file (next_at file at))) both

  on_step : coordinates_in (records_from file at) ≡ body_on (kind_of (kind_at file at)) (body_at file at) && coordinates_in (records_from file (next_at file at))
  on_step = ap coordinates_in (record_here file at h w) ∙ coordinates_cons (record_at file at) (records_from file (next_at file at))

-- ---- all records: it is check 7 of the sketch

four : (a b c d : Bool) → (a && b) && (c && d) ≡ a && (b && (c && (d && true)))
four true true true true = refl
four true true true false = refl
four true true false d = refl
four true false c d = refl
four false b c d = refl

points_row : (n : ℕ) (bs : List ℕ) → every (λ (p : PointOf Pattern). point_fits p) (spots n bs) ≡ every (λ (w : ℕ). on w) (words (2 * n) bs)
unfolding every spots words
points_row zero bs = refl
points_row (suc n) bs =
    let e : 2 * suc n ≡ suc (suc (2 * n)) = omega arith in
    and_assoc (on (number 8 bs)) (on (number 8 (drop 8 bs))) (every (λ (p : PointOf Pattern). point_fits p) (spots n (drop 16 bs)))
    ∙ ap (λ (t : Bool). on (number 8 bs) && (on (number 8 (drop 8 bs)) && t)) (points_row n (drop 16 bs) ∙ ap (λ (l : List ℕ). every (λ (w : ℕ). on w) (words (2 * n) l)) (sym (drop-drop 8 8 bs)))
    ∙ ap (λ (k : ℕ). every (λ (w : ℕ). on w) (words k bs)) (sym e)

line_row : (b : List ℕ) → length b % 16 ≡ 0 → every (λ (p : PointOf Pattern). point_fits p) (spots_of_line b) ≡ every (λ (w : ℕ). on w) (words (length b / 8) b)
unfolding spots_of_line
line_row b h = let e : 2 * (length b / 16) ≡ length b / 8 = omega arith in points_row (length b / 16) b ∙ ap (λ (k : ℕ). every (λ (w : ℕ). on w) (words k b)) e

link_row : (b : List ℕ) → point_fits (sketched_link b).first.point && point_fits (sketched_link b).second.point ≡ every (λ (w : ℕ). on w) (words 4 (drop 8 b))
unfolding every words sketched_link
link_row b =
    four (on (number 8 (drop 8 b))) (on (number 8 (drop 8 (drop 8 b)))) (on (number 8 (drop 24 b))) (on (number 8 (drop 8 (drop 24 b))))
    ∙ ap (λ (l : List ℕ). on (number 8 (drop 8 b)) && (on (number 8 (drop 8 (drop 8 b))) && (on (number 8 l) && (on (number 8 (drop 8 l)) && true)))) (sym (drop-drop 8 16 b) ∙ ap (drop 8) (sym (drop-drop 8 8 b)))

lines_row : (bs : List (List ℕ)) → every (λ (b : List ℕ). eqb (length b % 16) 0) bs ≡ true
    → every (λ (l : List (PointOf Pattern)). every (λ (p : PointOf Pattern). point_fits p) l) (map spots_of_line bs) ≡ every (λ (b : List ℕ). every (λ (w : ℕ). on w) (words (length b / 8) b)) bs
unfolding every
lines_row [] h = refl
lines_row (b ∷ bs) h =
    let here = and_first (eqb (length b % 16) 0) (every (λ (b : List ℕ). eqb (length b % 16) 0) bs) h in
    let there = and_second (eqb (length b % 16) 0) (every (λ (b : List ℕ). eqb (length b % 16) 0) bs) h in
    λ i. line_row b (eqb-true (length b % 16) 0 here) i && lines_row bs there i

links_row : (bs : List (List ℕ))
    → every (λ (l : LinkOf Pattern). point_fits l.first.point && point_fits l.second.point) (map sketched_link bs) ≡ every (λ (b : List ℕ). every (λ (w : ℕ). on w) (words 4 (drop 8 b))) bs
unfolding every
links_row [] = refl
links_row (b ∷ bs) = λ i. link_row b i && links_row bs i

pub coordinates_are : (rs : List Record) → lengths_fit rs ≡ true → coordinates_fit (sketch_of rs) ≡ coordinates_in rs
unfolding coordinates_fit sketch_of coordinates_in lengths_fit
coordinates_are rs h =
    let a = and_first _ _ h in
    λ i. lines_row (bodies 2 rs) (and_second (every (λ (b : List ℕ). eqb (length b) 10) (bodies 1 rs)) (every (λ (b : List ℕ). eqb (length b % 16) 0) (bodies 2 rs)) a) i && links_row (bodies 3 rs) i

-- ---- the loop over the records

pub record Checking (file : List ℕ) (at : ℕ) : Type 0 where
  pub inside : at ≤ length file
  pub is_whole : cut_from file at ≡ false
  pub lengths_fit_known : lengths_fit (records_from file at) ≡ true
  pub same : coordinates_in (records_from file at) ≡ coordinates_fit (sketch_of (records_of file))

pub check_start : (file : List ℕ) → is_cut file ≡ false → lengths_fit (records_of file) ≡ true → Checking file 0
check_start file w l = record { inside = omega arith; is_whole = w; lengths_fit_known = l; same = sym (coordinates_are (records_of file) l) }

pub check_end : (file : List ℕ) (at : ℕ) → Checking file at → length file ≤ at → true ≡ coordinates_fit (sketch_of (records_of file))
unfolding coordinates_in bodies every
check_end file at c h = sym (ap coordinates_in (none_left file at h)) ∙ c.same

module _ (file : List ℕ) (at : ℕ) (k : Kind) (b : List ℕ) (c : Checking file at) (h : at < length file) (K : k ≡ kind_of (kind_at file at)) (E : b ≡ body_part file at) where
  body_is : b ≡ body_at file at
  body_is = E ∙ part_is file at h c.is_whole

  pub body_fits : length_fits k (length b) ≡ true
  body_fits =
      ap (λ (k : Kind). length_fits k (length b)) K
      ∙ ap (length_fits (kind_of (kind_at file at))) (ap length body_is ∙ body_long file at h c.is_whole)
      ∙ length_here file at h c.is_whole c.lengths_fit_known

  here : (v : Bool) → body_on k b ≡ v → body_on (kind_of (kind_at file at)) (body_at file at) ≡ v
  here v e = sym (ap (λ (k : Kind). body_on k b) K ∙ ap (body_on (kind_of (kind_at file at))) body_is) ∙ e

  pub check_off : body_on k b ≡ false → false ≡ coordinates_fit (sketch_of (records_of file))
  check_off e = ap (λ (t : Bool). t && coordinates_in (records_from file (next_at file at))) (sym (here false e)) ∙ sym (on_step file at h c.is_whole c.lengths_fit_known) ∙ c.same

  pub check_on : body_on k b ≡ true → (next : ℕ) → next ≡ behind_at file at → Checking file next
  check_on e next P =
      let r = room file at h c.is_whole in
      let step : next ≡ next_at file at = P ∙ behind_is file at h c.is_whole in
      record {
        inside = omega arith;
        is_whole = ap (cut_from file) step ∙ still_whole file at h c.is_whole;
        lengths_fit_known = ap (λ (a : ℕ). lengths_fit (records_from file a)) step ∙ lengths_after file at h c.is_whole c.lengths_fit_known;
        same =
            ap (λ (a : ℕ). coordinates_in (records_from file a)) step
            ∙ sym (on_step file at h c.is_whole c.lengths_fit_known ∙ ap (λ (t : Bool). t && coordinates_in (records_from file (next_at file at))) (here true e))
            ∙ c.same;
      }

-- ---- the loop over a row: of the n coordinates from `at` on, those from the i-th on

module _ (file : List ℕ) (at n : ℕ) where
  abbrev pub RowLeft : ℕ → Type 0
  RowLeft i = words_on file (at + 8 * i) (n - i) ≡ words_on file at n

  pub row_start : RowLeft 0
  row_start =
      let p : at + 8 * 0 ≡ at = omega arith in
      let q : n - 0 ≡ n = omega arith in
      λ j. words_on file (p j) (q j)

  left_on : (i : ℕ) → RowLeft i → i < n → on (number 8 (drop (at + 8 * i) file)) && words_on file (at + 8 * (i + 1)) (n - (i + 1)) ≡ words_on file at n
  left_on i e h =
      let p : at + 8 * (i + 1) ≡ at + 8 * i + 8 = omega arith in
      let q : n - (i + 1) ≡ n - i - 1 = omega arith in
      (λ j. on (number 8 (drop (at + 8 * i) file)) && words_on file (p j) (q j)) ∙ sym (row_step file (at + 8 * i) (n - i) (omega arith)) ∙ e

  pub row_on : (i : ℕ) → RowLeft i → i < n → on (number 8 (drop (at + 8 * i) file)) ≡ true → RowLeft (i + 1)
  row_on i e h o = sym (ap (λ (b : Bool). b && words_on file (at + 8 * (i + 1)) (n - (i + 1))) o) ∙ left_on i e h

  pub row_off : (i : ℕ) → RowLeft i → i < n → on (number 8 (drop (at + 8 * i) file)) ≡ false → false ≡ words_on file at n
  row_off i e h o = sym (ap (λ (b : Bool). b && words_on file (at + 8 * (i + 1)) (n - (i + 1))) o) ∙ left_on i e h

  pub row_end : (i : ℕ) → RowLeft i → n ≤ i → true ≡ words_on file at n
  row_end i e h = let z : n - i ≡ 0 = omega arith in sym (ap (words_on file (at + 8 * i)) z ∙ row_none file (at + 8 * i)) ∙ e
