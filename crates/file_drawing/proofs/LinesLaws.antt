-- Laws of specs/Lines.
use Prim.Native.Nat.{ℕ, zero, suc, ◌+◌, ◌-◌, ◌*◌, ◌/◌, ◌%◌, ◌≤◌, ◌<◌}
use native.Mathlib.Numerals.{add-one}
use native.Mathlib.Omega.{arith}
use mathlib.Core.Path.{◌≡◌, refl, sym, ap, ◌∙◌, subst}
use mathlib.Core.List.{List, [], ◌∷◌, map}
use mathlib.Core.Bool.{true, false}
use lib.ListN.{length, drop, set}
use lib.Seq.{sets, drop-drop}
use borrow.Author.Tests.{le-leb}
use Rattle.limits.specs.Limits.{most_points}
use Rattle.grid.specs.Grid.{read_place, place_at}
use Rattle.drawing_spec.specs.Bytes.{number}
use Rattle.drawing_spec.specs.Drawing.{Point, line_points}
use Rattle.drawing_spec.specs.Read.{points, points_of_line, bodies, total, lines_then_links, lengths_fit}
use Rattle.drawing_spec.proofs.Placed.{point_is, points_one}
use Rattle.file_records.specs.Kind.{kind_of}
use Rattle.file_records.specs.Walk.{size_at, kind_at, body_at, next_at, records_from, cut_from}
use Rattle.file_records.proofs.Walk.{record_at, room, still_whole, record_here, body_long}
use Rattle.file_records.specs.Body.{record_read}
use Rattle.file_records.proofs.Made.{body_line, record_place, record_whole}
use Rattle.file_records.specs.declared.Record.{Record}
use Rattle.file_records.specs.declared.Body.TheVariants as body
use Rattle.file_drawing.specs.Held.{points_of}
use Rattle.file_reader.specs.Part.{body_part, behind_at}
use Rattle.file_reader.proofs.Part.{part_is, behind_is}
use Rattle.file_checks.specs.Tally.{points_in}
use Rattle.drawing_spec.proofs.Records.{bodies_here, bodies_other}
use Rattle.file_checks.proofs.TallyLaws.{line_size}
use Rattle.file_checks.proofs.KindsLaws.{line_next, links_next, some_left}
use Rattle.file_checks.proofs.CoordinatesLaws.{length_here, lengths_after}
use Rattle.file_drawing.specs.Stores.{xs_of, ys_of, ends_from}
use Rattle.file_drawing.proofs.Stores.{sets_map}
use Rattle.file_drawing.specs.Lines.{Arrays, arrays, AtLines, LinesRead, lines_from}

-- ---- points, one at a time

pub points_step : (file : List ℕ) (at n : ℕ) → 0 < n
    → points n (drop at file) ≡ record { x = place_at (read_place (number 8 (drop at file))); y = place_at (read_place (number 8 (drop (at + 8) file))) } ∷ points (n - 1) (drop (at + 16) file)
points_step file at n h =
    let e : n ≡ suc (n - 1) = omega arith in
    ap (λ (k : ℕ). points k (drop at file)) e ∙ points_one (n - 1) (drop at file) ∙ rw (point_is (drop at file), drop-drop 8 at file, drop-drop 16 at file)

pub points_long : (n : ℕ) (bs : List ℕ) → length (points n bs) ≡ n
unfolding points
points_long zero bs = refl
points_long (suc n) bs = ap suc (points_long n (drop 16 bs))

-- the loop over a line's points, from the i-th on: f is x or y
module _ (f : Point → ℕ) (body : List ℕ) (n first : ℕ) (start : List ℕ) where
  abbrev pub Placing : ℕ → List ℕ → Type 0
  Placing i now = sets now (first + i) (map f (points (n - i) (drop (16 * i) body))) ≡ sets start first (map f (points n body))

  pub place_none : Placing 0 start
  place_none =
      let p : first + 0 ≡ first = omega arith in
      let q : n - 0 ≡ n = omega arith in
      λ j. sets start (p j) (map f (points (q j) body))

  pub placed : (i : ℕ) (now : List ℕ) → Placing i now → n ≤ i → now ≡ sets start first (map f (points n body))
  unfolding points
  placed i now e h = let z : n - i ≡ 0 = omega arith in sym (ap (λ (k : ℕ). sets now (first + i) (map f (points k (drop (16 * i) body)))) z) ∙ e

  pub placing : (i v : ℕ) (now : List ℕ) → Placing i now → i < n
      → v ≡ f (record { x = place_at (read_place (number 8 (drop (16 * i) body))); y = place_at (read_place (number 8 (drop (16 * i + 8) body))) })
      → Placing (i + 1) (set now (first + i) v)
  placing i v now e h is =
      let p : first + (i + 1) ≡ suc (first + i) = omega arith in
      let q : n - (i + 1) ≡ n - i - 1 = omega arith in
      let r : 16 * (i + 1) ≡ 16 * i + 16 = omega arith in
      (λ j. sets (set now (first + i) v) (p j) (map f (points (q j) (drop (r j) body))))
      ∙ ap (λ (v : ℕ). sets (set now (first + i) v) (suc (first + i)) (map f (points (n - i - 1) (drop (16 * i + 16) body)))) is
      ∙ sym (ap (λ (ps : List Point). sets now (first + i) (map f ps)) (points_step body (16 * i) (n - i) (omega arith)))
      ∙ e

-- ---- the line at a place, where lines are left

module _ (file : List ℕ) (at : ℕ) (w : cut_from file at ≡ false) (o : lines_then_links (records_from file at) ≡ true) (l : lengths_fit (records_from file at) ≡ true) (some : 0 < length (bodies 2 (records_from file at))) where
  here : at < length file
  here = some_left 2 file at some

  next : (kind_at file at ≡ 2) × (lines_then_links (records_from file (next_at file at)) ≡ true)
  next =
      let e = record_here file at here w in
      line_next (record_at file at) (records_from file (next_at file at)) (sym (ap lines_then_links e) ∙ o) (rw e at some)

  pub order_after : lines_then_links (records_from file (next_at file at)) ≡ true
  order_after = next.1

  whole_points : size_at file at % 16 ≡ 0
  whole_points = line_size (kind_at file at) (size_at file at) (length_here file at here w l) next.0

  -- the points that the record says
  pub points_here : points_of (record_read file at).body ≡ size_at file at / 16
  points_here =
      let k = next.0 in
      let b = body_line file at (size_at file at) refl (sym (ap kind_of k)) whole_points in
      sym (ap (λ r. points_of r.body) (record_whole file at true (sym (le-leb (next_at file at) (length file) (room file at here w))) (body.Line (size_at file at / 16)) refl b))

  bodies_next : (k : ℕ) → kind_at file at ≡ k → bodies k (records_from file at) ≡ body_at file at ∷ bodies k (records_from file (next_at file at))
  bodies_next k e = ap (bodies k) (record_here file at here w) ∙ bodies_here k (record_at file at) (records_from file (next_at file at)) e

  pub lines_here : bodies 2 (records_from file at) ≡ body_at file at ∷ bodies 2 (records_from file (next_at file at))
  lines_here = bodies_next 2 next.0

  pub links_here : bodies 3 (records_from file at) ≡ bodies 3 (records_from file (next_at file at))
  links_here = let k = next.0 in ap (bodies 3) (record_here file at here w) ∙ bodies_other 3 (record_at file at) (records_from file (next_at file at)) (λ q. omega arith)

  pub line_is : points_of_line (body_at file at) ≡ points (size_at file at / 16) (body_at file at)
  unfolding points_of_line
  line_is = ap (λ (n : ℕ). points (n / 16) (body_at file at)) (body_long file at here w)

-- ---- the loop over the lines

pub record Filling (file : List ℕ) (start count : ℕ) (a : Arrays) (at line filled : ℕ) (starts xs ys : List ℕ) : Type 0 where
  pub inside : at ≤ length file
  pub is_whole : cut_from file at ≡ false
  pub in_order : lines_then_links (records_from file at) ≡ true
  pub lengths_fit_known : lengths_fit (records_from file at) ≡ true
  pub left : line + length (bodies 2 (records_from file at)) ≡ count
  pub few_points : filled + points_in (bodies 2 (records_from file at)) ≤ most_points
  pub same_links : bodies 3 (records_from file at) ≡ bodies 3 (records_from file start)
  pub same_starts : sets starts (line + 1) (ends_from filled (lines_from file at)) ≡ sets a.starts 1 (ends_from 0 (lines_from file start))
  pub same_xs : sets xs filled (xs_of (line_points (lines_from file at))) ≡ sets a.xs 0 (xs_of (line_points (lines_from file start)))
  pub same_ys : sets ys filled (ys_of (line_points (lines_from file at))) ≡ sets a.ys 0 (ys_of (line_points (lines_from file start)))

pub fill_start : (file : List ℕ) (start count : ℕ) (a : Arrays) → AtLines file start count → Filling file start count a start 0 0 a.starts a.xs a.ys
fill_start file start count a ready =
    let n = ready.counted in
    let p = ready.few_points in
    record {
      inside = ready.inside;
      is_whole = ready.is_whole;
      in_order = ready.in_order;
      lengths_fit_known = ready.lengths_fit_known;
      left = omega arith;
      few_points = omega arith;
      same_links = refl;
      same_starts = refl;
      same_xs = refl;
      same_ys = refl;
    }

-- at the end of the lines
module _ (file : List ℕ) (start count : ℕ) (a : Arrays) (at line filled : ℕ) (starts xs ys : List ℕ) (f : Filling file start count a at line filled starts xs ys) (h : count ≤ line) where
  none_more : length (bodies 2 (records_from file at)) ≡ 0
  none_more = let l = f.left in omega arith

  no_bodies : (bs : List (List ℕ)) → length bs ≡ 0 → map points_of_line bs ≡ []
  no_bodies [] e = refl
  no_bodies (b ∷ bs) e = absurd (omega arith)

  pub fill_end : LinesRead file start a (arrays starts xs ys) at
  unfolding line_points ends_from
  fill_end =
      let e : lines_from file at ≡ [] = no_bodies (bodies 2 (records_from file at)) none_more in
      record {
        starts_are = sym (ap (λ (ls : List (List Point)). sets starts (line + 1) (ends_from filled ls)) e) ∙ f.same_starts;
        xs_are = sym (ap (λ (ls : List (List Point)). sets xs filled (xs_of (line_points ls))) e) ∙ f.same_xs;
        ys_are = sym (ap (λ (ls : List (List Point)). sets ys filled (ys_of (line_points ls))) e) ∙ f.same_ys;
        end_inside = f.inside;
        end_whole = f.is_whole;
        links_left = links_next (records_from file at) f.in_order none_more;
        end_lengths = f.lengths_fit_known;
        same_links = f.same_links;
      }

-- with a line more: the record found there, the points that it says, and its body as a part of the file
module _ (file : List ℕ) (start count : ℕ) (a : Arrays) (at line filled : ℕ) (starts xs ys : List ℕ) (f : Filling file start count a at line filled starts xs ys) (h : line < count) (found : Record) (read : found ≡ record_read file at) (n : ℕ) (says : n ≡ points_of found.body) (part : List ℕ) (hands : part ≡ body_part file found.at) where
  some : 0 < length (bodies 2 (records_from file at))
  some = let l = f.left in omega arith

  at_line : at < length file
  at_line = some_left 2 file at some

  place_is : found.at ≡ at
  place_is = ap (λ (r : Record). r.at) read ∙ record_place file at

  points_there : n ≡ size_at file at / 16
  points_there = says ∙ ap (λ (r : Record). points_of r.body) read ∙ points_here file at f.is_whole f.in_order f.lengths_fit_known some

  part_there : part ≡ body_at file at
  part_there = hands ∙ ap (body_part file) place_is ∙ part_is file at at_line f.is_whole

  -- the body has the points
  pub within : 16 * n ≤ length part
  within = let l = ap length part_there ∙ body_long file at at_line f.is_whole in let b = points_there in omega arith

  bodies_are : bodies 2 (records_from file at) ≡ body_at file at ∷ bodies 2 (records_from file (next_at file at))
  bodies_are = lines_here file at f.is_whole f.in_order f.lengths_fit_known some

  points_are : points_in (bodies 2 (records_from file at)) ≡ size_at file at / 16 + points_in (bodies 2 (records_from file (next_at file at)))
  unfolding total
  points_are = ap points_in bodies_are ∙ ap (λ (m : ℕ). m / 16 + points_in (bodies 2 (records_from file (next_at file at)))) (body_long file at at_line f.is_whole)

  pub has_room : filled + n ≤ most_points
  has_room = let p = points_are in let q = f.few_points in let b = points_there in omega arith

  lines_are : lines_from file at ≡ points n part ∷ lines_from file (next_at file at)
  lines_are =
      ap (map points_of_line) bodies_are
      ∙ ap (λ (l : List Point). l ∷ lines_from file (next_at file at)) (line_is file at f.is_whole f.in_order f.lengths_fit_known some ∙ ap (λ (k : ℕ). points k (body_at file at)) (sym points_there) ∙ ap (points n) (sym part_there))

  next_x : (g : Point → ℕ) (now all : List ℕ) → sets now filled (map g (line_points (lines_from file at))) ≡ all
      → sets (sets now filled (map g (points n part))) (filled + n) (map g (line_points (lines_from file (next_at file at)))) ≡ all
  unfolding line_points
  next_x g now all e =
      ap (λ (k : ℕ). sets (sets now filled (map g (points n part))) (filled + k) (map g (line_points (lines_from file (next_at file at))))) (sym (points_long n part))
      ∙ sym (sets_map g now filled (points n part) (line_points (lines_from file (next_at file at))))
      ∙ sym (ap (λ (ls : List (List Point)). sets now filled (map g (line_points ls))) lines_are)
      ∙ e

  next_starts : sets (set starts (line + 1) (filled + n)) (line + 1 + 1) (ends_from (filled + n) (lines_from file (next_at file at))) ≡ sets a.starts 1 (ends_from 0 (lines_from file start))
  unfolding ends_from
  next_starts =
      ap (λ (k : ℕ). sets (set starts (line + 1) (filled + n)) k (ends_from (filled + n) (lines_from file (next_at file at)))) (add-one (line + 1))
      ∙ ap (λ (k : ℕ). sets (set starts (line + 1) (filled + k)) (suc (line + 1)) (ends_from (filled + k) (lines_from file (next_at file at)))) (sym (points_long n part))
      ∙ sym (ap (λ (ls : List (List Point)). sets starts (line + 1) (ends_from filled ls)) lines_are)
      ∙ f.same_starts

  pub fill_on : (xs' ys' : List ℕ) → xs' ≡ sets xs filled (xs_of (points n part)) → ys' ≡ sets ys filled (ys_of (points n part)) → (next : ℕ) → next ≡ behind_at file found.at
      → Filling file start count a next (line + 1) (filled + n) (set starts (line + 1) (filled + n)) xs' ys'
  fill_on xs' ys' ex ey next P =
      let w = f.is_whole in
      let l = f.left in
      let q = f.few_points in
      let p = points_are in
      let b = points_there in
      let m = ap length bodies_are in
      let r = room file at at_line w in
      let step : next ≡ next_at file at = P ∙ ap (behind_at file) place_is ∙ behind_is file at at_line w in
      subst (λ (k : ℕ). Filling file start count a k (line + 1) (filled + n) (set starts (line + 1) (filled + n)) xs' ys') (sym step)
      (record {
        inside = r;
        is_whole = still_whole file at at_line w;
        in_order = order_after file at w f.in_order f.lengths_fit_known some;
        lengths_fit_known = lengths_after file at at_line w f.lengths_fit_known;
        left = omega arith;
        few_points = omega arith;
        same_links = sym (links_here file at w f.in_order f.lengths_fit_known some) ∙ f.same_links;
        same_starts = next_starts;
        same_xs = ap (λ (now : List ℕ). sets now (filled + n) (xs_of (line_points (lines_from file (next_at file at))))) ex ∙ next_x (λ (p : Point). p.x) xs (sets a.xs 0 (xs_of (line_points (lines_from file start)))) f.same_xs;
        same_ys = ap (λ (now : List ℕ). sets now (filled + n) (ys_of (line_points (lines_from file (next_at file at))))) ey ∙ next_x (λ (p : Point). p.y) ys (sets a.ys 0 (ys_of (line_points (lines_from file start)))) f.same_ys;
      })
