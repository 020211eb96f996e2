-- From what the passes find to the reader's answer. Assumes nothing.
use Prim.Native.Nat.{ℕ, ◌+◌, ◌≤◌}
use native.Mathlib.Omega.{arith}
use mathlib.Core.Path.{◌≡◌, refl, sym, ap, ◌∙◌}
use mathlib.Core.List.{List, ◌∷◌, map}
use mathlib.Core.Bool.{Bool, true, false, ◌&&◌, ◌||◌, not}
use lib.ListN.{length, replicate, length-map}
use lib.Dec.{eqb, leb}
use lib.Seq.{sets}
use borrow.Author.Tests.{leb-true}
use Rattle.limits.specs.Limits.{most_lines, most_points, most_links}
use Rattle.drawing_spec.specs.Drawing as drawn
use Rattle.drawing_spec.specs.Drawing.{linking, line_points}
use Rattle.drawing_spec.specs.Read.{Record, points_of_line, link_of, bodies, total, kinds_fit, lengths_fit, settings_fit, counts_fit, own_links_fit, links_fit, records_of, is_cut, sketch_of, drawing_of}
use Rattle.drawing_spec.proofs.Placed.{lines_are, links_are, settings_are, counts_placed, own_links_placed, links_placed}
use Rattle.file_records.specs.Body.{settings_from, edge_from, record_read}
use Rattle.file_records.specs.declared.Settings.{Settings}
use Rattle.file_records.specs.declared.MstEdge.{MstEdge}
use Rattle.file_reader.specs.Part.{behind_at}
use Rattle.file_checks.specs.declared.Tally.{Tally}
use Rattle.file_drawing.specs.declared.Drawing.{Drawing}
use Rattle.file_checks.specs.Settings.{settings_in}
use Rattle.file_drawing.specs.Held.{no_link, drawing_held}
use Rattle.file_records.specs.Meaning.{settings_of}
use Rattle.file_checks.specs.Tally.{tallied, no_tally, order_fits}
use Rattle.file_checks.proofs.TallyLaws.{kinds, lengths}
use Rattle.file_drawing.specs.Stores.{padded, xs_of, ys_of, ends_from}
use Rattle.file_drawing.proofs.Stores.{sets_padded, length_ends}
use Rattle.drawing_spec.proofs.Drawing.{length_line_points}
use Rattle.file.proofs.First.{settings_read, bodies_behind, at_lines, lines_tally, points_tally, links_tally, counts_tally, points_in_known}
use Rattle.file_checks.proofs.CoordinatesLaws.{and_first, and_second}
use Rattle.file_drawing.specs.Lines.{Arrays, arrays, AtLines, LinesRead, lines_from}
use Rattle.file_drawing.specs.Links.{AtLinks, links_from}
use Rattle.file_drawing.specs.Fit.{links_fit_in}
use Rattle.file_drawing.proofs.Fit.{links_held}
use Rattle.drawing_spec.specs.Accepted.{Passed}

-- ---- what each test tells

module _ (rs : List Record) (t : Tally) (e : t ≡ tallied rs no_tally) where
  pub order_tells : (b v : Bool) → b ≡ order_fits t.order → b ≡ v → kinds_fit rs ≡ v
  order_tells b v h i = sym (h ∙ ap (λ (t : Tally). order_fits t.order) e ∙ kinds rs) ∙ i

  pub lengths_tell : (v : Bool) → not t.lengths ≡ not v → lengths_fit rs ≡ v
  lengths_tell v i = sym (ap (λ (t : Tally). t.lengths) e ∙ lengths rs no_tally) ∙ not_same t.lengths v i
    where
      not_same : (a b : Bool) → not a ≡ not b → a ≡ b
      not_same true true h = refl
      not_same true false h = sym h
      not_same false true h = sym h
      not_same false false h = refl

  pub counts_tell : (b v : Bool) → b ≡ (leb t.lines most_lines && leb t.points most_points && leb t.links most_links) → b ≡ v → counts_fit (sketch_of rs) ≡ v
  counts_tell b v h i = sym (h ∙ counts_tally rs t e ∙ counts_placed rs) ∙ i

module _ (file : List ℕ) (w : is_cut file ≡ false) (k : kinds_fit (records_of file) ≡ true) (l : lengths_fit (records_of file) ≡ true) (s : Settings) (e : s ≡ settings_in (record_read file 0).body) where
  pub settings_tell : (b v : Bool) → b ≡ settings_fit (settings_of s) → b ≡ v → settings_fit (sketch_of (records_of file)).settings ≡ v
  settings_tell b v h i = sym (h ∙ ap (λ (s : Settings). settings_fit (settings_of s)) (e ∙ settings_read file w k l)) ∙ i

  pub own_links_tell : (t : Tally) → t ≡ tallied (records_of file) no_tally → (b v : Bool) → b ≡ (not (linking (settings_of s)) || eqb t.links 0) → b ≡ v → own_links_fit (sketch_of (records_of file)) ≡ v
  unfolding own_links_fit drawing_of
  own_links_tell t c b v h i =
      let rs = records_of file in
      let asked = ap (λ (s : Settings). not (linking (settings_of s)) || eqb t.links 0) (e ∙ settings_read file w k l) in
      let counted = ap (λ (n : ℕ). not (linking (sketch_of rs).settings) || eqb n 0) (links_tally rs t c) in
      sym (h ∙ asked ∙ counted ∙ own_links_placed rs) ∙ i

-- ---- the drawing of a file that passes the checks before check 8

pub few_of : (d : drawn.Drawing) → counts_fit d ≡ true → (length d.lines ≤ most_lines) × (total (map (λ (l : List drawn.Point). length l) d.lines) ≤ most_points) × (length d.links ≤ most_links)
unfolding counts_fit
few_of d h =
    let a = leb (length d.lines) most_lines in
    let b = leb (total (map (λ (l : List drawn.Point). length l) d.lines)) most_points in
    let c = leb (length d.links) most_links in
    let ab = and_first (a && b) c h in
    (leb-true _ _ (and_first a b ab), leb-true _ _ (and_second a b ab), leb-true _ _ (and_second (a && b) c h))

same_drawing : (s s' : Settings) (n n' q q' m m' : ℕ) (a a' x x' y y' : List ℕ) (k k' : List MstEdge) → s ≡ s' → n ≡ n' → q ≡ q' → m ≡ m' → a ≡ a' → x ≡ x' → y ≡ y' → k ≡ k'
    → ◌≡◌ {A = Drawing} (record { settings = s; lines = n; starts = a; points = q; xs = x; ys = y; link_count = m; links = k }) (record { settings = s'; lines = n'; starts = a'; points = q'; xs = x'; ys = y'; link_count = m'; links = k' })
same_drawing s s' n n' q q' m m' a a' x x' y y' k k' es en eq em ea ex ey ek = cc

-- an array that a loop filled is the list with zeros behind it
filled_as : {A : Type 0} (n : ℕ) (z : A) (a vs ws : List A) → a ≡ sets (replicate n z) 0 vs → vs ≡ ws → length ws ≤ n → a ≡ padded n z ws
filled_as n z a vs ws e i h = e ∙ ap (sets (replicate n z) 0) i ∙ sets_padded n z ws h

places_as : (g : drawn.Point → ℕ) (ls ms : List (List drawn.Point)) (a : List ℕ) → a ≡ sets (replicate most_points 0) 0 (map g (line_points ls)) → ls ≡ ms → total (map (λ (l : List drawn.Point). length l) ms) ≤ most_points → a ≡ padded most_points 0 (map g (line_points ms))
places_as g ls ms a e i h = filled_as most_points 0 a (map g (line_points ls)) (map g (line_points ms)) e (ap (λ (ls : List (List drawn.Point)). map g (line_points ls)) i) (rw (length-map (line_points ms) g, length_line_points ms) h)

starts_as : (ls ms : List (List drawn.Point)) (a : List ℕ) → a ≡ sets (replicate (most_lines + 1) 0) 1 (ends_from 0 ls) → ls ≡ ms → length ms ≤ most_lines → a ≡ padded (most_lines + 1) 0 (0 ∷ ends_from 0 ms)
starts_as ls ms a e i h = let m = length_ends 0 ms in filled_as (most_lines + 1) 0 a (0 ∷ ends_from 0 ls) (0 ∷ ends_from 0 ms) e (ap (λ (ls : List (List drawn.Point)). 0 ∷ ends_from 0 ls) i) (omega arith)

-- arrays that hold nothing yet
abbrev none : Arrays
none = arrays (replicate (most_lines + 1) 0) (replicate most_points 0) (replicate most_points 0)

module _ (file : List ℕ) (p : Passed file) (t : Tally) (e : t ≡ tallied (records_of file) no_tally) (start : ℕ) (behind : start ≡ behind_at file 0) where
  pub lines_ready : AtLines file start t.lines
  lines_ready =
      let rs = records_of file in
      let f = few_of (drawing_of rs) (counts_placed rs ∙ p.few) in
      let n = lines_tally (records_of file) t e in
      at_lines file p.is_whole p.in_order p.long start behind t.lines (sym (n ∙ ap length (lines_are rs) ∙ length-map (bodies 2 rs) points_of_line)) (rw n f.0) (rw (lines_are rs, points_in_known (bodies 2 rs)) at f.1)

  pub links_ready : (a b : Arrays) (end : ℕ) → LinesRead file start a b end → AtLinks file end t.links
  links_ready a c end l =
      let rs = records_of file in
      let f = few_of (drawing_of rs) (counts_placed rs ∙ p.few) in
      let n = links_tally (records_of file) t e in
      let b = bodies_behind file p.is_whole p.in_order p.long start behind 3 (λ q. omega arith) in
      record {
        inside = l.end_inside;
        is_whole = l.end_whole;
        only_links = l.links_left;
        lengths_fit_known = l.end_lengths;
        counted = ap length (l.same_links ∙ sym b) ∙ sym (n ∙ ap length (links_are rs) ∙ length-map (bodies 3 rs) link_of);
        few_links = rw n f.2;
      }

  pub drawing_made : (s : Settings) (r : Arrays) (end : ℕ) (edges : List MstEdge) → s ≡ settings_in (record_read file 0).body → LinesRead file start none r end → edges ≡ sets (replicate most_links no_link) 0 (links_from file end)
      → ◌≡◌ {A = Drawing} (record { settings = s; lines = t.lines; starts = r.starts; points = t.points; xs = r.xs; ys = r.ys; link_count = t.links; links = edges }) (drawing_held (drawing_of (records_of file)))
  unfolding drawing_held
  drawing_made s r end edges i l k =
      let rs = records_of file in
      let d = drawing_of rs in
      let f = few_of d (counts_placed rs ∙ p.few) in
      let w = p.is_whole in
      let lines_as : lines_from file start ≡ d.lines = ap (map points_of_line) (sym (bodies_behind file w p.in_order p.long start behind 2 (λ q. omega arith))) ∙ sym (lines_are rs) in
      let links_as : links_from file end ≡ map edge_from d.links = ap (λ (bs : List (List ℕ)). map edge_from (map link_of bs)) (l.same_links ∙ sym (bodies_behind file w p.in_order p.long start behind 3 (λ q. omega arith))) ∙ sym (ap (map edge_from) (links_are rs)) in
      let few_e : length (map edge_from d.links) ≤ most_links = rw (length-map d.links edge_from) f.2 in
      same_drawing s (settings_from d.settings) t.lines (length d.lines) t.points (length (line_points d.lines)) t.links (length d.links) r.starts (padded (most_lines + 1) 0 (0 ∷ ends_from 0 d.lines)) r.xs (padded most_points 0 (xs_of (line_points d.lines))) r.ys (padded most_points 0 (ys_of (line_points d.lines))) edges (padded most_links no_link (map edge_from d.links))
      (i ∙ settings_read file w p.in_order p.long ∙ sym (ap settings_from (settings_are rs))) (lines_tally rs t e) (points_tally rs t e ∙ sym (length_line_points d.lines)) (links_tally rs t e)
      (starts_as (lines_from file start) d.lines r.starts l.starts_are lines_as f.0)
      (places_as (λ (p : drawn.Point). p.x) (lines_from file start) d.lines r.xs l.xs_are lines_as f.1)
      (places_as (λ (p : drawn.Point). p.y) (lines_from file start) d.lines r.ys l.ys_are lines_as f.1)
      (filled_as most_links no_link edges (links_from file end) (map edge_from d.links) k links_as few_e)

-- ---- check 8 on it

module _ (file : List ℕ) (p : Passed file) (d : Drawing) (e : d ≡ drawing_held (drawing_of (records_of file))) where
  pub drawing_few : (d.lines ≤ most_lines) × (d.link_count ≤ most_links)
  unfolding drawing_held
  drawing_few =
      let f = few_of (drawing_of (records_of file)) (counts_placed (records_of file) ∙ p.few) in
      (rw (ap (λ (d : Drawing). d.lines) e) f.0, rw (ap (λ (d : Drawing). d.link_count) e) f.2)

  pub links_tell : (b v : Bool) → b ≡ links_fit_in d.starts d.lines d.links d.link_count 0 → b ≡ v → links_fit (sketch_of (records_of file)) ≡ v
  unfolding drawing_held
  links_tell b v h i =
      let a = drawing_of (records_of file) in
      let f = few_of a (counts_placed (records_of file) ∙ p.few) in
      let m = length_ends 0 a.lines in
      let f0 = f.0 in
      let few_e : length (map edge_from a.links) ≤ most_links = rw (length-map a.links edge_from) f.2 in
      sym
      (h
      ∙ ap (λ (d : Drawing). links_fit_in d.starts d.lines d.links d.link_count 0) e
      ∙ ap (λ (s : List ℕ). links_fit_in s (length a.lines) (padded most_links no_link (map edge_from a.links)) (length a.links) 0) (sym (sets_padded (most_lines + 1) 0 (0 ∷ ends_from 0 a.lines) (omega arith)))
      ∙ ap (λ (l : List MstEdge). links_fit_in (sets (replicate (most_lines + 1) 0) 1 (ends_from 0 a.lines)) (length a.lines) l (length a.links) 0) (sym (sets_padded most_links no_link (map edge_from a.links) few_e))
      ∙ links_held a f.0 f.2
      ∙ links_placed (records_of file))
      ∙ i
