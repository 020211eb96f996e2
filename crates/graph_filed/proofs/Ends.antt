-- The ends of all links, filed: the lists that the code makes, said at once. Assumes nothing.
use mathlib.Core.Path.{◌≡◌, refl, ap, ◌∙◌}
use mathlib.Core.List.{List, [], ◌∷◌, ◌++◌, map}
use Prim.Native.Nat.{ℕ, zero, suc, ◌+◌, ◌-◌, ◌*◌, ◌≤◌, ◌^◌}
use native.Mathlib.Numerals.{add-one}
use native.Mathlib.Omega.{arith}
use lib.ListN.{length, get_or, drop, replicate, length-map}
use lib.Seq.{sets}
use Rattle.limits.specs.Limits.{most_splits}
use Rattle.lists.proofs.Parts.{at_front, behind_front}
use Rattle.drawing_spec.specs.Drawing.{Point, End, Link}
use Rattle.lists.specs.Members.{All}
use Rattle.lists.proofs.Elements.{get_d_same}
use Rattle.drawing_spec.specs.OnGrid.{OnGrid, AtEnds}
use Rattle.grid.specs.Grid.{place_of, coordinate, place_at}
use Rattle.graph_segment_ends.specs.Ends.{filed, Store, with_filed}
use Rattle.graph_segment_ends.proofs.Ends.{filed_all, no_ends}
use Rattle.graph_segment_ends.proofs.Splits.{ends_of}
use Rattle.file_records.specs.declared.MstEdge.{MstEdge}
use Rattle.file_records.specs.Body.{point_from, edge_from}
use Rattle.file_drawing.specs.Held.{past_end}
use Rattle.file_drawing.specs.Stores.{padded}
use Rattle.file_drawing.proofs.Stores.{sets_padded}
use Rattle.file_drawing.specs.Back.{point_back}
use Rattle.graph_splits.specs.Points.{Points, points, MeasurablePoints}
use Rattle.graph_line.specs.Lines.{Filing, filing, filing_from}
use Rattle.drawing_spec.proofs.OnGrid.{place_back}
use Rattle.graph_filing.specs.Stored.{store_end, store_link, store_links, place_in}

-- ---- ends

-- the place under which an end is filed
abbrev pub number : List ℕ → End → ℕ
number starts x = place_in starts x.line x.segment

abbrev pub end_x : End → ℕ
end_x x = x.point.x

abbrev pub end_y : End → ℕ
end_y x = x.point.y

unfoldable store_ends : List ℕ → ℕ → List End → Store → Store
store_ends starts e [] t = t
store_ends starts e (x ∷ xs) t = store_ends starts (suc e) xs (store_end e (number starts x) x.point t)

point_back_lem : (p : Point) → OnGrid p → point_back (point_from p) ≡ p
point_back_lem p h = ap (λ (x : ℕ). record { x = x; y = place_at (place_of (coordinate p.y)) }) (place_back p.x h.0) ∙ ap (λ (y : ℕ). record { x = p.x; y = y }) (place_back p.y h.1)

module _ (starts : List ℕ) where
  link_ends : (i : ℕ) (k : Link) (t : Store) → AtEnds OnGrid k
      → store_link starts i (edge_from k) t ≡ store_end (suc (2 * i)) (number starts k.second) k.second.point (store_end (2 * i) (number starts k.first) k.first.point t)
  unfolding store_link
  link_ends i k t h =
      let a = number starts k.first in
      let b = number starts k.second in
      ap (λ (p : Point). store_end (2 * i + 1) b (point_back (point_from k.second.point)) (store_end (2 * i) a p t)) (point_back_lem k.first.point h.0)
      ∙ ap (λ (p : Point). store_end (2 * i + 1) b p (store_end (2 * i) a k.first.point t)) (point_back_lem k.second.point h.1)
      ∙ ap (λ (e : ℕ). store_end e b k.second.point (store_end (2 * i) a k.first.point t)) (add-one (2 * i))

  links_ends : (ks : List Link) (ms rest : List MstEdge) (i : ℕ) (t : Store) → drop i ms ≡ map edge_from ks ++ rest → All (AtEnds OnGrid) ks
      → store_links starts ms (length ks) i t ≡ store_ends starts (2 * i) (ends_of ks) t
  unfolding store_links store_ends ends_of
  links_ends [] ms rest i t e h = refl
  links_ends (k ∷ ks) ms rest i t e h =
      let next : drop (i + 1) ms ≡ map edge_from ks ++ rest = ap (λ (j : ℕ). drop j ms) (add-one i) ∙ behind_front ms i (edge_from k) past_end (map edge_from ks ++ rest) e in
      let two : 2 * (i + 1) ≡ suc (suc (2 * i)) = omega arith in
      ap (λ (m : MstEdge). store_links starts ms (length ks) (i + 1) (store_link starts i m t)) (at_front ms i (edge_from k) past_end (map edge_from ks ++ rest) e)
      ∙ ap (store_links starts ms (length ks) (i + 1)) (link_ends i k t h.0)
      ∙ links_ends ks ms rest (i + 1) (store_end (suc (2 * i)) (number starts k.second) k.second.point (store_end (2 * i) (number starts k.first) k.first.point t)) next h.1
      ∙ ap (λ (n : ℕ). store_ends starts n (ends_of ks) (store_end (suc (2 * i)) (number starts k.second) k.second.point (store_end (2 * i) (number starts k.first) k.first.point t))) two

  stored_are : (e : ℕ) (es : List End) (t : Store)
      → store_ends starts e es t
      ≡ with_filed (filed_all e (map (number starts) es) (filed t.newest t.next)) (sets t.xs e (map end_x es)) (sets t.ys e (map end_y es))
  unfolding store_ends store_end filed_all
  stored_are e [] t = refl
  stored_are e (x ∷ es) t = stored_are (suc e) es (store_end e (number starts x) x.point t)

-- the lists before any end is filed
abbrev pub no_store : Store
no_store = with_filed no_ends (replicate most_splits 0) (replicate most_splits 0)

-- the filing of the ends es
abbrev pub places_of : List End → Points
places_of es = points (padded most_splits 0 (map end_x es)) (padded most_splits 0 (map end_y es))

abbrev pub filing_of : List ℕ → List End → Filing
filing_of starts es = filing (places_of es) (filed_all 0 (map (number starts) es) no_ends).next (filed_all 0 (map (number starts) es) no_ends).heads

pub filed_all_lem : (starts : List ℕ) (ks : List Link) (ms rest : List MstEdge) (s : Store) → ms ≡ map edge_from ks ++ rest → All (AtEnds OnGrid) ks → length (ends_of ks) ≤ most_splits
    → s ≡ store_links starts ms (length ks) 0 no_store → filing_from s ≡ filing_of starts (ends_of ks)
filed_all_lem starts ks ms rest s e on few h =
    let es = ends_of ks in
    let all = filed_all 0 (map (number starts) es) no_ends in
    let fits : (f : End → ℕ) → sets (replicate most_splits 0) 0 (map f es) ≡ padded most_splits 0 (map f es) = λ f. sets_padded most_splits 0 (map f es) (omega (arith, length-map es f)) in
    ap filing_from (h ∙ links_ends starts ks ms rest 0 no_store e on ∙ stored_are starts 0 es no_store)
    ∙ ap (λ (l : List ℕ). filing (points l (sets (replicate most_splits 0) 0 (map end_y es))) all.next all.heads) (fits end_x)
    ∙ ap (λ (l : List ℕ). filing (points (padded most_splits 0 (map end_x es)) l) all.next all.heads) (fits end_y)

-- lengths can be made of their places
low_at : (f : End → ℕ) (es : List End) (n i : ℕ) → All (λ (x : End). f x ≤ 2 ^ 24) es → get_or (map f es ++ replicate n 0) i 0 ≤ 2 ^ 24
low_at f [] n i a = omega (arith, get_d_same {A = ℕ} n i 0)
low_at f (x ∷ es) n zero a = a.0
low_at f (x ∷ es) n (suc i) a = low_at f es n i a.1

ends_low : (f : Point → ℕ) → ((p : Point) → OnGrid p → f p ≤ 2 ^ 24) → (ks : List Link) → All (AtEnds OnGrid) ks → All (λ (x : End). f x.point ≤ 2 ^ 24) (ends_of ks)
unfolding ends_of
ends_low f h [] a = tt
ends_low f h (k ∷ ks) a = (h k.first.point a.0.0, (h k.second.point a.0.1, ends_low f h ks a.1))

pub low_places : (ks : List Link) → All (AtEnds OnGrid) ks → MeasurablePoints (places_of (ends_of ks))
low_places ks a = record {
  low = λ i. (
    low_at end_x (ends_of ks) (most_splits - length (map end_x (ends_of ks))) i (ends_low (λ (p : Point). p.x) (λ p h. omega (arith, h.0)) ks a),
    low_at end_y (ends_of ks) (most_splits - length (map end_y (ends_of ks))) i (ends_low (λ (p : Point). p.y) (λ p h. omega (arith, h.1)) ks a),
  );
}
