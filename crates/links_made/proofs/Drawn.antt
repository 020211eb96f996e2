-- The candidates of the ends that were taken out are those of the drawing's lines, and each is written as the link that it makes.
use mathlib.Core.Path.{◌≡◌, refl, sym, ap, ◌∙◌}
use mathlib.Core.Logic.{inl, inr}
use mathlib.Core.List.{List, [], ◌∷◌, map}
use mathlib.Core.Bool.{Bool, true, false, false≢true}
use Prim.Native.Nat.{ℕ, zero, suc, ◌+◌, ◌-◌, ◌/◌, ◌%◌, ◌≤◌, ◌<◌}
use native.Mathlib.Nat.{not-suc-le-zero}
use native.Mathlib.Numerals.{add-one}
use native.Mathlib.Omega.{arith}
use lib.ListN.{length, get_or, set, take, drop, replicate, length-map}
use lib.Seq.{sets, drop-cons, get_or-take, length-take-le, drop-length}
use lib.Dec.{ltb}
use borrow.Author.Tests.{ltb-true, lt-ltb}
use Rattle.limits.specs.Limits.{most_links}
use Rattle.lists.specs.Members.{All}
use Rattle.drawing_spec.specs.Drawing.{Point, no_point}
use Rattle.drawing_spec.proofs.Same.{same_tests}
use Rattle.file_records.specs.Body.{point_from, edge_from}
use Rattle.file_records.specs.declared.MstEdge.{MstEdge}
use Rattle.file_drawing.specs.Back.{points_back, lines_back}
use Rattle.file_drawing.specs.Held.{no_link}
use Rattle.links_spec.specs.Candidates.{Candidate, IsCandidate, line_at, has_points, end_point, end_segment}
use Rattle.links_spec.specs.Made.{made, as_link, made_links}
use Rattle.links_spec.proofs.Candidates.{there}
use Rattle.links_spec.proofs.Made.{made_links_all}
use Rattle.links_spec.proofs.Same.{made_same}
use Rattle.links_tree.specs.declared.Ends.{Ends}
use Rattle.links_tree.specs.declared.Ranked.{Ranked}
use Rattle.links_tree.specs.Packed.{AreCodes, candidate_in, point_of, ranked, ranked_at, end_in, is_mark, marks_of, is_marked, end_lines}
use Rattle.links_tree.proofs.Cases.{less_or}
use Rattle.links_tree.proofs.Marks.{marked_in, is_marked_lem, mark_at}
use Rattle.links_tree.proofs.Agree.{lines_length, has_points_lem, line_two}
use Rattle.links_made.specs.Filled.{place_in, Marked, Ended, segment_in, edge_in}

-- ---- lines read off flat arrays

points_long : (n k : ℕ) (xs ys : List ℕ) → length (points_back n k xs ys) ≡ n
unfolding points_back
points_long zero k xs ys = refl
points_long (suc n) k xs ys = ap suc (points_long n (suc k) xs ys)

points_at : (n k i : ℕ) (xs ys : List ℕ) → i < n → get_or (points_back n k xs ys) i no_point ≡ point_of (place_in xs ys (k + i))
unfolding points_back
points_at zero k i xs ys h = absurd (not-suc-le-zero h)
points_at (suc n) k zero xs ys h = let q : k ≡ k + 0 = omega arith in ap (λ (j : ℕ). point_of (place_in xs ys j)) q
points_at (suc n) k (suc i) xs ys h = let q : suc k + i ≡ k + suc i = omega arith in points_at n (suc k) i xs ys (omega arith) ∙ ap (λ (j : ℕ). point_of (place_in xs ys j)) q

lines_long : (n i : ℕ) (starts xs ys : List ℕ) → length (lines_back n i starts xs ys) ≡ n
unfolding lines_back
lines_long zero i starts xs ys = refl
lines_long (suc n) i starts xs ys = ap suc (lines_long n (suc i) starts xs ys)

lines_at : (n i l : ℕ) (starts xs ys : List ℕ) → l < n → get_or (lines_back n i starts xs ys) l [] ≡ points_back (get_or starts (suc (i + l)) 0 - get_or starts (i + l) 0) (get_or starts (i + l) 0) xs ys
unfolding lines_back
lines_at zero i l starts xs ys h = absurd (not-suc-le-zero h)
lines_at (suc n) i zero starts xs ys h = let q : i ≡ i + 0 = omega arith in ap (λ (j : ℕ). points_back (get_or starts (suc j) 0 - get_or starts j 0) (get_or starts j 0) xs ys) q
lines_at (suc n) i (suc l) starts xs ys h =
    let q : suc i + l ≡ i + suc l = omega arith in
    lines_at n (suc i) l starts xs ys (omega arith) ∙ ap (λ (j : ℕ). points_back (get_or starts (suc j) 0 - get_or starts j 0) (get_or starts j 0) xs ys) q

-- the ends of a line of two points
first_of_two : (p q : Point) → p ≡ end_point (p ∷ q ∷ []) 0
unfolding end_point
first_of_two p q = refl

last_of_two : (p q : Point) (e : ℕ) → q ≡ end_point (p ∷ q ∷ []) (suc e)
unfolding end_point
last_of_two p q e = refl

any_end : (ps : List Point) (e : ℕ) → end_point ps (suc e) ≡ end_point ps 1
unfolding end_point
any_end ps e = refl

module _ (n : ℕ) (starts xs ys : List ℕ) (has : List ℕ) (es : List Ends) (M : Marked starts has n) (E : Ended starts xs ys es n) where
  abbrev drawn : List (List Point)
  drawn = lines_back n 0 starts xs ys

  drawn_at_lem : (l : ℕ) → l < n → line_at drawn l ≡ points_back (get_or starts (l + 1) 0 - get_or starts l 0) (get_or starts l 0) xs ys
  drawn_at_lem l h =
      let q : 0 + l ≡ l = omega arith in
      lines_at n 0 l starts xs ys h ∙ ap (λ (j : ℕ). points_back (get_or starts (suc j) 0 - get_or starts j 0) (get_or starts j 0) xs ys) q
      ∙ ap (λ (j : ℕ). points_back (get_or starts j 0 - get_or starts l 0) (get_or starts l 0) xs ys) (sym (add-one l))

  drawn_long : (l : ℕ) → l < n → length (line_at drawn l) ≡ get_or starts (l + 1) 0 - get_or starts l 0
  drawn_long l h = ap length (drawn_at_lem l h) ∙ points_long (get_or starts (l + 1) 0 - get_or starts l 0) (get_or starts l 0) xs ys

  -- a line has points where it is marked
  some_points : (l : ℕ) → is_marked n (marks_of has) l ≡ true → (l < n) × (get_or starts l 0 < get_or starts (l + 1) 0)
  some_points l o =
      let p = marked_in n (marks_of has) l o in
      (p.0, elim (less_or (get_or starts l 0) (get_or starts (l + 1) 0)) [ inl h ↦ h | inr h ↦ absurd (false≢true (sym (mark_at has l ∙ ap is_mark (M.none l p.0 h)) ∙ p.1)) ])

  has_same : (l : ℕ) → has_points drawn l ≡ is_marked n (marks_of has) l
  unfolding has_points
  has_same l = same_tests (has_points drawn l) (is_marked n (marks_of has) l)
      (λ h.
      let b : l < n = rw (lines_long n 0 starts xs ys) at (there drawn l h) in
      is_marked_lem n (marks_of has) l b (mark_at has l ∙ ap is_mark (M.some l b (omega (arith, drawn_long l b, ltb-true 0 (length (line_at drawn l)) h)))))
      (λ o. let p = some_points l o in lt-ltb 0 (length (line_at drawn l)) (omega (arith, drawn_long l p.0, p.1)))

  -- the ends of a line with points are those taken out
  drawn_end : (l e : ℕ) → is_marked n (marks_of has) l ≡ true → e < 2 → end_point (line_at drawn l) e ≡ end_in es l e
  unfolding end_point
  drawn_end l zero o b =
      let p = some_points l o in
      let z : get_or starts l 0 + 0 ≡ get_or starts l 0 = omega arith in
      ap (λ (ps : List Point). get_or ps 0 no_point) (drawn_at_lem l p.0) ∙ points_at (get_or starts (l + 1) 0 - get_or starts l 0) (get_or starts l 0) 0 xs ys (omega (arith, p.1))
      ∙ ap (λ (j : ℕ). point_of (place_in xs ys j)) z ∙ ap point_of (sym (E.first l p.0 p.1))
  drawn_end l (suc zero) o b =
      let p = some_points l o in
      let z : get_or starts l 0 + (length (line_at drawn l) - 1) ≡ get_or starts (l + 1) 0 - 1 = omega (arith, drawn_long l p.0, p.1) in
      ap (λ (ps : List Point). get_or ps (length (line_at drawn l) - 1) no_point) (drawn_at_lem l p.0)
      ∙ points_at (get_or starts (l + 1) 0 - get_or starts l 0) (get_or starts l 0) (length (line_at drawn l) - 1) xs ys (omega (arith, drawn_long l p.0, p.1))
      ∙ ap (λ (j : ℕ). point_of (place_in xs ys j)) z ∙ ap point_of (sym (E.last l p.0 p.1))
  drawn_end l (suc (suc e)) o b = absurd (omega arith)

  no_points : (ls : List (List Point)) (l : ℕ) → has_points ls l ≡ false → line_at ls l ≡ []
  unfolding has_points
  no_points ls l h = go (line_at ls l) h
    where
      go : (ps : List Point) → ltb 0 (length ps) ≡ false → ps ≡ []
      go [] e = refl
      go (p ∷ ps) e = absurd (false≢true (sym e ∙ lt-ltb 0 (suc (length ps)) (omega arith)))

  ends_same : (l e : ℕ) → end_point (line_at drawn l) e ≡ end_point (line_at (end_lines n (marks_of has) es) l) e
  ends_same l e = go (is_marked n (marks_of has) l) refl e
    where
      two : is_marked n (marks_of has) l ≡ true → (e : ℕ) → end_point (end_in es l 0 ∷ end_in es l 1 ∷ []) e ≡ end_point (line_at (end_lines n (marks_of has) es) l) e
      two o e = ap (λ (ps : List Point). end_point ps e) (sym (line_two n (marks_of has) es l o))

      go : (t : Bool) → is_marked n (marks_of has) l ≡ t → (e : ℕ) → end_point (line_at drawn l) e ≡ end_point (line_at (end_lines n (marks_of has) es) l) e
      go true o zero = drawn_end l 0 o (omega arith) ∙ first_of_two (end_in es l 0) (end_in es l 1) ∙ two o 0
      go true o (suc e) = any_end (line_at drawn l) e ∙ drawn_end l 1 o (omega arith) ∙ last_of_two (end_in es l 0) (end_in es l 1) e ∙ two o (suc e)
      go false o e = ap (λ (ps : List Point). end_point ps e) (no_points drawn l (has_same l ∙ o) ∙ sym (no_points (end_lines n (marks_of has) es) l (has_points_lem n (marks_of has) es l ∙ o)))

  pub made_drawn : made drawn ≡ made (end_lines n (marks_of has) es)
  made_drawn = made_same drawn (end_lines n (marks_of has) es) (lines_long n 0 starts xs ys ∙ sym (lines_length n (marks_of has) es)) (λ l. has_same l ∙ sym (has_points_lem n (marks_of has) es l)) ends_same

  -- ---- a candidate as a link

  segment_same : (l e : ℕ) → l < n → segment_in starts l e ≡ end_segment (line_at drawn l) e
  unfolding segment_in end_segment
  segment_same l zero h = refl
  segment_same l (suc e) h = ap (λ (m : ℕ). m - 2) (sym (drawn_long l h))

  edge_drawn : (r : Ranked) → IsCandidate drawn (candidate_in r) → edge_in starts es r ≡ edge_from (as_link drawn (candidate_in r))
  unfolding edge_in as_link
  edge_drawn r C =
      let c = r.code in
      let ol : is_marked n (marks_of has) (c / 1024) ≡ true = sym (has_same (c / 1024)) ∙ C.low_there in
      let oh : is_marked n (marks_of has) (c / 4 % 256) ≡ true = sym (has_same (c / 4 % 256)) ∙ C.high_there in
      let a = sym (drawn_end (c / 1024) (c / 2 % 2) ol C.low_end) in
      let b = sym (drawn_end (c / 4 % 256) (c % 2) oh C.high_end) in
      let s = segment_same (c / 1024) (c / 2 % 2) (marked_in n (marks_of has) (c / 1024) ol).0 in
      let t = segment_same (c / 4 % 256) (c % 2) (marked_in n (marks_of has) (c / 4 % 256) oh).0 in
      λ i. record { poly_a = c / 1024; seg_a = s i; poly_b = c / 4 % 256; seg_b = t i; point_a = point_from (a i); point_b = point_from (b i) }

  edges_drawn : (rs : List Ranked) → All (IsCandidate drawn) (map candidate_in rs) → map (edge_in starts es) rs ≡ map edge_from (map (as_link drawn) (map candidate_in rs))
  edges_drawn [] a = refl
  edges_drawn (r ∷ rs) a = λ i. edge_drawn r a.0 i ∷ edges_drawn rs a.1 i

  -- what was found, as links
  pub links_drawn : (rs : List Ranked) → map candidate_in rs ≡ made (end_lines n (marks_of has) es) → map (edge_in starts es) rs ≡ map edge_from (made_links drawn)
  unfolding made_links
  links_drawn rs e =
      let m : map candidate_in rs ≡ made drawn = e ∙ sym made_drawn in
      edges_drawn rs (rw m (made_links_all drawn).are) ∙ ap (λ (ks : List Candidate). map edge_from (map (as_link drawn) ks)) m

  pub links_count : (rs : List Ranked) → map candidate_in rs ≡ made (end_lines n (marks_of has) es) → length rs ≡ length (made_links drawn)
  unfolding made_links
  links_count rs e = sym (length-map rs candidate_in) ∙ ap length (e ∙ sym made_drawn) ∙ sym (length-map (made drawn) (as_link drawn))

-- ---- the loop that writes them

module _ (f : Ranked → MstEdge) (found : List Ranked) (count : ℕ) where
  abbrev pub writing : List MstEdge → ℕ → List MstEdge
  writing edges j = sets edges j (map f (drop j (take count found)))

  pub writing_turn : (edges : List MstEdge) (j : ℕ) (e : MstEdge) → j < count → count ≤ length found → e ≡ f (ranked_at found j) → writing (set edges j e) (j + 1) ≡ writing edges j
  writing_turn edges j e l long h =
      let rest : drop j (take count found) ≡ ranked_at found j ∷ drop (suc j) (take count found)
      = drop-cons (take count found) j (ranked 0 0) (omega (arith, length-take-le count found long)) ∙ ap (λ (r : Ranked). r ∷ drop (suc j) (take count found)) (get_or-take count found j (ranked 0 0) l) in
      ap (λ (k : ℕ). sets (set edges j e) k (map f (drop k (take count found)))) (add-one j)
      ∙ ap (λ (x : MstEdge). sets (set edges j x) (suc j) (map f (drop (suc j) (take count found)))) h
      ∙ sym (ap (λ (rs : List Ranked). sets edges j (map f rs)) rest)

  pub writing_end : (edges : List MstEdge) (j : ℕ) → count ≤ j → j ≤ count → count ≤ length found → edges ≡ writing edges j
  writing_end edges j a b long =
      let e : j ≡ count = omega arith in
      let none : drop count (take count found) ≡ [] = ap (λ (k : ℕ). drop k (take count found)) (sym (length-take-le count found long)) ∙ drop-length (take count found) in
      sym (ap (λ (k : ℕ). sets edges k (map f (drop k (take count found)))) e ∙ ap (λ (rs : List Ranked). sets edges count (map f rs)) none)

  pub writing_start : (e : MstEdge) → e ≡ no_link → writing (replicate most_links e) 0 ≡ sets (replicate most_links no_link) 0 (map f (take count found))
  writing_start e z = ap (λ (x : MstEdge). sets (replicate most_links x) 0 (map f (take count found))) z

-- what `make_links` answers
module _ (n : ℕ) (starts xs ys : List ℕ) (has : List ℕ) (es : List Ends) (M : Marked starts has n) (E : Ended starts xs ys es n)
    (found : List Ranked) (count : ℕ) (C : AreCodes count found) (e : map candidate_in (take count found) ≡ made (end_lines n (marks_of has) es)) where
  pub count_answer : count ≡ length (made_links (lines_back n 0 starts xs ys))
  count_answer = sym (length-take-le count found (omega (arith, C.few, C.long))) ∙ links_count n starts xs ys has es M E (take count found) e

  pub links_answer : (r : List MstEdge) → r ≡ sets (replicate most_links no_link) 0 (map (edge_in starts es) (take count found)) → r ≡ sets (replicate most_links no_link) 0 (map edge_from (made_links (lines_back n 0 starts xs ys)))
  links_answer r h = h ∙ ap (λ (links : List MstEdge). sets (replicate most_links no_link) 0 links) (links_drawn n starts xs ys has es M E (take count found) e)
