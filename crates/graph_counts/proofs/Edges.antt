-- How many edges a drawing has at most: each end of a link names one segment, so that it splits one segment at most, and once.
use mathlib.Core.Path.{◌≡◌, refl, ap}
use mathlib.Core.List.{List, [], ◌∷◌, map}
use mathlib.Core.Bool.{Bool, true, false, ◌&&◌, not}
use Prim.Native.Nat.{ℕ, suc, ◌+◌, ◌-◌, ◌*◌, ◌≤◌}
use native.Mathlib.Omega.{arith}
use lib.ListN.{length, length-append, length-map}
use lib.Dec.{eqb, leb}
use borrow.Author.Tests.{eqb-true, eqb-false, ne_eqb}
use Rattle.drawing_spec.specs.Drawing.{Point, same, End, Link, Drawing}
use Rattle.lists.proofs.Members.{either}
use Rattle.drawing_spec.specs.Read.{total}
use Rattle.graph_spec.specs.Chain.{squared, naming, splits, insert, sort, inner, changes, distinct, chain}
use Rattle.graph_spec.specs.Pieces.{stroke, pieces, line_pieces, pieces_from, pieces_of, link_strokes, links_of, strokes_of}
use Rattle.graph_spec.specs.Graph.{edge_of, build_graph}
use Rattle.graph_spec.specs.Odd.{one}

-- the points of all lines
abbrev pub points_of : Drawing → ℕ
points_of d = total (map (λ (l : List Point). length l) d.lines)

-- ---- a weight of segments, summed over all segments

-- over the segments of the line l from its segment s on, which starts at a point that is followed by ps
unfoldable pub line_sum : (ℕ → ℕ → ℕ) → ℕ → ℕ → List Point → ℕ
line_sum w l s [] = 0
line_sum w l s (b ∷ ps) = w l s + line_sum w l (suc s) ps

-- over the segments of all lines, the first of them being the line l
unfoldable pub segment_sum : (ℕ → ℕ → ℕ) → ℕ → List (List Point) → ℕ
unfolding line_sum
segment_sum w l [] = 0
segment_sum w l ([] ∷ ls) = segment_sum w (suc l) ls
segment_sum w l ((a ∷ ps) ∷ ls) = line_sum w l 0 ps + segment_sum w (suc l) ls

module _ (u v w : ℕ → ℕ → ℕ) (e : (l s : ℕ) → w l s ≡ u l s + v l s) where
  line_sum_add : (l s : ℕ) (ps : List Point) → line_sum w l s ps ≡ line_sum u l s ps + line_sum v l s ps
  unfolding line_sum
  line_sum_add l s [] = refl
  line_sum_add l s (b ∷ ps) = omega (arith, e l s, line_sum_add l (suc s) ps)

  segment_sum_add : (l : ℕ) (ls : List (List Point)) → segment_sum w l ls ≡ segment_sum u l ls + segment_sum v l ls
  unfolding segment_sum
  segment_sum_add l [] = refl
  segment_sum_add l ([] ∷ ls) = segment_sum_add (suc l) ls
  segment_sum_add l ((a ∷ ps) ∷ ls) = omega (arith, line_sum_add l 0 ps, segment_sum_add (suc l) ls)

module _ (w : ℕ → ℕ → ℕ) where
  line_sum_none : (l s : ℕ) (ps : List Point) → ((t : ℕ) → s ≤ t → w l t ≡ 0) → line_sum w l s ps ≡ 0
  unfolding line_sum
  line_sum_none l s [] z = refl
  line_sum_none l s (b ∷ ps) z = omega (arith, z s (omega arith), line_sum_none l (suc s) ps (λ t h. z t (omega arith)))

  segment_sum_none : (l : ℕ) (ls : List (List Point)) → ((k t : ℕ) → l ≤ k → w k t ≡ 0) → segment_sum w l ls ≡ 0
  unfolding segment_sum
  segment_sum_none l [] z = refl
  segment_sum_none l ([] ∷ ls) z = segment_sum_none (suc l) ls (λ k t h. z k t (omega arith))
  segment_sum_none l ((a ∷ ps) ∷ ls) z =
      omega (arith, line_sum_none l 0 ps (λ t h. z l t (omega arith)), segment_sum_none (suc l) ls (λ k t h. z k t (omega arith)))

-- ---- an end is filed under one segment

-- 1 where the end names the segment s of the line l
abbrev pub names : End → ℕ → ℕ → ℕ
names e l s = one (eqb e.line l && eqb e.segment s)

module _ (e : End) where
  other_segment : (l s : ℕ) → (e.segment ≡ s → ⊥) → names e l s ≡ 0
  other_segment l s h = go (eqb e.line l)
    where
      go : (t : Bool) → one (t && eqb e.segment s) ≡ 0
      go true = ap one (ne_eqb e.segment s h)
      go false = refl

  other_line : (l s : ℕ) → (e.line ≡ l → ⊥) → names e l s ≡ 0
  other_line l s h = ap (λ (t : Bool). one (t && eqb e.segment s)) (ne_eqb e.line l h)

  names_le : (l s : ℕ) → names e l s ≤ 1
  names_le l s = go (eqb e.line l && eqb e.segment s)
    where
      go : (t : Bool) → one t ≤ 1
      go true = omega arith
      go false = omega arith

  line_once : (l s : ℕ) (ps : List Point) → line_sum (names e) l s ps ≤ 1
  unfolding line_sum
  line_once l s [] = omega arith
  line_once l s (b ∷ ps) = go (eqb e.segment s) refl (line_once l (suc s) ps)
    where
      go : (t : Bool) → eqb e.segment s ≡ t → line_sum (names e) l (suc s) ps ≤ 1 → names e l s + line_sum (names e) l (suc s) ps ≤ 1
      go true h rest =
          let is = eqb-true e.segment s h in
          omega (arith, names_le l s, line_sum_none (names e) l (suc s) ps (λ t k. other_segment l t (λ q. omega arith)))
      go false h rest = omega (arith, other_segment l s (eqb-false e.segment s h))

  named_once : (l : ℕ) (ls : List (List Point)) → segment_sum (names e) l ls ≤ 1
  unfolding segment_sum
  named_once l [] = omega arith
  named_once l ([] ∷ ls) = named_once (suc l) ls
  named_once l ((a ∷ ps) ∷ ls) = go (eqb e.line l) refl (named_once (suc l) ls)
    where
      go : (t : Bool) → eqb e.line l ≡ t → segment_sum (names e) (suc l) ls ≤ 1 → line_sum (names e) l 0 ps + segment_sum (names e) (suc l) ls ≤ 1
      go true h rest =
          let is = eqb-true e.line l h in
          omega (arith, line_once l 0 ps, segment_sum_none (names e) (suc l) ls (λ k t q. other_line k t (λ z. omega arith)))
      go false h rest = omega (arith, line_sum_none (names e) l 0 ps (λ t k. other_line l t (eqb-false e.line l h)))

-- ---- the split points of all segments are at most the ends of the links

naming_length : (l s : ℕ) (e : End) (ps : List Point) → length (naming l s e ps) ≡ names e l s + length ps
unfolding naming
naming_length l s e ps = go (eqb e.line l && eqb e.segment s)
  where
    go : (t : Bool) → length {A = Point} (elim t [ true ↦ e.point ∷ ps | false ↦ ps ]) ≡ one t + length ps
    go true = omega arith
    go false = omega arith

-- the split points of a segment
abbrev pub split_count : List Link → ℕ → ℕ → ℕ
split_count ks l s = length (splits ks l s)

split_first : (k : Link) (ks : List Link) (l s : ℕ) → split_count (k ∷ ks) l s ≡ (names k.first l s + names k.second l s) + split_count ks l s
unfolding splits
split_first k ks l s = omega (arith, naming_length l s k.first (naming l s k.second (splits ks l s)), naming_length l s k.second (splits ks l s))

split_none : (l s : ℕ) → split_count [] l s ≡ 0
unfolding splits
split_none l s = refl

pub splits_few : (ks : List Link) (l : ℕ) (ls : List (List Point)) → segment_sum (split_count ks) l ls ≤ 2 * length ks
splits_few [] l ls = omega (arith, segment_sum_none (split_count []) l ls (λ k t h. split_none k t))
splits_few (k ∷ ks) l ls =
    let ends : ℕ → ℕ → ℕ = λ m s. names k.first m s + names k.second m s in
    omega (
      arith,
      segment_sum_add ends (split_count ks) (split_count (k ∷ ks)) (split_first k ks) l ls,
      segment_sum_add (names k.first) (names k.second) ends (λ m s. refl) l ls,
      named_once k.first l ls,
      named_once k.second l ls,
      splits_few ks l ls,
    )

-- ---- a chain has one piece more than split points, at most

abbrev Short : {A : Type 0} → ℕ → List A → Type 0
Short n xs = length xs ≤ n

insert_length : (a p : Point) (qs : List Point) → length (insert a p qs) ≤ suc (length qs)
unfolding insert
insert_length a p [] = omega arith
insert_length a p (q ∷ qs) =
    either (Short (suc (suc (length qs)))) (p ∷ q ∷ qs) (q ∷ insert a p qs) (omega arith) (omega (arith, insert_length a p qs)) (leb (squared a p) (squared a q))

sort_length : (a : Point) (ps : List Point) → length (sort a ps) ≤ length ps
unfolding sort
sort_length a [] = omega arith
sort_length a (p ∷ ps) = omega (arith, insert_length a p (sort a ps), sort_length a ps)

inner_length : (a b : Point) (ps : List Point) → length (inner a b ps) ≤ length ps
unfolding inner
inner_length a b [] = omega arith
inner_length a b (p ∷ ps) =
    either (Short (suc (length ps))) (p ∷ inner a b ps) (inner a b ps) (omega (arith, inner_length a b ps)) (omega (arith, inner_length a b ps)) (not (same p a) && not (same p b))

changes_length : (p : Point) (qs : List Point) → length (changes p qs) ≤ length qs
unfolding changes
changes_length p [] = omega arith
changes_length p (q ∷ qs) = either (Short (suc (length qs))) (changes p qs) (q ∷ changes q qs) (omega (arith, changes_length p qs)) (omega (arith, changes_length q qs)) (same q p)

distinct_length : (ps : List Point) → length (distinct ps) ≤ length ps
unfolding distinct
distinct_length [] = omega arith
distinct_length (p ∷ ps) = omega (arith, changes_length p ps)

-- a chain without its start
pub chain_length : (ks : List Link) (l s : ℕ) (a b : Point) → length (chain ks l s a b) ≤ split_count ks l s + 1
unfolding chain
chain_length ks l s a b =
    let ps = sort a (splits ks l s) in
    omega (arith, length-append (distinct (inner a b ps)) (b ∷ []), distinct_length (inner a b ps), inner_length a b ps, sort_length a (splits ks l s))

pub pieces_length : (p : Point) (qs : List Point) → length (pieces p qs) ≤ length qs
unfolding pieces
pieces_length p [] = omega arith
pieces_length p (q ∷ qs) = either (Short (suc (length qs))) (pieces q qs) (stroke p q ∷ pieces q qs) (omega (arith, pieces_length q qs)) (omega (arith, pieces_length q qs)) (same p q)

-- ---- the pieces of all lines

module _ (ks : List Link) where
  line_length : (l s : ℕ) (a : Point) (ps : List Point) → length (line_pieces ks l s a ps) ≤ length ps + line_sum (split_count ks) l s ps
  unfolding line_pieces line_sum
  line_length l s a [] = omega arith
  line_length l s a (b ∷ ps) =
      let c = chain ks l s a b in
      omega (arith, length-append (pieces a c) (line_pieces ks l (suc s) b ps), pieces_length a c, chain_length ks l s a b, line_length l (suc s) b ps)

  -- The first line that has a point has one segment fewer than points, and no other has more segments than points.
  lines_length : (l : ℕ) (ls : List (List Point)) → length (pieces_from ks l ls) ≤ total (map (λ (l : List Point). length l) ls) - 1 + segment_sum (split_count ks) l ls
  unfolding pieces_from total segment_sum
  lines_length l [] = omega arith
  lines_length l ([] ∷ ls) = omega (arith, lines_length (suc l) ls)
  lines_length l ((a ∷ ps) ∷ ls) =
      omega (arith, length-append (line_pieces ks l 0 a ps) (pieces_from ks (suc l) ls), line_length l 0 a ps, lines_length (suc l) ls)

links_length : (ks : List Link) → length (link_strokes ks) ≤ length ks
unfolding link_strokes
links_length [] = omega arith
links_length (k ∷ ks) =
    let own = pieces k.first.point (k.second.point ∷ []) in
    omega (arith, length-append own (link_strokes ks), pieces_length k.first.point (k.second.point ∷ []), links_length ks)

-- of p points and k links: p - 1 segments at most, 2 k split points, k links (p - 1 is 0 where p is 0)
pub edges_few : (d : Drawing) → length (build_graph d).edges ≤ points_of d - 1 + 3 * length d.links
unfolding build_graph pieces_of links_of
edges_few d =
    omega (arith, length-map (strokes_of d) (edge_of (build_graph d).nodes), length-append (pieces_of d) (links_of d), lines_length d.links 0 d.lines, splits_few d.links 0 d.lines, links_length d.links)
