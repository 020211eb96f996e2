-- How many odd nodes a drawing has at most: the pieces of a line meet every node an even number of times, but for the two ends of the line, and a link meets its two ends.
use mathlib.Core.Path.{◌≡◌, refl, ap}
use mathlib.Core.Logic.{inl, inr}
use mathlib.Core.List.{List, [], ◌∷◌, ◌++◌, map}
use mathlib.Core.Bool.{Bool, true, false}
use Prim.Native.Nat.{ℕ, zero, suc, ◌+◌, ◌*◌, ◌%◌, ◌≤◌}
use native.Mathlib.Omega.{arith}
use lib.ListN.{length, length-append}
use Rattle.drawing_spec.specs.Drawing.{Point, same, Link, Drawing}
use Rattle.drawing_spec.proofs.Same.{same_true}
use Rattle.graph_spec.specs.Chain.{splits, sort, inner, distinct, chain}
use Rattle.graph_spec.specs.Pieces.{Stroke, stroke, pieces, line_pieces, pieces_from, pieces_of, link_strokes, links_of, strokes_of, link_uses}
use Rattle.graph_spec.specs.Graph.{node_of, edge_of, build_graph}
use Rattle.graph_spec.specs.Odd.{hit, degree, odd_nodes}
use Rattle.graph_spec.specs.Count.{sum_over, last_from}
use Rattle.graph_spec.proofs.Sums.{hit_other, HitCases, hit_cases, sum_over_append}
use Rattle.graph_spec.proofs.Lines.{last_from_append}
use Rattle.graph_spec.proofs.Handshake.{sum_from, sum_add, sum_none, length_odd}

-- ---- the ends of the lines and of the links

-- the first and the last point of each line; an empty one has neither
unfoldable pub line_ends : List (List Point) → List Point
unfolding last_from
line_ends [] = []
line_ends ([] ∷ ls) = line_ends ls
line_ends ((a ∷ ps) ∷ ls) = a ∷ last_from a ps ∷ line_ends ls

abbrev pub ends_of : Drawing → List Point
ends_of d = line_ends d.lines ++ link_uses d.links

line_ends_length : (ls : List (List Point)) → length (line_ends ls) ≤ 2 * length ls
unfolding line_ends
line_ends_length [] = omega arith
line_ends_length ([] ∷ ls) = omega (arith, line_ends_length ls)
line_ends_length ((a ∷ ps) ∷ ls) = omega (arith, line_ends_length ls)

pub ends_length : (ks : List Link) → length (link_uses ks) ≡ 2 * length ks
unfolding link_uses
ends_length [] = refl
ends_length (k ∷ ks) = omega (arith, ends_length ks)

-- ---- a weight of points, summed over both ends of every stroke, has the parity of its sum over the ends of the lines and of the links

-- the chain of a segment ends in the segment's end
chain_last : (ks : List Link) (l s : ℕ) (a b : Point) → last_from a (chain ks l s a b) ≡ b
unfolding chain last_from
chain_last ks l s a b = last_from_append a (distinct (inner a b (sort a (splits ks l s)))) (b ∷ [])

module _ (f : Point → ℕ) where
  abbrev pub stroke_sum : List Stroke → ℕ
  stroke_sum ss = sum_over (λ (s : Stroke). f s.from + f s.to) ss

  stroke_sum_append : (ss ts : List Stroke) → stroke_sum (ss ++ ts) ≡ stroke_sum ss + stroke_sum ts
  stroke_sum_append = sum_over_append (λ (s : Stroke). f s.from + f s.to)

  -- a point in between counts twice, as the end of one piece and the start of the next, and where a point comes twice in a row there is no piece
  pieces_parity : (p : Point) (qs : List Point) → stroke_sum (pieces p qs) % 2 ≡ (f p + f (last_from p qs)) % 2
  unfolding pieces sum_over last_from
  pieces_parity p [] = omega arith
  pieces_parity p (q ∷ qs) = go (same p q) refl (pieces_parity q qs)
    where
      go : (t : Bool) → same p q ≡ t → stroke_sum (pieces q qs) % 2 ≡ (f q + f (last_from q qs)) % 2
          → stroke_sum (elim t [ true ↦ pieces q qs | false ↦ stroke p q ∷ pieces q qs ]) % 2 ≡ (f p + f (last_from q qs)) % 2
      go true e r = omega (arith, ap f (same_true p q e))
      go false e r = omega arith

  module _ (ks : List Link) where
    line_parity : (l s : ℕ) (a : Point) (ps : List Point) → stroke_sum (line_pieces ks l s a ps) % 2 ≡ (f a + f (last_from a ps)) % 2
    unfolding line_pieces sum_over last_from
    line_parity l s a [] = omega arith
    line_parity l s a (b ∷ ps) =
        let c = chain ks l s a b in
        omega (arith, stroke_sum_append (pieces a c) (line_pieces ks l (suc s) b ps), pieces_parity a c, ap f (chain_last ks l s a b), line_parity l (suc s) b ps)

    lines_parity : (l : ℕ) (ls : List (List Point)) → stroke_sum (pieces_from ks l ls) % 2 ≡ sum_over f (line_ends ls) % 2
    unfolding pieces_from sum_over line_ends
    lines_parity l [] = refl
    lines_parity l ([] ∷ ls) = lines_parity (suc l) ls
    lines_parity l ((a ∷ ps) ∷ ls) = omega (arith, stroke_sum_append (line_pieces ks l 0 a ps) (pieces_from ks (suc l) ls), line_parity l 0 a ps, lines_parity (suc l) ls)

  links_parity : (ks : List Link) → stroke_sum (link_strokes ks) % 2 ≡ sum_over f (link_uses ks) % 2
  unfolding link_strokes sum_over link_uses last_from
  links_parity [] = refl
  links_parity (k ∷ ks) =
      let p = k.first.point in
      let q = k.second.point in
      omega (arith, stroke_sum_append (pieces p (q ∷ [])) (link_strokes ks), pieces_parity p (q ∷ []), links_parity ks)

  strokes_parity : (d : Drawing) → stroke_sum (strokes_of d) % 2 ≡ sum_over f (ends_of d) % 2
  unfolding pieces_of links_of
  strokes_parity d =
      rw (stroke_sum_append (pieces_of d) (links_of d), sum_over_append f (line_ends d.lines) (link_uses d.links)) (omega (arith, lines_parity d.links 0 d.lines, links_parity d.links))

-- ---- degrees

module _ (ns : List Point) (v : ℕ) where
  -- 1 where the point p is the node v
  abbrev pub is_at : Point → ℕ
  is_at p = hit (node_of ns p) v

  strokes_degree : (ss : List Stroke) → degree (map (edge_of ns) ss) v ≡ stroke_sum is_at ss
  unfolding degree sum_over edge_of
  strokes_degree [] = refl
  strokes_degree (s ∷ ss) = ap (λ (n : ℕ). is_at s.from + is_at s.to + n) (strokes_degree ss)

-- a node's degree is odd just where it is an odd number of times an end of a line or of a link
pub degree_parity : (d : Drawing) (v : ℕ) → degree (build_graph d).edges v % 2 ≡ sum_over (is_at (build_graph d).nodes v) (ends_of d) % 2
unfolding build_graph
degree_parity d v = omega (arith, strokes_degree (build_graph d).nodes v (strokes_of d), strokes_parity (is_at (build_graph d).nodes v) d)

-- ---- the nodes among some points are at most as many as these

-- a node counts once, or not at all
hit_once : (u n v : ℕ) → sum_from (hit u) n v ≤ 1
unfolding sum_from
hit_once u zero v = omega arith
hit_once u (suc n) v = go (hit_cases u v) (hit_once u n (suc v))
  where
    go : HitCases u v → sum_from (hit u) n (suc v) ≤ 1 → hit u v + sum_from (hit u) n (suc v) ≤ 1
    go (inl p) r = omega (arith, sum_none (hit u) n (suc v) (λ w a b. hit_other u w (omega arith)))
    go (inr p) r = omega arith

sum_le : (f g : ℕ → ℕ) (n v : ℕ) → ((u : ℕ) → f u ≤ g u) → sum_from f n v ≤ sum_from g n v
unfolding sum_from
sum_le f g zero v h = omega arith
sum_le f g (suc n) v h = omega (arith, h v, sum_le f g n (suc v) h)

module _ (ns : List Point) where
  nodes_among : (ps : List Point) (n v : ℕ) → sum_from (λ (u : ℕ). sum_over (is_at ns u) ps) n v ≤ length ps
  unfolding sum_over
  nodes_among [] n v = omega (arith, sum_none (λ (u : ℕ). 0) n v (λ u a b. refl))
  nodes_among (p ∷ ps) n v = omega (arith, sum_add (hit (node_of ns p)) (λ (u : ℕ). sum_over (is_at ns u) ps) n v, hit_once (node_of ns p) n v, nodes_among ps n v)

-- of l lines and k links
pub odd_few : (d : Drawing) → length (odd_nodes (length (build_graph d).nodes) (build_graph d).edges) ≤ 2 * length d.lines + 2 * length d.links
odd_few d =
    let ns = (build_graph d).nodes in
    let es = (build_graph d).edges in
    omega (
      arith,
      length_odd es (length ns) 0,
      sum_le (λ (u : ℕ). degree es u % 2) (λ (u : ℕ). sum_over (is_at ns u) (ends_of d)) (length ns) 0 (λ u. omega (arith, degree_parity d u)),
      nodes_among ns (ends_of d) (length ns) 0,
      length-append (line_ends d.lines) (link_uses d.links),
      line_ends_length d.lines,
      ends_length d.links,
    )
