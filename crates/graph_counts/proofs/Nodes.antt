-- How many nodes a drawing has at most: no node is two of them, and each is a point of a line or of an end of a link.
use mathlib.Core.Path.{◌≡◌, refl, sym, ap, ◌∙◌}
use mathlib.Core.Logic.{inl, inr}
use mathlib.Core.List.{List, [], ◌∷◌, ◌++◌}
use Prim.Native.Nat.{ℕ, suc, ◌+◌, ◌-◌, ◌*◌, ◌≤◌, ◌<◌, suc-le-suc}
use native.Mathlib.Omega.{arith}
use lib.ListN.{length, length-append}
use Rattle.drawing_spec.specs.Drawing.{Point, End, Link, Drawing, line_points}
use Rattle.drawing_spec.proofs.Drawing.{length_line_points}
use Rattle.lists.specs.Members.{In, All}
use Rattle.lists.proofs.Members.{all_in, in_all, in_left, in_right}
use Rattle.drawing_spec.specs.Read.{total, records_of, drawing_of, read_conditions}
use Rattle.drawing_spec.specs.Accepted.{Counts}
use Rattle.drawing_spec.proofs.Accepted.{accepted_passes, passed_counts}
use Rattle.drawing_spec.specs.Refusal.{accepted, verdict}
use Rattle.drawing_spec.specs.OnGrid.{AtEnds}
use Rattle.graph_spec.specs.Pieces.{uses_of, link_uses}
use Rattle.graph_spec.specs.Graph.{point_at, build_graph}
use Rattle.graph_spec.specs.Odd.{odd_nodes, odd_from}
use Rattle.graph_spec.proofs.Nodes.{distinct, uses_all}
use Rattle.graph_spec.proofs.Strokes.{uses_of_all}
use Rattle.graph_spec.proofs.Built.{built_numbered}
use Rattle.graph_counts.specs.Few.{Few}
use Rattle.graph_counts.proofs.Edges.{points_of, edges_few}
use Rattle.graph_counts.proofs.Odd.{ends_length, odd_few}

-- ---- different elements of a list are at most as many as it has

module _ {A : Type 0} where
  -- a list without one of its elements
  without : (x : A) (ys : List A) → In x ys → List A
  without x (y ∷ ys) (inl e) = ys
  without x (y ∷ ys) (inr i) = y ∷ without x ys i
  without x [] x'' = elim x'' [ ]

  without_length : (x : A) (ys : List A) (i : In x ys) → length ys ≡ suc (length (without x ys i))
  unfolding without
  without_length x (y ∷ ys) (inl e) = refl
  without_length x (y ∷ ys) (inr i) = ap suc (without_length x ys i)
  without_length x [] i = elim i [ ]

  -- another element stays
  without_other : (x : A) (ys : List A) (i : In x ys) (z : A) → (z ≡ x → ⊥) → In z ys → In z (without x ys i)
  unfolding without
  without_other x (y ∷ ys) (inl e) z h (inl k) = absurd (h (k ∙ sym e))
  without_other x (y ∷ ys) (inl e) z h (inr k) = k
  without_other x (y ∷ ys) (inr i) z h (inl k) = inl k
  without_other x (y ∷ ys) (inr i) z h (inr k) = inr (without_other x ys i z h k)
  without_other x [] i z h _ = elim i [ ]

  -- no element stands twice
  abbrev pub Apart : List A → Type 0
  Apart [] = Unit {0}
  Apart (x ∷ xs) = All (λ (y : A). y ≡ x → ⊥) xs × Apart xs

  pub apart_few : (xs ys : List A) → Apart xs → ((x : A) → In x xs → In x ys) → length xs ≤ length ys
  apart_few [] ys a h = omega arith
  apart_few (x ∷ xs) ys a h =
      let i = h x (inl refl) in
      omega (arith, without_length x ys i, apart_few xs (without x ys i) a.1 (λ z k. without_other x ys i z (all_in (λ (y : A). y ≡ x → ⊥) xs a.0 z k) (h z (inr k))))

-- ---- the nodes are apart

place_of : (ps : List Point) (q : Point) → In q ps → (i : ℕ) × (i < length ps) × (point_at ps i ≡ q)
place_of (p ∷ ps) q (inl e) = (0, omega arith, sym e)
place_of (p ∷ ps) q (inr k) = let r = place_of ps q k in (suc r.0, suc-le-suc r.1, r.2)
place_of [] q x' = elim x' [ ]

apart_places : (ps : List Point) → ((u v : ℕ) → u < length ps → v < length ps → point_at ps u ≡ point_at ps v → u ≡ v) → Apart ps
apart_places [] h = tt
apart_places (p ∷ ps) h = (
  in_all (λ (q : Point). q ≡ p → ⊥) ps (λ q i e. let r = place_of ps q i in let z = h (suc r.0) 0 (suc-le-suc r.1) (omega arith) (r.2 ∙ e) in omega arith),
  apart_places ps (λ u v hu hv e. let z = h (suc u) (suc v) (suc-le-suc hu) (suc-le-suc hv) e in omega arith),
)

-- ---- the points of the lines and of the ends of the links

abbrev pub drawn_points : Drawing → List Point
drawn_points d = line_points d.lines ++ link_uses d.links

module _ (ps : List Point) where
  lines_in : (ls : List (List Point)) → ((p : Point) → In p (line_points ls) → In p ps) → All (All (λ (p : Point). In p ps)) ls
  unfolding line_points
  lines_in [] h = tt
  lines_in (l ∷ ls) h = (in_all (λ (p : Point). In p ps) l (λ p i. h p (in_left p l (line_points ls) i)), lines_in ls (λ p i. h p (in_right p l (line_points ls) i)))

  ends_in : (ks : List Link) → ((p : Point) → In p (link_uses ks) → In p ps) → All (AtEnds (λ (p : Point). In p ps)) ks
  unfolding link_uses
  ends_in [] h = tt
  ends_in (k ∷ ks) h = ((h k.first.point (inl refl), h k.second.point (inr (inl refl))), ends_in ks (λ p i. h p (inr (inr i))))

nodes_in_known : (d : Drawing) → All (λ (p : Point). In p (drawn_points d)) (build_graph d).nodes
unfolding build_graph
nodes_in_known d =
    let P : Point → Type 0 = λ p. In p (drawn_points d) in
    uses_all P [] (uses_of d) tt
    (uses_of_all P d (lines_in (drawn_points d) d.lines (λ p i. in_left p (line_points d.lines) (link_uses d.links) i)) (ends_in (drawn_points d) d.links (λ p i. in_right p (line_points d.lines) (link_uses d.links) i)))

-- of p points and k links
pub nodes_few : (d : Drawing) → length (build_graph d).nodes ≤ points_of d + 2 * length d.links
nodes_few d =
    let ns = (build_graph d).nodes in
    omega (
      arith,
      apart_few ns (drawn_points d) (apart_places ns (distinct ns (built_numbered d))) (all_in (λ (p : Point). In p (drawn_points d)) ns (nodes_in_known d)),
      length-append (line_points d.lines) (link_uses d.links),
      length_line_points d.lines,
      ends_length d.links,
    )

-- ---- after checks 1 to 8

pub counted_few : (d : Drawing) → Counts d → Few d
counted_few d c = record {
  nodes = omega (arith, nodes_few d, c.points, c.links);
  edges = omega (arith, edges_few d, c.points, c.links);
  odd = omega (arith, odd_few d, c.lines, c.links);
}

pub accepted_few : (file : List ℕ) → verdict (read_conditions file) ≡ accepted → Few (drawing_of (records_of file))
accepted_few file e = counted_few (drawing_of (records_of file)) (passed_counts file (accepted_passes file e))

-- ---- worked example: a line of two points with a link between two places on it reaches all three bounds

abbrev at : ℕ → Point
at x = record { x = x; y = 0 }

abbrev on_line : ℕ → End
on_line x = record { line = 0; segment = 0; point = at x }

bent : Drawing
bent = record {
  settings = record { width = 10; height = 10; pairing = 0; flags = 0 };
  lines = (at 0 ∷ at 9 ∷ []) ∷ [];
  links = record { first = on_line 3; second = on_line 6 } ∷ [];
}

bent_nodes : length (build_graph bent).nodes ≡ points_of bent + 2 * length bent.links
unfolding bent build_graph total
bent_nodes = refl

bent_edges : length (build_graph bent).edges ≡ points_of bent - 1 + 3 * length bent.links
unfolding bent build_graph total
bent_edges = refl

bent_odd : length (odd_nodes (length (build_graph bent).nodes) (build_graph bent).edges) ≡ 2 * length bent.lines + 2 * length bent.links
unfolding bent build_graph odd_from
bent_odd = refl
