-- The words of demand 3 worked out on small drawings, with what a person counts there. A count between two points is given as the whole table of a list of points, a row for
-- each of them: so in either order, and of a point with itself. Some lists have a point that is none of the drawing.
use Prim.Native.Nat.{ℕ, ◌+◌, ◌-◌}
use mathlib.Core.Path.{◌≡◌, refl}
use mathlib.Core.List.{List, [], ◌∷◌, map}
use mathlib.Core.Bool.{Bool, true, false, true≢false}
use Rattle.drawing_spec.specs.Drawing.{Point, same, Link, Drawing}
use Rattle.graph_spec.specs.Graph.{build_graph}
use Rattle.graph_spec.specs.Odd.{one, is_odd}
use Rattle.graph_spec.specs.Count.{steps_between}
use Rattle.repair_spec.specs.Repair.{Repairing, stopped, repaired}
use Rattle.planner_spec.specs.Plan.{repair_of, line_for}
use Rattle.planner_spec.specs.Words.{pieces_between, links_between, retraces_in, copies_between, drawn_at, copies_at, odd, left_odd}
use Rattle.planner_spec.specs.Demand3.{NoneOdd}

-- ---- drawings. Coordinates are places on the grid; the canvas has no say in what is counted.

abbrev pub at : ℕ → ℕ → Point
at x y = record { x = x; y = y }

abbrev pub drawing : ℕ → ℕ → List (List Point) → List Link → Drawing
drawing pairing flags lines links = record { settings = record { width = 10; height = 10; pairing = pairing; flags = flags }; lines = lines; links = links }

-- a link from p, on segment 0 of the line l, to q, on segment 0 of the line m
abbrev pub link : ℕ → Point → ℕ → Point → Link
link l p m q = record { first = record { line = l; segment = 0; point = p }; second = record { line = m; segment = 0; point = q } }

-- one segment; flag 1 closes the line
abbrev pub segment : ℕ → Drawing
segment flags = drawing 0 flags ((at 0 0 ∷ at 3 4 ∷ []) ∷ []) []

-- two lines that cross at (4, 4), a point of both
abbrev pub cross : ℕ → ℕ → Drawing
cross pairing flags = drawing pairing flags ((at 0 4 ∷ at 4 4 ∷ at 8 4 ∷ []) ∷ (at 4 0 ∷ at 4 4 ∷ at 4 8 ∷ []) ∷ []) []

-- a segment, a dot above its middle, and a link from the one to the other
abbrev pub linked_dot : ℕ → Drawing
linked_dot flags = drawing 0 flags ((at 0 0 ∷ at 8 0 ∷ []) ∷ (at 4 4 ∷ []) ∷ []) (link 0 (at 4 0) 1 (at 4 4) ∷ [])

-- a triangle, drawn in one go
abbrev pub triangle : Drawing
triangle = drawing 0 0 ((at 0 0 ∷ at 4 0 ∷ at 0 3 ∷ at 0 0 ∷ []) ∷ []) []

-- the letter H, narrow: two uprights and the short bar between their middles
abbrev narrow_h : ℕ → Drawing
narrow_h flags = drawing 0 flags ((at 4 0 ∷ at 4 4 ∷ at 4 8 ∷ []) ∷ (at 5 0 ∷ at 5 4 ∷ at 5 8 ∷ []) ∷ (at 4 4 ∷ at 5 4 ∷ []) ∷ []) []

-- each point of a list with each
abbrev table : (Point → Point → Drawing → ℕ) → List Point → Drawing → List (List ℕ)
table count ps d = map (λ (p : Point). map (λ (q : Point). count p q d) ps) ps

-- ---- pieces

-- the cross: one from the middle to each tip, and none from tip to tip or at (1, 1)
cross_pieces : table pieces_between (at 4 4 ∷ at 0 4 ∷ at 8 4 ∷ at 4 0 ∷ at 4 8 ∷ at 1 1 ∷ []) (cross 0 0) ≡
    (0 ∷ 1 ∷ 1 ∷ 1 ∷ 1 ∷ 0 ∷ [])
    ∷ (1 ∷ 0 ∷ 0 ∷ 0 ∷ 0 ∷ 0 ∷ [])
    ∷ (1 ∷ 0 ∷ 0 ∷ 0 ∷ 0 ∷ 0 ∷ [])
    ∷ (1 ∷ 0 ∷ 0 ∷ 0 ∷ 0 ∷ 0 ∷ [])
    ∷ (1 ∷ 0 ∷ 0 ∷ 0 ∷ 0 ∷ 0 ∷ [])
    ∷ (0 ∷ 0 ∷ 0 ∷ 0 ∷ 0 ∷ 0 ∷ [])
    ∷ []
unfolding pieces_between
cross_pieces = refl

-- Segments that lie on one another each count: (0, 0) to (4, 0), the same from the other end, and its half as a line of its own. That one splits neither.
overlaid_pieces : table pieces_between (at 0 0 ∷ at 4 0 ∷ at 2 0 ∷ []) (drawing 0 0 ((at 0 0 ∷ at 4 0 ∷ []) ∷ (at 4 0 ∷ at 0 0 ∷ []) ∷ (at 0 0 ∷ at 2 0 ∷ []) ∷ []) []) ≡
    (0 ∷ 2 ∷ 1 ∷ []) ∷ (2 ∷ 0 ∷ 0 ∷ []) ∷ (1 ∷ 0 ∷ 0 ∷ []) ∷ []
unfolding pieces_between
overlaid_pieces = refl

-- the linked dot: the link splits the segment in two, and no piece is left from end to end; the link itself is no piece
split_pieces : table pieces_between (at 0 0 ∷ at 4 0 ∷ at 8 0 ∷ at 4 4 ∷ []) (linked_dot 0) ≡ (0 ∷ 1 ∷ 0 ∷ 0 ∷ []) ∷ (1 ∷ 0 ∷ 1 ∷ 0 ∷ []) ∷ (0 ∷ 1 ∷ 0 ∷ 0 ∷ []) ∷ (0 ∷ 0 ∷ 0 ∷ 0 ∷ []) ∷ []
unfolding pieces_between
split_pieces = refl

-- (2, 3) twice and then (5, 3): the segment of length zero gives none
still_pieces : table pieces_between (at 2 3 ∷ at 5 3 ∷ []) (drawing 0 0 ((at 2 3 ∷ at 2 3 ∷ at 5 3 ∷ []) ∷ []) []) ≡ (0 ∷ 1 ∷ []) ∷ (1 ∷ 0 ∷ []) ∷ []
unfolding pieces_between
still_pieces = refl

-- ---- links

-- the linked dot: one, between the segment's middle and the dot
dot_links : table links_between (at 0 0 ∷ at 4 0 ∷ at 8 0 ∷ at 4 4 ∷ []) (linked_dot 0) ≡ (0 ∷ 0 ∷ 0 ∷ 0 ∷ []) ∷ (0 ∷ 0 ∷ 0 ∷ 1 ∷ []) ∷ (0 ∷ 0 ∷ 0 ∷ 0 ∷ []) ∷ (0 ∷ 1 ∷ 0 ∷ 0 ∷ []) ∷ []
unfolding links_between
dot_links = refl

-- two links alike are two, and one that is written from the dot to the segment is a third; the segment is split once
three_links : Drawing
three_links = drawing 0 0 ((at 0 0 ∷ at 8 0 ∷ []) ∷ (at 4 4 ∷ []) ∷ []) (link 0 (at 4 0) 1 (at 4 4) ∷ link 0 (at 4 0) 1 (at 4 4) ∷ link 1 (at 4 4) 0 (at 4 0) ∷ [])

three_links_lem : table links_between (at 4 0 ∷ at 4 4 ∷ at 0 0 ∷ []) three_links ≡ (0 ∷ 3 ∷ 0 ∷ []) ∷ (3 ∷ 0 ∷ 0 ∷ []) ∷ (0 ∷ 0 ∷ 0 ∷ []) ∷ []
unfolding links_between three_links
three_links_lem = refl

three_links_pieces : table pieces_between (at 4 0 ∷ at 4 4 ∷ at 0 0 ∷ []) three_links ≡ (0 ∷ 0 ∷ 1 ∷ []) ∷ (0 ∷ 0 ∷ 0 ∷ []) ∷ (1 ∷ 0 ∷ 0 ∷ []) ∷ []
unfolding pieces_between three_links
three_links_pieces = refl

-- a record with one point twice is no link, though it splits the segment that it names
point_twice : Drawing
point_twice = drawing 0 0 ((at 0 0 ∷ at 8 0 ∷ []) ∷ []) (link 0 (at 4 0) 0 (at 4 0) ∷ [])

twice_links : table links_between (at 0 0 ∷ at 4 0 ∷ at 8 0 ∷ []) point_twice ≡ (0 ∷ 0 ∷ 0 ∷ []) ∷ (0 ∷ 0 ∷ 0 ∷ []) ∷ (0 ∷ 0 ∷ 0 ∷ []) ∷ []
unfolding links_between point_twice
twice_links = refl

twice_pieces : table pieces_between (at 0 0 ∷ at 4 0 ∷ at 8 0 ∷ []) point_twice ≡ (0 ∷ 1 ∷ 0 ∷ []) ∷ (1 ∷ 0 ∷ 1 ∷ []) ∷ (0 ∷ 1 ∷ 0 ∷ []) ∷ []
unfolding pieces_between point_twice
twice_pieces = refl

-- ---- retraces and copies

copy_table : List Point → Drawing → List (List ℕ)
unfolding copies_between
copy_table ps d = table copies_between ps d

-- one segment: its two ends are odd; they stay so, or are joined where closing was chosen
segment_retraces : map retraces_in (segment 0 ∷ segment 1 ∷ []) ≡ [] ∷ ((at 0 0 ∷ at 3 4 ∷ []) ∷ []) ∷ []
unfolding retraces_in
segment_retraces = refl

segment_copies : map (copy_table (at 0 0 ∷ at 3 4 ∷ at 1 1 ∷ [])) (segment 0 ∷ segment 1 ∷ []) ≡
    ((0 ∷ 0 ∷ 0 ∷ []) ∷ (0 ∷ 0 ∷ 0 ∷ []) ∷ (0 ∷ 0 ∷ 0 ∷ []) ∷ [])
    ∷ ((0 ∷ 1 ∷ 0 ∷ []) ∷ (1 ∷ 0 ∷ 0 ∷ []) ∷ (0 ∷ 0 ∷ 0 ∷ []) ∷ [])
    ∷ []
unfolding copy_table
segment_copies = refl

-- The cross: the nearest two tips, (0, 4) and (4, 0), are paired over the middle; closing joins the other two as well. Optimal pairs the ends of the upright.
cross_retraces : map retraces_in (cross 0 0 ∷ cross 0 1 ∷ cross 1 0 ∷ []) ≡
    ((at 0 4 ∷ at 4 4 ∷ at 4 0 ∷ []) ∷ [])
    ∷ ((at 0 4 ∷ at 4 4 ∷ at 4 0 ∷ []) ∷ (at 8 4 ∷ at 4 4 ∷ at 4 8 ∷ []) ∷ [])
    ∷ ((at 4 0 ∷ at 4 4 ∷ at 4 8 ∷ []) ∷ [])
    ∷ []
unfolding retraces_in
cross_retraces = refl

-- one for each edge of each retrace, so none from tip to tip
cross_copies : copy_table (at 4 4 ∷ at 0 4 ∷ at 8 4 ∷ at 4 0 ∷ at 4 8 ∷ []) (cross 0 0) ≡
    (0 ∷ 1 ∷ 0 ∷ 1 ∷ 0 ∷ []) ∷ (1 ∷ 0 ∷ 0 ∷ 0 ∷ 0 ∷ []) ∷ (0 ∷ 0 ∷ 0 ∷ 0 ∷ 0 ∷ []) ∷ (1 ∷ 0 ∷ 0 ∷ 0 ∷ 0 ∷ []) ∷ (0 ∷ 0 ∷ 0 ∷ 0 ∷ 0 ∷ []) ∷ []
unfolding copy_table
cross_copies = refl

-- The H, closing: all six points are odd, and every pair of them is joined over the bar. There are three copies of it, two of them made when there was a copy already.
bar_retraces : retraces_in (narrow_h 1) ≡ (at 4 0 ∷ at 4 4 ∷ at 5 4 ∷ at 5 0 ∷ []) ∷ (at 5 4 ∷ at 4 4 ∷ []) ∷ (at 4 8 ∷ at 4 4 ∷ at 5 4 ∷ at 5 8 ∷ []) ∷ []
unfolding retraces_in
bar_retraces = refl

bar_copies : copy_table (at 4 4 ∷ at 5 4 ∷ at 4 8 ∷ at 5 0 ∷ []) (narrow_h 1) ≡ (0 ∷ 3 ∷ 1 ∷ 0 ∷ []) ∷ (3 ∷ 0 ∷ 0 ∷ 1 ∷ []) ∷ (1 ∷ 0 ∷ 0 ∷ 0 ∷ []) ∷ (0 ∷ 1 ∷ 0 ∷ 0 ∷ []) ∷ []
unfolding copy_table
bar_copies = refl

-- not closing: the third pair is left as it is
bar_copies_open : copy_table (at 4 4 ∷ at 5 4 ∷ at 4 8 ∷ at 5 0 ∷ []) (narrow_h 0) ≡ (0 ∷ 2 ∷ 0 ∷ 0 ∷ []) ∷ (2 ∷ 0 ∷ 0 ∷ 1 ∷ []) ∷ (0 ∷ 0 ∷ 0 ∷ 0 ∷ []) ∷ (0 ∷ 1 ∷ 0 ∷ 0 ∷ []) ∷ []
unfolding copy_table
bar_copies_open = refl

-- Copies are counted from the retraces, and not as a line's steps less the pieces: two dashes apart, closing, have a copy each, and a line goes over one of them alone.
dashes : Drawing
dashes = drawing 0 1 ((at 0 0 ∷ at 1 0 ∷ []) ∷ (at 5 0 ∷ at 6 0 ∷ []) ∷ []) []

abbrev line_through : Drawing → Repairing → List Point
line_through d (stopped n) = []
line_through d (repaired r) = line_for (build_graph d) d.settings r

abbrev steps_less_pieces : Point → Point → Drawing → ℕ
steps_less_pieces p q d = steps_between p q (line_through d (repair_of (build_graph d) d.settings)) - (pieces_between p q d + links_between p q d)

dash_copies : map (λ (count : Point → Point → Drawing → ℕ). table count (at 0 0 ∷ at 1 0 ∷ at 5 0 ∷ at 6 0 ∷ []) dashes) (copies_between ∷ steps_less_pieces ∷ []) ≡
    ((0 ∷ 1 ∷ 0 ∷ 0 ∷ []) ∷ (1 ∷ 0 ∷ 0 ∷ 0 ∷ []) ∷ (0 ∷ 0 ∷ 0 ∷ 1 ∷ []) ∷ (0 ∷ 0 ∷ 1 ∷ 0 ∷ []) ∷ [])
    ∷ ((0 ∷ 1 ∷ 0 ∷ 0 ∷ []) ∷ (1 ∷ 0 ∷ 0 ∷ 0 ∷ []) ∷ (0 ∷ 0 ∷ 0 ∷ 0 ∷ []) ∷ (0 ∷ 0 ∷ 0 ∷ 0 ∷ []) ∷ [])
    ∷ []
unfolding dashes copies_between pieces_between links_between build_graph repair_of line_for
dash_copies = refl

-- ---- what ends at a point

-- The linked dot: at (4, 0) two pieces and the link, at the dot the link, at (1, 1) nothing. Its retrace goes from (0, 0) to (4, 0).
dot_drawn : map (λ (p : Point). drawn_at p (linked_dot 0)) (at 0 0 ∷ at 4 0 ∷ at 8 0 ∷ at 4 4 ∷ at 1 1 ∷ []) ≡ 1 ∷ 3 ∷ 1 ∷ 1 ∷ 0 ∷ []
unfolding drawn_at
dot_drawn = refl

dot_copies : map (λ (p : Point). copies_at p (linked_dot 0)) (at 0 0 ∷ at 4 0 ∷ at 8 0 ∷ at 4 4 ∷ at 1 1 ∷ []) ≡ 1 ∷ 1 ∷ 0 ∷ 0 ∷ 0 ∷ []
unfolding copies_at
dot_copies = refl

-- the three links each have an end at the segment's middle, beside its two pieces, and at the dot; the record with one point twice has none
links_drawn : map (λ (d : Drawing). map (λ (p : Point). drawn_at p d) (at 0 0 ∷ at 4 0 ∷ at 4 4 ∷ [])) (three_links ∷ point_twice ∷ []) ≡ (1 ∷ 5 ∷ 3 ∷ []) ∷ (1 ∷ 2 ∷ 0 ∷ []) ∷ []
unfolding drawn_at three_links point_twice
links_drawn = refl

-- the H, closing: three pieces at either end of the bar, and one at each tip; a retrace that goes through a point has two copies there
bar_drawn : map (λ (p : Point). drawn_at p (narrow_h 1)) (at 4 4 ∷ at 5 4 ∷ at 4 0 ∷ at 5 8 ∷ []) ≡ 3 ∷ 3 ∷ 1 ∷ 1 ∷ []
unfolding drawn_at
bar_drawn = refl

bar_copies_at : map (λ (p : Point). copies_at p (narrow_h 1)) (at 4 4 ∷ at 5 4 ∷ at 4 0 ∷ at 5 8 ∷ []) ≡ 5 ∷ 5 ∷ 1 ∷ 1 ∷ []
unfolding copies_at
bar_copies_at = refl

-- ---- odd, and left odd

-- the linked dot: all four of its points are odd, and no other point is; (8, 0) and the dot are left, or none where closing was chosen
dot_odd : map (λ (p : Point). odd p (linked_dot 0)) (at 0 0 ∷ at 4 0 ∷ at 8 0 ∷ at 4 4 ∷ at 1 1 ∷ []) ≡ true ∷ true ∷ true ∷ true ∷ false ∷ []
unfolding drawn_at
dot_odd = refl

dot_left : map (λ (p : Point). left_odd p (linked_dot 0)) (at 0 0 ∷ at 4 0 ∷ at 8 0 ∷ at 4 4 ∷ at 1 1 ∷ []) ≡ false ∷ false ∷ true ∷ true ∷ false ∷ []
unfolding drawn_at copies_at
dot_left = refl

dot_left_closing : map (λ (p : Point). left_odd p (linked_dot 1)) (at 0 0 ∷ at 4 0 ∷ at 8 0 ∷ at 4 4 ∷ at 1 1 ∷ []) ≡ false ∷ false ∷ false ∷ false ∷ false ∷ []
unfolding drawn_at copies_at
dot_left_closing = refl

-- the cross: its middle has four pieces and is even; Greedy leaves (8, 4) and (4, 8), Optimal (0, 4) and (8, 4)
cross_odd : map (λ (p : Point). odd p (cross 0 0)) (at 4 4 ∷ at 0 4 ∷ at 8 4 ∷ at 4 0 ∷ at 4 8 ∷ []) ≡ false ∷ true ∷ true ∷ true ∷ true ∷ []
unfolding drawn_at
cross_odd = refl

cross_left : map (λ (p : Point). left_odd p (cross 0 0)) (at 4 4 ∷ at 0 4 ∷ at 8 4 ∷ at 4 0 ∷ at 4 8 ∷ []) ≡ false ∷ false ∷ true ∷ false ∷ true ∷ []
unfolding drawn_at copies_at
cross_left = refl

cross_left_optimal : map (λ (p : Point). left_odd p (cross 1 0)) (at 4 4 ∷ at 0 4 ∷ at 8 4 ∷ at 4 0 ∷ at 4 8 ∷ []) ≡ false ∷ true ∷ true ∷ false ∷ false ∷ []
unfolding drawn_at copies_at
cross_left_optimal = refl

-- ---- no point is odd

-- of the triangle, where two pieces end at each corner: for a point p, each corner is p or is not
pub triangle_none : NoneOdd triangle
unfolding drawn_at
triangle_none p = go (same (at 0 0) p) (same (at 4 0) p) (same (at 0 3) p)
  where
    go : (a b c : Bool) → is_odd ((one a + one b) + ((one b + one c) + ((one c + one a) + 0)) + 0) ≡ false
    go true true true = refl
    go true true false = refl
    go true false true = refl
    go true false false = refl
    go false true true = refl
    go false true false = refl
    go false false true = refl
    go false false false = refl

-- not of the segment, though closing leaves none of its points odd
segment_some : (NoneOdd (segment 1) → ⊥) × (map (λ (p : Point). left_odd p (segment 1)) (at 0 0 ∷ at 3 4 ∷ []) ≡ false ∷ false ∷ [])
unfolding drawn_at copies_at
segment_some = (λ none. true≢false (none (at 0 0)), refl)
