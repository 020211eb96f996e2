-- How long the edges of a drawing on the grid are: they join different points, which are a grid step apart or more, and no two points are 2 ^ 14 apart.
use mathlib.Core.Path.{◌≡◌, refl, sym, ap}
use mathlib.Core.List.{map}
use mathlib.Core.Bool.{false}
use Prim.Native.Nat.{ℕ, ◌^◌, ◌≤◌, ◌<◌}
use native.Mathlib.Nat.{le_trans, le_of_eq, lt_of_le_of_lt, mul-le-mul, mul-pos}
use native.Mathlib.Decide.{dec_le}
use native.Mathlib.Omega.{arith}
use lib.ListN.{length}
use lib.Dec.{lit<, lit≤}
use lib.Ieee.{Float, binary64}
use Rattle.sums.specs.Key.{key}
use Rattle.grid.specs.Grid.{grid_exponent, gap}
use Rattle.length.specs.Root.{square, length_of, root_over}
use Rattle.length.proofs.LengthLaws.{length_mono, samples}
use Rattle.drawing_spec.specs.Drawing.{Point, same, Drawing}
use Rattle.drawing_spec.proofs.Same.{differ}
use Rattle.lists.specs.Members.{In, All}
use Rattle.lists.proofs.Members.{all_in, all_map, all_imp}
use Rattle.drawing_spec.specs.OnGrid.{OnGrid, AtEnds}
use Rattle.graph_spec.specs.Chain.{squared}
use Rattle.graph_spec.specs.Pieces.{strokes_of}
use Rattle.graph_spec.specs.Graph.{Edge, edge_of, build_graph}
use Rattle.graph_spec.proofs.Strokes.{Between, strokes_between_lem, uses_of_all}
use Rattle.graph_spec.proofs.Built.{built_inside, built_weights}
use Rattle.graph_spec.specs.Weights.{grid_step, longest, Searchable}

-- ---- squared distances

square_pos : (n : ℕ) → 0 < n → 0 < square n
square_pos n h = mul-pos h h

apart_squared : (p q : Point) → same p q ≡ false → 0 < squared p q
apart_squared p q d = elim (dec_le 1 (gap p.x q.x)) [
  | yes h ↦ omega (arith, square_pos (gap p.x q.x) h)
  | no h ↦ elim (dec_le 1 (gap p.y q.y)) [
    | yes k ↦ omega (arith, square_pos (gap p.y q.y) k)
    | no k ↦
        let ex : p.x ≡ q.x = omega arith in
        let ey : p.y ≡ q.y = omega arith in
        absurd (differ p q d (λ i. record { x = ex i; y = ey i }))
  ]
]

gap_squared : (a b : ℕ) → a ≤ 2 ^ 23 → b ≤ 2 ^ 23 → square (gap a b) ≤ 2 ^ 46
gap_squared a b h k = let g : gap a b ≤ 2 ^ 23 = omega arith in mul-le-mul {n₂ = 2 ^ 23} {m₂ = 2 ^ 23} g g

near_squared : (p q : Point) → OnGrid p → OnGrid q → squared p q ≤ 2 ^ 48
near_squared p q g h = omega (arith, gap_squared p.x q.x g.0 h.0, gap_squared p.y q.y g.1 h.1)

-- ---- lengths

longest_length : length_of (2 ^ 48) ≡ longest
unfolding root_over
longest_length = refl

module _ (p q : Point) (g : OnGrid p) (h : OnGrid q) where
  stroke_long : same p q ≡ false → key binary64 grid_step ≤ key binary64 (length_of (squared p q))
  stroke_long d =
      le_trans (le_of_eq (ap (λ (x : Float). key binary64 x) (sym samples.1)))
      (length_mono grid_exponent (lit≤ tt) 1 (squared p q) (apart_squared p q d) (lt_of_le_of_lt (near_squared p q g h) (lit< tt)))

  stroke_short : key binary64 (length_of (squared p q)) ≤ key binary64 longest
  stroke_short =
      le_trans (length_mono grid_exponent (lit≤ tt) (squared p q) (2 ^ 48) (near_squared p q g h) (lit< tt))
      (le_of_eq (ap (λ (x : Float). key binary64 x) longest_length))

-- ---- edges

abbrev OfGridLength : Edge → Type 0
OfGridLength e = (key binary64 grid_step ≤ key binary64 e.weight) × (key binary64 e.weight ≤ key binary64 longest)

module _ (d : Drawing) (lines : All (All OnGrid) d.lines) (links : All (AtEnds OnGrid) d.links) where
  strokes_on : All (Between OnGrid) (strokes_of d)
  strokes_on = strokes_between_lem OnGrid d (uses_of_all OnGrid d lines links)

  lengths : (e : Edge) → In e (build_graph d).edges → OfGridLength e
  unfolding build_graph edge_of
  lengths =
      let ns = (build_graph d).nodes in
      all_in OfGridLength (map (edge_of ns) (strokes_of d)) (all_map (edge_of ns) OfGridLength (strokes_of d)
      (all_imp (Between OnGrid) _ (λ s b. (stroke_long s.from s.to b.from b.to b.apart, stroke_short s.from s.to b.from b.to)) (strokes_of d) strokes_on))

  pub drawn_searchable : length (build_graph d).nodes < 2 ^ 27 → Searchable (length (build_graph d).nodes) (build_graph d).edges
  drawn_searchable few = record {
    few = few;
    inside = built_inside d;
    weights = built_weights d lines links;
    long = λ e i. (lengths e i).0;
    short = λ e i. (lengths e i).1;
  }
