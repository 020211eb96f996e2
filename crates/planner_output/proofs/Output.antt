-- Laws of specs/Output.
use mathlib.Core.Path.{◌≡◌, refl, sym, ap, ap₂, ◌∙◌}
use mathlib.Core.List.{List, [], ◌∷◌}
use mathlib.Core.Bool.{Bool, true, false}
use Prim.Native.Nat.{ℕ, zero, suc, ◌+◌, ◌*◌, ◌≤◌, ◌<◌}
use native.Mathlib.Omega.{arith}
use lib.ListN.{length, get_or, take, length-map}
use lib.Seq.{length-take-le}
use borrow.Author.Tests.{lt-ltb, le-ltb}
use Rattle.std.specs.Prelude.{Some, None}
use Rattle.planner_spec.specs.LineRecord.{line_record}
use Rattle.drawing_spec.specs.Bytes.{in_front}
use Rattle.limits.specs.Limits.{most_nodes, line_room}
use Rattle.drawing_spec.specs.Drawing.{Point}
use Rattle.graph_spec.specs.Graph.{point_at}
use Rattle.graph_arrays.specs.Arrays.{nodes_in}
use Rattle.graph_arrays.specs.NodeList.{NodeList, points_along}
use Rattle.graph_arrays.proofs.NodeList.{point_at_lem}
use Rattle.record.specs.Written.{points_in}
use Rattle.planner_output.specs.Output.{emitted_by, emitted_of, output_by, output_with, short}

-- the points of nodes, as the code reads them and as the graph has them
same_points : (n : ℕ) (xs ys line : List ℕ) (count : ℕ) → ((j : ℕ) → j < count → get_or line j 0 < n) → points_in xs ys line count ≡ points_along n xs ys line count
same_points n xs ys line zero h = refl
same_points n xs ys [] (suc count) h = refl
same_points n xs ys (v ∷ line) (suc count) h =
    ap₂ (λ (p : Point) (ps : List Point). p ∷ ps) (sym (point_at_lem n xs ys v (h 0 (omega arith)))) (same_points n xs ys line count (λ j l. h (suc j) (omega arith)))

pub nodes_few : (n room : ℕ) (line : List ℕ) (count : ℕ) → n ≤ most_nodes → NodeList n room line count → NodeList most_nodes room line count
nodes_few n room line count few l = record { fits = l.fits; long = l.long; nodes_in_known = λ j h. omega (arith, l.nodes_in_known j h) }

module _ (n : ℕ) (xs ys output₀ line : List ℕ) (count : ℕ) (points : List Point) (l : NodeList n line_room line count) (is : points_along n xs ys line count ≡ points) where
  points_count : length points ≡ count
  points_count = ap length (sym is) ∙ length-map (take count line) (point_at (nodes_in n xs ys)) ∙ length-take-le count line l.long

  module _ (b : Bool) (test : short output₀ count ≡ b) where
    test_is : b ≡ short output₀ (length points)
    test_is = sym test ∙ ap (short output₀) (sym points_count)

    emitted_is : emitted_by b count ≡ emitted_of output₀ points
    emitted_is = ap₂ emitted_by test_is (sym points_count)

    output_is : output_by b output₀ points ≡ output_with output₀ points
    output_is = ap (λ (t : Bool). output_by t output₀ points) test_is

  pub emitted_short : length output₀ < 6 + 16 * count → (None ≡ emitted_of output₀ points) × (output₀ ≡ output_with output₀ points)
  emitted_short h = (emitted_is true (lt-ltb _ _ h), output_is true (lt-ltb _ _ h))

  pub emitted_whole : (output : List ℕ) → 6 + 16 * count ≤ length output₀ → output ≡ in_front (line_record (points_in xs ys line count)) output₀
      → (Some count ≡ emitted_of output₀ points) × (output ≡ output_with output₀ points)
  emitted_whole output h w = (
    emitted_is false (le-ltb _ _ h),
    w ∙ ap (λ (ps : List Point). in_front (line_record ps) output₀) (same_points n xs ys line count l.nodes_in_known ∙ is) ∙ output_is false (le-ltb _ _ h),
  )
