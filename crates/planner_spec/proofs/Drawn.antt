-- What is drawn, in the words of document 01; and what holds of the graph of a drawing in limits.
use mathlib.Core.Path.{◌≡◌}
use Prim.Native.Nat.{◌+◌}
use Rattle.drawing_spec.specs.Drawing.{Point, Drawing}
use Rattle.graph_spec.specs.Pieces.{Stroke, pieces_of, links_of, strokes_of}
use Rattle.graph_spec.specs.Count.{lies, touches, strokes_between, strokes_at}
use Rattle.graph_spec.proofs.Sums.{sum_over_append}
use Rattle.planner_spec.specs.Words.{pieces_between, links_between, drawn_at}

module _ (d : Drawing) where
  pub drawn_between : (p q : Point) → strokes_between p q (strokes_of d) ≡ pieces_between p q d + links_between p q d
  unfolding pieces_between links_between
  drawn_between p q = sum_over_append (λ (s : Stroke). lies p q s.from s.to) (pieces_of d) (links_of d)

  pub drawn_at_lem : (p : Point) → strokes_at p (strokes_of d) ≡ drawn_at p d
  unfolding drawn_at
  drawn_at_lem p = sum_over_append (λ (s : Stroke). touches p s.from s.to) (pieces_of d) (links_of d)
