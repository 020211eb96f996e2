-- The split points of a segment, as its list of ends is followed, and gathered into the buffer.
use Rattle.std.specs.Prelude.{◌≡◌, true, false, List, [], ◌∷◌, ◌++◌, ℕ, zero, suc, length, get_or, ltb}
use Rattle.limits.specs.Limits.{most_splits}
use Rattle.drawing_spec.specs.Drawing.{Point}
use Rattle.graph_spec.specs.Chain.{inner, changes}
use Rattle.graph_splits.specs.Buffer.{Buffer}
use Rattle.graph_splits.specs.Points.{Points, point_in}
use Rattle.graph_segment_ends.specs.Gather.{insert_all}

-- the ends from e on, `fuel` of them at most
unfoldable pub follow : ℕ → List ℕ → ℕ → List ℕ
follow zero ns e = []
follow (suc fuel) ns e = elim (ltb e most_splits) [ true ↦ e ∷ follow fuel ns (get_or ns e 0) | false ↦ [] ]

-- sorted by distance from a
abbrev pub sorted_from : Points → List ℕ → ℕ → Point → List Point
sorted_from k ns e a = insert_all a (point_in k) (follow most_splits ns e) []

-- the chain after a of the segment from a to b whose newest end is e
abbrev pub chain_from : Points → List ℕ → ℕ → Point → Point → List Point
chain_from k ns e a b = changes a (inner a b (sorted_from k ns e a)) ++ (b ∷ [])

-- ---- the contract's words

-- the three lists of the buffer have their lengths
pub record Scratch (b : Buffer) : Type 0 where
  pub keys_long : length b.keys ≡ most_splits
  pub xs_long : length b.xs ≡ most_splits
  pub ys_long : length b.ys ≡ most_splits
