-- The points of a chain read from the sorted split points in flat lists.
use Rattle.std.specs.Prelude.{List, [], ◌∷◌, ◌++◌, ℕ}
use Rattle.drawing_spec.specs.Drawing.{Point}
use Rattle.graph_spec.specs.Chain.{inner, changes}
use Rattle.file_drawing.specs.Back.{points_back}

-- the points that stay, of n from place i on, on the segment from a to b where l stayed before
abbrev pub kept_from : List ℕ → List ℕ → Point → Point → Point → ℕ → ℕ → List Point
kept_from xs ys a b l n i = changes l (inner a b (points_back n i xs ys))

-- the chain after a of the segment from a to b with the split points of the buffer, of which there are n
abbrev pub chain_in : List ℕ → List ℕ → ℕ → Point → Point → List Point
chain_in xs ys n a b = kept_from xs ys a b a n 0 ++ (b ∷ [])
