-- The split points that stay, one after the other: a point equal to an end of the segment goes, and so does one equal to the point that stayed before it.
use Rattle.std.specs.Prelude.{Bool, ◌&&◌, not, cond, List, ℕ, zero, suc, ◌+◌, get_or}
use Rattle.drawing_spec.specs.Drawing.{Point, same}

abbrev pub at : ℕ → ℕ → Point
at x y = record { x = x; y = y }

-- whether p stays, on the segment from a to b, where l stayed before it
unfoldable pub keeps : Point → Point → Point → Point → Bool
keeps a b l p = (not (same p a) && not (same p b)) && not (same p l)

-- the first of `fuel` places from i on whose point stays; the place behind them where none does
unfoldable pub next_split : ℕ → List ℕ → List ℕ → Point → Point → Point → ℕ → ℕ
unfolding keeps
next_split zero xs ys a b l i = i
next_split (suc fuel) xs ys a b l i = cond (keeps a b l (at (get_or xs i 0) (get_or ys i 0))) i (next_split fuel xs ys a b l (i + 1))
