-- Counting edges, strokes, and steps along a line.
use Rattle.std.specs.Prelude.{ℕ, ◌+◌, List, [], ◌∷◌, ◌&&◌, ◌||◌, eqb}
use Rattle.drawing_spec.specs.Drawing.{Point, same}
use Rattle.graph_spec.specs.Pieces.{Stroke}
use Rattle.graph_spec.specs.Graph.{Edge}
use Rattle.graph_spec.specs.Odd.{one}

-- a weight summed over a list
unfoldable pub sum_over : {A : Type 0} → (A → ℕ) → List A → ℕ
sum_over g [] = 0
sum_over g (x ∷ xs) = g x + sum_over g xs

-- a weight of two that follow each other, summed over the line that goes on from x
unfoldable pub step_sum : {A : Type 0} → (A → A → ℕ) → A → List A → ℕ
step_sum w x [] = 0
step_sum w x (y ∷ ys) = w x y + step_sum w y ys

-- the same for a whole line
unfoldable pub line_sum : {A : Type 0} → (A → A → ℕ) → List A → ℕ
unfolding step_sum
line_sum w [] = 0
line_sum w (x ∷ xs) = step_sum w x xs

-- the last of the line that goes on from x
unfoldable pub last_from : {A : Type 0} → A → List A → A
last_from x [] = x
last_from x (y ∷ ys) = last_from y ys

-- 1 where a and b are u and v, in either order
abbrev pub joint : ℕ → ℕ → ℕ → ℕ → ℕ
joint u v a b = one ((eqb a u && eqb b v) || (eqb a v && eqb b u))

-- how many edges join u and v
abbrev pub joining : ℕ → ℕ → List Edge → ℕ
joining u v es = sum_over (λ (e : Edge). joint u v e.a e.b) es

-- ---- the same by points, in the words of document 01

-- What goes from a to b lies between p and q when these are its ends, in either order.
abbrev pub lies : Point → Point → Point → Point → ℕ
lies p q a b = one ((same a p && same b q) || (same a q && same b p))

-- A step is a point of a line with the next one.
abbrev pub steps_between : Point → Point → List Point → ℕ
steps_between p q line = line_sum (lies p q) line

abbrev pub strokes_between : Point → Point → List Stroke → ℕ
strokes_between p q ss = sum_over (λ (s : Stroke). lies p q s.from s.to) ss

-- how often what goes from a to b has an end at p: once for each end that is there
abbrev pub touches : Point → Point → Point → ℕ
touches p a b = one (same a p) + one (same b p)

abbrev pub strokes_at : Point → List Stroke → ℕ
strokes_at p ss = sum_over (λ (s : Stroke). touches p s.from s.to) ss
