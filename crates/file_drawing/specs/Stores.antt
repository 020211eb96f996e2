-- Lists that a loop fills from the front, and the drawing's flat lists.
use Rattle.std.specs.Prelude.{ℕ, ◌+◌, ◌-◌, List, [], ◌∷◌, ◌++◌, map, length, replicate}
use Rattle.drawing_spec.specs.Drawing.{Point}

-- a list with z up to the length n behind it
abbrev pub padded : {A : Type 0} → ℕ → A → List A → List A
padded n z vs = vs ++ replicate (n - length vs) z

-- the x, and the y, of points
abbrev pub xs_of : List Point → List ℕ
xs_of ps = map (λ (p : Point). p.x) ps

abbrev pub ys_of : List Point → List ℕ
ys_of ps = map (λ (p : Point). p.y) ps

-- where each line ends among the points, with k points before the first
unfoldable pub ends_from : ℕ → List (List Point) → List ℕ
ends_from k [] = []
ends_from k (l ∷ ls) = (k + length l) ∷ ends_from (k + length l) ls
