-- Laws of specs/Drawing.
use mathlib.Core.Path.{◌≡◌, refl, ap, ◌∙◌}
use mathlib.Core.List.{List, [], ◌∷◌, map}
use Prim.Native.Nat.{ℕ, ◌+◌}
use lib.ListN.{length, length-append}
use Rattle.drawing_spec.specs.Drawing.{Point, line_points}
use Rattle.drawing_spec.specs.Read.{total}

pub length_line_points : (ls : List (List Point)) → length (line_points ls) ≡ total (map (λ (l : List Point). length l) ls)
unfolding line_points total
length_line_points [] = refl
length_line_points (l ∷ ls) = length-append l (line_points ls) ∙ ap (λ (k : ℕ). length l + k) (length_line_points ls)
