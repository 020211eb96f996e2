-- The virtual step, which is cut: the one that was made by the virtual edge, known by that edge's number and not by its two ends. With the circuit's nodes at places 0 to the
-- last and the virtual step from place p to p + 1, the line is places p + 1 to the last, then 1 to p.
use Rattle.std.specs.Prelude.{ℕ, List, [], ◌∷◌, ◌++◌, reverse, Bool, true, false, drop, eqb}
use Rattle.walk_spec.specs.Walk.{By, start, Entry}

unfoldable pub is_by : ℕ → By → Bool
is_by i start = false
is_by i (By.edge j) = eqb j i

-- the entries before the one that was entered by the edge i, the last of them first, and those from it on
unfoldable pub cut_at : ℕ → List Entry → List Entry → List Entry
unfolding is_by
cut_at i before [] = reverse before
cut_at i before (t ∷ ts) = elim (is_by i t.by) [ true ↦ (t ∷ ts) ++ drop 1 (reverse before) | false ↦ cut_at i (t ∷ before) ts ]
