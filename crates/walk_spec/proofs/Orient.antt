-- Turning a line changes neither its steps nor its points, and its ends at most change places.
use mathlib.Core.Path.{◌≡◌, refl}
use mathlib.Core.Logic.{◌⊎◌, inl, inr}
use mathlib.Core.List.{List, ◌∷◌, reverse}
use mathlib.Core.Bool.{true, false}
use Prim.Native.Nat.{ℕ}
use lib.ListN.{length, length-reverse}
use Rattle.center.specs.Center.{better}
use Rattle.drawing_spec.specs.Drawing.{Point, Settings, inside}
use Rattle.lists.specs.Members.{All}
use Rattle.lists.proofs.Members.{either}
use Rattle.graph_spec.specs.Count.{line_sum, last_from}
use Rattle.graph_spec.proofs.Lines.{line_sum_reverse, Runs, runs_reverse}
use Rattle.lists.proofs.Members.{all_reverse}
use Rattle.walk_spec.specs.Start.{distance}
use Rattle.walk_spec.specs.Orient.{EndPoints, ends, empty, end_points, orient}

-- a line turned is the line as it is, or reversed, so what holds of both holds of it
pub orient_keeps : (P : List Point → Type 0) (s : Settings) (line : List Point) → P line → P (reverse line) → P (orient s line)
unfolding orient
orient_keeps P s line p q = go (end_points line)
  where
    go : (e : EndPoints) → P (elim e [
      | empty ↦ line
      | ends a b ↦ elim (better (inside s) (distance s b) (distance s a)) [ true ↦ reverse line | false ↦ line ]
    ])
    go empty = p
    go (ends a b) = either P (reverse line) line q p (better (inside s) (distance s b) (distance s a))

pub orient_sum : (w : Point → Point → ℕ) → ((a b : Point) → w a b ≡ w b a) → (s : Settings) (line : List Point) → line_sum w (orient s line) ≡ line_sum w line
orient_sum w symmetric s line = orient_keeps (λ (l : List Point). line_sum w l ≡ line_sum w line) s line refl (line_sum_reverse w symmetric line)

pub orient_length : (s : Settings) (line : List Point) → length (orient s line) ≡ length line
orient_length s line = orient_keeps (λ (l : List Point). length l ≡ length line) s line refl (length-reverse line)

pub orient_all : (P : Point → Type 0) (s : Settings) (line : List Point) → All P line → All P (orient s line)
orient_all P s line p = orient_keeps (All P) s line p (all_reverse P line p)

pub orient_ends : (s : Settings) (p : Point) (ps : List Point)
    → Runs p (last_from p ps) (orient s (p ∷ ps)) ⊎ Runs (last_from p ps) p (orient s (p ∷ ps))
orient_ends s p ps = orient_keeps (λ (l : List Point). Runs p (last_from p ps) l ⊎ Runs (last_from p ps) p l) s (p ∷ ps)
    (inl (record { rest = ps; is = refl; ends = refl })) (inr (runs_reverse p ps))
