-- Bytes put into a text from a place on; which answers can be printed, and the room that a text takes.
use Rattle.std.specs.Prelude.{ℕ, ◌+◌, ◌*◌, ◌≤◌, ◌≡◌, List, length}
use Rattle.std.specs.Float.{binary64}
use Rattle.std.proofs.lemmas.List.Edits.{sets}
use Rattle.limits.specs.Limits.{most_edges}
use Rattle.sums.specs.Key.{Nonneg}
use Rattle.planner_graph.specs.declared.Answer.{Answer}
use Rattle.planner_graph.specs.declared.Answer.TheVariants.{Refused, Planned}

-- The text has the bytes from `at` on, and what it had elsewhere; `end` is the place behind them.
pub record Put (before : List ℕ) (at : ℕ) (bytes after : List ℕ) (end : ℕ) : Type 0 where
  pub is : after ≡ sets before at bytes
  pub ends : end ≡ at + length bytes

-- room for the longest text: at most 83 bytes for the first line and 22 for each of 4,001 points, 10 more that `put_points` asks for, rounded up
abbrev pub text_room : ℕ
text_room = 88200

-- A retrace has bits to print, and the output holds the record's points, at most one more than edges.
abbrev pub Printable : Answer → List ℕ → Type 0
Printable (Refused k) output = Unit
Printable (Planned x before after count) output = Nonneg binary64 x × (count ≤ most_edges + 1) × (6 + 16 * count ≤ length output)
