-- Where the circuit is cut, and what the line is then.
use Rattle.std.specs.Prelude.{◌≡◌, List, [], ℕ, ◌≤◌, ◌<◌, get_or, Option, MatchOption}
use Rattle.limits.specs.Limits.{line_room}
use Rattle.walk_spec.specs.Walk.{nodes_of}
use Rattle.walk_spec.specs.VirtualStep.{cut_at}
use Rattle.walk_circuit.specs.Entries.{entries_from}

-- r is the first place from `first` on that was entered by b, or the end
pub record EnteredAt (bys : List ℕ) (first b r : ℕ) : Type 0 where
  pub from : first ≤ r
  pub within : r ≤ line_room
  pub before : (j : ℕ) → first ≤ j → j < r → get_or bys j 0 ≡ b → ⊥
  pub is : r < line_room → get_or bys r 0 ≡ b

-- r is that place, where there is one
abbrev pub FirstEntered : List ℕ → ℕ → ℕ → Option ℕ → Type 0
FirstEntered bys first b r = MatchOption r (EnteredAt bys first b line_room) (λ p. EnteredAt bys first b p × (p < line_room))

-- the line, as the definition has it
abbrev pub cut_line : ℕ → ℕ → List ℕ → List ℕ → List ℕ
cut_line i first ns bs = nodes_of (cut_at i [] (entries_from first ns bs))
