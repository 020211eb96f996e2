-- Demand 3, from an accepted drawing to the bytes written for it.
use Rattle.std.specs.Prelude.{ℕ, ◌+◌, ◌<◌, ◌≡◌, ◌⊎◌, ◌↔◌, List, ◌∷◌, true, false}
use Rattle.drawing_spec.specs.Drawing.{Point, closing, Drawing}
use Rattle.drawing_spec.specs.Accepted.{InLimits}
use Rattle.graph_spec.specs.Count.{steps_between}
use Rattle.walk_spec.specs.Orient.{last_of}
use Rattle.planner_spec.specs.LineRecord.{Written}
use Rattle.planner_spec.specs.Plan.{Lent, Planned, planned, plan_drawing, plan, drawing_in}
use Rattle.planner_spec.specs.Words.{pieces_between, links_between, copies_between, odd, left_odd}

-- no point is odd
abbrev pub NoneOdd : Drawing → Type 0
NoneOdd d = (p : Point) → odd p d ≡ false

-- of a line with points, the first of them and those after it
pub record Ends (d : Drawing) (first : Point) (rest : List Point) : Type 0 where
  -- it ends where it began exactly when closing was chosen or no point was odd
  pub closed : (last_of first rest ≡ first) ↔ ((closing d.settings ≡ true) ⊎ NoneOdd d)
  -- otherwise its two ends are the two points that repair left odd, one each
  pub two : (last_of first rest ≡ first → ⊥) → (p : Point) → (left_odd p d ≡ true) ↔ ((p ≡ first) ⊎ (p ≡ last_of first rest))

-- of the output's bytes before and after the call
pub record Demand3 (d : Drawing) (before after : List ℕ) : Type 0 where
  -- the output is the record of a line, then the bytes that were there; what follows is about that line
  pub line : List Point
  pub written : Written line before after
  -- the line steps between any two points, counted both ways, exactly as often as there are pieces, links and copies between them
  pub steps : (p q : Point) → steps_between p q line ≡ pieces_between p q d + links_between p q d + copies_between p q d
  -- no copy lies where nothing was drawn
  pub on_drawn : (p q : Point) → 0 < copies_between p q d → 0 < pieces_between p q d + links_between p q d
  -- between a point and itself lies no piece, link or copy, and so no step
  pub apart : (p : Point) → steps_between p p line ≡ 0
  pub ends : (first : Point) (rest : List Point) → line ≡ first ∷ rest → Ends d first rest

-- from the bytes of an accepted file to the bytes written for it
abbrev pub Statement : Type 0
Statement = (file : List ℕ) (lent : Lent) (answer : Planned) → (plan file lent).answer ≡ planned answer → Demand3 (drawing_in file) lent.output (plan file lent).output

-- the same of a drawing that no file need hold, once it keeps check 6 and its points lie on the grid
abbrev pub OfDrawings : Type 0
OfDrawings = (d : Drawing) → InLimits d → (lent : Lent) (answer : Planned) → (plan_drawing d lent).answer ≡ planned answer → Demand3 d lent.output (plan_drawing d lent).output
