-- What demand 3 says of any output at all, each law from one or two clauses of its statement; and outputs that a wrong planner would write, refused by these laws.
use Prim.Native.Nat.{ℕ, ◌+◌}
use mathlib.Core.Path.{◌≡◌, refl, sym, ap, ◌∙◌, subst}
use mathlib.Core.Logic.{◌⊎◌, inl, inr}
use mathlib.Core.List.{List, [], ◌∷◌, ◌++◌}
use mathlib.Core.Bool.{true, false, true≢false}
use native.Mathlib.Nat.{eq-zero-or-pos}
use native.Mathlib.Omega.{arith}
use lib.ListN.{length, get_or, drop, replicate, length-append, length-drop}
use Rattle.drawing_spec.specs.Bytes.{bytes, in_front}
use Rattle.drawing_spec.specs.Drawing.{Point, closing, Drawing}
use Rattle.drawing_spec.specs.Accepted.{InLimits}
use Rattle.drawing_spec.specs.Read.{total}
use Rattle.drawing_spec.proofs.Same.{differ}
use Rattle.graph_spec.specs.Count.{line_sum, steps_between, last_from}
use Rattle.walk_spec.specs.Orient.{last_of}
use Rattle.planner_spec.specs.LineRecord.{point_bytes, line_record, line_written}
use Rattle.planner_spec.specs.Plan.{Lent, Planned, planned, plan_drawing, plan, drawing_in}
use Rattle.planner_spec.specs.Words.{pieces_between, links_between, copies_between, drawn_at, copies_at, left_odd}
use Rattle.planner_spec.specs.Demand3.{NoneOdd, Ends, Demand3}
use Rattle.planner_spec.proofs.Proved.{drawing_demand3, demand3}
use Rattle.planner_spec.proofs.WordsExamples.{at, linked_dot, triangle, triangle_none}

-- ---- of an output for which demand 3 holds

module _ {d : Drawing} {before after : List ℕ} (D : Demand3 d before after) where
  -- the line that it speaks of is the one that is read back
  line_read : D.line ≡ line_written after
  line_read = sym D.written.back

  -- no stroke is skipped and none is made up, in either order of the two points
  counted : (p q : Point) → steps_between p q (line_written after) ≡ pieces_between p q d + links_between p q d + copies_between p q d
  counted p q = omega (arith, D.steps p q, ap (steps_between p q) line_read)

  -- blank sand stays blank: the line never steps where nothing was drawn
  pub blank : (p q : Point) → pieces_between p q d + links_between p q d ≡ 0 → steps_between p q (line_written after) ≡ 0
  blank p q none = elim (eq-zero-or-pos (copies_between p q d)) [
    | inl z ↦ omega (arith, D.steps p q, none, z, ap (steps_between p q) line_read)
    | inr h ↦ absurd (omega (arith, D.on_drawn p q h, none))
  ]

  -- the line never stands still
  moves : (p : Point) → steps_between p p (line_written after) ≡ 0
  moves p = omega (arith, D.apart p, ap (steps_between p p) line_read)

  -- the bytes are the record of the line that is read back, and then those that were there
  bytes_are : after ≡ in_front (line_record (line_written after)) before
  bytes_are = subst (λ (l : List Point). after ≡ in_front (line_record l) before) line_read D.written.is

  -- the output is as long as it was
  as_long : length after ≡ length before
  as_long =
      let front = line_record D.line in
      omega (arith, ap length D.written.is, D.written.room, length-append front (drop (length front) before), length-drop (length front) before)

  module _ (first : Point) (rest : List Point) (is : line_written after ≡ first ∷ rest) where
    ends_of : Ends d first rest
    ends_of = D.ends first rest (line_read ∙ is)

    -- no point is odd, so it is closed
    closes_even : NoneOdd d → last_of first rest ≡ first
    closes_even none = ends_of.closed.1 (inr none)

    -- closed, so it was to be
    closes : last_of first rest ≡ first → (closing d.settings ≡ true) ⊎ NoneOdd d
    closes = ends_of.closed.0

    -- closing was chosen, so it is closed
    closes_chosen : closing d.settings ≡ true → last_of first rest ≡ first
    closes_chosen c = ends_of.closed.1 (inl c)

    -- open, so it starts and ends at points that repair left odd, and at each of these
    ends_left : (last_of first rest ≡ first → ⊥) → (left_odd first d ≡ true) × (left_odd (last_of first rest) d ≡ true)
    ends_left apart = ((ends_of.two apart first).1 (inl refl), (ends_of.two apart (last_of first rest)).1 (inr refl))

    left_ends : (last_of first rest ≡ first → ⊥) → (p : Point) → left_odd p d ≡ true → (p ≡ first) ⊎ (p ≡ last_of first rest)
    left_ends apart p = (ends_of.two apart p).0

-- so of every file that is accepted
pub blank_sand : (file : List ℕ) (lent : Lent) (answer : Planned) → (plan file lent).answer ≡ planned answer
    → (p q : Point) → pieces_between p q (drawing_in file) + links_between p q (drawing_in file) ≡ 0 → steps_between p q (line_written (plan file lent).output) ≡ 0
blank_sand file lent answer h = blank (demand3 file lent answer h)

-- ---- a right output, for which demand 3 holds: the linked dot has one copy, between (0, 0) and (4, 0), and (8, 0) and the dot are left odd

abbrev right_line : List Point
right_line = at 8 0 ∷ at 4 0 ∷ at 0 0 ∷ at 4 0 ∷ at 4 4 ∷ []

dot_in_limits : InLimits (linked_dot 0)
unfolding total
dot_in_limits = record {
  counts = record { lines = omega arith; points = omega arith; links = omega arith };
  lines_on = (((omega arith, omega arith), ((omega arith, omega arith), tt)), (((omega arith, omega arith), tt), tt));
  links_on = (((omega arith, omega arith), (omega arith, omega arith)), tt);
}

right : Demand3 (linked_dot 0) (replicate 88 7) (line_record right_line ++ 7 ∷ 7 ∷ [])
unfolding plan_drawing
right = drawing_demand3 (linked_dot 0) dot_in_limits (record { floats = 0; bytes = 0; output = replicate 88 7 }) (record { retrace = 0x3f70000000000000; before = 4; after = 2; points = 5 }) refl

-- ---- wrong outputs, whatever the bytes before the call and those behind the record

module _ (before rest : List ℕ) where
  abbrev output : List Point → List ℕ
  output line = line_record line ++ rest

  -- walks the first line, then stops
  link_skipped : Demand3 (linked_dot 0) before (output (at 0 0 ∷ at 4 0 ∷ at 8 0 ∷ [])) → ⊥
  unfolding line_record line_written pieces_between links_between copies_between
  link_skipped D = let k : ◌≡◌ {A = ℕ} 0 1 = counted D (at 4 0) (at 4 4) in omega arith

  piece_skipped : Demand3 (linked_dot 0) before (output (at 8 0 ∷ at 4 0 ∷ at 4 4 ∷ [])) → ⊥
  unfolding line_record line_written pieces_between links_between copies_between
  piece_skipped D = let k : ◌≡◌ {A = ℕ} 0 2 = counted D (at 0 0) (at 4 0) in omega arith

  -- goes to and fro once more than it has to
  copied_too_often : Demand3 (linked_dot 0) before (output (at 8 0 ∷ at 4 0 ∷ at 0 0 ∷ at 4 0 ∷ at 0 0 ∷ at 4 0 ∷ at 4 4 ∷ [])) → ⊥
  unfolding line_record line_written pieces_between links_between copies_between
  copied_too_often D = let k : ◌≡◌ {A = ℕ} 4 2 = counted D (at 0 0) (at 4 0) in omega arith

  -- goes from (0, 0) straight to the dot
  over_blank_sand : Demand3 (linked_dot 0) before (output (at 8 0 ∷ at 4 0 ∷ at 0 0 ∷ at 4 4 ∷ [])) → ⊥
  unfolding line_record line_written pieces_between links_between line_sum
  over_blank_sand D = let k : ◌≡◌ {A = ℕ} 1 0 = blank D (at 4 4) (at 0 0) refl in omega arith

  -- has its first point twice
  stands_still : Demand3 (linked_dot 0) before (output (at 8 0 ∷ at 8 0 ∷ at 4 0 ∷ at 0 0 ∷ at 4 0 ∷ at 4 4 ∷ [])) → ⊥
  unfolding line_record line_written line_sum
  stands_still D = let k : ◌≡◌ {A = ℕ} 1 0 = moves D (at 8 0) in omega arith

  -- retraces the other half, and so starts at (0, 0)
  starts_elsewhere : Demand3 (linked_dot 0) before (output (at 0 0 ∷ at 4 0 ∷ at 8 0 ∷ at 4 0 ∷ at 4 4 ∷ [])) → ⊥
  unfolding line_record line_written last_from drawn_at copies_at
  starts_elsewhere D = true≢false (sym (ends_left D (at 0 0) (at 4 0 ∷ at 8 0 ∷ at 4 0 ∷ at 4 4 ∷ []) refl (differ (at 4 4) (at 0 0) refl)).0)

  -- retraces the link, and so ends at (0, 0)
  ends_elsewhere : Demand3 (linked_dot 0) before (output (at 8 0 ∷ at 4 0 ∷ at 4 4 ∷ at 4 0 ∷ at 0 0 ∷ [])) → ⊥
  unfolding line_record line_written last_from drawn_at copies_at
  ends_elsewhere D = true≢false (sym (ends_left D (at 8 0) (at 4 0 ∷ at 4 4 ∷ at 4 0 ∷ at 0 0 ∷ []) refl (differ (at 0 0) (at 8 0) refl)).1)

  -- and the dot, which was left odd, is at neither end of that line
  dot_at_no_end : Demand3 (linked_dot 0) before (output (at 8 0 ∷ at 4 0 ∷ at 4 4 ∷ at 4 0 ∷ at 0 0 ∷ [])) → ⊥
  unfolding line_record line_written last_from drawn_at copies_at
  dot_at_no_end D = elim (left_ends D (at 8 0) (at 4 0 ∷ at 4 4 ∷ at 4 0 ∷ at 0 0 ∷ []) refl (differ (at 0 0) (at 8 0) refl) (at 4 4) refl) [
    | inl e ↦ differ (at 4 4) (at 8 0) refl e
    | inr e ↦ differ (at 4 4) (at 0 0) refl e
  ]

  -- closing was chosen
  left_open : Demand3 (linked_dot 1) before (output right_line) → ⊥
  unfolding line_record line_written last_from
  left_open D = differ (at 4 4) (at 8 0) refl (closes_chosen D (at 8 0) (at 4 0 ∷ at 0 0 ∷ at 4 0 ∷ at 4 4 ∷ []) refl refl)

  -- no point is odd
  triangle_left_open : Demand3 triangle before (output (at 0 0 ∷ at 4 0 ∷ at 0 3 ∷ [])) → ⊥
  unfolding line_record line_written last_from
  triangle_left_open D = differ (at 0 3) (at 0 0) refl (closes_even D (at 0 0) (at 4 0 ∷ at 0 3 ∷ []) refl triangle_none)

  -- four points are odd, and closing was not chosen
  closed_unasked : Demand3 (linked_dot 0) before (output (at 8 0 ∷ at 4 0 ∷ at 0 0 ∷ at 4 0 ∷ at 4 4 ∷ at 4 0 ∷ at 8 0 ∷ [])) → ⊥
  unfolding line_record line_written last_from drawn_at
  closed_unasked D = elim (closes D (at 8 0) (at 4 0 ∷ at 0 0 ∷ at 4 0 ∷ at 4 4 ∷ at 4 0 ∷ at 8 0 ∷ []) refl refl) [
    | inl c ↦ true≢false (sym c)
    | inr none ↦ true≢false (none (at 0 0))
  ]

-- the right line, and the last byte behind its record, the 88th, changed from 7 to 8
changed_behind : Demand3 (linked_dot 0) (replicate 88 7) (line_record right_line ++ 7 ∷ 8 ∷ []) → ⊥
unfolding line_record line_written
changed_behind D = let k : ◌≡◌ {A = ℕ} 8 7 = ap (λ (bs : List ℕ). get_or bs 87 0) (bytes_are D) in omega arith

-- the right line, whose record has 86 bytes, over an output of 85
past_the_end : Demand3 (linked_dot 0) (replicate 85 7) (line_record right_line) → ⊥
unfolding line_record
past_the_end D = let k : ◌≡◌ {A = ℕ} 86 85 = as_long D in omega arith

-- the right line, in a record of kind 2
of_kind_2 : (before : List ℕ) → Demand3 (linked_dot 0) before (bytes 4 80 ++ bytes 2 2 ++ point_bytes right_line) → ⊥
unfolding line_record line_written
of_kind_2 before D = let k : ◌≡◌ {A = ℕ} 2 4 = ap (λ (bs : List ℕ). get_or bs 4 0) (bytes_are D) in omega arith

-- accepts, output untouched
untouched : Demand3 (linked_dot 0) (replicate 88 7) (replicate 88 7) → ⊥
unfolding line_record line_written
untouched D = let k : ◌≡◌ {A = ℕ} 7 4 = ap (λ (bs : List ℕ). get_or bs 4 0) (bytes_are D) in omega arith
