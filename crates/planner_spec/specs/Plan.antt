-- From a drawing, the lengths of the two work tables and the output's bytes to the answer, and to what the call leaves. A file's bytes come in at the end alone.
use Rattle.std.specs.Prelude.{ℕ, ◌+◌, ◌*◌, List, [], ◌∷◌, not, length, replicate, ltb, Float}
use Rattle.std.specs.Float.{binary64}
use Rattle.std.specs.Float.Ieee.{to_bits}
use Rattle.limits.specs.Limits.{head_size, point_size, most_odd, most_edges, refused_apart, refused_tables, refused_edges, refused_output}
use Rattle.drawing_spec.specs.Drawing.{Point, Settings, Drawing}
use Rattle.drawing_spec.specs.Refusal.{Condition, condition, refused, accepted, verdict}
use Rattle.drawing_spec.specs.Read.{records_of, drawing_of, read_conditions}
use Rattle.graph_spec.specs.Graph.{Edge, Graph, build_graph}
use Rattle.graph_spec.specs.Odd.{odd_nodes, odd_from}
use Rattle.graph_spec.specs.Reach.{all_reached}
use Rattle.repair_spec.specs.Distance.{zero_length}
use Rattle.repair_spec.specs.Repair.{Repair, Repairing, stopped, repaired, fix_parity, table_short}
use Rattle.links_spec.specs.Made.{to_plan}
use Rattle.walk_spec.specs.Line.{line_of}
use Rattle.planner_spec.specs.LineRecord.{line_record}
use Rattle.drawing_spec.specs.Bytes.{in_front}

-- what a caller lends: how many entries the f64 table and the byte table have, and the output's bytes
pub record Lent : Type 0 where
  pub floats : ℕ
  pub bytes : ℕ
  pub output : List ℕ

-- ---- repair, and the line through what is repaired

-- how many nodes of the graph are odd, with these edges
unfoldable pub odd_count : Graph → List Edge → ℕ
unfolding odd_from
odd_count g es = length (odd_nodes (length g.nodes) es)

-- it stops with a number of its own: 12, or 13 for passing 4,000 edges
unfoldable pub repair_of : Graph → Settings → Repairing
unfolding fix_parity
repair_of g s = fix_parity most_edges refused_edges g s

unfoldable pub line_for : Graph → Settings → Repair → List Point
unfolding line_of
line_for g s r = line_of s g.nodes r.edges

-- ---- the conditions in document 01's order: 9 and 11 before repair, and 14 behind it; 12 and 13, between them, are repair's own. 10 is given no more.

unfoldable pub graph_conditions : Graph → Settings → Lent → List Condition
unfolding odd_count all_reached table_short
graph_conditions g s lent =
    let odd = odd_count g g.edges in
    condition refused_apart (not (all_reached (length g.nodes) g.edges))
    ∷ condition refused_tables (table_short most_odd s odd lent.floats lent.bytes)
    ∷ []

unfoldable pub output_conditions : Graph → Settings → Lent → Repair → List Condition
unfolding line_for
output_conditions g s lent r = condition refused_output (ltb (length lent.output) (head_size + point_size * length (line_for g s r))) ∷ []

-- ---- the answer, and the output after the call

pub record Planned : Type 0 where
  pub retrace : ℕ
  pub before : ℕ
  pub after : ℕ
  pub points : ℕ

pub data Answer : Type 0 where
  refusal : ℕ → Answer
  planned : Planned → Answer

pub record Outcome : Type 0 where
  pub answer : Answer
  pub output : List ℕ

-- the values of an accepted call; the retrace by its f64's bits
unfoldable pub answer_for : Graph → Settings → Repair → Planned
unfolding odd_count line_for to_bits
answer_for g s r = record { retrace = to_bits binary64 r.sum; before = odd_count g g.edges; after = odd_count g r.edges; points = length (line_for g s r) }

-- a refusal leaves the output's bytes
abbrev pub refuse : ℕ → Lent → Outcome
refuse n lent = record { answer = refusal n; output = lent.output }

abbrev pub accept : Graph → Settings → Lent → Repair → Outcome
accept g s lent r = record { answer = planned (answer_for g s r); output = in_front (line_record (line_for g s r)) lent.output }

-- a repair that stopped refuses with its number, so nothing is accepted that is not repaired
unfoldable pub plan_repaired : Graph → Settings → Lent → Repairing → Outcome
unfolding verdict output_conditions answer_for line_for line_record
plan_repaired g s lent (stopped n) = refuse n lent
plan_repaired g s lent (repaired r) = elim (verdict (output_conditions g s lent r)) [ refused n ↦ refuse n lent | accepted ↦ accept g s lent r ]

unfoldable pub plan_graph : Graph → Settings → Lent → Outcome
unfolding verdict graph_conditions repair_of plan_repaired
plan_graph g s lent = elim (verdict (graph_conditions g s lent)) [ refused n ↦ refuse n lent | accepted ↦ plan_repaired g s lent (repair_of g s) ]

-- a drawing, whether or not a file holds it
unfoldable pub plan_drawing : Drawing → Lent → Outcome
unfolding build_graph plan_graph
plan_drawing d lent = plan_graph (build_graph d) d.settings lent

-- the drawing that is planned for a file: what its records say, with links made for it where flag 4 asks for them
unfoldable pub drawing_in : List ℕ → Drawing
unfolding records_of drawing_of to_plan
drawing_in file = to_plan (drawing_of (records_of file))

-- a file: the first of conditions 1 to 8 and 15, or else the plan of its drawing
unfoldable pub plan : List ℕ → Lent → Outcome
unfolding verdict read_conditions drawing_in plan_drawing
plan file lent = elim (verdict (read_conditions file)) [ refused n ↦ refuse n lent | accepted ↦ plan_drawing (drawing_in file) lent ]

-- ---- a whole call: what is lent to it, and what it answers and leaves, refused or not

pub record Call : Type 0 where
  pub floats : List Float
  pub bytes : List ℕ
  pub output : List ℕ

pub record After : Type 0 where
  pub answer : Answer
  pub output : List ℕ
  pub floats : List Float
  pub bytes : List ℕ

abbrev pub lent_to : Call → Lent
lent_to c = record { floats = length c.floats; bytes = length c.bytes; output = c.output }

-- what a call answers and leaves: the plan's answer and output, and both tables zero
unfoldable pub called : List ℕ → Call → After
unfolding plan
called file c =
    let p = plan file (lent_to c) in
    record { answer = p.answer; output = p.output; floats = replicate (length c.floats) zero_length; bytes = replicate (length c.bytes) 0 }
