-- Nothing but the bits of the file decides an accepted answer. What is lent has a say only in whether it is accepted, and in the bytes behind the record, which are kept.
use mathlib.Core.Path.{◌≡◌, sym, ap, ◌∙◌}
use mathlib.Core.List.{List}
use Prim.Native.Nat.{ℕ}
use Rattle.drawing_spec.specs.Drawing.{Settings, Drawing}
use Rattle.graph_spec.specs.Graph.{Graph, build_graph}
use Rattle.repair_spec.specs.Repair.{Repair, repaired}
use Rattle.planner_spec.specs.LineRecord.{line_record}
use Rattle.drawing_spec.specs.Bytes.{in_front}
use Rattle.planner_spec.specs.Plan.{Lent, Planned, planned, Outcome, drawing_in, line_for, answer_for, plan_drawing, plan}
use Rattle.planner_spec.proofs.Plan.{Drawn, drawn, file_planned}

-- the answers a and b, and the outputs x and y, for what is lent as l and as k
pub record SameAnswer (l k : Lent) (a b : Planned) (x y : List ℕ) : Type 0 where
  pub answers : a ≡ b
  -- one record at the front of both outputs, and the bytes behind it as they were lent
  pub front : List ℕ
  pub output_x : x ≡ in_front front l.output
  pub output_y : y ≡ in_front front k.output

-- the repair is the drawing's, whatever is lent
same_repair : (g : Graph) (s : Settings) (l k : Lent) (a b : Planned) (x : Drawn g s l a) (y : Drawn g s k b) → x.repair ≡ y.repair
same_repair g s l k a b x y = let e : repaired x.repair ≡ repaired y.repair = sym x.repairs ∙ y.repairs in cc

pub drawing_decides : (d : Drawing) (l k : Lent) (a b : Planned) → (plan_drawing d l).answer ≡ planned a → (plan_drawing d k).answer ≡ planned b → SameAnswer l k a b (plan_drawing d l).output (plan_drawing d k).output
unfolding plan_drawing
drawing_decides d l k a b e f =
    let x = drawn (build_graph d) d.settings l a e in
    let y = drawn (build_graph d) d.settings k b f in
    let same = same_repair (build_graph d) d.settings l k a b x y in
    record {
      answers = sym x.answers ∙ ap (answer_for (build_graph d) d.settings) same ∙ y.answers;
      front = line_record (line_for (build_graph d) d.settings x.repair);
      output_x = ap (λ (o : Outcome). o.output) x.is;
      output_y = ap (λ (o : Outcome). o.output) y.is ∙ ap (λ (r : Repair). in_front (line_record (line_for (build_graph d) d.settings r)) k.output) (sym same);
    }

pub file_decides : (file : List ℕ) (l k : Lent) (a b : Planned) → (plan file l).answer ≡ planned a → (plan file k).answer ≡ planned b → SameAnswer l k a b (plan file l).output (plan file k).output
file_decides file l k a b e f =
    let x = (file_planned file l a e).1 in
    let y = (file_planned file k b f).1 in
    rw (x, y) (drawing_decides (drawing_in file) l k a b (rw x at e) (rw y at f))
