-- The line that is written for a file is an Euler line of the repaired graph: it goes along every edge that the drawing has or repair laid once, by the edge's number.
use mathlib.Core.Path.{◌≡◌, refl, sym, ap, ◌∙◌, subst}
use mathlib.Core.Logic.{inl, inr}
use mathlib.Core.List.{List, [], ◌∷◌}
use Prim.Native.Nat.{ℕ, ◌<◌}
use native.Mathlib.Nat.{zero-lt-suc}
use lib.ListN.{length}
use Rattle.drawing_spec.specs.Drawing.{Point, Drawing}
use Rattle.drawing_spec.specs.Accepted.{InLimits}
use Rattle.graph_spec.specs.Graph.{build_graph}
use Rattle.repair_spec.specs.Repair.{Repair}
use Rattle.walk_spec.specs.Line.{line_of}
use Rattle.walk_spec.proofs.Line.{line_of_euler, line_of_none}
use Rattle.walk_spec.proofs.Traced.{traced}
use Rattle.planner_spec.specs.LineRecord.{Written}
use Rattle.planner_spec.specs.Demand3.{Demand3}
use Rattle.planner_spec.specs.EulerLine.{EulerWritten}
use Rattle.planner_spec.specs.Plan.{Lent, Planned, planned, Outcome, drawing_in, plan_drawing, plan}
use Rattle.planner_spec.proofs.Counted.{line, euler_line}
use Rattle.planner_spec.proofs.Plan.{Drawn, drawn, file_planned}
use Rattle.planner_spec.proofs.Proved.{F, near, written, output_is, file_limits}

module _ (d : Drawing) (limits : InLimits d) (lent : Lent) (answer : Planned) (D : Drawn (build_graph d) d.settings lent answer) where
  abbrev r : Repair
  r = D.repair

  planned_euler : EulerWritten d lent.output (plan_drawing d lent).output
  unfolding line_of
  planned_euler = go (build_graph d).nodes refl
    where
      here : Written (line d r) lent.output (plan_drawing d lent).output
      here = subst (Written (line d r) lent.output) (sym (output_is d limits lent answer D)) (written d limits lent answer D)

      go : (ns : List Point) → (build_graph d).nodes ≡ ns → EulerWritten d lent.output (plan_drawing d lent).output
      go [] e = record {
        line = line d r;
        written = here;
        way = [];
        nodes = tt;
        points = ap (λ (ns : List Point). line_of d.settings ns r.edges) e ∙ line_of_none d.settings r.edges;
        repair = r;
        repairs = D.repairs;
        euler = inr (e, refl);
      }
      go (p ∷ ps) e =
          let h : 0 < length (build_graph d).nodes = rw e (zero-lt-suc (length ps)) in
          let E = line_of_euler d.settings (build_graph d).nodes r.edges (euler_line d r (F d limits lent answer D) (near d limits lent answer D) h) in
          record {
            line = line d r;
            written = here;
            way = E.way;
            points = E.points;
            nodes = (traced (length (build_graph d).nodes) r.edges E.way (F d limits lent answer D).copied.inside E.euler).within;
            repair = r;
            repairs = D.repairs;
            euler = inl E.euler;
          }

-- Of every drawing in limits that is accepted, whatever is lent,
pub drawing_euler : (d : Drawing) → InLimits d → (lent : Lent) (answer : Planned) → (plan_drawing d lent).answer ≡ planned answer → EulerWritten d lent.output (plan_drawing d lent).output
unfolding plan_drawing
drawing_euler d limits lent answer h = planned_euler d limits lent answer (drawn (build_graph d) d.settings lent answer h)

-- and of every file that is.
pub file_euler : (file : List ℕ) (lent : Lent) (answer : Planned) → (plan file lent).answer ≡ planned answer → EulerWritten (drawing_in file) lent.output (plan file lent).output
file_euler file lent answer h =
    let p = file_planned file lent answer h in
    let of_drawing = drawing_euler (drawing_in file) (file_limits file p.0) lent answer (ap (λ (o : Outcome). o.answer) (sym p.1) ∙ h) in
    subst (λ (o : Outcome). EulerWritten (drawing_in file) lent.output o.output) (sym p.1) of_drawing

-- Demand 3 speaks of the same line: both are what is read back from the output.
pub euler_demand3 : (d : Drawing) (before after : List ℕ) (E : EulerWritten d before after) (T : Demand3 d before after) → E.line ≡ T.line
euler_demand3 d before after E T = sym E.written.back ∙ T.written.back
