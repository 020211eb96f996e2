-- Demand 3 holds of every drawing and of every file that is accepted.
use mathlib.Core.Path.{◌≡◌, refl, sym, ap, ap₂, ◌∙◌, subst}
use mathlib.Core.Logic.{inl, inr}
use mathlib.Core.List.{List, ◌∷◌, map}
use Prim.Native.Nat.{ℕ, ◌+◌, ◌*◌, ◌^◌, ◌<◌}
use native.Mathlib.Omega.{arith}
use lib.ListN.{length}
use Rattle.limits.specs.Limits.{most_edges, refused_edges}
use Rattle.drawing_spec.specs.Drawing.{Point, Drawing}
use Rattle.lists.specs.Members.{All}
use Rattle.lists.proofs.Members.{in_all, all_map}
use Rattle.drawing_spec.specs.OnGrid.{OnGrid}
use Rattle.drawing_spec.specs.Accepted.{InLimits}
use Rattle.drawing_spec.specs.Refusal.{accepted, verdict}
use Rattle.drawing_spec.specs.Read.{records_of, drawing_of, read_conditions}
use Rattle.drawing_spec.proofs.Accepted.{accepted_passes, in_limits}
use Rattle.graph_spec.specs.Pieces.{strokes_of}
use Rattle.graph_spec.specs.Graph.{point_at, build_graph}
use Rattle.graph_spec.specs.Odd.{is_odd}
use Rattle.graph_spec.specs.Count.{sum_over, line_sum, touches, steps_between, strokes_at}
use Rattle.graph_spec.specs.Ways.{Reach}
use Rattle.graph_spec.proofs.Reached.{all_reached_lem}
use Rattle.graph_spec.proofs.Built.{built_inside, built_on}
use Rattle.graph_counts.proofs.Nodes.{counted_few}
use Rattle.repair_spec.specs.Repair.{Repair}
use Rattle.repair_spec.proofs.Repaired.{Repaired, fixed}
use Rattle.walk_spec.proofs.Orient.{orient_all}
use Rattle.links_spec.proofs.ToPlan.{plan_within}
use Rattle.planner_spec.specs.LineRecord.{line_record, Written}
use Rattle.drawing_spec.specs.Bytes.{in_front}
use Rattle.planner_spec.specs.Plan.{Lent, Planned, Outcome, drawing_in, repair_of, line_for, plan_drawing}
use Rattle.planner_spec.specs.Words.{retraces_in, copies_between, copies_at, odd, left_odd}
use Rattle.planner_spec.proofs.LineRecord.{line_back, record_length}
use Rattle.planner_spec.proofs.Plan.{drawing_graph, Drawn, drawn, file_planned}
use Rattle.planner_spec.proofs.Drawn.{drawn_between, drawn_at_lem}
use Rattle.planner_spec.proofs.Counted.{node_line, line, ways, copies, copies_touching, steps_counted, copies_drawn, steps_apart, line_few}
use Rattle.planner_spec.proofs.LineEnds.{ends_meet, ends_odd}
use Rattle.planner_spec.specs.Demand3.{Ends, Demand3, Statement, OfDrawings}

-- ---- demand 3 for a drawing d, which is planned

module _ (d : Drawing) (limits : InLimits d) (lent : Lent) (answer : Planned) (D : Drawn (build_graph d) d.settings lent answer) where
  abbrev r : Repair
  r = D.repair

  pub F : Repaired most_edges (build_graph d) d.settings D.repair
  unfolding repair_of
  F = fixed most_edges refused_edges (build_graph d) d.settings (built_inside d) D.repair D.repairs

  pub near : (v : ℕ) → v < length (build_graph d).nodes → Reach (build_graph d).edges 0 v
  near = all_reached_lem (length (build_graph d).nodes) (build_graph d).edges D.reached

  line_is : line_for (build_graph d) d.settings r ≡ line d r
  unfolding line_for
  line_is = refl

  -- ---- every point of the line is on the grid, and there are few of them, so the record is read back as the line

  on_grid : All OnGrid (line d r)
  on_grid =
      let at = point_at (build_graph d).nodes in
      let way = node_line d r in
      orient_all OnGrid d.settings (map at way) (all_map at OnGrid way (in_all (λ (v : ℕ). OnGrid (at v)) way (λ v i. built_on d limits.lines_on limits.links_on v)))

  short : 16 * length (line d r) < 2 ^ 32
  short = elim F.copied.limit [
    | inl m ↦ omega (arith, m, line_few d r F near)
    | inr e ↦ omega (arith, line_few d r F near, ap length e, (counted_few d limits.counts).edges)
  ]

  pub written : Written (line d r) lent.output (in_front (line_record (line d r)) lent.output)
  written = record {
    on_grid = on_grid;
    room = omega (arith, record_length (line d r), D.room, ap length line_is);
    is = refl;
    back = line_back (line d r) _ on_grid short;
  }

  -- ---- copies in the words of document 01

  ways_are : retraces_in d ≡ ways d r
  unfolding retraces_in
  ways_are = rw D.repairs

  copied_between : (p q : Point) → copies d r p q ≡ copies_between p q d
  unfolding copies_between
  copied_between p q = ap (sum_over (λ (way : List Point). steps_between p q way)) (sym ways_are)

  copied_at : (p : Point) → copies_touching d r p ≡ copies_at p d
  unfolding copies_at
  copied_at p = ap (sum_over (λ (way : List Point). line_sum (touches p) way)) (sym ways_are)

  odd_is : (p : Point) → is_odd (strokes_at p (strokes_of d)) ≡ odd p d
  odd_is p = ap is_odd (drawn_at_lem d p)

  left_odd_is : (p : Point) → is_odd (strokes_at p (strokes_of d) + copies_touching d r p) ≡ left_odd p d
  left_odd_is p = ap₂ (λ (m n : ℕ). is_odd (m + n)) (drawn_at_lem d p) (copied_at p)

  ends : (first : Point) (rest : List Point) → line d r ≡ first ∷ rest → Ends d first rest
  ends first rest e =
      let meet = ends_meet d r F near first rest e in
      record {
        closed = (
          λ k. elim (meet.0 k) [ inl c ↦ inl c | inr n ↦ inr (λ p. sym (odd_is p) ∙ n p) ],
          λ k. meet.1 (elim k [ inl c ↦ inl c | inr n ↦ inr (λ p. odd_is p ∙ n p) ]),
        );
        two = λ apart p.
            (let at = ends_odd d r F near first rest e apart p in (λ h. at.0 (left_odd_is p ∙ h), λ h. sym (left_odd_is p) ∙ at.1 h));
      }

  holds : Demand3 d lent.output (in_front (line_record (line d r)) lent.output)
  holds = record {
    line = line d r;
    written = written;
    steps = λ p q. omega (arith, steps_counted d r F near p q, drawn_between d p q, copied_between p q);
    on_drawn = λ p q h. omega (arith, copies_drawn d r F near p q (omega (arith, copied_between p q)), drawn_between d p q);
    apart = λ p. steps_apart d r F near p;
    ends = ends;
  }

  pub output_is : (plan_drawing d lent).output ≡ in_front (line_record (line d r)) lent.output
  output_is = ap (λ (o : Outcome). o.output) (drawing_graph d lent ∙ D.is) ∙ ap (λ (l : List Point). in_front (line_record l) lent.output) line_is

  pub planned_demand3 : Demand3 d lent.output (plan_drawing d lent).output
  planned_demand3 = subst (Demand3 d lent.output) (sym output_is) holds

-- Demand 3 of every drawing in limits that is accepted, whatever is lent,
pub drawing_demand3 : OfDrawings
unfolding plan_drawing
drawing_demand3 d limits lent answer h = planned_demand3 d limits lent answer (drawn (build_graph d) d.settings lent answer h)

-- and of every file that is.
pub file_limits : (file : List ℕ) → verdict (read_conditions file) ≡ accepted → InLimits (drawing_in file)
unfolding drawing_in
file_limits file h = plan_within (drawing_of (records_of file)) (in_limits file (accepted_passes file h))

pub demand3 : Statement
demand3 file lent answer h =
    let p = file_planned file lent answer h in
    let limits : InLimits (drawing_in file) = file_limits file p.0 in
    let of_drawing = drawing_demand3 (drawing_in file) limits lent answer (ap (λ (o : Outcome). o.answer) (sym p.1) ∙ h) in
    subst (λ (o : Outcome). Demand3 (drawing_in file) lent.output o.output) (sym p.1) of_drawing
