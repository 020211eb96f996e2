-- A drawing with flag 4 is planned as if its file had held the links that are made for it. A plan sees the flags by bits 1 and 2 alone: behind the reader nothing asks for flag 4 but `to_plan`.
use mathlib.Core.Path.{◌≡◌, refl, sym, ap, ◌∙◌, subst, fun_ext}
use mathlib.Core.List.{List, [], ◌∷◌, ◌++◌, map, reverse}
use mathlib.Core.Bool.{Bool, true, false}
use Prim.Native.Nat.{ℕ, ◌+◌, ◌*◌, ◌%◌, ◌/◌}
use native.Mathlib.Omega.{arith}
use lib.Dec.{eqb, leb, ltb}
use lib.Ieee.{binary64, to_bits}
use lib.ListN.{length, get_or}
use Rattle.limits.specs.Limits.{head_size, point_size, most_edges, refused_edges, refused_output}
use Rattle.drawing_spec.specs.Drawing.{Point, Settings, Drawing, linking}
use Rattle.drawing_spec.specs.Refusal.{condition, refused, accepted, verdict}
use Rattle.drawing_spec.specs.Read.{records_of, drawing_of, read_conditions}
use Rattle.drawing_spec.specs.Accepted.{InLimits}
use Rattle.drawing_spec.proofs.Accepted.{accepted_passes, in_limits}
use Rattle.graph_spec.specs.Graph.{Edge, edge, Graph, point_at, build_graph}
use Rattle.graph_spec.specs.Odd.{odd_nodes}
use Rattle.repair_spec.specs.Distance.{zero_length}
use Rattle.repair_spec.specs.Repair.{Repairing, stopped, repaired, drawn, pairs_of, apply_matching, close_if, fix_parity, table_short}
use Rattle.center.specs.Center.{better}
use Rattle.walk_spec.specs.Start.{distance, best_of, best, with_edges}
use Rattle.walk_spec.specs.Walk.{circuit, nodes_of}
use Rattle.walk_spec.specs.VirtualStep.{cut_at}
use Rattle.walk_spec.specs.Line.{euler, hierholzer, line_of}
use Rattle.walk_spec.specs.Orient.{ends, empty, end_points, orient}
use Rattle.links_spec.specs.Made.{linked, held}
use Rattle.links_spec.proofs.Fits.{linked_within}
use Rattle.links_spec.proofs.ToPlan.{asked, not_asked}
use Rattle.planner_spec.specs.LineRecord.{line_record}
use Rattle.drawing_spec.specs.Bytes.{in_front}
use Rattle.planner_spec.specs.Plan.{Lent, Outcome, Planned, refuse, planned, odd_count, repair_of, line_for, graph_conditions, output_conditions, answer_for, plan_repaired, plan_graph, plan_drawing, drawing_in, plan}
use Rattle.planner_spec.specs.Demand3.{Demand3}
use Rattle.planner_spec.proofs.Plan.{file_accepted}
use Rattle.planner_spec.proofs.Proved.{drawing_demand3}

-- settings by their numbers
abbrev settings : ℕ → ℕ → ℕ → ℕ → Settings
settings w h p f = record { width = w; height = h; pairing = p; flags = f }

module _ (w h p f e : ℕ) (closes : eqb (f % 2) 1 ≡ eqb (e % 2) 1) (starts : eqb (f / 2 % 2) 1 ≡ eqb (e / 2 % 2) 1) where
  abbrev s : Settings
  s = settings w h p f

  abbrev t : Settings
  t = settings w h p e

  -- ---- repair asks whether to close

  repair_same : (g : Graph) → repair_of g s ≡ repair_of g t
  unfolding repair_of fix_parity pairs_of
  repair_same g =
      let n = length g.nodes in
      let odd = odd_nodes n g.edges in
      ap (λ (c : Bool). elim (leb (length odd) 2) [
        | true ↦ close_if c most_edges refused_edges n (repaired (drawn g))
        | false ↦ close_if c most_edges refused_edges n (apply_matching most_edges refused_edges n (pairs_of g s odd) (drawn g))
      ]) closes

  -- ---- the line asks whether to start inside

  best_of_same : (ns : List Point) (v : ℕ) (us : List ℕ) → best_of s ns v us ≡ best_of t ns v us
  unfolding best_of distance
  best_of_same ns v [] = refl
  best_of_same ns v (u ∷ us) =
      λ i. elim (better (starts i) (distance s (point_at ns u)) (distance s (point_at ns v))) [ true ↦ best_of_same ns u us i | false ↦ best_of_same ns v us i ]

  best_same : (ns : List Point) (vs : List ℕ) → best s ns vs ≡ best t ns vs
  unfolding best
  best_same ns [] = refl
  best_same ns (v ∷ vs) = best_of_same ns v vs

  euler_same : (ns : List Point) (es : List Edge) → euler s ns es ≡ euler t ns es
  unfolding euler
  euler_same ns es =
      ap (λ (from : List ℕ → ℕ). elim (odd_nodes (length ns) es) as (λ odd. List ℕ) [
        | [] ↦ nodes_of (circuit es (from (with_edges es (length ns) 0)))
        | u ∷ us ↦ nodes_of (cut_at (length es) [] (circuit (es ++ (edge u (get_or {A = ℕ} (u ∷ us) 1 0) zero_length ∷ [])) (from (u ∷ us))))
      ]) (fun_ext (best_same ns))

  hierholzer_same : (ns : List Point) (es : List Edge) → hierholzer s ns es ≡ hierholzer t ns es
  unfolding hierholzer
  hierholzer_same [] es = refl
  hierholzer_same (q ∷ ns) es = euler_same (q ∷ ns) es

  orient_same : (line : List Point) → orient s line ≡ orient t line
  unfolding orient distance
  orient_same line =
      ap (λ (b : Bool). elim (end_points line) as (λ x. List Point) [
        | empty ↦ line
        | ends a z ↦ elim (better b (distance s z) (distance s a)) [ true ↦ reverse line | false ↦ line ]
      ]) starts

  line_same : (ns : List Point) (es : List Edge) → line_of s ns es ≡ line_of t ns es
  unfolding line_of
  line_same ns es = ap (λ (way : List ℕ). orient s (map (point_at ns) way)) (hierholzer_same ns es) ∙ orient_same (map (point_at ns) (hierholzer t ns es))

  -- ---- so the plan is the same

  repaired_same : (g : Graph) (lent : Lent) (x : Repairing) → plan_repaired g s lent x ≡ plan_repaired g t lent x
  unfolding plan_repaired output_conditions answer_for line_for
  repaired_same g lent (stopped n) = refl
  repaired_same g lent (repaired r) = ap (λ (line : List Point). elim (verdict (condition refused_output (ltb (length lent.output) (head_size + point_size * length line)) ∷ [])) as (λ v. Outcome) [
    | refused n ↦ refuse n lent
    | accepted ↦ record {
      answer = planned (record { retrace = to_bits binary64 r.sum; before = odd_count g g.edges; after = odd_count g r.edges; points = length line });
      output = in_front (line_record line) lent.output;
    }
  ]) (line_same g.nodes r.edges)

  -- a plan sees the flags by bits 1 and 2 alone
  pub graph_same : (g : Graph) (lent : Lent) → plan_graph g s lent ≡ plan_graph g t lent
  unfolding plan_graph graph_conditions table_short
  graph_same g lent =
      λ i. elim (verdict (graph_conditions g s lent)) as (λ v. Outcome) [ refused n ↦ refuse n lent | accepted ↦ (repaired_same g lent (repair_of g s) ∙ ap (plan_repaired g t lent) (repair_same g)) i ]

even_more : (a b : ℕ) → (a * 2 + b) % 2 ≡ b % 2
even_more a b = omega arith

drawing_held : (d : Drawing) (lent : Lent) → plan_drawing (linked d) lent ≡ plan_drawing (held d) lent
unfolding plan_drawing linked held
drawing_held d lent =
    let f = d.settings.flags in
    let r : f % 4 % 2 ≡ f % 2 = omega arith in
    let halved : f / 2 ≡ f / 4 * 2 + f % 4 / 2 = omega arith in
    let q : f % 4 / 2 % 2 ≡ f / 2 % 2 = sym (ap (λ (m : ℕ). m % 2) halved ∙ even_more (f / 4) (f % 4 / 2)) in
    graph_same d.settings.width d.settings.height d.settings.pairing f (f % 4) (ap (λ (b : ℕ). eqb b 1) (sym r)) (ap (λ (b : ℕ). eqb b 1) (sym q)) (build_graph (held d)) lent

held_within : (d : Drawing) → InLimits d → InLimits (held d)
unfolding held linked
held_within d l =
    let w = linked_within d l.counts.lines l.counts.points l.lines_on in
    record { counts = record { lines = w.counts.lines; points = w.counts.points; links = w.counts.links }; lines_on = w.lines_on; links_on = w.links_on }

module _ (file : List ℕ) (flagged : linking (drawing_of (records_of file)).settings ≡ true) (taken : verdict (read_conditions file) ≡ accepted) where
  -- planned as the drawing that holds them,
  pub planned_as_held : (lent : Lent) → plan file lent ≡ plan_drawing (held (drawing_of (records_of file))) lent
  unfolding drawing_in
  planned_as_held lent =
      file_accepted file lent taken ∙ ap (λ (d : Drawing). plan_drawing d lent) (asked (drawing_of (records_of file)) flagged) ∙ drawing_held (drawing_of (records_of file)) lent

  -- judged by demand 3 as that drawing,
  pub judged_as_held : (lent : Lent) (answer : Planned) → (plan file lent).answer ≡ planned answer → Demand3 (held (drawing_of (records_of file))) lent.output (plan file lent).output
  judged_as_held lent answer h =
      let d = held (drawing_of (records_of file)) in
      subst (λ (o : Outcome). Demand3 d lent.output o.output) (sym (planned_as_held lent))
      (drawing_demand3 d (held_within (drawing_of (records_of file)) (in_limits file (accepted_passes file taken))) lent answer (ap (λ (o : Outcome). o.answer) (sym (planned_as_held lent)) ∙ h))

  -- and so as every file that holds it and is taken
  module _ (other : List ℕ) (taken_too : verdict (read_conditions other) ≡ accepted) (holds : drawing_of (records_of other) ≡ held (drawing_of (records_of file))) where
    other_unflagged : linking (drawing_of (records_of other)).settings ≡ false
    unfolding held
    other_unflagged =
        let f = (drawing_of (records_of file)).settings.flags in
        let z : f % 4 / 4 % 2 ≡ 0 = omega arith in
        ap (λ (d : Drawing). linking d.settings) holds ∙ ap (λ (b : ℕ). eqb b 1) z

    pub as_if_held : (lent : Lent) → plan file lent ≡ plan other lent
    unfolding drawing_in
    as_if_held lent =
        planned_as_held lent
        ∙ ap (λ (d : Drawing). plan_drawing d lent) (sym (not_asked (drawing_of (records_of other)) other_unflagged ∙ holds))
        ∙ sym (file_accepted other lent taken_too)
