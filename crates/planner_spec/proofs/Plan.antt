-- The plan by cases, in the order in which code finds them; and what an accepted plan is.
use mathlib.Core.Path.{◌≡◌, refl, sym, ap, subst, ◌∙◌}
use mathlib.Core.Logic.{◌⊎◌}
use mathlib.Core.List.{List, [], ◌∷◌}
use mathlib.Core.Bool.{Bool, true, false, not, true≢false}
use Prim.Native.Nat.{ℕ, ◌+◌, ◌*◌, ◌≤◌}
use lib.ListN.{length}
use lib.Dec.{ltb}
use borrow.Author.Tests.{not-false, ltb-false}
use Rattle.limits.specs.Limits.{most_odd, most_edges, refused_apart, refused_tables, refused_path, refused_edges, refused_output}
use Rattle.drawing_spec.specs.Drawing.{Settings, Drawing}
use Rattle.drawing_spec.specs.Refusal.{Condition, condition, Verdict, refused, accepted, verdict, holds}
use Rattle.drawing_spec.proofs.Refusal.{fails}
use Rattle.drawing_spec.specs.Read.{read_conditions}
use Rattle.graph_spec.specs.Graph.{Graph, build_graph}
use Rattle.graph_spec.specs.Reach.{all_reached}
use Rattle.repair_spec.specs.Repair.{Repair, Repairing, stopped, repaired, table_short}
use Rattle.repair_spec.proofs.Stops.{stops}
use Rattle.planner_spec.specs.Plan.{Lent, Planned, refusal, planned, Outcome, drawing_in, odd_count, repair_of, line_for, graph_conditions, output_conditions, answer_for, refuse, accept, plan_repaired, plan_graph, plan_drawing, plan}

-- ---- a file

module _ (file : List ℕ) (lent : Lent) where
  abbrev on_drawing : Verdict → Outcome
  on_drawing v = elim v [ refused n ↦ refuse n lent | accepted ↦ plan_drawing (drawing_in file) lent ]

  pub file_refused : (n : ℕ) → verdict (read_conditions file) ≡ refused n → plan file lent ≡ refuse n lent
  unfolding plan
  file_refused n h = ap on_drawing h

  pub file_accepted : verdict (read_conditions file) ≡ accepted → plan file lent ≡ plan_drawing (drawing_in file) lent
  unfolding plan
  file_accepted h = ap on_drawing h

pub drawing_graph : (d : Drawing) (lent : Lent) → plan_drawing d lent ≡ plan_graph (build_graph d) d.settings lent
unfolding plan_drawing
drawing_graph d lent = refl

-- ---- what repair stops with

pub stops_by : (g : Graph) (s : Settings) (k : ℕ) → repair_of g s ≡ stopped k → (k ≡ refused_path) ⊎ (k ≡ refused_edges)
unfolding repair_of
stops_by g s k e = stops most_edges refused_edges g s k e

-- ---- a graph, by cases

module _ (g : Graph) (s : Settings) (lent : Lent) where
  -- conditions 9 and 11, for any truth of them
  abbrev conditions : Bool → Bool → List Condition
  conditions reached tables = condition refused_apart (not reached) ∷ condition refused_tables tables ∷ []

  abbrev outcome : Verdict → Repairing → Outcome
  outcome v x = elim v [ refused n ↦ refuse n lent | accepted ↦ plan_repaired g s lent x ]

  abbrev pub Reached : Bool → Type 0
  Reached b = all_reached (length g.nodes) g.edges ≡ b

  abbrev pub ShortTables : Bool → Type 0
  ShortTables b = table_short most_odd s (odd_count g g.edges) lent.floats lent.bytes ≡ b

  by : {a b : Bool} {x : Repairing} → Reached a → ShortTables b → repair_of g s ≡ x → plan_graph g s lent ≡ outcome (verdict (conditions a b)) x
  unfolding plan_graph graph_conditions
  by h i j = λ z. outcome (verdict (conditions (h z) (i z))) (j z)

  pub plan_apart : Reached false → plan_graph g s lent ≡ refuse refused_apart lent
  unfolding verdict
  plan_apart h = by h refl refl

  module _ (reached : Reached true) where
    pub plan_tables : ShortTables true → plan_graph g s lent ≡ refuse refused_tables lent
    unfolding verdict
    plan_tables h = by reached h refl

    module _ (long : ShortTables false) where
      pub plan_stopped : (k : ℕ) → repair_of g s ≡ stopped k → plan_graph g s lent ≡ refuse k lent
      unfolding verdict plan_repaired
      plan_stopped k e = by reached long e

      module _ (r : Repair) (is : repair_of g s ≡ repaired r) where
        abbrev on_output : Bool → Outcome
        on_output short = elim (verdict (condition refused_output short ∷ [])) [ refused n ↦ refuse n lent | accepted ↦ accept g s lent r ]

        by_output : {f : Bool} → ltb (length lent.output) (6 + 16 * length (line_for g s r)) ≡ f → plan_graph g s lent ≡ on_output f
        unfolding verdict plan_repaired output_conditions
        by_output h = by reached long is ∙ ap on_output h

        pub plan_output : ltb (length lent.output) (6 + 16 * length (line_for g s r)) ≡ true → plan_graph g s lent ≡ refuse refused_output lent
        unfolding verdict
        plan_output h = by_output h

        pub plan_drawn : ltb (length lent.output) (6 + 16 * length (line_for g s r)) ≡ false → plan_graph g s lent ≡ accept g s lent r
        unfolding verdict
        plan_drawn h = by_output h

-- ---- accepted

-- a graph that is planned: every node is reached, there is a repair, and its line has room
pub record Drawn (g : Graph) (s : Settings) (lent : Lent) (answer : Planned) : Type 0 where
  pub reached : all_reached (length g.nodes) g.edges ≡ true
  pub repair : Repair
  pub repairs : repair_of g s ≡ repaired repair
  pub room : 6 + 16 * length (line_for g s repair) ≤ length lent.output
  pub is : plan_graph g s lent ≡ accept g s lent repair
  pub answers : answer_for g s repair ≡ answer

module _ (g : Graph) (s : Settings) (lent : Lent) (answer : Planned) where
  abbrev ended : Repair → Verdict → Outcome
  ended r v = elim v [ refused n ↦ refuse n lent | accepted ↦ accept g s lent r ]

  drawn_repaired : verdict (graph_conditions g s lent) ≡ accepted → (r : Repair) → repair_of g s ≡ repaired r → (plan_repaired g s lent (repaired r)).answer ≡ planned answer → Drawn g s lent answer
  unfolding plan_graph plan_repaired graph_conditions output_conditions holds
  drawn_repaired c r e h = go (verdict (output_conditions g s lent r)) refl h
    where
      go : (v : Verdict) → verdict (output_conditions g s lent r) ≡ v → (ended r v).answer ≡ planned answer → Drawn g s lent answer
      go (refused n) i k = absurd (true≢false (cc))
      go accepted i k = record {
        reached = not-false (all_reached (length g.nodes) g.edges) (fails (graph_conditions g s lent) c refused_apart);
        repair = r;
        repairs = e;
        room = ltb-false (length lent.output) (6 + 16 * length (line_for g s r)) (fails (output_conditions g s lent r) i refused_output);
        is = (λ z. outcome g s lent (c z) (e z)) ∙ ap (ended r) i;
        answers = cc;
      }

  pub drawn : (plan_graph g s lent).answer ≡ planned answer → Drawn g s lent answer
  unfolding plan_graph plan_repaired
  drawn h = go (verdict (graph_conditions g s lent)) refl (repair_of g s) refl h
    where
      go : (v : Verdict) → verdict (graph_conditions g s lent) ≡ v → (x : Repairing) → repair_of g s ≡ x → (outcome g s lent v x).answer ≡ planned answer → Drawn g s lent answer
      go (refused n) c x e k = absurd (true≢false (cc))
      go accepted c (stopped j) e k = absurd (true≢false (cc))
      go accepted c (repaired r) e k = drawn_repaired c r e k

-- a file that is planned passes the checks of the file, and is planned as its drawing
pub file_planned : (file : List ℕ) (lent : Lent) (answer : Planned) → (plan file lent).answer ≡ planned answer → (verdict (read_conditions file) ≡ accepted) × (plan file lent ≡ plan_drawing (drawing_in file) lent)
file_planned file lent answer h = go (verdict (read_conditions file)) refl
  where
    go : (v : Verdict) → verdict (read_conditions file) ≡ v → (verdict (read_conditions file) ≡ accepted) × (plan file lent ≡ plan_drawing (drawing_in file) lent)
    go (refused n) e = let k : refusal n ≡ planned answer = rw (file_refused file lent n e) at h in absurd (true≢false (cc))
    go accepted e = (e, file_accepted file lent e)

-- the record of a line that is planned has room in the output
pub planned_room : (file : List ℕ) (lent : Lent) (answer : Planned) → (plan file lent).answer ≡ planned answer → 6 + 16 * answer.points ≤ length lent.output
unfolding answer_for
planned_room file lent answer h =
    let f = (file_planned file lent answer h).1 in
    let d = drawing_in file in
    let g : (plan_graph (build_graph d) d.settings lent).answer ≡ planned answer = ap (λ (o : Outcome). o.answer) (sym (f ∙ drawing_graph d lent)) ∙ h in
    let D = drawn (build_graph d) d.settings lent answer g in
    subst (λ (a : Planned). 6 + 16 * a.points ≤ length lent.output) D.answers D.room
