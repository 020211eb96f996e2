-- Minus zero is a zero: a file with minus zeros is planned as the cleaned file is, and no output holds one.
use mathlib.Core.Path.{◌≡◌, refl, sym, ap, ◌∙◌, subst}
use mathlib.Core.List.{List, [], ◌∷◌, ◌++◌}
use Prim.Native.Nat.{ℕ, suc, ◌+◌, ◌*◌, ◌≤◌}
use native.Mathlib.Omega.{arith}
use lib.ListN.{length, drop}
use Rattle.grid.specs.Grid.{origin, minus_zero, write_place}
use Rattle.grid.proofs.Back.{never_minus_zero}
use Rattle.lists.specs.Members.{All}
use Rattle.lists.proofs.Parts.{drop_on}
use Rattle.drawing_spec.specs.Bytes.{number, bytes, in_front}
use Rattle.drawing_spec.proofs.Back.{number_bytes, drop_bytes}
use Rattle.drawing_spec.specs.Drawing.{Point, Drawing}
use Rattle.drawing_spec.specs.OnGrid.{OnGrid}
use Rattle.drawing_spec.specs.Refusal.{Verdict, refused, accepted, verdict}
use Rattle.drawing_spec.specs.Read.{spot, spots, read_conditions}
use Rattle.drawing_spec.specs.Cleaned.{PointPlain, cleaned_file}
use Rattle.drawing_spec.proofs.Placed.{spot_parts, spots_one, no_spots}
use Rattle.drawing_spec.proofs.CleanedFile.{records_taken, drawing_cleaned, cleaned_verdict}
use Rattle.graph_spec.specs.Graph.{build_graph}
use Rattle.links_spec.specs.Made.{to_plan}
use Rattle.planner_spec.specs.LineRecord.{point_bytes, line_record, OutputPlain}
use Rattle.planner_spec.specs.Plan.{Lent, Planned, planned, Outcome, Call, lent_to, drawing_in, line_for, answer_for, plan_drawing, plan, called}
use Rattle.planner_spec.proofs.LineRecord.{written_below, point_bytes_lem, line_record_lem}
use Rattle.planner_spec.proofs.Plan.{file_refused, file_accepted, file_planned, drawn}
use Rattle.planner_spec.proofs.Counted.{line}
use Rattle.planner_spec.proofs.Proved.{file_limits, written, output_is}

-- ---- planned as the cleaned file is

module _ (file : List ℕ) where
  drawing_same : verdict (read_conditions file) ≡ accepted → drawing_in (cleaned_file file) ≡ drawing_in file
  unfolding drawing_in
  drawing_same e = ap to_plan (drawing_cleaned file (records_taken file e))

  pub planned_cleaned : (lent : Lent) → plan (cleaned_file file) lent ≡ plan file lent
  planned_cleaned lent = go (verdict (read_conditions file)) refl
    where
      go : (v : Verdict) → verdict (read_conditions file) ≡ v → plan (cleaned_file file) lent ≡ plan file lent
      go (refused n) e = file_refused (cleaned_file file) lent n (cleaned_verdict file ∙ e) ∙ sym (file_refused file lent n e)
      go accepted e =
          file_accepted (cleaned_file file) lent (cleaned_verdict file ∙ e)
          ∙ ap (λ (d : Drawing). plan_drawing d lent) (drawing_same e)
          ∙ sym (file_accepted file lent e)

  -- a whole call: the answer, the bytes written and both tables
  pub called_cleaned : (c : Call) → called (cleaned_file file) c ≡ called file c
  unfolding called
  called_cleaned c = λ i. record {
    answer = (planned_cleaned (lent_to c) i).answer;
    output = (planned_cleaned (lent_to c) i).output;
    floats = (called file c).floats;
    bytes = (called file c).bytes;
  }

-- ---- no output holds one

coordinate_plain : (p : ℕ) (rest : List ℕ) → p ≤ 2 * origin → number 8 (bytes 8 (write_place p) ++ rest) ≡ minus_zero → ⊥
coordinate_plain p rest h e = never_minus_zero p (omega arith) (sym (number_bytes 8 (write_place p) rest (written_below p)) ∙ e)

points_plain : (ps : List Point) (rest : List ℕ) → All OnGrid ps → All PointPlain (spots (length ps) (point_bytes ps ++ rest))
points_plain [] rest a = subst (All PointPlain) (sym (no_spots (point_bytes [] ++ rest))) tt
points_plain (p ∷ ps) rest a =
    let tail = point_bytes ps ++ rest in
    let y = bytes 8 (write_place p.y) ++ tail in
    let x = bytes 8 (write_place p.x) ++ y in
    let dx : drop 8 x ≡ y = drop_bytes 8 (write_place p.x) y in
    let dy : drop 16 x ≡ tail = drop_on 8 8 x y tail dx (drop_bytes 8 (write_place p.y) tail) in
    let here : PointPlain (spot x) =
    subst PointPlain (sym (spot_parts x)) (coordinate_plain p.x y a.0.0, λ e. coordinate_plain p.y tail a.0.1 (sym (ap (number 8) dx) ∙ e)) in
    let later : All PointPlain (spots (length ps) (drop 16 x)) = subst (λ (l : List ℕ). All PointPlain (spots (length ps) l)) (sym dy) (points_plain ps rest a.1) in
    subst (λ (l : List ℕ). All PointPlain (spots (suc (length ps)) l)) (sym (point_bytes_lem p ps rest)) (subst (All PointPlain) (sym (spots_one (length ps) x)) (here, later))

record_plain : (l : List Point) (rest : List ℕ) → All OnGrid l → OutputPlain (length l) (line_record l ++ rest)
record_plain l rest a =
    let body = point_bytes l ++ rest in
    let kind = bytes 2 4 ++ body in
    let behind : drop 6 (bytes 4 (16 * length l) ++ kind) ≡ body = drop_on 4 2 (bytes 4 (16 * length l) ++ kind) kind body (drop_bytes 4 (16 * length l) kind) (drop_bytes 2 4 body) in
    subst (λ (bs : List ℕ). All PointPlain (spots (length l) bs)) (sym (ap (drop 6) (line_record_lem l rest) ∙ behind)) (points_plain l rest a)

plan_plain : (file : List ℕ) (lent : Lent) (answer : Planned) → (plan file lent).answer ≡ planned answer → OutputPlain answer.points (plan file lent).output
unfolding plan_drawing answer_for line_for
plan_plain file lent answer h =
    let p = file_planned file lent answer h in
    let d = drawing_in file in
    let limits = file_limits file p.0 in
    let D = drawn (build_graph d) d.settings lent answer (ap (λ (o : Outcome). o.answer) (sym p.1) ∙ h) in
    let l = line d D.repair in
    let w = written d limits lent answer D in
    let is : (plan file lent).output ≡ in_front (line_record l) lent.output = ap (λ (o : Outcome). o.output) p.1 ∙ output_is d limits lent answer D in
    let many : length l ≡ answer.points = ap (λ (a : Planned). a.points) D.answers in
    subst (λ (n : ℕ). OutputPlain n (plan file lent).output) many (subst (OutputPlain (length l)) (sym is) (record_plain l (drop (length (line_record l)) lent.output) w.on_grid))

-- whatever file is planned, and whatever is lent
pub output_plain : (file : List ℕ) (c : Call) (answer : Planned) → (called file c).answer ≡ planned answer → OutputPlain answer.points (called file c).output
unfolding called
output_plain file c answer h = plan_plain file (lent_to c) answer h
