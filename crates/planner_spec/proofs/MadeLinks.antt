-- What flag 4 does to a plan, and what it does not: a file with the flag is never refused for pieces apart, and one without it is planned from its own records.
use mathlib.Core.Path.{◌≡◌, refl, sym, ap, ◌∙◌, subst}
use mathlib.Core.List.{List, map}
use mathlib.Core.Bool.{true, false}
use Prim.Native.Nat.{ℕ}
use native.Mathlib.Omega.{arith}
use lib.ListN.{length}
use Rattle.limits.specs.Limits.{refused_apart}
use Rattle.drawing_spec.specs.Drawing.{Drawing, linking}
use Rattle.drawing_spec.specs.Refusal.{refused, accepted, verdict}
use Rattle.drawing_spec.specs.Read.{every, records_of, drawing_of, read_conditions}
use Rattle.drawing_spec.proofs.Placed.{settings_are}
use Rattle.drawing_spec.proofs.Accepted.{accepted_passes, drawing_no_links}
use Rattle.drawing_spec.proofs.Unflagged.{conditions_before, unflagged_verdict}
use Rattle.graph_spec.specs.Graph.{build_graph}
use Rattle.graph_spec.specs.Pieces.{pieces_of}
use Rattle.graph_spec.specs.Reach.{all_reached}
use Rattle.links_spec.specs.Candidates.{Candidate}
use Rattle.links_spec.specs.Allowed.{Allowed}
use Rattle.links_spec.specs.Made.{made, as_link, made_links, linked}
use Rattle.links_spec.proofs.Made.{made_allowed}
use Rattle.links_spec.proofs.ToPlan.{asked, not_asked}
use Rattle.links_spec.proofs.Chains.{pieces_kept}
use Rattle.links_spec.proofs.Reached.{linked_reached}
use Rattle.planner_spec.specs.Plan.{Lent, Outcome, refusal, refuse, graph_conditions, output_conditions, plan_drawing, drawing_in, plan}
use Rattle.planner_spec.proofs.NeverGiven.{graph_never, file_never}

-- ---- a file with the flag is never refused for pieces apart

module _ (file : List ℕ) where
  -- what the file's records say, before any link is made
  abbrev records : Drawing
  records = drawing_of (records_of file)

  pub flagged_reached : linking records.settings ≡ true → all_reached (length (build_graph (drawing_in file)).nodes) (build_graph (drawing_in file)).edges ≡ true
  unfolding drawing_in
  flagged_reached h = subst (λ (d : Drawing). all_reached (length (build_graph d).nodes) (build_graph d).edges ≡ true) (sym (asked records h)) (linked_reached records)

  -- its links are those of a set that may be made
  pub flagged_allowed : linking records.settings ≡ true → (ks : List Candidate) × ((drawing_in file).links ≡ map (as_link records.lines) ks) × Allowed records.lines ks
  unfolding drawing_in linked made_links
  flagged_allowed h = (made records.lines, ap (λ (d : Drawing). d.links) (asked records h), made_allowed records.lines)

  -- they split no segment, so its pieces are those that its records say
  pub flagged_pieces : verdict (read_conditions file) ≡ accepted → linking records.settings ≡ true → pieces_of (drawing_in file) ≡ pieces_of records
  unfolding drawing_in
  flagged_pieces taken h = ap pieces_of (asked records h) ∙ pieces_kept records (drawing_no_links file (accepted_passes file taken) h)

  pub never_apart : linking records.settings ≡ true → (lent : Lent) → (plan file lent).answer ≡ refusal refused_apart → ⊥
  unfolding read_conditions graph_conditions output_conditions every
  never_apart h lent =
      file_never file lent refused_apart refl
      (λ taken. graph_never (build_graph (drawing_in file)) (drawing_in file).settings lent refused_apart (λ p. omega arith) (λ p. omega arith) (λ r. refl) (rw (flagged_reached h)))

  -- ---- a file without the flag is planned as it was before there was one

  -- by document 01's eight conditions of a file, 7 as CR 3 left it, and from what its records say
  abbrev pub plan_before : Lent → Outcome
  plan_before lent = elim (verdict (conditions_before file)) [ refused n ↦ refuse n lent | accepted ↦ plan_drawing records lent ]

  pub unflagged_plan : linking records.settings ≡ false → (lent : Lent) → plan file lent ≡ plan_before lent
  unfolding plan drawing_in
  unflagged_plan h lent =
      let same : drawing_in file ≡ records = not_asked records h in
      let judged = unflagged_verdict file (ap linking (sym (settings_are (records_of file))) ∙ h) in
      λ i. elim (judged i) as (λ v. Outcome) [ refused n ↦ refuse n lent | accepted ↦ plan_drawing (same i) lent ]
