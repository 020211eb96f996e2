-- Laws of specs/Outcome: the outcome of a repair depends on its edges and its sum alone, and that of pairs goes pair by pair.
use mathlib.Core.Path.{◌≡◌, refl, sym, ap, ◌∙◌}
use mathlib.Core.List.{List, [], ◌∷◌}
use mathlib.Core.Bool.{Bool, true, false}
use Prim.Native.Nat.{ℕ, ◌+◌, ◌-◌, ◌≤◌, ◌<◌}
use lib.ListN.{length}
use lib.Dec.{leb}
use lib.Ieee.{Float}
use borrow.Author.Tests.{le-leb, lt-leb}
use Rattle.limits.specs.Limits.{refused_path}
use Rattle.graph_spec.specs.Graph.{Edge}
use Rattle.repair_spec.specs.Retrace.{Path, found, error, shortest_path}
use Rattle.repair_spec.specs.Copies.{lay_path}
use Rattle.repair_spec.specs.Pairing.{Pair}
use Rattle.repair_spec.specs.Repair.{Repair, Repairing, stopped, retraced, apply_matching}
use Rattle.repair_early_exit.proofs.Laid.{counted, apply_counted}
use Rattle.repair_copies.specs.Laying.{laid_of}
use Rattle.repair_retrace.specs.Outcome.{RepairOutcome, refused, done, outcome, so_far}

module _ (most number n : ℕ) where
  pub outcome_none : (r : Repair) → outcome (apply_matching most number n [] r) ≡ done (laid_of r.edges r.sum)
  unfolding apply_matching
  outcome_none r = refl

  -- the retraces before do not count
  pub forget : (ps : List Pair) (r : Repair) → outcome (apply_matching most number n ps r) ≡ outcome (apply_matching most number n ps (so_far r.edges r.sum))
  forget [] r = outcome_none r ∙ sym (outcome_none (so_far r.edges r.sum))
  forget (p ∷ ps) r =
      ap outcome (apply_counted most number n p ps r) ∙ go (shortest_path n r.edges p.from p.to) (λ q. forget ps q)
      ∙ sym (ap outcome (apply_counted most number n p ps (so_far r.edges r.sum)))
    where
      go : (x : Path) → ((q : Repair) → outcome (apply_matching most number n ps q) ≡ outcome (apply_matching most number n ps (so_far q.edges q.sum)))
          → outcome (counted most number n ps r x) ≡ outcome (counted most number n ps (so_far r.edges r.sum) x)
      go error rec = refl
      go (found path) rec = fits (leb (length r.edges + (length path - 1)) most)
        where
          fits : (b : Bool) → ◌≡◌ {A = RepairOutcome} (outcome (elim b as (λ b. Repairing) [ false ↦ stopped number | true ↦ apply_matching most number n ps (retraced path r) ]))
              (outcome (elim b as (λ b. Repairing) [ false ↦ stopped number | true ↦ apply_matching most number n ps (retraced path (so_far r.edges r.sum)) ]))
          fits false = refl
          fits true = rec (retraced path r) ∙ sym (rec (retraced path (so_far r.edges r.sum)))

  -- the other pairs, after the first has given o
  abbrev pub others : List Pair → RepairOutcome → RepairOutcome
  others ps (refused k) = refused k
  others ps (done l) = outcome (apply_matching most number n ps (so_far l.edges l.sum))

  pub outcome_first : (p : Pair) (ps : List Pair) (r : Repair) → outcome (apply_matching most number n (p ∷ ps) r) ≡ others ps (outcome (apply_matching most number n (p ∷ []) r))
  outcome_first p ps r =
      ap outcome (apply_counted most number n p ps r) ∙ go (shortest_path n r.edges p.from p.to) ∙ sym (ap (λ (x : Repairing). others ps (outcome x)) (apply_counted most number n p [] r))
    where
      go : (x : Path) → outcome (counted most number n ps r x) ≡ others ps (outcome (counted most number n [] r x))
      go error = refl
      go (found path) = fits (leb (length r.edges + (length path - 1)) most)
        where
          fits : (b : Bool) → ◌≡◌ {A = RepairOutcome} (outcome (elim b as (λ b. Repairing) [ false ↦ stopped number | true ↦ apply_matching most number n ps (retraced path r) ]))
              (others ps (outcome (elim b as (λ b. Repairing) [ false ↦ stopped number | true ↦ apply_matching most number n [] (retraced path r) ])))
          fits false = refl
          fits true = forget ps (retraced path r) ∙ sym (ap (others ps) (outcome_none (retraced path r)))

  -- ---- how the retrace of one pair ends, by its path

  module _ (p : Pair) (es : List Edge) (sum : Float) where
    abbrev single : RepairOutcome
    single = outcome (apply_matching most number n (p ∷ []) (so_far es sum))

    pub outcome_missing : error ≡ shortest_path n es p.from p.to → refused refused_path ≡ single
    outcome_missing h = sym (ap outcome (apply_counted most number n p [] (so_far es sum) ∙ ap (counted most number n [] (so_far es sum)) (sym h)))

    module _ (path : List ℕ) (is : found path ≡ shortest_path n es p.from p.to) where
      by_count : (b : Bool) → leb (length es + (length path - 1)) most ≡ b → outcome (elim b as (λ b. Repairing) [ false ↦ stopped number | true ↦ apply_matching most number n [] (retraced path (so_far es sum)) ]) ≡ single
      by_count b h =
          sym (ap outcome (apply_counted most number n p [] (so_far es sum) ∙ ap (counted most number n [] (so_far es sum)) (sym is)
          ∙ ap (λ (x : Bool). elim x as (λ b. Repairing) [ false ↦ stopped number | true ↦ apply_matching most number n [] (retraced path (so_far es sum)) ]) h))

      pub outcome_over : most < length es + (length path - 1) → refused number ≡ single
      outcome_over h = by_count false (lt-leb (length es + (length path - 1)) most h)

      pub outcome_laid : length es + (length path - 1) ≤ most → done (lay_path path (laid_of es sum)) ≡ single
      outcome_laid h = sym (outcome_none (retraced path (so_far es sum))) ∙ by_count true (le-leb (length es + (length path - 1)) most h)
