-- A number that no condition gives is never the answer.
use mathlib.Core.Path.{◌≡◌, refl, ap, ◌∙◌}
use mathlib.Core.Logic.{inl, inr}
use mathlib.Core.List.{List, [], ◌∷◌}
use mathlib.Core.Bool.{Bool, true, false, ◌&&◌, not, true≢false, false≢true}
use Prim.Native.Nat.{ℕ}
use lib.Dec.{eqb}
use borrow.Author.Tests.{eq-eqb}
use Rattle.limits.specs.Limits.{refused_path, refused_edges}
use Rattle.drawing_spec.specs.Drawing.{Settings}
use Rattle.drawing_spec.specs.Refusal.{Condition, condition, Verdict, refused, accepted, verdict}
use Rattle.drawing_spec.specs.Read.{every, read_conditions}
use Rattle.drawing_spec.proofs.Same.{both}
use Rattle.graph_spec.specs.Graph.{Graph, build_graph}
use Rattle.repair_spec.specs.Repair.{Repair, Repairing, stopped, repaired}
use Rattle.planner_spec.specs.Plan.{Lent, Outcome, refusal, refuse, accept, repair_of, graph_conditions, output_conditions, plan_repaired, plan_graph, plan_drawing, drawing_in, plan}
use Rattle.planner_spec.proofs.Plan.{drawing_graph, stops_by}

-- the condition has the number n, and holds
abbrev gives : ℕ → Condition → Bool
gives n (condition k t) = eqb k n && t

abbrev pub Never : ℕ → List Condition → Type 0
Never n cs = every (λ (c : Condition). not (gives n c)) cs ≡ true

never_refused : (n : ℕ) (cs : List Condition) → Never n cs → verdict cs ≡ refused n → ⊥
unfolding every verdict
never_refused n [] a h = true≢false (cc)
never_refused n (condition k true ∷ cs) a h = let same : k ≡ n = cc in false≢true (rw (eq-eqb k n same) at (both (not (eqb k n && true)) (every (λ (c : Condition). not (gives n c)) cs) a).0)
never_refused n (condition k false ∷ cs) a h = never_refused n cs (both (not (eqb k n && false)) (every (λ (c : Condition). not (gives n c)) cs) a).1 h

-- nor is what comes behind the conditions
never_answered : (n : ℕ) (cs : List Condition) → Never n cs → (o : Outcome) (lent : Lent) → (verdict cs ≡ accepted → o.answer ≡ refusal n → ⊥)
    → (elim (verdict cs) as (λ v. Outcome) [ refused k ↦ refuse k lent | accepted ↦ o ]).answer ≡ refusal n → ⊥
never_answered n cs a o lent later h = go (verdict cs) refl h
  where
    go : (v : Verdict) → verdict cs ≡ v → (elim v as (λ v. Outcome) [ refused k ↦ refuse k lent | accepted ↦ o ]).answer ≡ refusal n → ⊥
    go (refused k) e i = let same : k ≡ n = cc in never_refused n cs a (e ∙ ap refused same)
    go accepted e i = later e i

module _ (g : Graph) (s : Settings) (lent : Lent) (n : ℕ) (not_path : n ≡ refused_path → ⊥) (not_edges : n ≡ refused_edges → ⊥) (not_output : (r : Repair) → Never n (output_conditions g s lent r)) where
  repaired_never : (x : Repairing) → repair_of g s ≡ x → (plan_repaired g s lent x).answer ≡ refusal n → ⊥
  unfolding plan_repaired
  repaired_never (stopped k) e h = let same : n ≡ k = cc in elim (stops_by g s k e) [ inl p ↦ not_path (same ∙ p) | inr p ↦ not_edges (same ∙ p) ]
  repaired_never (repaired r) e h = never_answered n (output_conditions g s lent r) (not_output r) (accept g s lent r) lent (λ c i. true≢false (cc)) h

  pub graph_never : Never n (graph_conditions g s lent) → (plan_graph g s lent).answer ≡ refusal n → ⊥
  unfolding plan_graph
  graph_never a h = never_answered n (graph_conditions g s lent) a (plan_repaired g s lent (repair_of g s)) lent (λ c. repaired_never (repair_of g s) refl) h

-- a file: nor is what is said of its graph
pub file_never : (file : List ℕ) (lent : Lent) (n : ℕ) → Never n (read_conditions file)
    → (verdict (read_conditions file) ≡ accepted → (plan_graph (build_graph (drawing_in file)) (drawing_in file).settings lent).answer ≡ refusal n → ⊥) → (plan file lent).answer ≡ refusal n → ⊥
unfolding plan
file_never file lent n a later h = never_answered n (read_conditions file) a (plan_drawing (drawing_in file) lent) lent (λ c i. later c (rw (drawing_graph (drawing_in file) lent) at i)) h
