-- No refusal has the number 0, so a caller in another language can tell a refusal by it.
use mathlib.Core.Path.{◌≡◌, refl, subst}
use mathlib.Core.Logic.{inl, inr}
use mathlib.Core.List.{List}
use Prim.Native.Nat.{ℕ, ◌<◌}
use native.Mathlib.Omega.{arith}
use Rattle.drawing_spec.specs.Drawing.{Settings}
use Rattle.drawing_spec.specs.Refusal.{Condition, Verdict, refused, accepted, verdict}
use Rattle.drawing_spec.specs.Read.{every, read_conditions}
use Rattle.drawing_spec.proofs.Refusal.{Numbered, refused_numbered}
use Rattle.graph_spec.specs.Graph.{Graph, build_graph}
use Rattle.repair_spec.specs.Repair.{Repair, Repairing, stopped, repaired}
use Rattle.planner_spec.specs.Plan.{Lent, Outcome, refusal, refuse, accept, repair_of, graph_conditions, output_conditions, plan_repaired, plan_graph, drawing_in, plan}
use Rattle.planner_spec.proofs.Plan.{file_refused, file_accepted, drawing_graph, stops_by}

read_numbered : (file : List ℕ) → Numbered (read_conditions file)
unfolding read_conditions every
read_numbered file = refl

graph_conditions_numbered : (g : Graph) (s : Settings) (lent : Lent) → Numbered (graph_conditions g s lent)
unfolding graph_conditions every
graph_conditions_numbered g s lent = refl

output_numbered : (g : Graph) (s : Settings) (lent : Lent) (r : Repair) → Numbered (output_conditions g s lent r)
unfolding output_conditions every
output_numbered g s lent r = refl

-- what the first condition of a list that holds is refused by
verdict_numbered : (cs : List Condition) → Numbered cs → (o : Outcome) (lent : Lent) (k : ℕ) → (o.answer ≡ refusal k → 0 < k)
    → (elim (verdict cs) as (λ v. Outcome) [ refused n ↦ refuse n lent | accepted ↦ o ]).answer ≡ refusal k → 0 < k
verdict_numbered cs all o lent k later h = go (verdict cs) refl h
  where
    go : (v : Verdict) → verdict cs ≡ v → (elim v as (λ v. Outcome) [ refused n ↦ refuse n lent | accepted ↦ o ]).answer ≡ refusal k → 0 < k
    go (refused n) e i = let same : n ≡ k = cc in subst (λ (j : ℕ). 0 < j) same (refused_numbered cs all n e)
    go accepted e i = later i

repaired_numbered : (g : Graph) (s : Settings) (lent : Lent) (k : ℕ) (x : Repairing) → repair_of g s ≡ x → (plan_repaired g s lent x).answer ≡ refusal k → 0 < k
unfolding plan_repaired
repaired_numbered g s lent k (stopped n) e h = let same : n ≡ k = cc in elim (stops_by g s n e) [ inl p ↦ omega (arith, p, same) | inr p ↦ omega (arith, p, same) ]
repaired_numbered g s lent k (repaired r) e h =
    verdict_numbered (output_conditions g s lent r) (output_numbered g s lent r) (accept g s lent r) lent k (λ i. absurd (let z : ◌≡◌ {A = ℕ} 0 1 = cc in omega arith)) h

graph_numbered : (g : Graph) (s : Settings) (lent : Lent) (k : ℕ) → (plan_graph g s lent).answer ≡ refusal k → 0 < k
unfolding plan_graph
graph_numbered g s lent k h =
    verdict_numbered (graph_conditions g s lent) (graph_conditions_numbered g s lent) (plan_repaired g s lent (repair_of g s)) lent k (repaired_numbered g s lent k (repair_of g s) refl) h

pub plan_numbered : (file : List ℕ) (lent : Lent) (k : ℕ) → (plan file lent).answer ≡ refusal k → 0 < k
plan_numbered file lent k h = go (verdict (read_conditions file)) refl
  where
    go : (v : Verdict) → verdict (read_conditions file) ≡ v → 0 < k
    go (refused n) e =
        let i : refusal n ≡ refusal k = rw (file_refused file lent n e) at h in
        let same : n ≡ k = cc in
        subst (λ (j : ℕ). 0 < j) same (refused_numbered (read_conditions file) (read_numbered file) n e)
    go accepted e =
        graph_numbered (build_graph (drawing_in file)) (drawing_in file).settings lent k (rw (drawing_graph (drawing_in file) lent) at (rw (file_accepted file lent e) at h))
