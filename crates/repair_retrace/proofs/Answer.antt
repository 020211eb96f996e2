-- Laws of specs/Answer: how the retrace of a pair ends, by what its path is.
use mathlib.Core.Path.{◌≡◌, sym, ap, subst, ◌∙◌}
use mathlib.Core.List.{List, [], ◌∷◌}
use Prim.Native.Nat.{ℕ, ◌+◌, ◌-◌, ◌≤◌, ◌<◌}
use native.Mathlib.Omega.{arith}
use lib.ListN.{length, drop}
use lib.Ieee.{Float}
use Rattle.limits.specs.Limits.{most_nodes, most_edges, refused_path}
use Rattle.graph_spec.specs.Graph.{Edge}
use Rattle.graph_spec.specs.Weights.{Searchable}
use Rattle.graph_adjacency.specs.Lists.{Adjacency}
use Rattle.graph_arrays.specs.Arrays.{edges_in, EdgesLinked, EdgesHeld}
use Rattle.graph_arrays.proofs.Arrays.{edges_count}
use Rattle.repair_spec.specs.Retrace.{found, error, shortest_path}
use Rattle.repair_spec.specs.Copies.{Laid, lay_path}
use Rattle.repair_spec.specs.Pairing.{pair}
use Rattle.repair_spec.specs.Repair.{Repairing, apply_matching}
use Rattle.repair_early_exit.proofs.Laid.{retrace_searchable}
use Rattle.repair_copies.specs.Laying.{laid_of, copies_from}
use Rattle.repair_retrace.specs.Outcome.{done, so_far}
use Rattle.std.specs.Prelude.{Ok, Err}
use Rattle.repair_retrace.specs.Answer.{Answers}
use Rattle.repair_retrace.proofs.Outcome.{outcome_missing, outcome_over, outcome_laid}
use Rattle.repair_retrace.proofs.Path.{copies_are}

module _ (most number n m s t : ℕ) (sum : Float) (a a' : Adjacency) where
  abbrev es : List Edge
  es = edges_in m a

  abbrev repair : Repairing
  repair = apply_matching most number n (pair s t ∷ []) (so_far es sum)

  pub answers_missing : error ≡ shortest_path n es s t → Answers n repair (Err refused_path) a'
  answers_missing h = record { is = outcome_missing most number n (pair s t) es sum h; held = tt }

  module _ (path : List ℕ) (long : length path ≡ most_nodes) (first : ℕ) (is : found (drop first path) ≡ shortest_path n es s t) where
    counted : length es + (length (drop first path) - 1) ≡ m + copies_from first
    counted = omega (arith, copies_are path first long, edges_count m a)

    pub answers_over : most < m + copies_from first → Answers n repair (Err number) a'
    answers_over h = record { is = outcome_over most number n (pair s t) es sum (drop first path) is (subst (λ (k : ℕ). most < k) (sym counted) h); held = tt }

    -- The copies are laid. A graph that can be searched is left so: what repair keeps.
    module _ (few : most ≤ most_edges) (H : EdgesHeld n m a) (fits : m + copies_from first ≤ most) (total : Float)
        (laid : laid_of (edges_in (m + copies_from first) a') total ≡ lay_path (drop first path) (laid_of es sum)) (linked : EdgesLinked n (m + copies_from first) a') where
      laid_held : EdgesHeld n (m + copies_from first) a'
      laid_held = record {
        edges = linked;
        room = omega arith;
        searchable = subst (Searchable n) (sym (ap (λ (l : Laid). l.edges) laid)) (retrace_searchable n (laid_of es sum) s t (drop first path) (sym is) H.searchable);
      }

      pub answers_laid : Answers n repair (Ok (record { sum = total; edges = m + copies_from first })) a'
      answers_laid = record {
        is = ap done laid ∙ outcome_laid most number n (pair s t) es sum (drop first path) is (subst (λ (k : ℕ). k ≤ most) (sym counted) fits);
        held = laid_held;
      }
