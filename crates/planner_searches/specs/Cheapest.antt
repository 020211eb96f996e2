-- Change request 6 of every accepted file: with Optimal and 4 to 20 odd nodes no choice of pairs costs less than the one taken. proofs/Cheapest has the theorem.
use Rattle.std.specs.Prelude.{◌≡◌, List, true, ℕ, ◌≤◌, ◌<◌, length, Float}
use Rattle.std.specs.Float.{binary64}
use Rattle.limits.specs.Limits.{most_odd}
use Rattle.sums.specs.Key.{Nonneg, key}
use Rattle.drawing_spec.specs.Drawing.{Drawing, optimal}
use Rattle.graph_spec.specs.Graph.{build_graph}
use Rattle.repair_spec.specs.Distance.{infinity}
use Rattle.repair_spec.specs.Pairing.{Pair}
use Rattle.repair_spec.specs.Cheapest.{taken_by, LeavesTwo, choice_cost, LeastBetween, NoCheaper}
use Rattle.planner_spec.specs.Plan.{Lent, Planned, planned, drawing_in, repair_of, plan}
use Rattle.planner_spec.specs.Words.{retraces_of}
use Rattle.planner_searches.specs.Searches.{odd_list_of}

-- the pairs that retraces join, the closing one left out; demand 3 counts the copies from the same retraces
abbrev pub taken_in : Drawing → List Pair
taken_in d = taken_by (length (odd_list_of (build_graph d))) (retraces_of (repair_of (build_graph d) d.settings))

pub record PairedCheapest (d : Drawing) : Type 0 where
  -- by the least distances over all ways of the drawn graph
  pub no_cheaper : NoCheaper (build_graph d).edges (odd_list_of (build_graph d)) (taken_in d)
  -- every choice costs a number: it is no NaN, not negative and below infinity, and of such floats `key` is the order
  pub number : (far : ℕ → ℕ → Float) → LeastBetween (build_graph d).edges (odd_list_of (build_graph d)) far → (ps : List Pair) → LeavesTwo (odd_list_of (build_graph d)) ps
      → Nonneg binary64 (choice_cost far ps) × (key binary64 (choice_cost far ps) < key binary64 infinity)

-- of every accepted file; how many nodes were odd is in its answer
abbrev pub Statement : Type 0
Statement = (file : List ℕ) (lent : Lent) (answer : Planned) → (plan file lent).answer ≡ planned answer
    → optimal (drawing_in file).settings ≡ true → 4 ≤ answer.before → answer.before ≤ most_odd → PairedCheapest (drawing_in file)
