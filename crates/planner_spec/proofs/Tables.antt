-- Whoever lends the tables for 20 odd nodes is never given 11: no file's graph has more than 1,022 odd nodes, and above 20, where only their distances are asked for, 1,022² entries are
-- fewer than the 2 ^ 20 + 20² for 20.
use mathlib.Core.Path.{◌≡◌, refl, ap, ◌∙◌}
use mathlib.Core.List.{List}
use mathlib.Core.Bool.{Bool, true, false, ◌&&◌, ◌||◌, and-false}
use Prim.Native.Nat.{ℕ, ◌+◌, ◌*◌, ◌^◌, ◌≤◌}
use native.Mathlib.Nat.{mul-le-mul}
use native.Mathlib.Omega.{arith}
use lib.Pow.{pow_mono}
use lib.Dec.{leb, ltb}
use borrow.Author.Tests.{leb-true, le-ltb}
use Rattle.limits.specs.Limits.{most_odd, refused_tables}
use Rattle.drawing_spec.specs.Drawing.{Settings, optimal}
use Rattle.drawing_spec.specs.Refusal.{accepted, verdict}
use Rattle.drawing_spec.specs.Read.{every, records_of, drawing_of, read_conditions}
use Rattle.drawing_spec.proofs.Accepted.{accepted_passes, in_limits}
use Rattle.graph_spec.specs.Graph.{build_graph}
use Rattle.graph_counts.specs.Few.{most_odd_nodes}
use Rattle.graph_counts.proofs.Nodes.{counted_few}
use Rattle.links_spec.proofs.ToPlan.{plan_within}
use Rattle.repair_spec.specs.Repair.{table_short}
use Rattle.planner_spec.specs.Plan.{Lent, refusal, odd_count, graph_conditions, output_conditions, drawing_in, plan}
use Rattle.planner_spec.proofs.NeverGiven.{graph_never, file_never}

-- ---- the tables for 20 odd nodes

pub tables_enough : (s : Settings) (n floats bytes : ℕ) → n ≤ most_odd_nodes → 2 ^ most_odd + most_odd * most_odd ≤ floats → 2 ^ most_odd ≤ bytes → table_short most_odd s n floats bytes ≡ false
unfolding table_short
tables_enough s n floats bytes few f b = ap (λ (t : Bool). optimal s && leb 4 n && t) (go (leb n most_odd) (leb-true n most_odd)) ∙ and-false (optimal s && leb 4 n)
  where
    go : (t : Bool) → (t ≡ true → n ≤ most_odd) → elim t [ true ↦ ltb floats (2 ^ n + n * n) || ltb bytes (2 ^ n) | false ↦ ltb floats (n * n) ] ≡ false
    go true h =
        let k = h refl in
        let p = pow_mono {i = n} {j = most_odd} k in
        rw (le-ltb floats (2 ^ n + n * n) (omega (arith, p, mul-le-mul {n₂ = most_odd} {m₂ = most_odd} k k)), le-ltb bytes (2 ^ n) (omega (arith, p)))
    go false h = le-ltb floats (n * n) (omega (arith, mul-le-mul {n₂ = most_odd_nodes} {m₂ = most_odd_nodes} few few))

-- ---- of every file that passes checks 1 to 8 and 15

pub odd_most : (file : List ℕ) → verdict (read_conditions file) ≡ accepted → odd_count (build_graph (drawing_in file)) (build_graph (drawing_in file)).edges ≤ most_odd_nodes
unfolding drawing_in odd_count
odd_most file taken = (counted_few (drawing_in file) (plan_within (drawing_of (records_of file)) (in_limits file (accepted_passes file taken))).counts).odd

pub never_short : (file : List ℕ) (lent : Lent) → 2 ^ most_odd + most_odd * most_odd ≤ lent.floats → 2 ^ most_odd ≤ lent.bytes → (plan file lent).answer ≡ refusal refused_tables → ⊥
unfolding read_conditions graph_conditions output_conditions every
never_short file lent f b =
    let g = build_graph (drawing_in file) in
    let s = (drawing_in file).settings in
    file_never file lent refused_tables refl
    (λ taken. graph_never g s lent refused_tables (λ p. omega arith) (λ p. omega arith) (λ r. refl)
    (rw (tables_enough s (odd_count g g.edges) lent.floats lent.bytes (odd_most file taken) f b)))
