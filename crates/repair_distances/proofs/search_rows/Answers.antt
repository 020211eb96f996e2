-- The steps.
use Rattle.std.proofs.Common.{ℕ, ◌≡◌, arith, rules, subst}
use Rattle.graph_arrays.specs.Arrays.{edges_in}
use Rattle.repair_distances.specs.Rows.{Rows}
use Rattle.repair_distances.proofs.Rows.{rows_turn}
use Rattle.repair_distances.proofs.search_rows.Goals as goal

pub loop-i-init : goal.loop-i-init
loop-i-init c = (search rules, c.requires.rows.1, c.new-search.ensures c.args.n c.requires.edges.edges.few_nodes)

pub loop-i-preserved : goal.loop-i-preserved
loop-i-preserved c = (search rules, rows_turn _ _ _ _ _ _ _ _ c.search_row.ensures.row c.loop-i.invariant.1, c.search_row.ensures.kept)

pub returns : goal.returns
returns c =
    let a = c.args in
    let all : c.loop-i.i ≡ a.count = omega (arith, c.requires.rows.0) in
    subst (λ (k : ℕ). Rows a.n (edges_in a.m a.edges.now) a.odd.now a.count a.base k c.loop-i.table) all c.loop-i.invariant.1
