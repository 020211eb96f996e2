-- The steps.
use Rattle.std.proofs.Common.{ℕ, ◌≡◌, arith, rules, subst}
use Rattle.graph_arrays.specs.Arrays.{edges_in}
use Rattle.repair_distances.specs.Rows.{Rows}
use Rattle.repair_distances.proofs.Rows.{rows_none, rows_kept, rows_turn}
use Rattle.repair_distances.proofs.sweep_rows.Goals as goal

pub loop-i-init : goal.loop-i-init
loop-i-init c = (search rules, rows_none _ _ c.args.odd.now _ _ c.args.table.now, c.new-sweep.ensures)

pub returns-then-not-right : goal.returns-then-not-right
returns-then-not-right c =
    let a = c.args in
    (omega arith, rows_kept a.n (edges_in a.m a.edges.now) a.odd.now _ _ _ _ _ c.sweep_row-right.ensures.before c.loop-i.invariant.1)

pub loop-i-preserved : goal.loop-i-preserved
loop-i-preserved c = (search rules, rows_turn _ _ _ _ _ _ _ _ (c.sweep_row-right.ensures.row c.if-not-right.false) c.loop-i.invariant.1, c.sweep_row-right.ensures.kept)

pub returns : goal.returns
returns c =
    let a = c.args in
    let all : c.loop-i.i ≡ a.count = omega arith in
    (omega arith, subst (λ (k : ℕ). Rows a.n (edges_in a.m a.edges.now) a.odd.now a.count a.base k c.loop-i.table) all c.loop-i.invariant.1)
