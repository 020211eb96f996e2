-- `repair_closing::close` meets its contract.
use mathlib.Core.Path.{◌≡◌}
use native.Mathlib.Omega.{arith}
use lib.Ieee.{of_bits}
use Rattle.std.specs.Prelude.{Err}
use Rattle.repair_closing.proofs.Closing.{answers_open, answers_none, node_below, answers_refused, answers_joined}
use Rattle.repair_closing.proofs.close.Goals as goal

pub returns-then-open : goal.returns-then-open
returns-then-open c = answers_open c.args.most c.args.number c.args.n c.args.m c.args.sum c.args.edges.now c.requires.edges_held c.args.closing c.if-open.true

pub returns-then-no_pair : goal.returns-then-no_pair
returns-then-no_pair c =
    answers_none c.args.most c.args.number c.args.n c.args.m c.args.sum c.args.edges.now c.requires.edges_held c.args.closing c.if-open.false
    _ c.odd_nodes-count.result c.odd_nodes-count.ensures (λ e. omega (arith, c.if-no_pair.true))

pub apply_pair-requires : goal.apply_pair-requires
apply_pair-requires c =
    let below = node_below c.args.most c.args.number c.args.n c.args.m c.args.sum c.args.edges.now c.requires.edges_held c.args.closing c.if-open.false _ c.odd_nodes-count.result c.odd_nodes-count.ensures in
    record {
      from_lt_n = (omega (arith, below 0 (omega arith)), omega (arith, below 1 (omega arith)), c.requires.most_le_most_edges.0, c.requires.most_le_most_edges.1);
      edges_held = c.requires.edges_held;
    }

pub returns-in_err-last : goal.returns-in_err-last
unfolding of_bits
returns-in_err-last c =
    let passed : c.from_residual.result ≡ Err c.in_err-last.field-0.0 = grind arith in
    rw passed
    (answers_refused c.args.most c.args.number c.args.n c.args.m c.args.sum c.args.edges.now c.requires.edges_held c.args.closing c.if-open.false
    _ c.odd_nodes-count.result c.odd_nodes-count.ensures (omega arith) c.from-from.result c.from-to.result c.from-from.ensures c.from-to.ensures _ _ c.in_err-last.ensures.answer)

pub returns : goal.returns
unfolding of_bits
returns c =
    answers_joined c.args.most c.args.number c.args.n c.args.m c.args.sum c.args.edges.now c.requires.edges_held c.args.closing c.if-open.false
    _ c.odd_nodes-count.result c.odd_nodes-count.ensures (omega arith) c.from-from.result c.from-to.result c.from-from.ensures c.from-to.ensures _ _ c.in_ok-last.ensures.answer
