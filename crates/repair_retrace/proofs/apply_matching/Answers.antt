-- The steps.
use mathlib.Core.Path.{◌≡◌}
use native.Mathlib.Omega.{arith}
use Rattle.std.specs.Prelude.{Err}
use Rattle.repair_retrace.proofs.Matching.{applying_begin, applying_refused, applying_step, applying_end}
use Rattle.repair_retrace.proofs.apply_matching.Goals as goal

pub loop-i-init : goal.loop-i-init
loop-i-init c =
    let p = c.args.pairs.now in
    (c.requires.most_le_most_edges.2, applying_begin c.args.most c.args.number c.args.n p.firsts p.seconds p.count c.args.m c.args.sum c.args.edges.now c.requires.edges_held)

pub apply_pair-requires-clause-from_lt_n : goal.apply_pair-requires-clause-from_lt_n
apply_pair-requires-clause-from_lt_n c =
    let p = c.requires.most_le_most_edges.3.among c.loop-i.i c.loop-i-test.true in
    (omega (arith, p.0), omega (arith, p.1), c.requires.most_le_most_edges.0, c.loop-i.invariant.0)

pub returns-in_err-laid-clause-answer : goal.returns-in_err-laid-clause-answer
returns-in_err-laid-clause-answer c =
    let p = c.args.pairs.now in
    let passed : c.from_residual.result ≡ Err c.in_err-laid.field-0.0 = grind arith in
    rw passed
    (applying_refused c.args.most c.args.number c.args.n p.firsts p.seconds p.count _ c.loop-i.edges c.loop-i.i c.loop-i.laid.edges c.loop-i.laid.sum c.loop-i.invariant.1
    c.loop-i-test.true c.from-from.result c.from-to.result c.from-from.ensures c.from-to.ensures _ _ c.in_err-laid.ensures.answer)

pub loop-i-preserved : goal.loop-i-preserved
loop-i-preserved c =
    let p = c.args.pairs.now in (
      c.apply_pair.ensures.kept,
      applying_step c.args.most c.args.number c.args.n p.firsts p.seconds p.count _ c.loop-i.edges c.loop-i.i c.loop-i.laid.edges c.loop-i.laid.sum c.loop-i.invariant.1
          c.loop-i-test.true c.from-from.result c.from-to.result c.from-from.ensures c.from-to.ensures _ _ c.in_ok-laid.ensures.answer,
    )

pub returns-clause-answer : goal.returns-clause-answer
returns-clause-answer c =
    let p = c.args.pairs.now in
    applying_end c.args.most c.args.number c.args.n p.firsts p.seconds p.count _ c.loop-i.edges c.loop-i.i c.loop-i.laid.edges c.loop-i.laid.sum c.loop-i.invariant.1 (omega arith)
