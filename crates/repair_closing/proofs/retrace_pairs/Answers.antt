-- `repair_closing::retrace_pairs` meets its contract.
use mathlib.Core.Path.{◌≡◌, refl, sym, ap, ◌∙◌}
use mathlib.Core.Bool.{not, true≢false}
use native.Mathlib.Omega.{arith}
use lib.Ieee.{of_bits}
use borrow.Author.Tests.{eqb-true}
use Rattle.std.specs.Prelude.{Err}
use Rattle.repair_spec.specs.Distance.{zero_length}
use Rattle.repair_closing.proofs.Closing.{answers_nothing, close_refused, close_after}
use Rattle.repair_closing.proofs.retrace_pairs.Goals as goal
use Rattle.repair_closing.proofs.retrace_pairs.Goals.{then-not-closing, else-not-closing}

pub returns-then-nothing_left : goal.returns-then-nothing_left
unfolding of_bits
returns-then-nothing_left c =
    let p = c.args.pairs.now in
    elim c.if-not-closing.branch [
      | then-not-closing w ↦ answers_nothing c.args.most c.args.number c.args.n c.args.m zero_length c.args.edges.now c.requires.edges_held c.args.closing w.if-not-closing.true refl
          p.firsts p.seconds p.count (eqb-true p.count 0 (sym w.nothing_left-is ∙ c.if-nothing_left.true))
      | else-not-closing w ↦ absurd (true≢false (sym c.if-nothing_left.true ∙ w.nothing_left-is ∙ ap not w.if-not-closing.false))
    ]

pub apply_matching-requires : goal.apply_matching-requires
apply_matching-requires c = record {
  most_le_most_edges = (c.requires.most_le_most_edges.0, c.requires.most_le_most_edges.1, c.new-search.ensures c.args.n c.requires.edges_held.edges.few_nodes, c.requires.most_le_most_edges.2);
  edges_held = c.requires.edges_held;
}

pub returns-in_err-laid : goal.returns-in_err-laid
unfolding of_bits
returns-in_err-laid c =
    let passed : c.from_residual.result ≡ Err c.in_err-laid.field-0.0 = grind arith in
    rw passed (close_refused c.args.most c.args.number c.args.n c.args.closing _ _ _ c.in_err-laid.ensures.answer)

pub close-requires : goal.close-requires
close-requires c = record { most_le_most_edges = (c.requires.most_le_most_edges.0, c.apply_matching.ensures.kept); edges_held = c.in_ok-laid.ensures.answer.held }

pub returns : goal.returns
unfolding of_bits
returns c = close_after c.args.most c.args.number c.args.n c.args.closing _ _ _ c.in_ok-laid.ensures.answer c.close.result _ c.close.ensures
