-- The row has the distances that the sweeps found, if they came to their end.
use Rattle.std.proofs.Common.{refl, arith}
use Rattle.graph_arrays.proofs.NodeList.{nodes_most}
use Rattle.repair_distances.proofs.Rows.{copied_before, row_is, row_ends, square_small}
use Rattle.repair_distances.proofs.sweep_row.Goals as goal

pub sweep_from-swept-requires-clause-s_lt_n : goal.sweep_from-swept-requires-clause-s_lt_n
sweep_from-swept-requires-clause-s_lt_n c = (omega (arith, c.requires.listed.0.nodes_in_known c.args.i c.requires.listed.1, c.from-s.ensures), c.requires.sweeps)

pub overflow_mul-start : goal.overflow_mul-start
overflow_mul-start c = omega (arith, row_ends c.args.count c.args.i c.requires.listed.1, square_small c.args.count c.requires.listed.0.fits)

pub overflow_add-start : goal.overflow_add-start
overflow_add-start c = omega (arith, row_ends c.args.count c.args.i c.requires.listed.1, square_small c.args.count c.requires.listed.0.fits, c.requires.listed.2)

pub copy_row-requires : goal.copy_row-requires
copy_row-requires c =
    (omega (arith, row_ends c.args.count c.args.i c.requires.listed.1, c.requires.listed.3), nodes_most _ _ _ _ c.requires.listed.0 c.requires.edges.edges.few_nodes)

pub returns-clause-row : goal.returns-clause-row
returns-clause-row c = λ t.
    row_is _ c.args.m c.args.edges.now _ _ _ _ c.from-s.result _ _ _ _ c.requires.edges c.requires.listed.1 c.requires.listed.0 c.from-s.ensures refl (c.sweep_from-swept.ensures.distances t) c.copy_row.ensures

pub returns-clause-before : goal.returns-clause-before
returns-clause-before c = copied_before _ c.args.odd.now c.args.count c.args.base c.args.i _ _ _ refl c.copy_row.ensures
