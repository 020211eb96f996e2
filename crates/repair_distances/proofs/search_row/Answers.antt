-- The row has the distances that the search found.
use Rattle.std.proofs.Common.{refl, arith}
use Rattle.graph_arrays.proofs.NodeList.{nodes_most}
use Rattle.repair_distances.proofs.Rows.{row_is, row_ends, square_small}
use Rattle.repair_distances.proofs.search_row.Goals as goal

pub search_from-reached-requires-clause-s_lt_n : goal.search_from-reached-requires-clause-s_lt_n
search_from-reached-requires-clause-s_lt_n c = (omega (arith, c.requires.listed.0.nodes_in_known c.args.i c.requires.listed.1, c.from-s.ensures), c.requires.search)

pub overflow_mul-start : goal.overflow_mul-start
overflow_mul-start c = omega (arith, row_ends c.args.count c.args.i c.requires.listed.1, square_small c.args.count c.requires.listed.0.fits)

pub overflow_add-start : goal.overflow_add-start
overflow_add-start c = omega (arith, row_ends c.args.count c.args.i c.requires.listed.1, square_small c.args.count c.requires.listed.0.fits, c.requires.listed.2)

pub copy_row-requires : goal.copy_row-requires
copy_row-requires c =
    (omega (arith, row_ends c.args.count c.args.i c.requires.listed.1, c.requires.listed.3), nodes_most _ _ _ _ c.requires.listed.0 c.requires.edges.edges.few_nodes)

pub returns-clause-row : goal.returns-clause-row
returns-clause-row c =
    row_is _ c.args.m c.args.edges.now _ _ _ _ c.from-s.result _ _ _ _ c.requires.edges c.requires.listed.1 c.requires.listed.0 c.from-s.ensures refl c.search_from-reached.ensures.distances c.copy_row.ensures
