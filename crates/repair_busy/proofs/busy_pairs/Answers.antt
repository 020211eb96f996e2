-- The table has the least distances between the odd nodes.
use Rattle.std.proofs.Common.{arith, rules}
use Rattle.repair_busy.proofs.Busy.{odd_nodes_lem, rows_numbers, busy_is}
use Rattle.repair_busy.proofs.busy_pairs.Goals as goal

pub fill_rows-requires-clause-listed : goal.fill_rows-requires-clause-listed
fill_rows-requires-clause-listed c =
    (odd_nodes_lem c.args.n c.args.m c.args.edges.now c.requires.edges c.args.odd.now c.args.count c.requires.listed.0, omega arith, omega (arith, c.requires.room.0))

pub choose_pairs-requires : goal.choose_pairs-requires
choose_pairs-requires c =
    let f = c.fill_rows in
    let a = c.args in
    let E = c.requires.edges in
    let F = c.requires.listed.0 in
    let room = c.requires.room.0 in
    (omega (arith, c.requires.listed.1), c.requires.nodes, odd_nodes_lem a.n a.m a.edges.now E a.odd.now a.count F, search rules, rows_numbers a.n a.m a.edges.now E a.odd.now a.count F f.new.table f.ensures, c.requires.room.1)

pub returns : goal.returns
returns c =
    let f = c.fill_rows in
    let a = c.args in
    busy_is a.n a.m a.edges.now c.requires.edges a.odd.now a.count c.requires.listed.0 f.new.table f.ensures _ _ c.choose_pairs.ensures
