-- The table has the least distances between the odd nodes, behind the room for the costs.
use Rattle.std.proofs.Common.{ℕ, ◌∙◌, subst, arith}
use Rattle.graph_arrays.specs.Arrays.{edges_in}
use Rattle.repair_table.proofs.Turns.{power_small}
use Rattle.repair_distances.specs.Rows.{Rows}
use Rattle.repair_busy.proofs.Busy.{odd_nodes_lem}
use Rattle.repair_pairs.proofs.Joined.{odd_four, optimal_is}
use Rattle.repair_pairs.proofs.optimal_of.Goals as goal

pub fill_rows-requires-clause-listed : goal.fill_rows-requires-clause-listed
fill_rows-requires-clause-listed c =
    let a = c.args in
    let is = c.power-base.ensures.0 in
    let room = c.requires.room.0 in
    (odd_nodes_lem a.n a.m a.edges.now c.requires.edges _ _ c.requires.listed.0, omega (arith, is, power_small a.count room.few), omega (arith, is, room.for_floats))

pub optimal_pairs-requires-clause-le_n : goal.optimal_pairs-requires-clause-le_n
optimal_pairs-requires-clause-le_n c =
    let a = c.args in
    let four = odd_four a.n a.m a.edges.now c.requires.edges a.odd.now a.count c.requires.listed.0 c.requires.listed.1 in
    (omega (arith, four.0), c.requires.room.0.few, four.1, c.requires.room.1)

pub returns : goal.returns
returns c =
    let a = c.args in
    let ws = c.fill_rows.new.table in
    let right = subst (λ (k : ℕ). Rows a.n (edges_in a.m a.edges.now) a.odd.now a.count k a.count ws) c.power-base.ensures.0 c.fill_rows.ensures in
    c.optimal_pairs.ensures ∙ optimal_is a.n a.m a.edges.now c.requires.edges a.odd.now a.count c.requires.listed.0 ws right
