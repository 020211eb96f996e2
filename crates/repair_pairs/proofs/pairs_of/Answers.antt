-- The definition's cases, by the number of odd nodes and by the pairing.
use Rattle.std.proofs.Common.{◌∙◌, arith}
use Rattle.file_records.specs.Meaning.{settings_of}
use Rattle.graph_spec.specs.Odd.{odd_nodes}
use Rattle.graph_arrays.specs.Arrays.{edges_in, graph_in}
use Rattle.repair_busy.proofs.Busy.{odd_nodes_lem}
use Rattle.repair_pairs.proofs.Joined.{odd_four, greedy_is}
use Rattle.repair_pairs.proofs.Refusal.{room_left, room_busy}
use Rattle.repair_pairs.proofs.PairsLaws.{pairs_greedy, pairs_optimal, pairs_busy, pairs_none}
use Rattle.repair_pairs.proofs.pairs_of.Goals as goal

pub returns-then-count-le2 : goal.returns-then-count-le2
returns-then-count-le2 c =
    let a = c.args in
    pairs_none (graph_in a.n a.m a.nodes.now.xs a.nodes.now.ys a.edges.now) (settings_of a.settings) (odd_nodes a.n (edges_in a.m a.edges.now)) _ _ (omega (arith, c.requires.listed.counts, c.if-count-le2.true))

pub greedy_pairs-requires : goal.greedy_pairs-requires
greedy_pairs-requires c = let a = c.args in (c.requires.nodes, odd_nodes_lem a.n a.m a.edges.now c.requires.edges a.odd.now a.count c.requires.listed, c.requires.room.1)

pub returns-then-settings-ne-OPTIMAL : goal.returns-then-settings-ne-OPTIMAL
returns-then-settings-ne-OPTIMAL c =
    let a = c.args in
    c.greedy_pairs.ensures.0
    ∙ greedy_is a.n a.m a.edges.now c.requires.edges a.odd.now a.count c.requires.listed a.nodes.now.xs a.nodes.now.ys
    ∙ pairs_greedy a.n a.m a.nodes.now.xs a.nodes.now.ys a.edges.now (settings_of a.settings) (odd_nodes a.n (edges_in a.m a.edges.now)) c.if-settings-ne-OPTIMAL.true

pub busy_pairs-requires-clause-room : goal.busy_pairs-requires-clause-room
busy_pairs-requires-clause-room c = (room_busy (settings_of c.args.settings) _ _ _ c.if-settings-ne-OPTIMAL.false c.if-busy.true c.requires.room.0, c.requires.room.1)

pub returns-then-busy : goal.returns-then-busy
returns-then-busy c =
    let a = c.args in
    c.busy_pairs.ensures
    ∙ pairs_busy a.n a.m a.nodes.now.xs a.nodes.now.ys a.edges.now (settings_of a.settings) (odd_nodes a.n (edges_in a.m a.edges.now)) c.if-settings-ne-OPTIMAL.false (omega (arith, c.requires.listed.counts, c.if-busy.true))

pub optimal_of-requires-clause-room : goal.optimal_of-requires-clause-room
optimal_of-requires-clause-room c =
    let a = c.args in
    let four = odd_four a.n a.m a.edges.now c.requires.edges a.odd.now a.count c.requires.listed c.if-count-le2.false in
    (room_left (settings_of a.settings) _ _ _ c.if-settings-ne-OPTIMAL.false four.0 c.if-busy.false c.requires.room.0, c.requires.room.1)

pub returns : goal.returns
returns c =
    let a = c.args in
    c.optimal_of.ensures
    ∙ pairs_optimal a.n a.m a.nodes.now.xs a.nodes.now.ys a.edges.now (settings_of a.settings) (odd_nodes a.n (edges_in a.m a.edges.now)) c.if-settings-ne-OPTIMAL.false (omega (arith, c.requires.listed.counts, c.if-busy.false))
