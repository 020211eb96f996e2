-- The pairs that are kept are those that cost less.
use Rattle.graph_arrays.specs.Arrays.{nodes_in}
use Rattle.graph_arrays.proofs.NodeList.{nodes_most}
use Rattle.repair_spec.specs.PairsIn.{listed}
use Rattle.repair_greedy.specs.declared.Distances.{Distances}
use Rattle.repair_busy.proofs.Busy.{greedy_kept, near_taken}
use Rattle.repair_busy.proofs.choose_pairs.Goals as goal

pub place_nodes-requires : goal.place_nodes-requires
place_nodes-requires c = (c.requires.0, nodes_most _ _ _ _ c.requires.2 c.requires.1.few)

pub returns-then-no_dearer : goal.returns-then-no_dearer
returns-then-no_dearer c =
    let a = c.args in
    let D : Distances = record { table = a.table; places = c.place_nodes.result; size = a.count } in
    record {
      are = λ d T.
          greedy_kept (nodes_in a.n a.nodes.now.xs a.nodes.now.ys) a.odd.now D c.requires.2.long c.place_nodes.ensures d T c.requires.4
          (listed c.greedy_pairs.new.pairs) (listed c.nearest_pairs.new.pairs) c.pairs_cost-paid.result c.pairs_cost-asked.result
          c.greedy_pairs.ensures.0 c.nearest_pairs.ensures.0 c.pairs_cost-paid.ensures c.pairs_cost-asked.ensures c.if-no_dearer.true;
    }

pub returns : goal.returns
returns c =
    let a = c.args in
    let D : Distances = record { table = a.table; places = c.place_nodes.result; size = a.count } in
    record {
      are = λ d T.
          near_taken (nodes_in a.n a.nodes.now.xs a.nodes.now.ys) a.odd.now D c.requires.2.long c.place_nodes.ensures d T c.requires.4
          (listed c.greedy_pairs.new.pairs) (listed c.nearest_pairs.new.pairs) c.pairs_cost-paid.result c.pairs_cost-asked.result
          c.greedy_pairs.ensures.0 c.nearest_pairs.ensures.0 c.pairs_cost-paid.ensures c.pairs_cost-asked.ensures c.if-no_dearer.false;
    }
