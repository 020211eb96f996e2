-- The round by its steps.
use Rattle.repair_greedy.proofs.Rounds.{round_done}
use Rattle.repair_greedy.proofs.Working.pair_nearest.Goals as goal

pub returns : goal.returns
returns g c =
    let near = c.find_closest-near in
    let one = c.remove_place.ensures in
    let two = c.remove_place-2.ensures in
    round_done (g.C.Cost.cost c.args.costs.now) c.args.self.now.nodes _ _ _ _ _ c.args.self.now.left _ _ near.result.from near.result.to _ c.args.pairs.now _
    c.requires.0 c.requires.3.long near.ensures.3 near.ensures.0 c.push.ensures one.0 one.1 one.2 two.0 two.1 two.2
