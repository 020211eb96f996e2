-- `repair_search::Search::offer` meets its contract.
use mathlib.Core.Path.{◌≡◌, ap, ◌∙◌}
use mathlib.Core.Bool.{true}
use native.Mathlib.Omega.{arith}
use lib.Ieee.{nan, lt}
use Rattle.repair_spec.specs.Distance.{infinity, distance_at}
use Rattle.repair_search.proofs.OfferLaws.{offer_lower, offer_not}
use Rattle.lists.proofs.Elements.{get_d_inside}
use Rattle.repair_search.proofs.Touched.{below_infinity}
use Rattle.repair_search.proofs.Search.offer.Goals as goal

pub returns-then-cost-self : goal.returns-then-cost-self
returns-then-cost-self c =
    let p = c.requires.n_le_most_nodes in
    let s = c.args.self.now in
    let low : lt c.args.cost (distance_at s.dist c.args.v) ≡ true = ap (lt c.args.cost) (get_d_inside s.dist c.args.v infinity nan (omega arith)) ∙ c.if-cost-self.true in
    record {
      offered = offer_lower c.args.n c.args.v c.args.cost s.dist s.tree.values p.0 p.1 p.2 p.3 c.if-cost-self.true _ c.store.ensures;
      listed_2 = c.touch-more.ensures c.args.cost (below_infinity c.args.cost (distance_at s.dist c.args.v) p.3 (p.2.nonneg c.args.v) low);
    }

pub returns : goal.returns
returns c =
    let p = c.requires.n_le_most_nodes in
    record { offered = offer_not c.args.n c.args.v c.args.cost c.args.self.now.dist c.args.self.now.tree.values p.0 p.1 p.2 c.if-cost-self.false; listed_2 = c.requires.listed }
