-- `repair_sweep::Sweep::offer` meets its contract.
use mathlib.Core.Path.{refl}
use Rattle.repair_sweep.proofs.Along.{offer_lower, offer_not, offer_reaches}
use Rattle.repair_sweep.proofs.Sweep.offer.Goals as goal

pub touch-more-requires : goal.touch-more-requires
touch-more-requires c = (c.requires.0, c.requires.1, c.requires.3.long, c.requires.3.listed)

pub returns-then-cost-self : goal.returns-then-cost-self
returns-then-cost-self c = record {
  dist_after = offer_lower c.args.n c.args.v c.args.cost c.requires.2 _ _ c.args.count c.requires.3 c.requires.0 c.requires.1 c.if-cost-self.true;
  done_after = refl;
  listed = c.touch-more.ensures c.args.cost (offer_reaches c.args.n c.args.v c.args.cost c.requires.2 _ _ c.args.count c.requires.3 c.requires.0 c.requires.1 c.if-cost-self.true);
}

pub returns : goal.returns
returns c = record {
  dist_after = offer_not c.args.n c.args.v c.args.cost c.requires.2 _ _ c.args.count c.requires.3 c.requires.0 c.requires.1 c.if-cost-self.false;
  done_after = refl;
  listed = c.requires.3.listed;
}
