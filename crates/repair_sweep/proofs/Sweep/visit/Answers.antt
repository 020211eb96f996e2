-- `repair_sweep::Sweep::visit` meets its contract.
use mathlib.Core.Path.{◌≡◌}
use lib.ListN.{get_or}
use lib.Ieee.{nan}
use Rattle.repair_spec.specs.Distance.{distance_at}
use Rattle.repair_sweep.proofs.Sweeps.{read_distance, visit_nonneg, visit_looked, visit_goes_on}
use Rattle.repair_sweep.proofs.Sweep.visit.Goals as goal
use Rattle.repair_sweep.proofs.Sweep.visit.Goals.{Start}

-- what the code reads is the distance of u
is : (c : Start) → get_or c.args.self.now.dist c.args.u nan ≡ distance_at c.args.self.now.dist c.args.u
is c = read_distance c.args.n c.args.m c.args.edges.now c.requires.edges_held _ c.args.self.now.done c.args.self.now.touched c.args.count c.requires.u_lt_n.1 c.args.u c.requires.u_lt_n.0

pub look_along-requires : goal.look_along-requires
look_along-requires c = record {
  u_lt_n = (
    c.requires.u_lt_n.0,
    visit_nonneg c.args.n c.args.m c.args.edges.now c.requires.edges_held _ _ _ c.args.count c.requires.u_lt_n.1 c.args.u c.requires.u_lt_n.0 _ (is (goal.at.look_along-requires c).Start),
    c.requires.u_lt_n.1.reached,
  );
  edges_held = c.requires.edges_held;
}

pub returns-then-d-self : goal.returns-then-d-self
returns-then-d-self c =
    let K = c.requires.u_lt_n.1 in
    let e = is (goal.at.returns-then-d-self c).Start in
    let r = c.look_along.ensures in
    record {
      goes_on = rw r.done_after (visit_goes_on c.args.n c.args.m c.args.edges.now c.requires.edges_held _ _ _ c.args.count K c.args.u c.requires.u_lt_n.0 _ e _ r.dist_after c.if-d-self.true c.args.self.now.touched);
      looked = rw r.done_after (visit_looked c.args.n c.args.m c.args.edges.now c.requires.edges_held _ _ _ c.args.count K c.args.u c.requires.u_lt_n.0 _ e _ r.dist_after _ _ r.reached);
    }
