-- The steps.
use mathlib.Core.Path.{◌≡◌, ap, ◌∙◌}
use mathlib.Core.List.{List}
use native.Mathlib.Omega.{arith}
use lib.ListN.{length, replicate, length-replicate}
use lib.Ieee.{Float, binary64, of_bits}
use Rattle.limits.specs.Limits.{most_nodes}
use Rattle.sums.proofs.Sum.{zero_nonneg, inf_nonneg}
use Rattle.repair_spec.specs.Distance.{infinity, zero_length}
use Rattle.repair_search.proofs.Searching.{progress_begin, progress_step, progress_far, progress_last, progress_touched}
use Rattle.repair_search.proofs.Touched.{listed_none, zero_below}
use Rattle.repair_search.proofs.Search.search_from.Goals as goal

long_none : (ds : List Float) → ds ≡ replicate most_nodes infinity → length ds ≡ most_nodes
long_none ds e = ap length e ∙ length-replicate most_nodes infinity

pub touch-count-requires : goal.touch-count-requires
touch-count-requires c =
    let U = c.requires.s_lt_n.1 in
    (c.requires.edges_held.edges.few_nodes, c.requires.s_lt_n.0, long_none c.args.self.now.dist U.none, rw U.none (listed_none c.args.n c.args.self.now.touched U.room))

pub store-requires : goal.store-requires
unfolding of_bits
store-requires c = (c.requires.edges_held.edges.few_nodes, c.requires.s_lt_n.0, c.requires.s_lt_n.1.tree, zero_nonneg binary64)

pub loop-round-init : goal.loop-round-init
unfolding of_bits
loop-round-init c = (
  c.touch-count.ensures zero_length zero_below,
  progress_begin c.args.n c.args.m c.args.edges.now c.requires.edges_held c.args.s c.requires.s_lt_n.0 c.args.self.now.dist c.args.self.now.tree.values c.args.self.now.touched c.requires.s_lt_n.1 _ c.store.ensures,
)

pub store-requires-in-loop-round : goal.store-requires-in-loop-round
unfolding of_bits
store-requires-in-loop-round c =
    (c.requires.edges_held.edges.few_nodes, c.least_at-u.ensures.0, c.relax-count.ensures.relaxed.held.tree, inf_nonneg binary64)

pub loop-round-preserved : goal.loop-round-preserved
unfolding of_bits
loop-round-preserved c = (
  c.relax-count.ensures.listed,
  progress_step c.args.n c.args.m c.args.edges.now c.requires.edges_held c.args.s c.requires.s_lt_n.0 c.loop-round.round c.loop-round.self.dist c.loop-round.self.tree.values c.loop-round.invariant.1
      c.args.goal c.distance_of-limit.result c.distance_of-limit.ensures c.if-not-nearer.false c.least_at-u.result c.least_at-u.ensures.0 c.least_at-u.ensures.1 _ _ c.relax-count.ensures.relaxed _ c.store-in-loop-round.ensures,
)

pub returns-after-loop-round : goal.returns-after-loop-round
returns-after-loop-round c =
    let P = c.loop-round.invariant in
    record {
      distances = progress_last c.args.n c.args.m c.args.edges.now c.requires.edges_held c.args.s c.requires.s_lt_n.0 c.loop-round.round _ _ P.1 (omega arith) c.args.goal;
      reached = progress_touched c.args.n c.args.m c.args.edges.now c.requires.edges_held c.args.s c.requires.s_lt_n.0 c.loop-round.round _ _ P.1 _ _ P.0;
    }

pub returns-then-not-nearer : goal.returns-then-not-nearer
returns-then-not-nearer c =
    let P = c.loop-round.invariant in
    record {
      distances = progress_far c.args.n c.args.m c.args.edges.now c.requires.edges_held c.args.s c.requires.s_lt_n.0 c.loop-round.round _ _ P.1 c.args.goal c.distance_of-limit.result c.distance_of-limit.ensures c.if-not-nearer.true;
      reached = progress_touched c.args.n c.args.m c.args.edges.now c.requires.edges_held c.args.s c.requires.s_lt_n.0 c.loop-round.round _ _ P.1 _ _ P.0;
    }
