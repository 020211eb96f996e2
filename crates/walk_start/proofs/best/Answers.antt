-- Each candidate is compared with the best before it.
use native.Mathlib.Omega.{arith}
use Rattle.file_records.specs.Meaning.{settings_of}
use Rattle.graph_arrays.specs.Arrays.{nodes_in}
use Rattle.walk_start.proofs.Chosen.{chosen_none, chosen_first, chosen_next, chosen_all}
use Rattle.walk_start.proofs.best.Goals as goal

pub returns-then-count-eq0 : goal.returns-then-count-eq0
returns-then-count-eq0 c =
    record { value = chosen_none (settings_of c.args.settings) (nodes_in c.args.n c.args.nodes.now.xs c.args.nodes.now.ys) _ _ _ c.requires.list c.if-count-eq0.true; upper_bound = c.requires.some }

pub loop-i-init : goal.loop-i-init
loop-i-init c =
    chosen_first (settings_of c.args.settings) (nodes_in c.args.n c.args.nodes.now.xs c.args.nodes.now.ys) _ _ _ c.requires.list _ (omega arith) c.from-v.ensures

pub better_of-v-requires : goal.better_of-v-requires
better_of-v-requires c = record {
  sides = c.requires.sides;
  two = (c.loop-i.invariant.node_in, omega (arith, c.from-u.ensures, c.requires.list.nodes_in_known _ c.loop-i-test.true));
  nodes = c.requires.nodes;
}

pub loop-i-preserved : goal.loop-i-preserved
loop-i-preserved c =
    chosen_next (settings_of c.args.settings) (nodes_in c.args.n c.args.nodes.now.xs c.args.nodes.now.ys) _ _ _ c.requires.list _ _ _ _ c.loop-i-test.true
    c.from-u.ensures c.better_of-v.ensures.value c.better_of-v.ensures.upper_bound c.loop-i.invariant

pub returns : goal.returns
returns c = record {
  value = chosen_all (settings_of c.args.settings) (nodes_in c.args.n c.args.nodes.now.xs c.args.nodes.now.ys) _ _ _ c.requires.list _ _ c.loop-i-test.false c.loop-i.invariant;
  upper_bound = c.loop-i.invariant.node_in;
}
