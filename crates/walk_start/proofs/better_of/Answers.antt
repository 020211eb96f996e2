-- The comparison of the two nodes' points is the definition's.
use mathlib.Core.Path.{sym, ◌∙◌}
use Rattle.file_records.specs.Meaning.{settings_of}
use Rattle.walk_start.proofs.Chosen.{held_on, better_yes, better_no}
use Rattle.walk_start.proofs.better_of.Goals as goal

pub lies_better-better-requires : goal.lies_better-better-requires
lies_better-better-requires c = record {
  sides = c.requires.sides;
  points = (held_on _ _ _ _ _ c.requires.nodes c.point_of.ensures, held_on _ _ _ _ _ c.requires.nodes c.point_of-2.ensures);
}

pub returns-then-better : goal.returns-then-better
returns-then-better c = record {
  value =
      better_yes (settings_of c.args.settings) c.args.n c.args.nodes.now.xs c.args.nodes.now.ys _ _ _ _ c.requires.two.0 c.requires.two.1
      c.point_of.ensures c.point_of-2.ensures (sym c.lies_better-better.ensures ∙ c.if-better.true);
  upper_bound = c.requires.two.1;
}

pub returns-else-better : goal.returns-else-better
returns-else-better c = record {
  value =
      better_no (settings_of c.args.settings) c.args.n c.args.nodes.now.xs c.args.nodes.now.ys _ _ _ _ c.requires.two.0 c.requires.two.1
      c.point_of.ensures c.point_of-2.ensures (sym c.lies_better-better.ensures ∙ c.if-better.false);
  upper_bound = c.requires.two.0;
}
