-- The line stays as it is, or what stands in front of the rest is turned.
use mathlib.Core.Path.{sym, ◌∙◌}
use Rattle.file_records.specs.Meaning.{settings_of}
use Rattle.walk_orient.proofs.Turned.{turned_empty, ends_on, turned_kept, turned_round, front_is}
use Rattle.walk_orient.proofs.orient_path.Goals as goal

pub returns-in_default-clause-count_after : goal.returns-in_default-clause-count_after
returns-in_default-clause-count_after c =
    turned_empty (settings_of c.args.settings) c.args.n c.args.nodes.now.xs c.args.nodes.now.ys c.args.line.now c.args.count _ c.end_points.ensures c.in_default.is

pub lies_better-turn-requires-clause-points : goal.lies_better-turn-requires-clause-points
lies_better-turn-requires-clause-points c =
    let on = ends_on (settings_of c.args.settings) c.args.n c.args.nodes.now.xs c.args.nodes.now.ys c.args.line.now c.args.count _ c.end_points.ensures _ _ c.in-Some.is c.requires.nodes in
    (on.1, on.0)

pub returns-then-turn-clause-count_after : goal.returns-then-turn-clause-count_after
returns-then-turn-clause-count_after c =
    turned_round (settings_of c.args.settings) c.args.n c.args.nodes.now.xs c.args.nodes.now.ys c.args.line.now c.args.count _ c.end_points.ensures _ _ c.in-Some.is _
    (front_is c.args.line.now _ _ _ c.requires.line.long c.reverse.ensures.len c.reverse.ensures.after) (sym c.lies_better-turn.ensures ∙ c.if-turn.true)

pub returns-else-turn-clause-count_after : goal.returns-else-turn-clause-count_after
returns-else-turn-clause-count_after c =
    turned_kept (settings_of c.args.settings) c.args.n c.args.nodes.now.xs c.args.nodes.now.ys c.args.line.now c.args.count _ c.end_points.ensures _ _ c.in-Some.is
    (sym c.lies_better-turn.ensures ∙ c.if-turn.false)
