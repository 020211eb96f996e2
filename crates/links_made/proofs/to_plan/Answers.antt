use Rattle.links_made.proofs.Planned.{planned_linked, planned_kept}
use Rattle.links_made.proofs.to_plan.Goals as goal

pub returns-then-asked : goal.returns-then-asked
returns-then-asked c = planned_linked c.args.drawing c.requires _ _ c.asked.ensures c.if-asked.true c.link_ends.ensures

pub returns-else-asked : goal.returns-else-asked
returns-else-asked c = planned_kept c.args.drawing c.requires _ c.asked.ensures c.if-asked.false
