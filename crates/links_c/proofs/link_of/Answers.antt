-- The drawing that is planned has at most 255 links, and the j-th is read where it has one.
use native.Mathlib.Omega.{arith}
use mathlib.Core.Path.{◌∙◌}
use Rattle.links_c.proofs.MadeLinks.{links_few, link_none, link_there}
use Rattle.links_c.proofs.link_of.Goals as goal

pub overflow_cast-links : goal.overflow_cast-links
overflow_cast-links c = omega (arith, links_few c.args.drawing c.requires c.to_plan-planned.result c.to_plan-planned.ensures)

pub returns-then-links-j : goal.returns-then-links-j
returns-then-links-j c = c.no_link.ensures ∙ link_none c.args.drawing c.requires c.to_plan-planned.result c.to_plan-planned.ensures _ (omega arith)

pub bounds-planned-j : goal.bounds-planned-j
bounds-planned-j c = omega (arith, links_few c.args.drawing c.requires c.to_plan-planned.result c.to_plan-planned.ensures)

pub returns : goal.returns
returns c = cc (link_there c.args.drawing c.requires c.to_plan-planned.result c.to_plan-planned.ensures _ c.if-links-j.false)
