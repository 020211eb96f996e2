-- One link after the other.
use Rattle.file_drawing.proofs.LinksLaws.{link_start, link_on, link_end}
use Rattle.file_drawing.proofs.arrays.read_links.Goals as goal

pub loop-link-init : goal.loop-link-init
loop-link-init c = link_start c.args.file.now c.args.start c.args.count c.no_link-edges.result c.requires c.no_link-edges.ensures

pub loop-link-preserved : goal.loop-link-preserved
loop-link-preserved c = link_on c.args.file.now c.args.start c.args.count c.loop-link.at c.loop-link.link c.loop-link.edges c.loop-link.invariant c.loop-link-test.true _ c.link_of.ensures _ c.place_behind-at.ensures

pub returns : goal.returns
returns c = link_end c.args.file.now c.args.start c.args.count c.loop-link.at c.loop-link.link c.loop-link.edges c.loop-link.invariant c.loop-link-test.false
