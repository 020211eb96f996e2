use Rattle.links_made.proofs.Whole.{linkable_lines, linkable_starts, linkable_xs, linkable_ys, linked_held}
use Rattle.links_made.proofs.link_ends.Goals as goal

pub make_links-count-requires : goal.make_links-count-requires
make_links-count-requires c = let d = c.args.drawing in let L = c.requires in (linkable_lines d L, linkable_starts d L, linkable_xs d L, linkable_ys d L)

pub returns : goal.returns
returns c = let e = c.make_links-count.ensures in linked_held c.args.drawing c.requires _ _ e.0 e.1
