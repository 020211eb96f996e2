-- Each way out of the reader is one case of the definition.
use Rattle.std.proofs.Common.{◌∙◌}
use Rattle.file_drawing.specs.Held.{no_link}
use Rattle.links_c.specs.MadeLinks.{with_link}
use Rattle.links_c.proofs.MadeLinks.{accepted_linkable, refused_link, accepted_link}
use Rattle.links_c.proofs.made_link.Goals as goal

pub link_of-requires : goal.link_of-requires
link_of-requires c = accepted_linkable c.args.file.now c.args.j c.read_into.new.drawing c.in-Ok.ensures

pub returns-in-Ok : goal.returns-in-Ok
returns-in-Ok c = accepted_link c.args.file.now c.args.j c.read_into.new.drawing c.in-Ok.ensures _ c.link_of.ensures

pub returns-in-Err : goal.returns-in-Err
returns-in-Err c = c.no_link.ensures ∙ (λ i. with_link ((c.from.ensures ∙ c.number.ensures) i) 0 no_link) ∙ refused_link c.args.file.now c.args.j c.in-Err.refusal c.in-Err.ensures
