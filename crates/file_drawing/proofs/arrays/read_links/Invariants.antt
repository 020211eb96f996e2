-- The loop keeps `Linking`.
use Rattle.file_drawing.proofs.LinksLaws.{Linking}
use Rattle.file_drawing.proofs.arrays.read_links.Given as goal

abbrev pub invariant-loop-link : goal.invariant-loop-link
invariant-loop-link l = Linking l.file l.start l.count l.at l.link l.edges
