-- The lines before are marked where they have points, and their ends are taken; the candidates before are written, and the others would be.
use Rattle.std.proofs.Common.{◌≡◌, map, replicate, take}
use Rattle.std.proofs.lemmas.List.Edits.{sets}
use Rattle.limits.specs.Limits.{most_links}
use Rattle.file_drawing.specs.Held.{no_link}
use Rattle.links_made.specs.Filled.{Marked, Ended, edge_in}
use Rattle.links_made.proofs.Drawn.{writing}
use Rattle.links_made.proofs.make_links.Given as goal

abbrev pub invariant-loop-l : goal.invariant-loop-l
invariant-loop-l l = Marked l.drawing.starts l.taken.has l.l × Ended l.drawing.starts l.drawing.xs l.drawing.ys l.taken.ends l.l

abbrev pub invariant-loop-j : goal.invariant-loop-j
invariant-loop-j l =
    let f = edge_in l.drawing.starts l.taken.ends in
    writing f l.found.candidates l.found.count l.links l.j ≡ sets (replicate most_links no_link) 0 (map f (take l.found.count l.found.candidates))
