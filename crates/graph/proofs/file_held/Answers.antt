-- The first links of the array, filed as a slice of their own, are the first links of the list.
use Rattle.std.proofs.Common.{◌≤◌, List, length, sym, ap, subst, ◌∙◌, arith}
use Rattle.file_records.specs.declared.MstEdge.{MstEdge}
use Rattle.graph_filing.specs.Stored.{store_links, LinksFit}
use Rattle.graph.proofs.Part.{held_stored, part_fits}
use Rattle.graph.proofs.file_held.Goals as goal

pub file_lent-requires : goal.file_lent-requires
file_lent-requires c =
    let d = c.args.drawing.now in
    let within : d.link_count ≤ length d.links = omega arith in
    let fits = subst (λ (ms : List MstEdge). LinksFit d.starts ms (length ms)) (sym c.split_at.ensures.front) (part_fits d.starts d.link_count d.links within c.requires.1) in
    (omega arith, fits)

pub returns : goal.returns
returns c =
    let d = c.args.drawing.now in
    c.file_lent.ensures ∙ ap (λ (ms : List MstEdge). store_links d.starts ms (length ms) 0 c.args.ends.now) c.split_at.ensures.front
    ∙ held_stored d.starts d.link_count d.links c.args.ends.now (omega arith)
