-- Where no entry was entered by the edge the line is the whole circuit, and else its two parts.
use Rattle.walk_cut.proofs.CutLaws.{cut_whole, cut_parts, parts_nodes}
use Rattle.walk_cut.proofs.cut.Goals as goal

pub returns-in_default-clause-line_after : goal.returns-in_default-clause-line_after
returns-in_default-clause-line_after c = cut_whole _ _ _ _ _ _ c.in_default.ensures c.whole.ensures.line_after

pub returns : goal.returns
returns c =
    let f = c.in-Some.ensures in
    record {
      line_after = cut_parts _ _ _ _ _ _ f.0 _ _ _ _ f.1 c.copy-n.ensures c.copy.ensures;
      nodes = parts_nodes _ _ _ _ _ _ f.0 _ _ _ _ f.1 c.copy-n.ensures c.copy.ensures;
    }
