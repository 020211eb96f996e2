-- The links that are made. Along the candidates in rank order each is kept whose two lines those kept before do not lead between yet; that the set is one that may be made is
-- proofs/Made: `made_allowed`. Which of several such sets it is, the order of its links and their direction are left open (docs/MADE-LINKS.md): they are fixed here because a file has one answer, and nobody may rely on which.
use Rattle.std.specs.Prelude.{List, map, true, false, ◌%◌}
use Rattle.drawing_spec.specs.Drawing.{Point, Settings, Link, linking, Drawing}
use Rattle.spanning.specs.Greedy.{kept, kept_of}
use Rattle.spanning.specs.Order.{sort}
use Rattle.links_spec.specs.Candidates.{Candidate, low_of, high_of, candidates, less, ranks_before, end_point, end_segment, line_at, low_point, high_point}

unfoldable pub made : List (List Point) → List Candidate
unfolding kept sort candidates less end_point
made ls = kept_of low_of high_of (sort (ranks_before ls) (candidates ls))

-- a candidate as a link, the lower line's end first
unfoldable pub as_link : List (List Point) → Candidate → Link
unfolding end_point end_segment
as_link ls k = record {
  first = record { line = k.low; segment = end_segment (line_at ls k.low) k.low_end; point = low_point ls k };
  second = record { line = k.high; segment = end_segment (line_at ls k.high) k.high_end; point = high_point ls k };
}

unfoldable pub made_links : List (List Point) → List Link
unfolding made as_link
made_links ls = map (as_link ls) (made ls)

-- a drawing with the links that are made for it
unfoldable pub linked : Drawing → Drawing
unfolding made_links
linked d = record { settings = d.settings; lines = d.lines; links = made_links d.lines }

-- the drawing that is planned: with links made for it where flag 4 asks for them, and else as it is
unfoldable pub to_plan : Drawing → Drawing
unfolding linked
to_plan d = elim (linking d.settings) [ true ↦ linked d | false ↦ d ]

-- what a file would say that held these links: they are links like any other, and flag 4 is gone
abbrev pub unflagged : Settings → Settings
unflagged s = record { width = s.width; height = s.height; pairing = s.pairing; flags = s.flags % 4 }

unfoldable pub held : Drawing → Drawing
unfolding made_links
held d = record { settings = unflagged d.settings; lines = d.lines; links = made_links d.lines }
