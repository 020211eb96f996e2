-- The moves of a drawing, read from its arrays and those of its filed links.
use Rattle.std.specs.Prelude.{List, ◌++◌, ℕ}
use Rattle.graph_moves.specs.Moves.{Move}
use Rattle.graph_splits.specs.Points.{Points}
use Rattle.graph_line.specs.Lines.{Filing}
use Rattle.graph_lines.specs.All.{lines_in, links_in}

-- the moves in the arrays: lines, then links
abbrev pub moves_in : Filing → Points → List ℕ → ℕ → ℕ → List Move
moves_in f ps starts lines links = lines_in f ps starts lines 0 ++ links_in f.ends links 0
