-- The moves of lines whose points stand in flat lists, a segment after the other.
use Rattle.std.specs.Prelude.{true, false, List, [], ◌∷◌, ℕ, ◌+◌, ◌-◌, get_or, ltb}
use Rattle.drawing_spec.specs.Drawing.{Point}
use Rattle.graph_splits.specs.Next.{at}
use Rattle.graph_splits.specs.Points.{Points, points, point_in}
use Rattle.graph_segment_ends.specs.Ends.{Store}
use Rattle.file_drawing.specs.Back.{points_back}
use Rattle.graph_moves.specs.Moves.{Move, start, line_moves}
use Rattle.graph_strokes.specs.Step.{Traced}
use Rattle.graph_chain.specs.Along.{Traceable}
use Rattle.graph_line.specs.Follow.{chain_from}

-- the ends of links, filed by segment: of each its place, the next older one, and the newest of each segment
pub record Filing : Type 0 where
  pub ends : Points
  pub next : List ℕ
  pub newest : List ℕ

abbrev pub filing : Points → List ℕ → List ℕ → Filing
filing k ns hs = record { ends = k; next = ns; newest = hs }

-- as the code holds them
abbrev pub filing_from : Store → Filing
filing_from s = filing (points s.xs s.ys) s.next s.newest

-- the chain of the segment at place g
abbrev pub chains_of : Filing → ℕ → Point → Point → List Point
chains_of f g a b = chain_from f.ends f.next (get_or f.newest g 0) a b

-- the moves of a line from its point g on, whose points end before `stop`
abbrev pub segments_from : Filing → Points → ℕ → ℕ → List Move
segments_from f ps stop g = line_moves (chains_of f) g (point_in ps g) (points_back (stop - (g + 1)) (g + 1) ps.xs ps.ys)

-- of the whole line from the place `first`; an empty line has none
unfoldable pub line_in : Filing → Points → ℕ → ℕ → List Move
line_in f ps first stop = elim (ltb first stop) [ true ↦ start (point_in ps first) ∷ segments_from f ps stop first | false ↦ [] ]

-- ---- moves that begin anew, wherever the walk is

-- where such moves go on from: the first move begins anew, so this point is never used
abbrev pub anywhere : Point
anywhere = at 0 0

-- wherever the walk is, the moves can be traced
pub record Ready (ms : List Move) (s : Traced) : Type 0 where
  pub place : Point
  pub traceable : Traceable place ms s
