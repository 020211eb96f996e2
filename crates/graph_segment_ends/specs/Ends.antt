-- The ends of links by the segments that they split, in flat lists. Ends are numbered in link order, the first end of a link before its second; a segment by the place of its start among the points.
use Rattle.std.specs.Prelude.{List, ℕ, get_or, set, replicate}
use Rattle.limits.specs.Limits.{most_points, most_splits}
use Rattle.graph_segment_ends.specs.declared.SegmentEnds as code

-- `heads` has the newest end of each segment, `next` has for each end the next older one of its segment; most_splits is none
pub record Filed : Type 0 where
  pub heads : List ℕ
  pub next : List ℕ

abbrev pub filed : List ℕ → List ℕ → Filed
filed hs ns = record { heads = hs; next = ns }

-- with the end e of the segment g
unfoldable pub file_end : ℕ → ℕ → Filed → Filed
file_end e g t = filed (set t.heads g e) (set t.next e (get_or t.heads g 0))

-- ---- with their places

-- the newest end of each segment; of each end the next older one and its place
abbrev pub Store : Type 0
Store = code.SegmentEnds

abbrev pub store : List ℕ → List ℕ → List ℕ → List ℕ → Store
store hs ns xs ys = record { newest = hs; next = ns; xs = xs; ys = ys }

abbrev pub with_filed : Filed → List ℕ → List ℕ → Store
with_filed t xs ys = store t.heads t.next xs ys

abbrev pub none_filed : Store
none_filed = store (replicate most_points most_splits) (replicate most_splits most_splits) (replicate most_splits 0) (replicate most_splits 0)
