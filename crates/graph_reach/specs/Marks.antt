-- Marked nodes, in a queue in the order in which they were marked.
use Rattle.std.specs.Prelude.{◌≡◌, List, [], ◌∷◌, map, Bool, true, false, cond, ℕ, suc, ◌+◌, ◌≤◌, ◌<◌, length, get_or, set}
use Rattle.limits.specs.Limits.{most_nodes}
use Rattle.graph_spec.specs.Graph.{Edge, Arc, edges_at}
use Rattle.graph_reach.specs.declared.Marks as code

-- which nodes are marked, the nodes in the order in which they were, and how many of these there are
abbrev pub Marks : Type 0
Marks = code.Marks

abbrev pub marks : List Bool → List ℕ → ℕ → Marks
marks ms q n = record { marked = ms; queue = q; tail = n }

abbrev pub Marked : Marks → ℕ → Type 0
Marked s v = get_or s.marked v false ≡ true

-- with v marked, and last in the queue
abbrev pub with : ℕ → Marks → Marks
with v s = marks (set s.marked v true) (set s.queue s.tail v) (s.tail + 1)

-- v is marked, unless it is already
unfoldable pub marking : ℕ → Marks → Marks
marking v s = cond (get_or s.marked v false) s (with v s)

unfoldable pub mark_all : List ℕ → Marks → Marks
mark_all [] s = s
mark_all (w ∷ ws) s = mark_all ws (marking w s)

-- the nodes that v is joined with, in document 01's order of its edges
abbrev pub targets_of : List Edge → ℕ → List ℕ
targets_of es v = map (λ (r : Arc). r.to) (edges_at es v)

-- ---- there is room in the queue for every node that is not marked

-- how many nodes are not marked
unfoldable pub free : List Bool → ℕ
free [] = 0
free (true ∷ ms) = free ms
free (false ∷ ms) = suc (free ms)

pub record Tidy (s : Marks) : Type 0 where
  pub marked_long : length s.marked ≡ most_nodes
  pub queue_long : length s.queue ≡ most_nodes
  pub room : s.tail + free s.marked ≤ most_nodes
  pub queued : (j : ℕ) → j < s.tail → Marked s (get_or s.queue j 0)
