-- What Hierholzer's paper of 1873 is about: a line that goes along every edge of a graph, and along none twice. It closes where no node is odd; otherwise two nodes are, and it
-- runs from one of them to the other.
use Rattle.std.specs.Prelude.{ℕ, ◌<◌, ◌≡◌, ◌⊎◌, List, [], ◌∷◌, map, length, get_or}
use Rattle.std.specs.Float.{nan}
use Rattle.graph_spec.specs.Graph.{Edge, edge}
use Rattle.graph_spec.specs.Odd.{hit, odd_nodes}
use Rattle.graph_spec.specs.Count.{sum_over}
use Rattle.graph_spec.specs.Ways.{Joins}

-- A step goes along the edge with a number, which is the edge's place in the list of edges, to a node.
pub record Step : Type 0 where
  pub number : ℕ
  pub to : ℕ

-- the step can be made from u: there is an edge with its number, and this joins u and the node that the step goes to, in either direction
pub record Along (es : List Edge) (u : ℕ) (s : Step) : Type 0 where
  pub is_edge : s.number < length es
  pub joins : Joins (get_or es s.number (edge 0 0 nan)) u s.to

-- the steps lead from u to v: the first begins at u, each later one where the one before it ended, and the last ends at v
abbrev pub Leads : List Edge → ℕ → List Step → ℕ → Type 0
Leads es u [] v = u ≡ v
Leads es u (s ∷ ss) v = Along es u s × Leads es s.to ss v

-- how often the steps go along the edge with the number i
abbrev pub times : ℕ → List Step → ℕ
times i ss = sum_over (λ (s : Step). hit s.number i) ss

-- of a graph with n nodes and the edges es
pub record EulerLine (n : ℕ) (es : List Edge) (line : List ℕ) : Type 0 where
  pub first : ℕ
  pub steps : List Step
  pub last : ℕ
  pub is : line ≡ first ∷ map (λ (s : Step). s.to) steps
  pub is_node : first < n
  pub leads : Leads es first steps last
  -- every edge once, by its number
  pub once : (i : ℕ) → i < length es → times i steps ≡ 1
  -- no node is odd and the line is closed, or its two ends are the odd nodes
  pub ends : ((odd_nodes n es ≡ []) × (first ≡ last)) ⊎ ((odd_nodes n es ≡ first ∷ last ∷ []) ⊎ (odd_nodes n es ≡ last ∷ first ∷ []))
