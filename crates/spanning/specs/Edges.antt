-- Edges between numbered vertices, and ways along them. An edge k lies between the vertices low k and high k, whatever else it is.
use Rattle.std.specs.Prelude.{◌≡◌, ◌⊎◌, List, Bool, true, ℕ, zero, suc, ◌+◌, ◌-◌, length}
use Rattle.lists.specs.Members.{In}
use Rattle.graph_spec.specs.Odd.{one}

-- how many numbers below n pass the test
unfoldable pub count : (ℕ → Bool) → ℕ → ℕ
count test zero = 0
count test (suc n) = one (test n) + count test n

module _ {A : Type 0} (low high : A → ℕ) where
  -- k lies between u and v, in either order
  abbrev pub Joins : A → ℕ → ℕ → Type 0
  Joins k u v = ((low k ≡ u) × (high k ≡ v)) ⊎ ((low k ≡ v) × (high k ≡ u))

  -- edges of ks lead from s to a vertex
  pub data Leads (ks : List A) (s : ℕ) : ℕ → Type 0 where
    here : Leads ks s s
    on : {u v : ℕ} (k : A) → Leads ks s u → In k ks → Joins k u v → Leads ks s v

-- The vertices are the numbers below n that pass the test; it is meant for tests that fail from n on. For m vertices there are m less 1 edges, none if m is 0, and by themselves they lead from each vertex to each other.
pub record Spans {A : Type 0} (low high : A → ℕ) (n : ℕ) (is_vertex : ℕ → Bool) (ks : List A) : Type 0 where
  pub size : length ks ≡ count is_vertex n - 1
  pub leads : (u v : ℕ) → is_vertex u ≡ true → is_vertex v ≡ true → Leads low high ks u v
