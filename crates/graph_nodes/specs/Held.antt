-- What it is for a table to hold the nodes of a list.
use Rattle.std.specs.Prelude.{cond, ◌≡◌, ◌⊎◌, List, map, ℕ, ◌≤◌, ◌<◌, length, get_or, replicate, ltb}
use Rattle.std.proofs.lemmas.List.Edits.{sets}
use Rattle.limits.specs.Limits.{most_nodes}
use Rattle.drawing_spec.specs.Drawing.{Point}
use Rattle.graph_spec.specs.Graph.{node_of}
use Rattle.graph_nodes.specs.Table.{Table, bucket_count, found_in}

-- a node below m, or none
abbrev pub Inside : ℕ → ℕ → Type 0
Inside m k = (k < m) ⊎ (most_nodes ≤ k)

-- the answer for p among the nodes ns
abbrev pub answer : List Point → Point → ℕ
answer ns p = cond (ltb (node_of ns p) (length ns)) (node_of ns p) most_nodes

-- the coordinates stand in order from the front, and a search finds each node, and no other point
pub record Held (t : Table) (ns : List Point) : Type 0 where
  pub room : length ns ≤ most_nodes
  pub xs_are : t.xs ≡ sets (replicate most_nodes 0) 0 (map (λ (p : Point). p.x) ns)
  pub ys_are : t.ys ≡ sets (replicate most_nodes 0) 0 (map (λ (p : Point). p.y) ns)
  pub next_long : length t.next ≡ most_nodes
  pub buckets_long : length t.buckets ≡ bucket_count
  pub next_inside : (j : ℕ) → j < length ns → Inside (length ns) (get_or t.next j 0)
  pub buckets_inside : (b : ℕ) → b < bucket_count → Inside (length ns) (get_or t.buckets b 0)
  pub found : (p : Point) (fuel : ℕ) → length ns ≤ fuel → found_in fuel p.x p.y t ≡ answer ns p
