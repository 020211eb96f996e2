-- Nodes in flat lists, with buckets of nodes whose coordinates have one hash.
use Rattle.std.specs.Prelude.{ℕ, zero, suc, ◌+◌, ◌*◌, ◌/◌, ◌%◌, ◌<◌, ◌⊎◌, List, Bool, ◌&&◌, cond, get_or, set, replicate, eqb, ltb, Option, Some, None}
use Rattle.limits.specs.Limits.{most_nodes}
use Rattle.graph_nodes.specs.declared.Table as code

abbrev pub bucket_count : ℕ
bucket_count = 2048

-- The nodes in flat lists, as the code holds them.
abbrev pub Table : Type 0
Table = code.Table

abbrev pub table : List ℕ → List ℕ → List ℕ → List ℕ → Table
table xs ys ns bs = record { xs = xs; ys = ys; next = ns; buckets = bs }

abbrev pub no_nodes : Table
no_nodes = table (replicate most_nodes 0) (replicate most_nodes 0) (replicate most_nodes most_nodes) (replicate bucket_count most_nodes)

-- which bucket it is decides the time of a search, and no answer
unfoldable pub hash_of : ℕ → ℕ → ℕ
hash_of x y = (1565004953 * x + 1269492321 * y) / 2147483648 % bucket_count

-- whether node i is at x, y
abbrev pub is_at : List ℕ → List ℕ → ℕ → ℕ → ℕ → Bool
is_at xs ys x y i = eqb (get_or xs i 0) x && eqb (get_or ys i 0) y

-- the node at x, y that is found from the node i on, going to the next older one at most `fuel` times; most_nodes where there is none
unfoldable pub seek : ℕ → List ℕ → List ℕ → List ℕ → ℕ → ℕ → ℕ → ℕ
seek zero xs ys ns x y i = most_nodes
seek (suc fuel) xs ys ns x y i = cond (ltb i most_nodes) (cond (is_at xs ys x y i) i (seek fuel xs ys ns x y (get_or ns i 0))) most_nodes

-- a node by its number, where there is one
abbrev pub known : ℕ → Option ℕ
known i = cond (ltb i most_nodes) (Some i) None

-- among n nodes
abbrev pub found_in : ℕ → ℕ → ℕ → Table → ℕ
found_in n x y t = seek n t.xs t.ys t.next x y (get_or t.buckets (hash_of x y) 0)

-- with the new node n at x, y
unfoldable pub inserted : ℕ → ℕ → ℕ → Table → Table
inserted n x y t = table (set t.xs n x) (set t.ys n y) (set t.next n (get_or t.buckets (hash_of x y) 0)) (set t.buckets (hash_of x y) n)

-- the node is there already, or there is room for one more
abbrev pub HasRoom : ℕ → ℕ → ℕ → Table → Type 0
HasRoom n x y t = (found_in n x y t < most_nodes) ⊎ (n < most_nodes)

-- The number of the node at x, y, which is n where it is new.
unfoldable pub number_in : ℕ → ℕ → ℕ → Table → ℕ
unfolding seek hash_of
number_in n x y t = cond (ltb (found_in n x y t) most_nodes) (found_in n x y t) n

-- the table with it
unfoldable pub table_with : ℕ → ℕ → ℕ → Table → Table
unfolding seek inserted
table_with n x y t = cond (ltb (found_in n x y t) most_nodes) t (inserted n x y t)

-- how many nodes there are then, of which there were n
unfoldable pub count_with : ℕ → ℕ → ℕ
count_with n number = cond (eqb number n) (n + 1) n
