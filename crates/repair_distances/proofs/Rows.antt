-- Laws of specs/Rows.
use mathlib.Core.Path.{◌≡◌, refl, sym, ap, ◌∙◌}
use mathlib.Core.List.{List}
use Prim.Native.Nat.{ℕ, suc, ◌+◌, ◌*◌, ◌≤◌, ◌<◌}
use native.Mathlib.Nat.{mul-le-mul_right}
use native.Mathlib.Decide.{ℕ_discrete}
use native.Mathlib.Omega.{arith}
use lib.ListN.{length, get_or, set}
use lib.Seq.{get_or-set_same, get_or-set_other}
use lib.Ieee.{Float, nan}
use Rattle.limits.specs.Limits.{most_nodes}
use Rattle.lists.proofs.Elements.{get_d_inside}
use Rattle.graph_spec.specs.Graph.{Edge}
use Rattle.graph_adjacency.specs.Lists.{Adjacency}
use Rattle.graph_arrays.specs.Arrays.{edges_in, EdgesHeld}
use Rattle.graph_arrays.specs.NodeList.{NodeList}
use Rattle.repair_spec.specs.Distance.{infinity, distance_at, distances}
use Rattle.repair_search.specs.Search.{Found}
use Rattle.repair_search.proofs.Searching.{all_same}
use Rattle.repair_distances.specs.Rows.{Copied, SameBefore, Row, Rows}

pub copied_none : (at : List Float) (odd : List ℕ) (start : ℕ) (ws : List Float) → Copied at odd 0 start ws ws
copied_none at odd start ws = record { row = λ j h. absurd (omega arith); before = λ k h. refl }

pub copied_turn : (at : List Float) (odd : List ℕ) (j start v : ℕ) (ws₀ ws : List Float) → v ≡ get_or odd j 0 → start + j < length ws
    → Copied at odd j start ws₀ ws → Copied at odd (j + 1) start ws₀ (set ws (start + j) (get_or at v nan))
copied_turn at odd j start v ws₀ ws e h C = record {
  row = λ i l. elim (ℕ_discrete i j) [
    | yes s ↦ rw s (get_or-set_same ws (start + j) (get_or at v nan) nan h ∙ ap (λ (u : ℕ). get_or at u nan) e)
    | no d ↦ get_or-set_other ws (start + j) (start + i) (get_or at v nan) nan (λ z. d (omega arith)) ∙ C.row i (omega arith)
  ];
  before = λ k l. get_or-set_other ws (start + j) k (get_or at v nan) nan (λ z. omega arith) ∙ C.before k l;
}

-- what is copied to the row of the place i leaves what stands before it
pub copied_before : (at : List Float) (odd : List ℕ) (count base i start : ℕ) (ws₀ ws : List Float) → start ≡ base + i * count → Copied at odd count start ws₀ ws → SameBefore count base i ws₀ ws
copied_before at odd count base i start ws₀ ws st C = record { same = λ k l. C.before k (omega arith) }

pub row_is : (n m : ℕ) (a : Adjacency) (odd : List ℕ) (count base i s start : ℕ) (at ws₀ ws : List Float) → EdgesHeld n m a → i < count → NodeList n most_nodes odd count
    → s ≡ get_or odd i 0 → start ≡ base + i * count → Found (edges_in m a) s most_nodes at → Copied at odd count start ws₀ ws → Row n (edges_in m a) odd count base i ws₀ ws
row_is n m a odd count base i s start at ws₀ ws E h nodes is st F C = record {
  right = λ j l.
      ap (λ (q : ℕ). get_or ws (q + j) nan) (sym st) ∙ C.row j l
      ∙ get_d_inside at (get_or odd j 0) nan infinity (omega (arith, nodes.nodes_in_known j l, F.long, E.edges.few_nodes))
      ∙ all_same (edges_in m a) s most_nodes at F n E.edges.inside E.searchable.weights (omega (arith, nodes.nodes_in_known i h)) (omega arith) (get_or odd j 0)
      ∙ ap (λ (u : ℕ). distance_at (distances n (edges_in m a) u) (get_or odd j 0)) is;
  before = copied_before at odd count base i start ws₀ ws st C;
}

pub rows_none : (n : ℕ) (es : List Edge) (odd : List ℕ) (count base : ℕ) (ws : List Float) → Rows n es odd count base 0 ws
rows_none n es odd count base ws a j h l = absurd (omega arith)

-- an earlier row ends before a later one
earlier : (count base a i j : ℕ) → a < i → j < count → base + a * count + j < base + i * count
earlier count base a i j h l = omega (arith, mul-le-mul_right {m = suc a} {n = i} count h)

-- a change behind the first i rows leaves them
pub rows_kept : (n : ℕ) (es : List Edge) (odd : List ℕ) (count base i : ℕ) (ws ws' : List Float) → SameBefore count base i ws ws' → Rows n es odd count base i ws → Rows n es odd count base i ws'
rows_kept n es odd count base i ws ws' B S a j h l = B.same (base + a * count + j) (earlier count base a i j h l) ∙ S a j h l

pub rows_turn : (n : ℕ) (es : List Edge) (odd : List ℕ) (count base i : ℕ) (ws ws' : List Float) → Row n es odd count base i ws ws' → Rows n es odd count base i ws → Rows n es odd count base (i + 1) ws'
rows_turn n es odd count base i ws ws' R S a j h l = elim (ℕ_discrete a i) [
  | yes e ↦ rw e (R.right j l)
  | no d ↦ rows_kept n es odd count base i ws ws' R.before S a j (omega arith) l
]

-- a row ends where the table does, or before
pub row_ends : (count i : ℕ) → i < count → i * count + count ≤ count * count
row_ends count i h = omega (arith, mul-le-mul_right {m = suc i} {n = count} count h)

pub square_small : (count : ℕ) → count ≤ most_nodes → count * count ≤ 2353156
square_small count h = omega (arith, mul-le-mul_right {m = count} {n = 1534} count h)
