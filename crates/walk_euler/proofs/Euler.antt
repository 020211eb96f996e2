-- Laws of specs/Euler.
use mathlib.Core.Path.{◌≡◌, sym, ap, ◌∙◌}
use mathlib.Core.List.{List, [], ◌∷◌, ◌++◌}
use Prim.Native.Nat.{ℕ, ◌+◌, ◌-◌, ◌<◌}
use native.Mathlib.Numerals.{add-one}
use lib.ListN.{length, get_or}
use Rattle.limits.specs.Limits.{edge_room, line_room}
use Rattle.drawing_spec.specs.Drawing.{Point, Settings}
use Rattle.graph_spec.specs.Graph.{Edge, edge}
use Rattle.graph_spec.specs.Odd.{odd_nodes}
use Rattle.repair_spec.specs.Distance.{zero_length}
use Rattle.walk_spec.specs.Walk.{Entry, circuit, nodes_of}
use Rattle.walk_spec.specs.VirtualStep.{cut_at}
use Rattle.walk_spec.specs.Start.{best, with_edges}
use Rattle.walk_spec.specs.Line.{euler}
use Rattle.graph_adjacency.specs.Lists.{Adjacency, push}
use Rattle.graph_arrays.specs.Arrays.{EdgesLinked, edges_in}
use Rattle.graph_arrays.proofs.Arrays.{edges_count, pushed_edges, pushed_linked}
use Rattle.walk_circuit.specs.Entries.{entries_from}
use Rattle.walk_cut.specs.Copy.{nodes_from}
use Rattle.walk_cut.specs.Cut.{cut_line}
use Rattle.walk_cut.proofs.CutLaws.{entries_nodes}
use Rattle.walk_euler.specs.Euler.{closed_line, open_line}

pub closed_is : (m : ℕ) (a : Adjacency) (s : ℕ) (nodes bys : List ℕ) (first : ℕ) → entries_from first nodes bys ≡ circuit (edges_in m a) s
    → nodes_from first nodes ≡ closed_line s (edges_in m a)
closed_is m a s nodes bys first w = sym (entries_nodes nodes bys (line_room - first) first) ∙ ap nodes_of w

-- with the virtual edge
module _ (n m u v : ℕ) (a a' : Adjacency) (L : EdgesLinked n m a) (room : m < edge_room) (hu : u < n) (hv : v < n) (is : a' ≡ push m u v zero_length a) where
  pub virtual_linked : (u ≡ v → ⊥) → EdgesLinked n (m + 1) a'
  virtual_linked d = rw add-one (pushed_linked n m u v zero_length a a' L room hu hv is d)

  pub open_is : (s : ℕ) (nodes bys : List ℕ) (first : ℕ) → entries_from first nodes bys ≡ circuit (edges_in (m + 1) a') s → cut_line m first nodes bys ≡ open_line u v s (edges_in m a)
  open_is s nodes bys first w =
      ap (λ (l : List Entry). nodes_of (cut_at m [] l)) (w ∙ ap (λ (es : List Edge). circuit es s) (ap (λ (k : ℕ). edges_in k a') (add-one m) ∙ pushed_edges n m u v zero_length a a' L room hu hv is))
      ∙ ap (λ (k : ℕ). nodes_of (cut_at k [] (circuit (edges_in m a ++ (edge u v zero_length ∷ [])) s))) (sym (edges_count m a))

-- these lines are document 01's walk, from the start that lies best
pub euler_closed : (s : Settings) (ns : List Point) (es : List Edge) → odd_nodes (length ns) es ≡ [] → closed_line (best s ns (with_edges es (length ns) 0)) es ≡ euler s ns es
unfolding euler
euler_closed s ns es h = rw (euler, h)

pub euler_open : (s : Settings) (ns : List Point) (es : List Edge) (u : ℕ) (us : List ℕ) → odd_nodes (length ns) es ≡ u ∷ us
    → open_line u (get_or (u ∷ us) 1 0) (best s ns (u ∷ us)) es ≡ euler s ns es
unfolding euler
euler_open s ns es u us h = rw (euler, h)
