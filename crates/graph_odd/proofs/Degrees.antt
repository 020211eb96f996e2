-- Laws of specs/Degrees, and the invariant of the pass over the edges.
use mathlib.Core.Path.{◌≡◌, sym, ap, ◌∙◌}
use mathlib.Core.List.{List}
use Prim.Native.Nat.{ℕ, ◌+◌, ◌≤◌, ◌<◌}
use native.Mathlib.Numerals.{add-one}
use native.Mathlib.Decide.{ℕ_discrete}
use native.Mathlib.Omega.{arith}
use lib.ListN.{length, get_or, replicate, length-set, length-replicate, drop, drop_of_length-le}
use lib.Seq.{get_or-set_same, get_or-set_other, drop-cons}
use lib.Ieee.{nan}
use Rattle.limits.specs.Limits.{most_nodes, edge_room}
use Rattle.lists.proofs.Elements.{get_d_same}
use Rattle.graph_spec.specs.Graph.{Edge, edge}
use Rattle.graph_spec.specs.Odd.{hit, degree}
use Rattle.graph_spec.proofs.Sums.{hit_same, hit_other}
use Rattle.graph_spec.proofs.EdgesAt.{edge_at}
use Rattle.graph_adjacency.specs.Lists.{Adjacency}
use Rattle.graph_arrays.specs.Arrays.{edges_in, EdgesLinked}
use Rattle.graph_arrays.proofs.Arrays.{edges_count, edge_at_lem, ends_in, ends_apart, linked_degree}
use Rattle.graph_odd.specs.Degrees.{Countable, Degrees, bump, bumped}

pub bump_at : (ds : List ℕ) (u v : ℕ) → u < length ds → get_or (bump ds u) v 0 ≡ get_or ds v 0 + hit u v
bump_at ds u v h = elim (ℕ_discrete u v) [
  | yes e ↦ rw (← e) (omega (arith, get_or-set_same ds u (get_or ds u 0 + 1) 0 h, hit_same u))
  | no d ↦ omega (arith, get_or-set_other ds u v (get_or ds u 0 + 1) 0 (λ z. d (sym z)), hit_other u v d)
]

-- ---- a count that rises comes to 4,001 at most

module _ (i : ℕ) (ends ds : List ℕ) (C : Countable i ends ds) (u v : ℕ) (is_u : u ≡ get_or ends i 0) (is_v : v ≡ get_or ends (i + edge_room) 0) where
  pub first_rises : get_or ds u 0 + 1 ≤ edge_room
  first_rises = rw is_u (omega (arith, C.first_below))

  -- the second end is another node than the first, so its count is still what it was
  pub second_rises : get_or (bump ds u) v 0 + 1 ≤ edge_room
  second_rises = rw (get_or-set_other ds u v (get_or ds u 0 + 1) 0 (λ e. C.apart (sym is_u ∙ sym e ∙ is_v)), is_v) (omega (arith, C.second_below))

-- ---- the counts after an edge

pub bumped_long : (ds : List ℕ) (u v : ℕ) → length (bumped ds u v) ≡ length ds
bumped_long ds u v = simp length-set

pub bumped_at : (ds : List ℕ) (u v w : ℕ) → u < length ds → v < length ds → get_or (bumped ds u v) w 0 ≡ get_or ds w 0 + (hit u w + hit v w)
bumped_at ds u v w hu hv =
    let long : v < length (bump ds u) = simp length-set hv in
    omega (arith, bump_at (bump ds u) v w long, bump_at ds u w hu)

-- after i of the edges: what is counted and what those that are left will add make the degrees
pub record Counted (es : List Edge) (i : ℕ) (ds : List ℕ) : Type 0 where
  pub on : i ≤ length es
  pub long : length ds ≡ most_nodes
  pub rest : (v : ℕ) → get_or ds v 0 + degree (drop i es) v ≡ degree es v

pub counted_start : (es : List Edge) (ds : List ℕ) → ds ≡ replicate most_nodes 0 → Counted es 0 ds
counted_start es ds e =
    let none : (v : ℕ) → get_or ds v 0 ≡ 0 = λ v. ap (λ (q : List ℕ). get_or q v 0) e ∙ get_d_same most_nodes v 0 in
    record {
      on = omega arith;
      long = ap (λ (q : List ℕ). length q) e ∙ length-replicate {A = ℕ} most_nodes 0;
      rest = λ v. omega (arith, none v);
    }

first_edge : (es : List Edge) (i v : ℕ) → i < length es → degree (drop i es) v ≡ hit (edge_at es i).a v + hit (edge_at es i).b v + degree (drop (i + 1) es) v
unfolding degree
first_edge es i v h = rw (add-one, drop-cons es i (edge 0 0 nan))

none_left : (es : List Edge) (i v : ℕ) → length es ≤ i → degree (drop i es) v ≡ 0
unfolding degree
none_left es i v h = rw (drop_of_length-le es h)

module _ (n m i : ℕ) (a : Adjacency) (ds : List ℕ) (L : EdgesLinked n m a) (C : Counted (edges_in m a) i ds) where
  abbrev es : List Edge
  es = edges_in m a

  -- the two ends of the edge i
  abbrev u : ℕ
  u = get_or a.ends i 0

  abbrev v : ℕ
  v = get_or a.ends (i + edge_room) 0

  -- what it gives to the degree of w
  gives : i < m → (w : ℕ) → hit (edge_at es i).a w + hit (edge_at es i).b w ≡ hit u w + hit v w
  gives h w = ap (λ (q : Edge). hit q.a w + hit q.b w) (edge_at_lem m a i h)

  pub counted_fits : i < m → Countable i a.ends ds
  counted_fits h =
      let b = ends_in n m a L i h in
      let here : i < length es = omega (arith, edges_count m a) in
      record {
        room = omega (arith, L.few_edges);
        first = omega (arith, b.0, L.few_nodes);
        second = omega (arith, b.1, L.few_nodes);
        apart = ends_apart n m a L i h;
        first_below = omega (arith, C.rest u, first_edge es i u here, gives h u, hit_same u, linked_degree n m a L u);
        second_below = omega (arith, C.rest v, first_edge es i v here, gives h v, hit_same v, linked_degree n m a L v);
      }

  pub counted_next : (ds' : List ℕ) → i < m → ds' ≡ bumped ds (get_or a.ends i 0) (get_or a.ends (i + edge_room) 0) → Counted (edges_in m a) (i + 1) ds'
  counted_next ds' h e =
      let f = counted_fits h in
      let here : i < length es = omega (arith, edges_count m a) in
      let lu : u < length ds = omega (arith, f.first, C.long) in
      let lv : v < length ds = omega (arith, f.second, C.long) in
      rw e (record {
        on = omega arith;
        long = bumped_long ds u v ∙ C.long;
        rest = λ w. omega (arith, bumped_at ds u v w lu lv, C.rest w, first_edge es i w here, gives h w);
      })

  pub counted_all : m ≤ i → Degrees (edges_in m a) ds
  counted_all h w = let long = edges_count m a in omega (arith, C.rest w, none_left es i w (omega arith))
