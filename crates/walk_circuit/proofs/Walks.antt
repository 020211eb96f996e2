-- The laws of Standing for the edges that the arrays hold, in the words of the code.
use mathlib.Core.Path.{◌≡◌, subst, sym, ◌∙◌}
use mathlib.Core.List.{List, ◌∷◌}
use mathlib.Core.Bool.{Bool, true, false}
use Prim.Native.Nat.{ℕ, ◌+◌, ◌-◌, ◌*◌, ◌≤◌, ◌<◌}
use native.Mathlib.Omega.{arith}
use lib.ListN.{length, get_or, set, replicate}
use Rattle.limits.specs.Limits.{edge_room, arc_room, line_room}
use Rattle.graph_spec.specs.Graph.{edges_at}
use Rattle.graph_adjacency.specs.Lists.{Adjacency, first_arc, next_arc, edge_number}
use Rattle.graph_arrays.specs.Arrays.{EdgesLinked, edges_in}
use Rattle.graph_arrays.proofs.Arrays.{edges_count, follows_edges}
use Rattle.walk_spec.specs.Walk.{circuit}
use Rattle.walk_circuit.proofs.Cursor.{Cursor, cursor_first, cursor_pass, cursor_arc, cursor_within}
use Rattle.walk_circuit.specs.Entries.{EntriesIn, entry_of, entries_from}
use Rattle.walk_circuit.proofs.EntriesLaws.{entries_put}
use Rattle.walk_circuit.specs.FirstArcs.{FirstArcs}
use Rattle.walk_circuit.proofs.Standing.{Stand, stand, Standing, Within, marks_of, mark_is, off_more, push_stands, pop_stands, over_by, out_by, stands_within, start_stands}

module _ (n m : ℕ) (a : Adjacency) where
  -- the walk stands there
  abbrev pub Walks : ℕ → ℕ → Stand → Type 0
  Walks s fuel t = Standing n (edges_in m a) a s fuel t

  -- k is the cursor of the node in hand
  abbrev pub Looks : ℕ → Stand → Type 0
  Looks k t = Cursor a (edges_at (edges_in m a) t.node) (marks_of (edges_in m a) t.used) t.node k

  -- only the node in hand is to be put in front
  abbrev pub Over : ℕ → List ℕ → List ℕ → ℕ → ℕ → ℕ → Type 0
  Over s nodes bys node by place = entry_of node by ∷ entries_from place nodes bys ≡ circuit (edges_in m a) s

-- an arc's number, that of its edge and the arc after it
pub record ArcIn (a : Adjacency) (v k : ℕ) : Type 0 where
  pub within : k ≤ arc_room
  pub is_edge : edge_number k < edge_room
  pub falls : next_arc a.next a.heads v k < k

module _ (n m : ℕ) (a : Adjacency) (L : EdgesLinked n m a) where
  few : length (edges_in m a) ≤ edge_room
  few = omega (arith, L.few_edges, edges_count m a)

  follow : (v : ℕ) → v < n → Cursor a (edges_at (edges_in m a) v) (replicate 0 false) v (first_arc a.heads v)
  follow v h = cursor_first a (edges_at (edges_in m a) v) _ v _ (follows_edges n m a L v (omega (arith, L.few_nodes)))

  -- a cursor at the start
  pub first_within : (v : ℕ) → v < n → first_arc a.heads v ≤ arc_room
  first_within v h = cursor_within _ _ _ _ _ (follow v h)

  pub looks_arc : (k : ℕ) (t : Stand) → 0 < k → Looks n m a k t → ArcIn a t.node k
  looks_arc k t l c =
      let r = cursor_arc (edges_in m a) a (marks_of (edges_in m a) t.used) t.node k l c in
      record { within = r.within; is_edge = omega (arith, r.is_edge, few); falls = r.falls }

  module _ (s fuel : ℕ) where
    pub walks_within : (t : Stand) → Walks n m a s fuel t → Within n t.nodes t.bys t.depth t.node t.place
    walks_within t w = stands_within n (edges_in m a) a s L.few_nodes few L.inside fuel t w

    -- a turn more is taken
    pub walks_turn : (turns : ℕ) (t : Stand) → turns < fuel → Walks n m a s (fuel - turns) t → Walks n m a s (fuel - (turns + 1) + 1) t
    walks_turn turns t l w = let is : fuel - turns ≡ fuel - (turns + 1) + 1 = omega arith in subst (λ (f : ℕ). Standing n (edges_in m a) a s f t) is w

    -- the cursor of the node in hand
    pub walks_look : (k : ℕ) (t : Stand) → Walks n m a s fuel t → k ≡ get_or t.cursors t.node 0 → Looks n m a k t
    walks_look k t w e = rw e (w.cursors_are t.node w.node_in)

    -- past a used arc
    pub pass_looks : (k i k' : ℕ) (t : Stand) → 0 < k → i ≡ edge_number k → k' ≡ next_arc a.next a.heads t.node k → Walks n m a s fuel t → Looks n m a k t
        → get_or t.used i false ≡ true → Looks n m a k' t
    pass_looks k i k' t l e e' w c u =
        let es = edges_in m a in
        let r = cursor_arc es a (marks_of es t.used) t.node k l c in
        let mark = mark_is es t.used (edge_number k) w.used_long few r.is_edge in
        rw e' (cursor_pass a (edges_at es t.node) (marks_of es t.used) t.node k l (sym mark ∙ rw (← e) u) c)

    -- along a free one
    pub push_walks : (k i k' v : ℕ) (t : Stand) → 0 < k → i ≡ edge_number k → k' ≡ next_arc a.next a.heads t.node k → v ≡ get_or a.ends (k - 1) 0 → Walks n m a s (fuel + 1) t → Looks n m a k t → get_or t.used i false ≡ false
        → Walks n m a s fuel (stand (set t.used i true) (set t.cursors t.node k') (set t.nodes t.depth t.node) (set t.bys t.depth t.by) (t.depth + 1) v (i + 1) t.place)
    push_walks k i k' v t l e e' e'' w c u = rw (e, e', e'') (push_stands n (edges_in m a) a s L.few_nodes few L.inside fuel k t w l c (rw (← e) u))

    -- off the stack
    pub pop_walks : (k v : ℕ) (t : Stand) → k ≤ 0 → (t.depth ≡ 0 → ⊥) → v ≡ get_or t.nodes (t.depth - 1) 0 → Walks n m a s (fuel + 1) t → Looks n m a k t
        → Walks n m a s fuel (stand t.used (set t.cursors t.node 0) (set t.nodes (t.place - 1) t.node) (set t.bys (t.place - 1) t.by) (t.depth - 1)
        v (get_or t.bys (t.depth - 1) 0) (t.place - 1))
    pop_walks k v t z d e w c =
        let none : k ≡ 0 = omega arith in
        let some : 0 < t.depth = omega (arith, d) in
        rw e (pop_stands n (edges_in m a) a s L.few_nodes few L.inside fuel t w some (rw none at c))

    pub over_walks : (k : ℕ) (t : Stand) → k ≤ 0 → t.depth ≡ 0 → Walks n m a s fuel t → Looks n m a k t → Over n m a s t.nodes t.bys t.node t.by t.place
    over_walks k t z d w c =
        let none : k ≡ 0 = omega arith in
        over_by n (edges_in m a) a s L.few_nodes few L.inside fuel t w d (rw none at c)

    pub out_walks : (t : Stand) → fuel ≤ 0 → Walks n m a s fuel t → Over n m a s t.nodes t.bys t.node t.by t.place
    out_walks t z w = out_by n (edges_in m a) a s L.few_nodes few L.inside fuel t w z

  pub start_walks : (s : ℕ) (marks : List Bool) (arcs nodes bys : List ℕ) → marks ≡ replicate edge_room false → FirstArcs a.heads n arcs → s < n
      → length nodes ≡ line_room → length bys ≡ line_room → Walks n m a s (2 * m + 1 - 0) (stand marks arcs nodes bys 0 s 0 line_room)
  start_walks s marks arcs nodes bys none f ls ln lb =
      let turns : 2 * length (edges_in m a) + 1 ≡ 2 * m + 1 - 0 = omega (arith, edges_count m a) in
      rw none (subst (λ (f : ℕ). Standing n (edges_in m a) a s f (stand (replicate edge_room false) arcs nodes bys 0 s 0 line_room)) turns
      (start_stands n (edges_in m a) a s arcs nodes bys few (λ v h. follows_edges n m a L v (omega (arith, L.few_nodes))) f ls ln lb))

-- the last entry goes in front
module _ (n : ℕ) (nodes bys : List ℕ) (depth node by place : ℕ) (w : Within n nodes bys depth node place) where
  pub over_put : (m : ℕ) (a : Adjacency) (s : ℕ) → Over n m a s nodes bys node by place
      → entries_from (place - 1) (set nodes (place - 1) node) (set bys (place - 1) by) ≡ circuit (edges_in m a) s
  over_put m a s o =
      let l : place - 1 < length nodes = omega (arith, w.place_some, w.place_in, w.nodes_long) in
      let k : place - 1 < length bys = omega (arith, w.place_some, w.place_in, w.bys_long) in
      entries_put nodes bys place node by w.place_some w.place_in l k ∙ o

  pub put_in : EntriesIn n (place - 1) (set nodes (place - 1) node)
  put_in = record {
    some = omega (arith, w.place_some, w.place_in);
    nodes_in_known = off_more n nodes node place w.node_in w.off_in (omega (arith, w.place_some, w.place_in, w.nodes_long));
  }
