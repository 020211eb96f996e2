-- What holds while the walk goes on by cursors: the rest of the walk, from here, gives the circuit. Each step of the code keeps it.
use mathlib.Core.Path.{◌≡◌, refl, sym, ap, ◌∙◌, subst}
use mathlib.Core.Logic.{inl, inr}
use mathlib.Core.List.{List, [], ◌∷◌}
use mathlib.Core.Bool.{Bool, true, false}
use Prim.Native.Nat.{ℕ, zero, suc, ◌+◌, ◌-◌, ◌*◌, ◌≤◌, ◌<◌}
use native.Mathlib.Nat.{not-suc-le-zero}
use native.Mathlib.Numerals.{add-one}
use native.Mathlib.Decide.{ℕ_discrete}
use native.Mathlib.Omega.{arith}
use lib.ListN.{length, get_or, set, take, replicate, length-set, length-replicate}
use lib.Seq.{get_or-set_same, get_or-set_other, get_or-take, take-set-lt}
use Rattle.limits.specs.Limits.{most_nodes, edge_room, line_room}
use Rattle.lists.proofs.Elements.{get_d_inside}
use Rattle.graph_spec.specs.Graph.{Edge, edges_at}
use Rattle.graph_spec.specs.Ways.{Joins, Inside}
use Rattle.graph_spec.proofs.EdgesAt.{edge_at, edge_at_in}
use Rattle.graph_adjacency.specs.Lists.{Adjacency, first_arc, next_arc, edge_number}
use Rattle.graph_adjacency.specs.Follow.{Follows}
use Rattle.walk_spec.specs.Walk.{By, Entry, Next, spent, along, next, walk, circuit}
use Rattle.walk_spec.proofs.Free.{free_sum, used_set, free_sum_use, free_sum_all}
use Rattle.walk_spec.proofs.Circuit.{count_edges}
use Rattle.walk_spec.proofs.Next.{Leads, Fits, next_fits}
use Rattle.walk_circuit.proofs.Cursor.{Cursor, ArcThere, stays_set, cursor_first, cursor_later, cursor_pass, cursor_none, cursor_free, cursor_arc}
use Rattle.walk_circuit.specs.Entries.{by_of, entry_of, entries_of, entries_from}
use Rattle.walk_circuit.proofs.EntriesLaws.{by_edge, stack_of, stack_other, entries_other, stack_push, stack_top, entries_put}
use Rattle.walk_circuit.specs.FirstArcs.{FirstArcs}

-- ---- the definition, a step at a time

module _ (es : List Edge) (marks : List Bool) (top : Entry) where
  pub walk_along : (k : ℕ) (stack out : List Entry) (i v : ℕ) → next es marks top.node ≡ along i v
      → walk (k + 1) es marks top stack out ≡ walk k es (set marks i true) (record { node = v; by = By.edge i }) (top ∷ stack) out
  unfolding walk
  walk_along k stack out i v h = rw (add-one, walk, h)

  pub walk_off : (k : ℕ) (below : Entry) (stack out : List Entry) → next es marks top.node ≡ spent
      → walk (k + 1) es marks top (below ∷ stack) out ≡ walk k es marks below stack (top ∷ out)
  unfolding walk
  walk_off k below stack out h = rw (add-one, walk, h)

  pub walk_over : (k : ℕ) (out : List Entry) → next es marks top.node ≡ spent → walk k es marks top [] out ≡ top ∷ out
  unfolding walk
  walk_over zero out h = refl
  walk_over (suc k) out h = rw (walk, h)

  pub walk_out : (k : ℕ) (stack out : List Entry) → k ≤ 0 → walk k es marks top stack out ≡ top ∷ out
  unfolding walk
  walk_out zero stack out h = refl
  walk_out (suc k) stack out h = absurd (not-suc-le-zero h)

-- ---- where the walk stands

pub record Stand : Type 0 where
  pub used : List Bool
  pub cursors : List ℕ
  pub nodes : List ℕ
  pub bys : List ℕ
  pub depth : ℕ
  pub node : ℕ
  pub by : ℕ
  pub place : ℕ

abbrev pub stand : List Bool → List ℕ → List ℕ → List ℕ → ℕ → ℕ → ℕ → ℕ → Stand
stand u c ns bs d v b p = record { used = u; cursors = c; nodes = ns; bys = bs; depth = d; node = v; by = b; place = p }

-- the edges that are not used
abbrev pub unused : List Edge → List Bool → ℕ
unused es marks = free_sum (λ (i : ℕ) (e : Edge). 1) 0 es marks

-- The code has room for more edges than there are: the marks of those that are.
abbrev pub marks_of : List Edge → List Bool → List Bool
marks_of es used = take (length es) used

pub record Standing (n : ℕ) (es : List Edge) (g : Adjacency) (s fuel : ℕ) (t : Stand) : Type 0 where
  pub same : walk fuel es (marks_of es t.used) (entry_of t.node t.by) (stack_of t.depth t.nodes t.bys) (entries_from t.place t.nodes t.bys) ≡ circuit es s
  -- each edge is unused, or entered an entry of the stack or one that was taken off
  pub each : t.depth + unused es (marks_of es t.used) + (line_room - t.place) ≡ length es
  pub place_in : t.place ≤ line_room
  pub node_in : t.node < n
  pub below_in : (j : ℕ) → j < t.depth → get_or t.nodes j 0 < n
  pub off_in : (j : ℕ) → t.place ≤ j → j < line_room → get_or t.nodes j 0 < n
  pub used_long : length t.used ≡ edge_room
  pub cursors_long : length t.cursors ≡ most_nodes
  pub nodes_long : length t.nodes ≡ line_room
  pub bys_long : length t.bys ≡ line_room
  pub cursors_are : (v : ℕ) → v < n → Cursor g (edges_at es v) (marks_of es t.used) v (get_or t.cursors v 0)

-- Of that, what the code's indices and casts need.
pub record Within (n : ℕ) (nodes bys : List ℕ) (depth node place : ℕ) : Type 0 where
  pub few : n ≤ most_nodes
  pub node_in : node < n
  pub depth_in : depth ≤ edge_room
  pub place_some : 0 < place
  pub place_in : place ≤ line_room
  pub off_in : (j : ℕ) → place ≤ j → j < line_room → get_or nodes j 0 < n
  pub nodes_long : length nodes ≡ line_room
  pub bys_long : length bys ≡ line_room

-- what the code reads of a mark
pub mark_is : (es : List Edge) (used : List Bool) (i : ℕ) → length used ≡ edge_room → length es ≤ edge_room → i < length es → get_or used i false ≡ get_or (marks_of es used) i true
mark_is es used i l f h = get_d_inside used i false true (omega arith) ∙ sym (get_or-take (length es) used i true h)

leads_in : (n : ℕ) (es : List Edge) (marks : List Bool) (u i v : ℕ) → Inside n es → Leads es marks u i v → v < n
leads_in n es marks u i v inside l = go (inside (edge_at es i) (edge_at_in es i l.is_edge)) l.joins
  where
    go : ((edge_at es i).a < n) × ((edge_at es i).b < n) → Joins (edge_at es i) u v → v < n
    go b (inl j) = subst (λ (x : ℕ). x < n) j.1 b.1
    go b (inr j) = subst (λ (x : ℕ). x < n) j.0 b.0

-- one entry more that was taken off
pub off_more : (n : ℕ) (nodes : List ℕ) (node place : ℕ) → node < n → ((j : ℕ) → place ≤ j → j < line_room → get_or nodes j 0 < n)
    → place - 1 < length nodes → (j : ℕ) → place - 1 ≤ j → j < line_room → get_or (set nodes (place - 1) node) j 0 < n
off_more n nodes node place below off l j h i = elim (ℕ_discrete j (place - 1)) [
  | yes e ↦ rw (e, get_or-set_same nodes (place - 1) node 0 l) below
  | no a ↦ rw (get_or-set_other nodes (place - 1) j node 0 a) (off j (omega (arith, h, a)) i)
]

module _ (n : ℕ) (es : List Edge) (g : Adjacency) (s : ℕ) (room : n ≤ most_nodes) (few : length es ≤ edge_room) (inside : Inside n es) where
  -- a cursor moved on
  moved_are : (marks : List Bool) (cursors : List ℕ) (u k : ℕ) → u < n → length cursors ≡ most_nodes → Cursor g (edges_at es u) marks u k
      → ((v : ℕ) → v < n → Cursor g (edges_at es v) marks v (get_or cursors v 0))
      → (v : ℕ) → v < n → Cursor g (edges_at es v) marks v (get_or (set cursors u k) v 0)
  moved_are marks cursors u k hu l c are v h = elim (ℕ_discrete v u) [
    | yes e ↦ rw (e, get_or-set_same cursors u k 0 (omega (arith, room))) c
    | no d ↦ rw (get_or-set_other cursors u v k 0 d) (are v h)
  ]

  -- along the free arc k; the cursor goes on to the arc after it
  pub push_stands : (fuel k : ℕ) (t : Stand) → Standing n es g s (fuel + 1) t → 0 < k → Cursor g (edges_at es t.node) (marks_of es t.used) t.node k
      → get_or t.used (edge_number k) false ≡ false
      → Standing n es g s fuel (stand (set t.used (edge_number k) true) (set t.cursors t.node (next_arc g.next g.heads t.node k)) (set t.nodes t.depth t.node) (set t.bys t.depth t.by) (t.depth + 1)
      (get_or g.ends (k - 1) 0) (edge_number k + 1) t.place)
  push_stands fuel k t w lk c free =
      let i = edge_number k in
      let v = get_or g.ends (k - 1) 0 in
      let marks = marks_of es t.used in
      let there : ArcThere es g t.node k = cursor_arc es g marks t.node k lk c in
      let mark : get_or marks i true ≡ false = sym (mark_is es t.used i w.used_long few there.is_edge) ∙ free in
      let is : next es marks t.node ≡ along i v = cursor_free g (edges_at es t.node) marks t.node k lk mark c in
      let leads : Leads es marks t.node i v = subst (λ (n : Next). Fits es marks t.node n) is (next_fits es marks t.node) in
      let marks_now : marks_of es (set t.used i true) ≡ set marks i true = take-set-lt (length es) t.used i true there.is_edge in
      let count : unused es marks ≡ 1 + unused es (set marks i true) = free_sum_use (λ (j : ℕ) (e : Edge). 1) 0 es marks i there.is_edge mark in
      let past = cursor_pass g (edges_at es t.node) (set marks i true) t.node k lk (used_set marks i) (cursor_later g (edges_at es t.node) marks t.node (set marks i true) k (stays_set marks i) c) in
      let d_in : t.depth < t.place = omega (arith, w.each, count, few, w.place_in) in
      let d_nodes : t.depth < length t.nodes = omega (arith, w.nodes_long, w.place_in) in
      let d_bys : t.depth < length t.bys = omega (arith, w.bys_long, w.place_in) in
      record {
        same =
            rw (
              marks_now,
              by_edge,
              stack_push t.nodes t.bys t.depth t.node t.by d_nodes d_bys,
              entries_other t.nodes t.bys (line_room - t.place) t.place t.depth t.node t.by d_in,
            )
            (sym (walk_along es marks (entry_of t.node t.by) fuel _ _ i v is) ∙ w.same);
        each = rw marks_now (omega (arith, w.each, count));
        place_in = w.place_in;
        node_in = leads_in n es marks t.node i v inside leads;
        below_in = below;
        off_in = λ j l h. rw (get_or-set_other t.nodes t.depth j t.node 0 (λ e. omega (arith, d_in, l, e))) (w.off_in j l h);
        used_long = simp length-set w.used_long;
        cursors_long = simp length-set w.cursors_long;
        nodes_long = simp length-set w.nodes_long;
        bys_long = simp length-set w.bys_long;
        cursors_are = λ u h. rw marks_now (moved_are (set marks i true) t.cursors t.node _ w.node_in w.cursors_long past
            (λ v l. cursor_later g (edges_at es v) marks v (set marks i true) _ (stays_set marks i) (w.cursors_are v l)) u h);
      }
    where
      below : (j : ℕ) → j < t.depth + 1 → get_or (set t.nodes t.depth t.node) j 0 < n
      below j h = elim (ℕ_discrete j t.depth) [
        | yes e ↦ rw (e, get_or-set_same t.nodes t.depth t.node 0 (omega (arith, w.nodes_long, w.each, few))) w.node_in
        | no d ↦ rw (get_or-set_other t.nodes t.depth j t.node 0 d) (w.below_in j (omega (arith, h, d)))
      ]

  -- off the stack, where the node has no free arc left
  pub pop_stands : (fuel : ℕ) (t : Stand) → Standing n es g s (fuel + 1) t → 0 < t.depth → Cursor g (edges_at es t.node) (marks_of es t.used) t.node 0
      → Standing n es g s fuel (stand t.used (set t.cursors t.node 0) (set t.nodes (t.place - 1) t.node) (set t.bys (t.place - 1) t.by) (t.depth - 1)
      (get_or t.nodes (t.depth - 1) 0) (get_or t.bys (t.depth - 1) 0) (t.place - 1))
  pop_stands fuel t w ld c =
      let marks = marks_of es t.used in
      let is : next es marks t.node ≡ spent = cursor_none g (edges_at es t.node) marks t.node c in
      let p_some : 0 < t.place = omega (arith, w.each, few) in
      let apart : t.depth - 1 ≤ t.place - 1 = omega (arith, w.each, few, w.place_in) in
      let p_nodes : t.place - 1 < length t.nodes = omega (arith, w.nodes_long, w.place_in) in
      let p_bys : t.place - 1 < length t.bys = omega (arith, w.bys_long, w.place_in) in
      record {
        same =
            rw (
              stack_other t.nodes t.bys (t.depth - 1) (t.place - 1) t.node t.by apart,
              entries_put t.nodes t.bys t.place t.node t.by p_some w.place_in p_nodes p_bys,
            )
            (sym (walk_off es marks (entry_of t.node t.by) fuel _ _ _ is) ∙ rw (← stack_top t.nodes t.bys t.depth ld) w.same);
        each = omega (arith, w.each, p_some, w.place_in, ld);
        place_in = omega (arith, w.place_in);
        node_in = w.below_in (t.depth - 1) (omega (arith, ld));
        below_in = λ j h. rw (get_or-set_other t.nodes (t.place - 1) j t.node 0 (λ e. omega (arith, h, apart, e))) (w.below_in j (omega (arith, h)));
        off_in = off p_nodes;
        used_long = w.used_long;
        cursors_long = simp length-set w.cursors_long;
        nodes_long = simp length-set w.nodes_long;
        bys_long = simp length-set w.bys_long;
        cursors_are = moved_are marks t.cursors t.node 0 w.node_in w.cursors_long c w.cursors_are;
      }
    where
      off : t.place - 1 < length t.nodes → (j : ℕ) → t.place - 1 ≤ j → j < line_room → get_or (set t.nodes (t.place - 1) t.node) j 0 < n
      off = off_more n t.nodes t.node t.place w.node_in w.off_in

  -- where the node in hand is the only one, or the steps are used up, it is the first of the circuit
  pub over_by : (fuel : ℕ) (t : Stand) → Standing n es g s fuel t → t.depth ≡ 0 → Cursor g (edges_at es t.node) (marks_of es t.used) t.node 0
      → entry_of t.node t.by ∷ entries_from t.place t.nodes t.bys ≡ circuit es s
  unfolding stack_of
  over_by fuel t w z c =
      sym (walk_over es (marks_of es t.used) (entry_of t.node t.by) fuel _ (cursor_none g (edges_at es t.node) (marks_of es t.used) t.node c))
      ∙ ap (λ (d : ℕ). walk fuel es (marks_of es t.used) (entry_of t.node t.by) (stack_of d t.nodes t.bys) (entries_from t.place t.nodes t.bys)) (sym z) ∙ w.same

  pub out_by : (fuel : ℕ) (t : Stand) → Standing n es g s fuel t → fuel ≤ 0 → entry_of t.node t.by ∷ entries_from t.place t.nodes t.bys ≡ circuit es s
  out_by fuel t w z = sym (walk_out es (marks_of es t.used) (entry_of t.node t.by) fuel _ _ z) ∙ w.same

  pub stands_within : (fuel : ℕ) (t : Stand) → Standing n es g s fuel t → Within n t.nodes t.bys t.depth t.node t.place
  stands_within fuel t w = record {
    few = room;
    node_in = w.node_in;
    depth_in = omega (arith, w.each, few);
    place_some = omega (arith, w.each, few);
    place_in = w.place_in;
    off_in = w.off_in;
    nodes_long = w.nodes_long;
    bys_long = w.bys_long;
  }

take_replicate : (n k : ℕ) → n ≤ k → take n (replicate k false) ≡ replicate n false
take_replicate zero k h = refl
take_replicate (suc n) zero h = absurd (not-suc-le-zero h)
take_replicate (suc n) (suc k) h = ap (λ (l : List Bool). false ∷ l) (take_replicate n k (omega (arith, h)))

pub first_arcs_none : (heads : List ℕ) → FirstArcs heads 0 (replicate most_nodes 0)
first_arcs_none heads = record { long = length-replicate {A = ℕ} most_nodes 0; are = λ v h. absurd (not-suc-le-zero h) }

pub first_arcs_more : (heads : List ℕ) (n : ℕ) (arcs : List ℕ) (k : ℕ) → n < most_nodes → k ≡ first_arc heads n → FirstArcs heads n arcs → FirstArcs heads (n + 1) (set arcs n k)
first_arcs_more heads n arcs k h e f = record {
  long = simp length-set f.long;
  are = λ v l. elim (ℕ_discrete v n) [
    | yes i ↦ rw (i, get_or-set_same arcs n k 0 (omega (arith, f.long))) e
    | no i ↦ get_or-set_other arcs n v k 0 i ∙ f.are v (omega (arith, l, i))
  ];
}

pub first_arcs_all : (heads : List ℕ) (n v : ℕ) (arcs : List ℕ) → n ≤ v → FirstArcs heads v arcs → FirstArcs heads n arcs
first_arcs_all heads n v arcs h f = record { long = f.long; are = λ u l. f.are u (omega arith) }

-- at the start
pub start_stands : (n : ℕ) (es : List Edge) (g : Adjacency) (s : ℕ) (arcs nodes bys : List ℕ) → length es ≤ edge_room
    → ((v : ℕ) → v < n → Follows g v (first_arc g.heads v) (edges_at es v)) → FirstArcs g.heads n arcs → s < n → length nodes ≡ line_room → length bys ≡ line_room
    → Standing n es g s (2 * length es + 1) (stand (replicate edge_room false) arcs nodes bys 0 s 0 line_room)
unfolding circuit by_of stack_of entries_of
start_stands n es g s arcs nodes bys few follow f ls ln lb =
    let none : marks_of es (replicate edge_room false) ≡ replicate (length es) false = take_replicate (length es) edge_room few in
    record {
      same = rw none;
      each = rw none (omega (arith, free_sum_all (λ (j : ℕ) (e : Edge). 1) 0 es, count_edges es 0));
      place_in = omega arith;
      node_in = ls;
      below_in = λ j l. absurd (not-suc-le-zero l);
      off_in = λ j l k. absurd (omega (arith, l, k));
      used_long = length-replicate {A = Bool} edge_room false;
      cursors_long = f.long;
      nodes_long = ln;
      bys_long = lb;
      cursors_are = λ v l. rw (f.are v l) (cursor_first _ (edges_at es v) _ v _ (follow v l));
    }
