-- Laws of specs/Step.
use mathlib.Core.Path.{◌≡◌, refl, sym, ap, subst, ◌∙◌}
use mathlib.Core.Bool.{Bool, true, false}
use mathlib.Core.List.{List, [], ◌∷◌, ◌++◌, map}
use Prim.Native.Nat.{ℕ, ◌≤◌, ◌<◌}
use native.Mathlib.Omega.{arith}
use lib.ListN.{length}
use lib.Dec.{ltb}
use Rattle.limits.specs.Limits.{most_nodes}
use Rattle.drawing_spec.specs.Drawing.{Point}
use Rattle.graph_spec.specs.Pieces.{pieces}
use Rattle.graph_spec.specs.Graph.{Edge, edge_of, find, node_of, get_or_insert}
use Rattle.graph_spec.proofs.Nodes.{front}
use Rattle.graph_nodes.specs.Table.{Table, HasRoom, number_in, table_with, count_with}
use Rattle.graph_nodes.proofs.TableLaws.{number_low}
use Rattle.graph_nodes.specs.Held.{Held}
use Rattle.graph_nodes.proofs.Held.{held_none, held_room, get_or_insert_lem, counted}
use Rattle.graph_adjacency.specs.Lists.{Adjacency, lists}
use Rattle.graph_strokes.specs.Trace.{Drawn, drawn_as, with_stroke}
use Rattle.graph_strokes.proofs.Trace.{drawn_lists}
use Rattle.graph_strokes.specs.Step.{NodeReady, Numbered, Traced, TracedTo, begun, numbered, numbering, nothing_traced, stepped, traced}

-- ---- the code's answers

pub node_is : (q : Point) (n : ℕ) (t : Table) (v : ℕ) → v ≡ number_in n q.x q.y t → (t' : Table) → t' ≡ table_with n q.x q.y t → (n' : ℕ) → n' ≡ count_with n v → numbered t' n' v ≡ numbering q n t
unfolding numbering
node_is q n t v hv t' ht n' hn =
    let u = table_with n q.x q.y t in
    ap (λ (a : Table). numbered a n' v) ht ∙ ap (λ (k : ℕ). numbered u k v) hn ∙ ap (λ (k : ℕ). numbered u (count_with n k) k) hv

pub node_low : (q : Point) (n : ℕ) (t : Table) (k : Numbered) → k ≡ numbering q n t → NodeReady q n t → k.node < most_nodes
unfolding numbering
node_low q n t k e r = omega (arith, ap (λ (j : Numbered). j.node) e, number_low n q.x q.y t r.room)

pub begin_is : (q : Point) (s : Traced) (k : Numbered) → k ≡ numbering q s.node_count s.table → traced k.table s.edges k.count s.edge_count k.node ≡ begun q s
unfolding begun
begin_is q s k is = ap (λ (j : Numbered). traced j.table s.edges j.count s.edge_count j.node) is

module _ (q : Point) (s t : Traced) (is : t ≡ begun q s) where
  pub begun_low : NodeReady q s.node_count s.table → t.node < most_nodes
  unfolding begun
  begun_low r = omega (arith, ap (λ (z : Traced). z.node) is, node_low q s.node_count s.table _ refl r)

  pub begun_edges : (t.edges ≡ s.edges) × (t.edge_count ≡ s.edge_count)
  unfolding begun
  begun_edges = (ap (λ (z : Traced). z.edges) is, ap (λ (z : Traced). z.edge_count) is)

  pub step_is : (p : Point) (m' : ℕ) (g' : Adjacency) → drawn_as m' g' ≡ with_stroke t.edge_count s.node t.node p q t.edges → traced t.table g' t.node_count m' t.node ≡ stepped p q s
  unfolding begun stepped
  step_is p m' g' e =
      ap (λ (d : Drawn). traced t.table d.edges t.node_count d.count t.node) e
      ∙ ap (λ (z : Traced). let d = with_stroke z.edge_count s.node z.node p q z.edges in traced z.table d.edges z.node_count d.count z.node) is

-- a node keeps its number
node_kept : (ns : List Point) (p q : Point) → node_of ns p < length ns → node_of (get_or_insert ns q) p ≡ node_of ns p
unfolding get_or_insert
node_kept ns p q h = go (ltb (node_of ns q) (length ns))
  where
    go : (b : Bool) → node_of (elim b [ true ↦ ns | false ↦ ns ++ (q ∷ []) ]) p ≡ node_of ns p
    go true = refl
    go false = front ns (q ∷ []) p h

-- a point's node, as the list has it
module _ (ns : List Point) (es : List Edge) (p q : Point) (s : Traced) (T : TracedTo ns es p s) (room : length (get_or_insert ns q) ≤ most_nodes) where
  v : ℕ
  v = number_in s.node_count q.x q.y s.table

  v_is : v ≡ node_of (get_or_insert ns q) q
  unfolding v
  v_is = ap (λ (n : ℕ). number_in n q.x q.y s.table) T.nodes_counted ∙ (get_or_insert_lem s.table ns q T.nodes_held room).0

  table_held : Held (table_with s.node_count q.x q.y s.table) (get_or_insert ns q)
  table_held = subst (λ (n : ℕ). Held (table_with n q.x q.y s.table) (get_or_insert ns q)) (sym T.nodes_counted) (get_or_insert_lem s.table ns q T.nodes_held room).1

  count_is : count_with s.node_count v ≡ length (get_or_insert ns q)
  count_is = ap (λ (n : ℕ). count_with n v) T.nodes_counted ∙ ap (count_with (length ns)) v_is ∙ counted ns q

  pub node_ready : length ns ≤ most_nodes → NodeReady q s.node_count s.table
  node_ready few = record {
    counted = omega (arith, T.nodes_counted);
    room = subst (λ (n : ℕ). HasRoom n q.x q.y s.table) (sym T.nodes_counted) (held_room s.table ns q T.nodes_held room);
  }

  pub step_traced : node_of ns p < length ns → TracedTo (get_or_insert ns q) (es ++ map (edge_of (get_or_insert ns q)) (pieces p (q ∷ []))) q (stepped p q s)
  unfolding v numbering stepped
  step_traced h =
      let ns' = get_or_insert ns q in
      let es' = es ++ map (edge_of ns') (pieces p (q ∷ [])) in
      let drew : with_stroke s.edge_count s.node v p q s.edges ≡ drawn_as (length es') (lists es') =
      ap (λ (m : ℕ). with_stroke m s.node v p q s.edges) T.edges_counted
      ∙ ap (λ (u : ℕ). with_stroke (length es) u v p q s.edges) (T.node_is ∙ sym (node_kept ns p q h))
      ∙ ap (λ (u : ℕ). with_stroke (length es) (node_of ns' p) u p q s.edges) v_is
      ∙ ap (with_stroke (length es) (node_of ns' p) (node_of ns' q) p q) T.edges_held ∙ drawn_lists ns' es p q in
      record {
        nodes_held = table_held;
        nodes_counted = count_is;
        edges_held = ap (λ (d : Drawn). d.edges) drew;
        edges_counted = ap (λ (d : Drawn). d.count) drew;
        node_is = v_is;
      }

  -- where the walk begins anew, it is at the next point's node, with the same edges
  pub begin_traced : TracedTo (get_or_insert ns q) es q (begun q s)
  unfolding v numbering begun
  begin_traced = record { nodes_held = table_held; nodes_counted = count_is; edges_held = T.edges_held; edges_counted = T.edges_counted; node_is = v_is }

-- nothing is traced yet
pub traced_none : (p : Point) → TracedTo [] [] p nothing_traced
unfolding lists find
traced_none p = record { nodes_held = held_none; nodes_counted = refl; edges_held = refl; edges_counted = refl; node_is = refl }
