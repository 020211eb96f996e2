-- The arcs of a node lead to the nodes that are joined with it, and the loop over them marks these. Assumes nothing.
use mathlib.Core.Path.{◌≡◌, refl, sym, ap, subst, ◌∙◌}
use mathlib.Core.List.{List, [], ◌∷◌, map}
use Prim.Native.Nat.{ℕ, ◌-◌, ◌≤◌, ◌<◌}
use native.Mathlib.Omega.{arith}
use lib.ListN.{get_or}
use Rattle.limits.specs.Limits.{most_nodes, arc_room}
use Rattle.lists.specs.Members.{In}
use Rattle.lists.proofs.Members.{in_map, of_map}
use Rattle.lists.proofs.Members.{in_all}
use Rattle.graph_spec.specs.Graph.{Edge, Arc, edges_at}
use Rattle.graph_spec.specs.Ways.{Joins, Joined}
use Rattle.graph_spec.proofs.Connected.{joins_inside}
use Rattle.graph_spec.proofs.EdgesAt.{edge_at, number_of_lem, edges_at_all, edges_at_arc, arc_joins, other_end}
use Rattle.graph_adjacency.specs.Lists.{Adjacency, first_arc, next_arc, arc_at}
use Rattle.graph_adjacency.specs.Follow.{Follows}
use Rattle.graph_adjacency.proofs.Follow.{follows_none, follows_arc, follows_next}
use Rattle.graph_arrays.specs.Arrays.{edges_in, EdgesLinked}
use Rattle.graph_arrays.proofs.Arrays.{follows_edges}
use Rattle.graph_reach.specs.Marks.{Marks, Tidy, marking, mark_all, targets_of}
use Rattle.graph_reach.proofs.MarksLaws.{Nodes, tidy_marking}

-- ---- the nodes that v is joined with

pub joined_target : (es : List Edge) (v w : ℕ) → Joined es v w → In w (targets_of es v)
joined_target es v w k =
    let n = number_of_lem es k.by k.is_in in
    let j : Joins (edge_at es n.number) v w = rw n.is k.joins in
    let a = edges_at_all es n.number v w n.is_edge j in
    let to : a.arc.to ≡ w = other_end (edge_at es n.number) v a.arc.to w (rw a.number_is at (edges_at_arc es v a.arc a.is_in).joins) j in
    subst (λ (z : ℕ). In z (targets_of es v)) to (in_map (λ (r : Arc). r.to) a.arc (edges_at es v) a.is_in)

pub target_joined : (es : List Edge) (v w : ℕ) → In w (targets_of es v) → Joined es v w
target_joined es v w i =
    let r = of_map (λ (r : Arc). r.to) w (edges_at es v) i in
    subst (λ (z : ℕ). Joined es v z) r.2 (arc_joins es v r.0 r.1).0

pub targets_nodes : (n m : ℕ) (a : Adjacency) → EdgesLinked n m a → (v : ℕ) → Nodes (targets_of (edges_in m a) v)
targets_nodes n m a L v =
    let es = edges_in m a in
    in_all (λ (w : ℕ). w < most_nodes) (targets_of es v) (λ w i. let k = target_joined es v w i in omega (arith, joins_inside n es L.inside k.by v w k.is_in k.joins, L.few_nodes))

-- ---- the loop over a node's arcs

abbrev targets : List Arc → List ℕ
targets rs = map (λ (r : Arc). r.to) rs

arc_leads : (a : Adjacency) (k : ℕ) (r : Arc) → arc_at a k ≡ r → get_or a.ends (k - 1) 0 ≡ r.to
unfolding arc_at
arc_leads a k r e = ap (λ (q : Arc). q.to) e

-- at the arc k: marking where the arcs that are left lead gives what marking all of ws gives
pub record Going (a : Adjacency) (v : ℕ) (ws : List ℕ) (s₀ : Marks) (k : ℕ) (s : Marks) : Type 0 where
  pub rest : List Arc
  pub follows : Follows a v k rest
  pub nodes : Nodes (targets rest)
  pub tidy : Tidy s
  pub same : mark_all (targets rest) s ≡ mark_all ws s₀

module _ (n m : ℕ) (a : Adjacency) (v : ℕ) where
  pub going_start : (k : ℕ) (s : Marks) → k ≡ first_arc a.heads v → EdgesLinked n m a → v < most_nodes → Tidy s → Going a v (targets_of (edges_in m a) v) s k s
  going_start k s e L h t = record {
    rest = edges_at (edges_in m a) v;
    follows = subst (λ (q : ℕ). Follows a v q (edges_at (edges_in m a) v)) (sym e) (follows_edges n m a L v h);
    nodes = targets_nodes n m a L v;
    tidy = t;
    same = refl;
  }

module _ (a : Adjacency) (v : ℕ) (ws : List ℕ) (s₀ : Marks) (k : ℕ) (s : Marks) where
  module _ (some : 0 < k) where
    -- the arc can be read, and leads to a node
    pub going_arc : Going a v ws s₀ k s → (k ≤ arc_room) × (get_or a.ends (k - 1) 0 < most_nodes) × (next_arc a.next a.heads v k < k)
    going_arc g = go g.rest g.follows g.nodes
      where
        go : (rs : List Arc) → Follows a v k rs → Nodes (targets rs) → (k ≤ arc_room) × (get_or a.ends (k - 1) 0 < most_nodes) × (next_arc a.next a.heads v k < k)
        go [] f o = absurd (omega (arith, follows_none a v k f))
        go (r ∷ rs) f o = let q = follows_arc a v k r rs f in (q.within, omega (arith, arc_leads a k r q.is, o.0), q.falls)

    pub going_next : (w k' : ℕ) (s' : Marks) → w ≡ get_or a.ends (k - 1) 0 → k' ≡ next_arc a.next a.heads v k → s' ≡ marking w s → Going a v ws s₀ k s → Going a v ws s₀ k' s'
    unfolding mark_all
    going_next w k' s' hw hk hs g = go g.rest g.follows g.nodes g.same
      where
        go : (rs : List Arc) → Follows a v k rs → Nodes (targets rs) → mark_all (targets rs) s ≡ mark_all ws s₀ → Going a v ws s₀ k' s'
        go [] f o e = absurd (omega (arith, follows_none a v k f))
        go (r ∷ rs) f o e =
            let is : w ≡ r.to = hw ∙ arc_leads a k r (follows_arc a v k r rs f).is in
            let here : w < most_nodes = omega (arith, o.0) in
            rw (hk, hs) (record {
              rest = rs;
              follows = follows_next a v k r rs f;
              nodes = o.1;
              tidy = tidy_marking s g.tidy w here;
              same = ap (λ (z : ℕ). mark_all (targets rs) (marking z s)) is ∙ e;
            })

  pub going_end : k ≡ 0 → Going a v ws s₀ k s → s ≡ mark_all ws s₀
  unfolding mark_all
  going_end none g = go g.rest g.follows g.same
    where
      go : (rs : List Arc) → Follows a v k rs → mark_all (targets rs) s ≡ mark_all ws s₀ → s ≡ mark_all ws s₀
      go [] f e = e
      go (r ∷ rs) f e = absurd (omega (arith, (follows_arc a v k r rs f).some))
