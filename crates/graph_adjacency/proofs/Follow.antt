-- Laws of specs/Follow: following a node's list from its first arc gives the node's edges in document 01's order. Assumes nothing.
use mathlib.Core.Path.{◌≡◌, refl, sym, ap, subst, ◌∙◌}
use mathlib.Core.List.{List, [], ◌∷◌, ◌++◌}
use mathlib.Core.Bool.{Bool, true, false}
use Prim.Native.Nat.{ℕ, suc, ◌+◌, ◌-◌, ◌*◌, ◌≤◌, ◌<◌}
use native.Mathlib.Nat.{add-zero, zero-add, add-suc, suc-add}
use native.Mathlib.Omega.{arith}
use lib.ListN.{length, get_or, set, length-set, length-replicate, get_or-replicate}
use lib.Seq.{get_or-set_same, get_or-set_other}
use lib.Dec.{eqb}
use lib.IntN.{pos}
use lib.Ieee.{Float, nan, fin}
use borrow.Author.Tests.{eqb-true, eqb-false}
use Rattle.limits.specs.Limits.{most_nodes, edge_room, arc_room}
use Rattle.graph_spec.specs.Graph.{Edge, Arc, newest_first, edges_at}
use Rattle.graph_adjacency.specs.Lists.{Adjacency, no_edges, push, pushed, first_arc, next_arc, edge_number, arc_at, lists, or_else}
use Rattle.graph_adjacency.proofs.Lists.{else_some, else_none, else_below, next_second, next_first, number_second, number_first}
use Rattle.graph_adjacency.specs.Follow.{AtArc, Ends, Follows}

-- the arrays have their lengths
pub record Sized (g : Adjacency) : Type 0 where
  pub ends_long : length g.ends ≡ arc_room
  pub weights_long : length g.weights ≡ edge_room
  pub next_long : length g.next ≡ arc_room
  pub heads_long : length g.heads ≡ (2 * most_nodes)

pub push_sized : (e u v : ℕ) (x : Float) (g : Adjacency) → Sized g → Sized (push e u v x g)
unfolding push
push_sized e u v x g s = record {
  ends_long = simp length-set s.ends_long;
  weights_long = simp length-set s.weights_long;
  next_long = simp length-set s.next_long;
  heads_long = simp length-set s.heads_long;
}

-- one element after two stores elsewhere
other_two : {A : Type 0} (l : List A) (i j k : ℕ) (x y d : A) → (k ≡ i → ⊥) → (k ≡ j → ⊥) → get_or (set (set l i x) j y) k d ≡ get_or l k d
other_two l i j k x y d p q = get_or-set_other (set l i x) j k y d q ∙ get_or-set_other l i k x d p

-- ---- the list by one end: o is edge_room by first ends, 0 by second ends

-- From the link k on the list holds the arcs rs, of edges with numbers below m, each older than the one before.
Linked : ℕ → ℕ → Adjacency → ℕ → List Arc → Type 0
Linked o m g k [] = k ≡ 0
Linked o m g k (r ∷ rs) =
    (k ≡ r.number + o + 1) × (r.number < m) × (get_or g.ends (r.number + o) 0 ≡ r.to) × (get_or g.weights r.number nan ≡ r.weight)
    × Linked o r.number g (get_or g.next (r.number + o) 0) rs

-- a newer edge leaves it
module _ (o : ℕ) (apart : (n i : ℕ) → n < i → i < edge_room → (n + o ≡ i → ⊥) × (n + o ≡ i + edge_room → ⊥)) where
  linked_push : (m i u v : ℕ) (x : Float) (g : Adjacency) (k : ℕ) (rs : List Arc) → m ≤ i → i < edge_room → Linked o m g k rs → Linked o m (push i u v x g) k rs
  unfolding push Linked
  linked_push m i u v x g k [] h f l = l
  linked_push m i u v x g k (r ∷ rs) h f l =
      let n = r.number in
      let below : n < i = omega (arith, l.1) in
      let a = apart n i below f in
      let w : n ≡ i → ⊥ = omega arith in (
        l.0,
        l.1,
        other_two g.ends i (i + edge_room) (n + o) u v 0 a.0 a.1 ∙ l.2,
        get_or-set_other g.weights i n x nan w ∙ l.3,
        subst (λ (q : ℕ). Linked o n (push i u v x g) q rs) (sym (other_two g.next (i + edge_room) i (n + o) _ _ 0 a.1 a.0))
            (linked_push n i u v x g (get_or g.next (n + o) 0) rs (omega arith) f l.4),
      )

  -- one edge more in front
  linked_new : (i : ℕ) (g : Adjacency) (k old to : ℕ) (x : Float) (rs : List Arc) → k ≡ i + o + 1 → get_or g.ends (i + o) 0 ≡ to → get_or g.weights i nan ≡ x
      → get_or g.next (i + o) 0 ≡ old → Linked o i g old rs → Linked o (suc i) g k (record { number = i; to = to; weight = x } ∷ rs)
  unfolding Linked
  linked_new i g k old to x rs hk ht hx hn l = (hk, omega arith, ht, hx, subst (λ (q : ℕ). Linked o i g q rs) (sym hn) l)

-- numbers below m are below more
linked_more : (o m m' : ℕ) (g : Adjacency) (k : ℕ) (rs : List Arc) → m ≤ m' → Linked o m g k rs → Linked o m' g k rs
unfolding Linked
linked_more o m m' g k [] h l = l
linked_more o m m' g k (r ∷ rs) h l = (l.0, omega (arith, l.1), l.2, l.3, l.4)

linked_bound : (o m : ℕ) (g : Adjacency) (k : ℕ) (rs : List Arc) → Linked o m g k rs → k ≤ m + o
unfolding Linked
linked_bound o m g k [] l = omega (arith, l)
linked_bound o m g k (r ∷ rs) l = omega (arith, l.0, l.1)

-- what an edge does to the list by one end; the heads of that end stand at h
record Stepped (o h near far i : ℕ) (x : Float) (g g' : Adjacency) (w : ℕ) : Type 0 where
  head_new : near ≡ w → get_or g'.heads (w + h) 0 ≡ i + o + 1
  head_kept : (near ≡ w → ⊥) → get_or g'.heads (w + h) 0 ≡ get_or g.heads (w + h) 0
  end_is : get_or g'.ends (i + o) 0 ≡ far
  weight_is : get_or g'.weights i nan ≡ x
  next_is : get_or g'.next (i + o) 0 ≡ get_or g.heads (near + h) 0

module _ (o h : ℕ) (near far : Edge → ℕ) (w : ℕ) (apart : (n i : ℕ) → n < i → i < edge_room → (n + o ≡ i → ⊥) × (n + o ≡ i + edge_room → ⊥))
    (steps : (i : ℕ) (e : Edge) (g : Adjacency) → Sized g → i < edge_room → e.a < most_nodes → e.b < most_nodes
    → Stepped o h (near e) (far e) i e.weight g (push i e.a e.b e.weight g) w) where
  turn : (i : ℕ) (e : Edge) (g : Adjacency) (found : List Arc) → i < edge_room
      → Stepped o h (near e) (far e) i e.weight g (push i e.a e.b e.weight g) w
      → Linked o i g (get_or g.heads (w + h) 0) found → (t : Bool) → eqb (near e) w ≡ t
      → Linked o (suc i) (push i e.a e.b e.weight g) (get_or (push i e.a e.b e.weight g).heads (w + h) 0)
      (elim t [ true ↦ record { number = i; to = far e; weight = e.weight } ∷ found | false ↦ found ])
  turn i e g found f s l true t =
      let is = eqb-true (near e) w t in
      linked_new o apart i (push i e.a e.b e.weight g) _ (get_or g.heads (w + h) 0) (far e) e.weight found (s.head_new is) s.end_is s.weight_is
      (s.next_is ∙ ap (λ (q : ℕ). get_or g.heads (q + h) 0) is)
      (linked_push o apart i i e.a e.b e.weight g _ found (omega arith) f l)
  turn i e g found f s l false t =
      subst (λ (q : ℕ). Linked o (suc i) (push i e.a e.b e.weight g) q found) (sym (s.head_kept (eqb-false (near e) w t)))
      (linked_more o i (suc i) (push i e.a e.b e.weight g) _ found (omega arith) (linked_push o apart i i e.a e.b e.weight g _ found (omega arith) f l))

  newest_elim : (i : ℕ) (e : Edge) (es : List Edge) (found : List Arc) (t : Bool)
      → newest_first near far w (suc i) es (elim t [ true ↦ record { number = i; to = far e; weight = e.weight } ∷ found | false ↦ found ])
      ≡ elim t [ true ↦ newest_first near far w (suc i) es (record { number = i; to = far e; weight = e.weight } ∷ found) | false ↦ newest_first near far w (suc i) es found ]
  newest_elim i e es found true = refl
  newest_elim i e es found false = refl

  linked_all : (i : ℕ) (es : List Edge) (g : Adjacency) (found : List Arc) → Sized g → i + length es ≤ edge_room → Ends es
      → Linked o i g (get_or g.heads (w + h) 0) found
      → Linked o (i + length es) (pushed i es g) (get_or (pushed i es g).heads (w + h) 0) (newest_first near far w i es found)
  unfolding pushed newest_first Ends
  linked_all i [] g found s b n l = subst (λ (q : ℕ). Linked o q g (get_or g.heads (w + h) 0) found) (sym (add-zero i)) l
  linked_all i (e ∷ es) g found s b n l =
      let f : i < edge_room = omega arith in
      let g' = push i e.a e.b e.weight g in
      let more = turn i e g found f (steps i e g s f n.0 n.1) l (eqb (near e) w) refl in
      let rest = linked_all (suc i) es g' _ (push_sized i e.a e.b e.weight g s) (omega arith) n.2 more in
      let all = subst (λ (q : List Arc). Linked o (suc i + length es) (pushed (suc i) es g') (get_or (pushed (suc i) es g').heads (w + h) 0) q) (newest_elim i e es found (eqb (near e) w)) rest in
      subst (λ (q : ℕ). Linked o q (pushed (suc i) es g') (get_or (pushed (suc i) es g').heads (w + h) 0) (newest_first near far w i (e ∷ es) found)) (suc-add i (length es) ∙ sym (add-suc i (length es))) all

-- ---- the two ends

by_first : (w : ℕ) → w < most_nodes → (i : ℕ) (e : Edge) (g : Adjacency) → Sized g → i < edge_room → e.a < most_nodes → e.b < most_nodes
    → Stepped edge_room 0 e.a e.b i e.weight g (push i e.a e.b e.weight g) w
unfolding push
by_first w hw i e g s f ha hb =
    let ends' = set g.ends i e.a in
    let next' = set g.next (i + edge_room) (get_or g.heads e.a 0) in
    let heads' = set g.heads e.a (i + (edge_room + 1)) in
    let far : w + 0 ≡ e.b + most_nodes → ⊥ = omega arith in
    let room : e.a < length g.heads = omega (arith, s.heads_long) in
    let room_ends : i + edge_room < length ends' = simp length-set (omega (arith, s.ends_long)) in
    let room_next : i + edge_room < length g.next = omega (arith, s.next_long) in
    let room_weights : i < length g.weights = omega (arith, s.weights_long) in
    let off : i + edge_room ≡ i → ⊥ = omega arith in
    record {
      head_new = λ is. get_or-set_other heads' (e.b + most_nodes) (w + 0) _ 0 far
          ∙ ap (λ (q : ℕ). get_or heads' q 0) (add-zero w ∙ sym is) ∙ get_or-set_same g.heads e.a _ 0 room ∙ omega arith;
      head_kept = λ no. get_or-set_other heads' (e.b + most_nodes) (w + 0) _ 0 far
          ∙ get_or-set_other g.heads e.a (w + 0) _ 0 (λ z. no (sym z ∙ add-zero w));
      end_is = get_or-set_same ends' (i + edge_room) e.b 0 room_ends;
      weight_is = get_or-set_same g.weights i e.weight nan room_weights;
      next_is = get_or-set_other next' i (i + edge_room) _ 0 off ∙ get_or-set_same g.next (i + edge_room) _ 0 room_next ∙ ap (λ (q : ℕ). get_or g.heads q 0) (sym (add-zero e.a));
    }

by_second : (w : ℕ) → w < most_nodes → (i : ℕ) (e : Edge) (g : Adjacency) → Sized g → i < edge_room → e.a < most_nodes → e.b < most_nodes
    → Stepped 0 most_nodes e.b e.a i e.weight g (push i e.a e.b e.weight g) w
unfolding push
by_second w hw i e g s f ha hb =
    let ends' = set g.ends i e.a in
    let next' = set g.next (i + edge_room) (get_or g.heads e.a 0) in
    let heads' = set g.heads e.a (i + (edge_room + 1)) in
    let far : w + most_nodes ≡ e.a → ⊥ = omega arith in
    let room : e.b + most_nodes < length heads' = simp length-set (omega (arith, s.heads_long)) in
    let room_ends : i < length g.ends = omega (arith, s.ends_long) in
    let room_next : i < length next' = simp length-set (omega (arith, s.next_long)) in
    let room_weights : i < length g.weights = omega (arith, s.weights_long) in
    let off : i + 0 ≡ i + edge_room → ⊥ = omega arith in
    record {
      head_new = λ is. ap (λ (q : ℕ). get_or (set heads' (e.b + most_nodes) (i + 1)) (q + most_nodes) 0) (sym is) ∙ get_or-set_same heads' (e.b + most_nodes) _ 0 room ∙ omega arith;
      head_kept = λ no. get_or-set_other heads' (e.b + most_nodes) (w + most_nodes) _ 0 (λ z. no (omega (arith, z)))
          ∙ get_or-set_other g.heads e.a (w + most_nodes) _ 0 far;
      end_is = get_or-set_other ends' (i + edge_room) (i + 0) _ 0 off ∙ ap (λ (q : ℕ). get_or ends' q 0) (add-zero i) ∙ get_or-set_same g.ends i e.a 0 room_ends;
      weight_is = get_or-set_same g.weights i e.weight nan room_weights;
      next_is = ap (λ (q : ℕ). get_or (set next' i (get_or g.heads (e.b + most_nodes) 0)) q 0) (add-zero i) ∙ get_or-set_same next' i _ 0 room_next;
    }

newest_append : (near far : Edge → ℕ) (v i : ℕ) (es : List Edge) (xs ys : List Arc) → newest_first near far v i es (xs ++ ys) ≡ newest_first near far v i es xs ++ ys
unfolding newest_first
newest_append near far v i [] xs ys = refl
newest_append near far v i (e ∷ es) xs ys =
    go (eqb (near e) v) _ _ _ _ (newest_append near far v (suc i) es (record { number = i; to = far e; weight = e.weight } ∷ xs) ys) (newest_append near far v (suc i) es xs ys)
  where
    go : (t : Bool) (y y' n n' : List Arc) → y ≡ y' ++ ys → n ≡ n' ++ ys → elim t [ true ↦ y | false ↦ n ] ≡ elim t [ true ↦ y' | false ↦ n' ] ++ ys
    go true y y' n n' p q = p
    go false y y' n n' p q = q

module _ (g : Adjacency) (v : ℕ) where
  pub follows_none : (k : ℕ) → Follows g v k [] → k ≡ 0
  unfolding Follows
  follows_none k f = f

  pub follows_arc : (k : ℕ) (r : Arc) (rs : List Arc) → Follows g v k (r ∷ rs) → AtArc g v k r
  unfolding Follows
  follows_arc k r rs f = f.0

  pub follows_next : (k : ℕ) (r : Arc) (rs : List Arc) → Follows g v k (r ∷ rs) → Follows g v (next_arc g.next g.heads v k) rs
  unfolding Follows
  follows_next k r rs f = f.1

  -- what is known of an arc, by its edge's number
  arc_is : (k : ℕ) (r : Arc) → edge_number k ≡ r.number → get_or g.ends (k - 1) 0 ≡ r.to → get_or g.weights r.number nan ≡ r.weight → arc_at g k ≡ r
  unfolding arc_at
  arc_is k r hn ht hx = rw (hn, ht, hx)

  second_follows : (m k : ℕ) (rs : List Arc) → m ≤ edge_room → Linked 0 m g k rs → Follows g v k rs
  unfolding Linked Follows
  second_follows m k [] h l = l
  second_follows m k (r ∷ rs) h l =
      let at : k - 1 ≡ r.number + 0 = omega (arith, l.0) in
      let low : k ≤ edge_room = omega (arith, l.0, l.1) in
      let next = next_second g.next g.heads v k low ∙ ap (λ (q : ℕ). get_or g.next q 0) at in
      let bound = linked_bound 0 r.number g _ rs l.4 in (
        record {
          some = omega (arith, l.0);
          within = omega arith;
          is = arc_is k r (number_second k low ∙ at ∙ add-zero r.number) (ap (λ (q : ℕ). get_or g.ends q 0) at ∙ l.2) l.3;
          falls = omega (arith, next, bound, l.0);
        },
        subst (λ (q : ℕ). Follows g v q rs) (sym next) (second_follows r.number _ rs (omega (arith, l.1)) l.4),
      )

  -- the list by first ends, and then the one by second ends
  both_follow : (m k : ℕ) (rs bs : List Arc) → m ≤ edge_room → Linked edge_room m g k rs → get_or g.heads (v + most_nodes) 0 ≤ edge_room → Follows g v (get_or g.heads (v + most_nodes) 0) bs
      → Follows g v (or_else k (get_or g.heads (v + most_nodes) 0)) (rs ++ bs)
  unfolding Linked Follows
  both_follow m k [] bs h l b f = subst (λ (q : ℕ). Follows g v q bs) (sym (else_none k _ l)) f
  both_follow m k (r ∷ rs) bs h l b f =
      let at : k - 1 ≡ r.number + edge_room = omega (arith, l.0) in
      let high : edge_room < k = omega (arith, l.0) in
      let is : k - (edge_room + 1) ≡ r.number = omega (arith, l.0) in
      let second = get_or g.heads (v + most_nodes) 0 in
      let next = next_first g.next g.heads v k high ∙ ap (λ (q : ℕ). or_else (get_or g.next q 0) second) at in
      let bound = linked_bound edge_room r.number g _ rs l.4 in
      let at_arc : AtArc g v k r = record {
        some = omega (arith, l.0);
        within = omega (arith, l.0, l.1);
        is = arc_is k r (number_first k high ∙ is) (ap (λ (q : ℕ). get_or g.ends q 0) at ∙ l.2) l.3;
        falls = subst (λ (q : ℕ). q < k) (sym next) (else_below (get_or g.next (r.number + edge_room) 0) second k (omega (arith, bound, l.0)) (omega arith));
      } in
      let rest = both_follow r.number _ rs bs (omega (arith, l.1)) l.4 b f in
      subst (λ (q : ℕ). Follows g v q ((r ∷ rs) ++ bs)) (sym (else_some k second (omega (arith, l.0))))
      (at_arc, subst (λ (q : ℕ). Follows g v q (rs ++ bs)) (sym next) rest)

no_edges_sized : Sized no_edges
no_edges_sized = record { ends_long = length-replicate {A = ℕ} arc_room 0; weights_long = length-replicate {A = Float} edge_room (fin false 0 (pos 0)); next_long = length-replicate {A = ℕ} arc_room 0; heads_long = length-replicate {A = ℕ} (2 * most_nodes) 0 }

-- The list of a node, from its first arc, is its edges in document 01's order.
pub lists_follow : (es : List Edge) (v : ℕ) → length es ≤ edge_room → Ends es → v < most_nodes → Follows (lists es) v (first_arc (lists es).heads v) (edges_at es v)
unfolding lists edges_at first_arc Linked
lists_follow es v h n hv =
    let g = pushed 0 es no_edges in
    let few : 0 + length es ≤ edge_room = omega arith in
    let none_first : get_or no_edges.heads (v + 0) 0 ≡ 0 = get_or-replicate (2 * most_nodes) (v + 0) 0 0 (omega arith) in
    let none_second : get_or no_edges.heads (v + most_nodes) 0 ≡ 0 = get_or-replicate (2 * most_nodes) (v + most_nodes) 0 0 (omega arith) in
    let firsts = linked_all edge_room 0 (λ (e : Edge). e.a) (λ (e : Edge). e.b) v (λ n i p q. (omega arith, omega arith)) (by_first v hv) 0 es no_edges [] no_edges_sized few n none_first in
    let seconds = linked_all 0 most_nodes (λ (e : Edge). e.b) (λ (e : Edge). e.a) v (λ n i p q. (omega arith, omega arith)) (by_second v hv) 0 es no_edges [] no_edges_sized few n none_second in
    let second = get_or g.heads (v + most_nodes) 0 in
    let arcs = newest_first (λ (e : Edge). e.b) (λ (e : Edge). e.a) v 0 es [] in
    let bound : second ≤ 0 + length es + 0 = linked_bound 0 (0 + length es) g second arcs seconds in
    let low : second ≤ edge_room = omega arith in
    let tail = second_follows g v (0 + length es) second arcs few seconds in
    let first = get_or g.heads v 0 in
    let older = newest_first (λ (e : Edge). e.a) (λ (e : Edge). e.b) v 0 es [] in
    let firsts_at : Linked edge_room (0 + length es) g first older = subst (λ (q : ℕ). Linked edge_room (0 + length es) g (get_or g.heads q 0) older) (add-zero v) firsts in
    let all = both_follow g v (0 + length es) first older arcs few firsts_at low tail in
    subst (λ (q : List Arc). Follows g v (first_arc g.heads v) q) (sym (newest_append (λ (e : Edge). e.a) (λ (e : Edge). e.b) v 0 es [] arcs)) all

-- ---- one edge more

pushed_append : (i : ℕ) (es fs : List Edge) (g : Adjacency) → pushed i (es ++ fs) g ≡ pushed (i + length es) fs (pushed i es g)
unfolding pushed
pushed_append i [] fs g = ap (λ (q : ℕ). pushed q fs g) (sym (add-zero i))
pushed_append i (e ∷ es) fs g =
    pushed_append (suc i) es fs (push i e.a e.b e.weight g)
    ∙ ap (λ (q : ℕ). pushed q fs (pushed (suc i) es (push i e.a e.b e.weight g))) (suc-add i (length es) ∙ sym (add-suc i (length es)))

pub lists_push : (es : List Edge) (e : Edge) → push (length es) e.a e.b e.weight (lists es) ≡ lists (es ++ (e ∷ []))
unfolding lists pushed
lists_push es e = sym (pushed_append 0 es (e ∷ []) no_edges ∙ ap (λ (q : ℕ). push q e.a e.b e.weight (pushed 0 es no_edges)) (zero-add (length es)))

pushed_sized : (i : ℕ) (es : List Edge) (g : Adjacency) → Sized g → Sized (pushed i es g)
unfolding pushed
pushed_sized i [] g s = s
pushed_sized i (e ∷ es) g s = pushed_sized (suc i) es (push i e.a e.b e.weight g) (push_sized i e.a e.b e.weight g s)

pub lists_sized : (es : List Edge) → Sized (lists es)
unfolding lists
lists_sized es = pushed_sized 0 es no_edges no_edges_sized
