-- A drawing with made links is one piece: every node of its graph can be reached from node 0.
use mathlib.Core.Path.{◌≡◌, refl, sym, ap, ◌∙◌, subst}
use mathlib.Core.Logic.{inl, inr}
use mathlib.Core.List.{List, [], ◌∷◌, ◌++◌, map}
use mathlib.Core.Bool.{Bool, true, false}
use Prim.Native.Nat.{ℕ, zero, suc, ◌+◌, ◌-◌, ◌<◌}
use native.Mathlib.Omega.{arith}
use lib.ListN.{length, get_or}
use borrow.Author.Tests.{ltb-true, lt-ltb}
use Rattle.lists.specs.Members.{In, All}
use Rattle.lists.proofs.Members.{all_in, in_all, in_right, in_map, in_at, all_append, all_at}
use Rattle.drawing_spec.specs.Drawing.{Point, no_point, same, Link, Drawing}
use Rattle.drawing_spec.proofs.Same.{same_true}
use Rattle.graph_spec.specs.Chain.{chain, splits, sort, inner, distinct}
use Rattle.graph_spec.specs.Pieces.{Stroke, stroke, pieces, line_pieces, line_uses, pieces_from, uses_from, pieces_of, link_strokes, links_of, strokes_of, link_uses, uses_of}
use Rattle.graph_spec.specs.Graph.{Edge, node_of, point_at, edge_of, build_graph}
use Rattle.graph_spec.specs.Ways.{Reach, here, on}
use Rattle.graph_spec.specs.Reach.{all_reached}
use Rattle.graph_spec.proofs.Connected.{reach_trans, reach_sym}
use Rattle.graph_spec.proofs.Reached.{reached_all}
use Rattle.graph_spec.proofs.Nodes.{uses_all}
use Rattle.graph_spec.proofs.Built.{built_numbered, built_inside}
use Rattle.spanning.specs.Edges.{Leads}
use Rattle.spanning.specs.Edges as edges
use Rattle.links_spec.specs.Candidates.{Candidate, IsCandidate, low_of, high_of, line_at, has_points, end_point, low_point, high_point}
use Rattle.links_spec.specs.Made.{made, as_link, made_links, linked}
use Rattle.links_spec.proofs.Made.{made_links_all}

-- points that are tied together
pub record Tied (R : Point → Point → Type 0) : Type 0 where
  pub self : (p : Point) → R p p
  pub back : (p q : Point) → R p q → R q p
  pub along : (p q r : Point) → R p q → R q r → R p r

module _ (R : Point → Point → Type 0) (T : Tied R) where
  -- what is drawn ties its ends
  abbrev Drawn : List Stroke → Type 0
  Drawn ss = All (λ (s : Stroke). R s.from s.to) ss

  all_left : (ss ts : List Stroke) → Drawn (ss ++ ts) → Drawn ss
  all_left [] ts a = tt
  all_left (s ∷ ss) ts a = (a.0, all_left ss ts a.1)

  all_right : (ss ts : List Stroke) → Drawn (ss ++ ts) → Drawn ts
  all_right [] ts a = a
  all_right (s ∷ ss) ts a = all_right ss ts a.1

  same_tied : (p q : Point) → same p q ≡ true → R p q
  same_tied p q e = subst (R p) (same_true p q e) (T.self p)

  pieces_step : (p q : Point) (qs : List Point) → Drawn (pieces p (q ∷ qs)) → R p q × Drawn (pieces q qs)
  unfolding pieces
  pieces_step p q qs a = go (same p q) refl a
    where
      go : (t : Bool) → same p q ≡ t → Drawn (elim t [ true ↦ pieces q qs | false ↦ stroke p q ∷ pieces q qs ]) → R p q × Drawn (pieces q qs)
      go true e a = (same_tied p q e, a)
      go false e a = (a.0, a.1)

  further : (p q : Point) (qs : List Point) → R p q → All (R q) qs → All (R p) qs
  further p q [] r a = tt
  further p q (x ∷ qs) r a = (T.along p q x r a.0, further p q qs r a.1)

  pieces_tied : (p : Point) (qs : List Point) → Drawn (pieces p qs) → All (R p) qs
  pieces_tied p [] a = tt
  pieces_tied p (q ∷ qs) a = let s = pieces_step p q qs a in (s.0, further p q qs s.0 (pieces_tied q qs s.1))

  -- ---- a line is tied to its start

  chain_end : (ks : List Link) (l s : ℕ) (a b : Point) → In b (chain ks l s a b)
  unfolding chain
  chain_end ks l s a b = in_right b (distinct (inner a b (sort a (splits ks l s)))) (b ∷ []) (inl refl)

  line_tied : (ks : List Link) (l s : ℕ) (a : Point) (ps : List Point) → Drawn (line_pieces ks l s a ps) → All (R a) (line_uses ks l s a ps) × All (R a) ps
  unfolding line_pieces line_uses
  line_tied ks l s a [] h = (tt, tt)
  line_tied ks l s a (b ∷ ps) h =
      let c = pieces_tied a (chain ks l s a b) (all_left (pieces a (chain ks l s a b)) (line_pieces ks l (suc s) b ps) h) in
      let r = line_tied ks l (suc s) b ps (all_right (pieces a (chain ks l s a b)) (line_pieces ks l (suc s) b ps) h) in
      let ab = all_in (R a) (chain ks l s a b) c b (chain_end ks l s a b) in
      (all_append (R a) (chain ks l s a b) (line_uses ks l (suc s) b ps) c (further a b (line_uses ks l (suc s) b ps) ab r.0), (ab, further a b ps ab r.1))

  abbrev start : List Point → Point
  start ps = end_point ps 0

  start_is : (a : Point) (ps : List Point) → start (a ∷ ps) ≡ a
  unfolding end_point
  start_is a ps = refl

  points_tied : (ks : List Link) (l : ℕ) (ls : List (List Point)) → Drawn (pieces_from ks l ls) → (i : ℕ) (p : Point) → In p (get_or ls i []) → R (start (get_or ls i [])) p
  unfolding pieces_from
  points_tied ks l [] h i p m = absurd m
  points_tied ks l ([] ∷ ls) h zero p m = absurd m
  points_tied ks l ([] ∷ ls) h (suc i) p m = points_tied ks (suc l) ls h i p m
  points_tied ks l ((a ∷ ps) ∷ ls) h zero p m =
      rw (start_is a ps) (all_in (R a) (a ∷ ps) (T.self a, (line_tied ks l 0 a ps (all_left (line_pieces ks l 0 a ps) (pieces_from ks (suc l) ls) h)).1) p m)
  points_tied ks l ((a ∷ ps) ∷ ls) h (suc i) p m = points_tied ks (suc l) ls (all_right (line_pieces ks l 0 a ps) (pieces_from ks (suc l) ls) h) i p m

  module _ (all : List (List Point)) where
    -- tied to the start of a line that has points
    abbrev FromStart : Point → Type 0
    FromStart q = (l : ℕ) × (has_points all l ≡ true) × R (start (line_at all l)) q

    all_from_start : (l : ℕ) (a : Point) → has_points all l ≡ true → start (line_at all l) ≡ a → (qs : List Point) → All (R a) qs → All FromStart qs
    all_from_start l a h e [] t = tt
    all_from_start l a h e (q ∷ qs) t = ((l, h, rw e t.0), all_from_start l a h e qs t.1)

    uses_tied : (ks : List Link) (l : ℕ) (ls : List (List Point)) → Drawn (pieces_from ks l ls) → ((i : ℕ) → get_or ls i [] ≡ get_or all (l + i) []) → All FromStart (uses_from ks l ls)
    unfolding pieces_from uses_from has_points
    uses_tied ks l [] h e = tt
    uses_tied ks l ([] ∷ ls) h e = uses_tied ks (suc l) ls h (λ i. let q : l + suc i ≡ suc l + i = omega arith in e (suc i) ∙ ap (λ (j : ℕ). get_or all j []) q)
    uses_tied ks l ((a ∷ ps) ∷ ls) h e =
        let q : l + 0 ≡ l = omega arith in
        let this : line_at all l ≡ a ∷ ps = ap (λ (j : ℕ). get_or all j []) (sym q) ∙ sym (e 0) in
        let t = line_tied ks l 0 a ps (all_left (line_pieces ks l 0 a ps) (pieces_from ks (suc l) ls) h) in
        all_append FromStart (a ∷ line_uses ks l 0 a ps) (uses_from ks (suc l) ls)
        (all_from_start l a (rw this (lt-ltb 0 (suc (length ps)) (omega arith))) (ap start this ∙ start_is a ps) (a ∷ line_uses ks l 0 a ps) (T.self a, t.0))
        (uses_tied ks (suc l) ls (all_right (line_pieces ks l 0 a ps) (pieces_from ks (suc l) ls) h) (λ i. let q : l + suc i ≡ suc l + i = omega arith in e (suc i) ∙ ap (λ (j : ℕ). get_or all j []) q))

    -- ---- links

    module _ (points : (l : ℕ) (p : Point) → In p (line_at all l) → R (start (line_at all l)) p) where
      end_tied : (l e : ℕ) → has_points all l ≡ true → R (start (line_at all l)) (end_point (line_at all l) e)
      unfolding has_points end_point
      end_tied l zero h = T.self (start (line_at all l))
      end_tied l (suc e) h = points l (get_or (line_at all l) (length (line_at all l) - 1) no_point) (in_at (line_at all l) (length (line_at all l) - 1) no_point (omega (arith, ltb-true 0 (length (line_at all l)) h)))

      link_uses_tied : (cs : List Candidate) → All (IsCandidate all) cs → All FromStart (link_uses (map (as_link all) cs))
      unfolding link_uses as_link
      link_uses_tied [] a = tt
      link_uses_tied (k ∷ cs) a =
          ((k.low, a.0.low_there, end_tied k.low k.low_end a.0.low_there), ((k.high, a.0.high_there, end_tied k.high k.high_end a.0.high_there), link_uses_tied cs a.1))

      link_tied : (cs : List Candidate) → Drawn (link_strokes (map (as_link all) cs)) → (k : Candidate) → In k cs → R (low_point all k) (high_point all k)
      unfolding link_strokes as_link
      link_tied [] h k x'' = elim x'' [ ]
      link_tied (j ∷ cs) h k (inl e) = rw e (pieces_tied (low_point all j) (high_point all j ∷ []) (all_left (pieces (low_point all j) (high_point all j ∷ [])) (link_strokes (map (as_link all) cs)) h)).0
      link_tied (j ∷ cs) h k (inr i) = link_tied cs (all_right (pieces (low_point all j) (high_point all j ∷ [])) (link_strokes (map (as_link all) cs)) h) k i

      leads_tied : (cs : List Candidate) → All (IsCandidate all) cs → Drawn (link_strokes (map (as_link all) cs)) → (u v : ℕ) → Leads low_of high_of cs u v → R (start (line_at all u)) (start (line_at all v))
      leads_tied cs a h u v edges.here = T.self (start (line_at all u))
      leads_tied cs a h u v (edges.on {u = w} k q i j) = T.along (start (line_at all u)) (start (line_at all w)) (start (line_at all v)) (leads_tied cs a h u w q) (go j)
        where
          C : IsCandidate all k
          C = all_in (IsCandidate all) cs a k i

          across : R (start (line_at all k.low)) (start (line_at all k.high))
          across =
              T.along (start (line_at all k.low)) (low_point all k) (start (line_at all k.high)) (end_tied k.low k.low_end C.low_there)
              (T.along (low_point all k) (high_point all k) (start (line_at all k.high)) (link_tied cs h k i) (T.back (start (line_at all k.high)) (high_point all k) (end_tied k.high k.high_end C.high_there)))

          go : edges.Joins low_of high_of k w v → R (start (line_at all w)) (start (line_at all v))
          go (inl p) = rw (← p.0, ← p.1) across
          go (inr p) = rw (← p.0, ← p.1) (T.back (start (line_at all k.low)) (start (line_at all k.high)) across)

-- ---- the graph of a drawing with made links

module _ (d : Drawing) where
  abbrev nodes : List Point
  nodes = (build_graph (linked d)).nodes

  abbrev es : List Edge
  es = (build_graph (linked d)).edges

  -- a way leads from the node of one point to that of the other
  abbrev Way : Point → Point → Type 0
  Way p q = Reach es (node_of nodes p) (node_of nodes q)

  way_tied : Tied Way
  way_tied = record { self = λ p. here; back = λ p q r. reach_sym r; along = λ p q r a b. reach_trans a b }

  stroke_way : (s : Stroke) → In s (strokes_of (linked d)) → Way s.from s.to
  unfolding build_graph edge_of
  stroke_way s i = on here (record { by = edge_of nodes s; is_in = in_map (edge_of nodes) s (strokes_of (linked d)) i; joins = inl (refl, refl) })

  drawn_all : Drawn Way way_tied (strokes_of (linked d))
  drawn_all = in_all (λ (s : Stroke). Way s.from s.to) (strokes_of (linked d)) stroke_way

  drawn_lines : Drawn Way way_tied (pieces_from (made_links d.lines) 0 d.lines)
  unfolding pieces_of linked
  drawn_lines = all_left Way way_tied (pieces_of (linked d)) (links_of (linked d)) drawn_all

  drawn_links : Drawn Way way_tied (link_strokes (map (as_link d.lines) (made d.lines)))
  unfolding links_of linked made_links
  drawn_links = all_right Way way_tied (pieces_of (linked d)) (links_of (linked d)) drawn_all

  points_way : (l : ℕ) (p : Point) → In p (line_at d.lines l) → Way (end_point (line_at d.lines l) 0) p
  points_way l p i = points_tied Way way_tied (made_links d.lines) 0 d.lines drawn_lines l p i

  uses_way : All (FromStart Way way_tied d.lines) (uses_of (linked d))
  unfolding uses_of linked made_links
  uses_way =
      all_append (FromStart Way way_tied d.lines) (uses_from (made_links d.lines) 0 d.lines) (link_uses (made_links d.lines))
      (uses_tied Way way_tied d.lines (made_links d.lines) 0 d.lines drawn_lines (λ i. let q : i ≡ 0 + i = omega arith in ap (λ (j : ℕ). get_or d.lines j []) q))
      (link_uses_tied Way way_tied d.lines points_way (made d.lines) (made_links_all d.lines).are)

  nodes_way : All (FromStart Way way_tied d.lines) nodes
  unfolding build_graph
  nodes_way = uses_all (FromStart Way way_tied d.lines) [] (uses_of (linked d)) tt uses_way

  way_between : (u v : ℕ) → u < length nodes → v < length nodes → Reach es u v
  way_between u v hu hv =
      let p = all_at (FromStart Way way_tied d.lines) nodes nodes_way u no_point hu in
      let q = all_at (FromStart Way way_tied d.lines) nodes nodes_way v no_point hv in
      let a : Point = end_point (line_at d.lines p.0) 0 in
      let b : Point = end_point (line_at d.lines q.0) 0 in
      let across : Way a b = leads_tied Way way_tied d.lines points_way (made d.lines) (made_links_all d.lines).are drawn_links p.0 q.0 ((made_links_all d.lines).spans.leads p.0 q.0 p.1 q.1) in
      let r : Way (point_at nodes u) (point_at nodes v) = reach_trans (reach_sym p.2) (reach_trans across q.2) in
      rw (built_numbered (linked d) u hu, built_numbered (linked d) v hv) at r

  -- so check 9 never holds
  pub linked_reached : all_reached (length nodes) es ≡ true
  linked_reached = reached_all (length nodes) es (built_inside (linked d)) (λ v h. way_between 0 v (omega arith) h)
