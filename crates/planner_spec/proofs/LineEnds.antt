-- The two ends of the line of a repaired drawing.
use mathlib.Core.Path.{◌≡◌, refl, sym, ap, ◌∙◌, subst}
use mathlib.Core.Logic.{◌⊎◌, inl, inr, ◌↔◌}
use mathlib.Core.List.{List, [], ◌∷◌, map}
use mathlib.Core.Bool.{Bool, true, false, true≢false}
use Prim.Native.Nat.{ℕ, ◌+◌, ◌%◌, ◌<◌}
use native.Mathlib.Nat.{lt_of_not-le, eq-zero-or-pos}
use native.Mathlib.Decide.{dec_le}
use native.Mathlib.Omega.{arith}
use lib.ListN.{length}
use borrow.Author.Tests.{eqb-true, eq-eqb, ne_eqb}
use Rattle.limits.specs.Limits.{most_edges}
use Rattle.drawing_spec.specs.Drawing.{Point, closing, Drawing}
use Rattle.lists.specs.Members.{All}
use Rattle.graph_spec.specs.Pieces.{strokes_of}
use Rattle.graph_spec.specs.Graph.{node_of, point_at, build_graph}
use Rattle.graph_spec.specs.Odd.{is_odd, degree, odd_nodes}
use Rattle.graph_spec.specs.Count.{last_from, strokes_at}
use Rattle.graph_spec.specs.Ways.{Reach}
use Rattle.lists.specs.Members.{In}
use Rattle.graph_spec.proofs.Odd.{odd_nodes_member, even_else}
use Rattle.graph_spec.proofs.Lines.{Runs, last_from_map}
use Rattle.graph_spec.proofs.Nodes.{node_point, distinct}
use Rattle.graph_spec.proofs.Built.{built_numbered, built_inside, built_degree, built_untouched}
use Rattle.repair_spec.specs.Repair.{Repair}
use Rattle.repair_spec.proofs.Repaired.{Repaired}
use Rattle.walk_spec.specs.Line.{hierholzer}
use Rattle.walk_spec.specs.Orient.{orient, end_points}
use Rattle.walk_spec.proofs.Orient.{orient_ends}
use Rattle.planner_spec.proofs.Counted.{left_odd, trace, line, copies_touching, left_degree, left_untouched}

-- ---- odd numbers

odd_true : (m : ℕ) → m % 2 ≡ 1 → is_odd m ≡ true
odd_true m h = eq-eqb (m % 2) 1 h

odd_false : (m : ℕ) → m % 2 ≡ 0 → is_odd m ≡ false
odd_false m h = ne_eqb (m % 2) 1 (λ k. omega arith)

-- ---- the last of a line is one of it

last_of : (P : ℕ → Type 0) (v : ℕ) (vs : List ℕ) → All P (v ∷ vs) → P (last_from v vs)
unfolding last_from
last_of P v [] a = a.0
last_of P v (w ∷ vs) a = last_of P w vs a.1

module _ (d : Drawing) (r : Repair) (F : Repaired most_edges (build_graph d) d.settings r)
    (reached : (v : ℕ) → v < length (build_graph d).nodes → Reach (build_graph d).edges 0 v)
  where
    abbrev nodes : List Point
    nodes = (build_graph d).nodes

    abbrev drawn_odd : Point → Bool
    drawn_odd p = is_odd (strokes_at p (strokes_of d))

    abbrev still_odd : Point → Bool
    still_odd p = is_odd (strokes_at p (strokes_of d) + copies_touching d r p)

    -- ---- no point is odd exactly when no node is

    pub none_odd : ((p : Point) → drawn_odd p ≡ false) → odd_nodes (length nodes) (build_graph d).edges ≡ []
    none_odd h = go (odd_nodes (length nodes) (build_graph d).edges) refl
      where
        go : (vs : List ℕ) → odd_nodes (length nodes) (build_graph d).edges ≡ vs → odd_nodes (length nodes) (build_graph d).edges ≡ []
        go [] e = e
        go (v ∷ vs) e =
            let m = (odd_nodes_member (length nodes) (build_graph d).edges v).0 (rw e (inl refl)) in
            absurd (true≢false (sym (odd_true (strokes_at (point_at nodes v) (strokes_of d)) (rw (built_degree d v m.0) at m.1)) ∙ h (point_at nodes v)))

    pub odd_none : odd_nodes (length nodes) (build_graph d).edges ≡ [] → (p : Point) → drawn_odd p ≡ false
    odd_none h p = elim (dec_le (length nodes) (node_of nodes p)) [
      | yes k ↦ odd_false (strokes_at p (strokes_of d)) (omega (arith, built_untouched d p k))
      | no k ↦
          let l : node_of nodes p < length nodes = lt_of_not-le k in
          let e = even_else (length nodes) (build_graph d).edges (node_of nodes p) (built_inside d) (λ i. rw h at i) in
          odd_false (strokes_at p (strokes_of d)) (rw (built_degree d (node_of nodes p) l, node_point nodes p l) at e)
    ]

    -- ---- a point is left odd exactly when it is a node that is

    pub still_odd_lem : (p : Point) → still_odd p ≡ true → (v : ℕ) × (v < length nodes) × (p ≡ point_at nodes v) × In v (odd_nodes (length nodes) r.edges)
    still_odd_lem p h = elim (dec_le (length nodes) (node_of nodes p)) [
      | yes k ↦ absurd (true≢false (sym h ∙ odd_false (strokes_at p (strokes_of d) + copies_touching d r p) (omega (arith, left_untouched d r F reached p k))))
      | no k ↦
          let v = node_of nodes p in
          let l : v < length nodes = lt_of_not-le k in
          let q : p ≡ point_at nodes v = sym (node_point nodes p l) in
          let o : (strokes_at p (strokes_of d) + copies_touching d r p) % 2 ≡ 1 = eqb-true _ 1 h in
          let x : degree r.edges v % 2 ≡ 1 = ap (λ (m : ℕ). m % 2) (sym (left_degree d r F reached v l)) ∙ subst (λ (z : Point). (strokes_at z (strokes_of d) + copies_touching d r z) % 2 ≡ 1) q o in
          (v, l, q, (odd_nodes_member (length nodes) r.edges v).1 (l, x))
    ]

    pub odd_still : (v : ℕ) → In v (odd_nodes (length nodes) r.edges) → still_odd (point_at nodes v) ≡ true
    odd_still v i =
        let m = (odd_nodes_member (length nodes) r.edges v).0 i in
        odd_true (strokes_at (point_at nodes v) (strokes_of d) + copies_touching d r (point_at nodes v)) (ap (λ (k : ℕ). k % 2) (left_degree d r F reached v m.0) ∙ m.1)

    -- ---- the line's two ends, as nodes

    -- f and l are the ends of the line of nodes; orient_path may turn them round
    record EndNodes (first : Point) (rest : List Point) : Type 0 where
      f : ℕ
      l : ℕ
      f_in : f < length nodes
      l_in : l < length nodes
      closed : odd_nodes (length nodes) r.edges ≡ [] → l ≡ f
      ends : (u v : ℕ) → odd_nodes (length nodes) r.edges ≡ u ∷ v ∷ [] → ((f ≡ u) × (l ≡ v)) ⊎ ((f ≡ v) × (l ≡ u))
      points : ((first ≡ point_at nodes f) × (last_from first rest ≡ point_at nodes l)) ⊎ ((first ≡ point_at nodes l) × (last_from first rest ≡ point_at nodes f))

    no_line : length nodes ≡ 0 → (first : Point) (rest : List Point) → line d r ≡ first ∷ rest → ⊥
    unfolding hierholzer orient end_points
    no_line h first rest e = go nodes refl h e
      where
        go : (ns : List Point) → nodes ≡ ns → length ns ≡ 0 → orient d.settings (map (point_at nodes) (hierholzer d.settings nodes r.edges)) ≡ first ∷ rest → ⊥
        go (p ∷ ps) k h e = omega arith
        go [] k h e = let z : orient d.settings (map (point_at []) (hierholzer d.settings [] r.edges)) ≡ first ∷ rest = rw k at e in true≢false (cc)

    runs_are : (a b first : Point) (rest : List Point) → line d r ≡ first ∷ rest → Runs a b (line d r) → (first ≡ a) × (last_from first rest ≡ b)
    runs_are a b first rest e R =
        let k : first ∷ rest ≡ a ∷ R.rest = sym e ∙ R.is in
        let x : first ≡ a = cc in
        let y : rest ≡ R.rest = cc in
        (x, rw (x, y) R.ends)

    end_nodes : (first : Point) (rest : List Point) → line d r ≡ first ∷ rest → EndNodes first rest
    end_nodes first rest e = elim (eq-zero-or-pos (length nodes)) [
      | inl z ↦ absurd (no_line z first rest e)
      | inr h ↦
          let t = trace d r F reached h in
          let w : All (λ (v : ℕ). v < length nodes) (t.first ∷ t.rest) = rw t.is at t.within in
          let a : Point = point_at nodes t.first in
          let ps : List Point = map (point_at nodes) t.rest in
          let x : line d r ≡ orient d.settings (a ∷ ps) = ap (λ (vs : List ℕ). orient d.settings (map (point_at nodes) vs)) t.is in
          let q : last_from a ps ≡ point_at nodes (last_from t.first t.rest) = last_from_map (point_at nodes) t.first t.rest in
          record {
            f = t.first;
            l = last_from t.first t.rest;
            f_in = w.0;
            l_in = last_of (λ (v : ℕ). v < length nodes) t.first t.rest w;
            closed = t.closed;
            ends = t.ends;
            points = elim (orient_ends d.settings a ps) [
              | inl R ↦ inl (let k = runs_are a (last_from a ps) first rest e (rw (← x) at R) in (k.0, k.1 ∙ q))
              | inr R ↦ inr (let k = runs_are (last_from a ps) a first rest e (rw (← x) at R) in (k.0 ∙ q, k.1))
            ];
          }
    ]

    module _ (first : Point) (rest : List Point) (is : line d r ≡ first ∷ rest) where
      abbrev E : EndNodes first rest
      E = end_nodes first rest is

      -- points are one exactly when their nodes are
      meet : E.l ≡ E.f → last_from first rest ≡ first
      meet k = elim E.points [ inl q ↦ q.1 ∙ ap (point_at nodes) k ∙ sym q.0 | inr q ↦ q.1 ∙ sym (ap (point_at nodes) k) ∙ sym q.0 ]

      met : last_from first rest ≡ first → E.l ≡ E.f
      met k = distinct nodes (built_numbered d) E.l E.f E.l_in E.f_in (elim E.points [
        | inl q ↦ sym q.1 ∙ k ∙ q.0
        | inr q ↦ sym q.0 ∙ sym k ∙ q.1
      ])

      -- some node was odd and closing was not chosen: two nodes are left odd, and they are the line's ends
      two_odd : closing d.settings ≡ false → (odd_nodes (length nodes) (build_graph d).edges ≡ [] → ⊥) → E.l ≡ E.f → ⊥
      two_odd c o k =
          let t = F.two_left c o in
          elim (E.ends t.0 t.1 t.3) [ inl q ↦ omega (arith, t.2, q.0, q.1, k) | inr q ↦ omega (arith, t.2, q.0, q.1, k) ]

      pub ends_meet : (last_from first rest ≡ first) ↔ ((closing d.settings ≡ true) ⊎ ((p : Point) → drawn_odd p ≡ false))
      ends_meet = (λ k. go (closing d.settings) (odd_nodes (length nodes) (build_graph d).edges) refl refl (met k), back)
        where
          go : (b : Bool) (vs : List ℕ) → closing d.settings ≡ b → odd_nodes (length nodes) (build_graph d).edges ≡ vs → E.l ≡ E.f
              → (closing d.settings ≡ true) ⊎ ((p : Point) → drawn_odd p ≡ false)
          go true vs c o k = inl c
          go false [] c o k = inr (odd_none o)
          go false (v ∷ vs) c o k = absurd (two_odd c (λ z. true≢false (cc)) k)

          back : (closing d.settings ≡ true) ⊎ ((p : Point) → drawn_odd p ≡ false) → last_from first rest ≡ first
          back (inl c) = meet (E.closed (F.none_left (inl c)))
          back (inr n) = meet (E.closed (F.none_left (inr (none_odd n))))

      -- where u and v are left odd, they are the line's ends, one each
      at_ends : (u v : ℕ) → odd_nodes (length nodes) r.edges ≡ u ∷ v ∷ []
          → ((point_at nodes u ≡ first) × (point_at nodes v ≡ last_from first rest)) ⊎ ((point_at nodes v ≡ first) × (point_at nodes u ≡ last_from first rest))
      at_ends u v o = go (E.ends u v o) E.points
        where
          go : ((E.f ≡ u) × (E.l ≡ v)) ⊎ ((E.f ≡ v) × (E.l ≡ u))
              → ((first ≡ point_at nodes E.f) × (last_from first rest ≡ point_at nodes E.l)) ⊎ ((first ≡ point_at nodes E.l) × (last_from first rest ≡ point_at nodes E.f))
              → ((point_at nodes u ≡ first) × (point_at nodes v ≡ last_from first rest)) ⊎ ((point_at nodes v ≡ first) × (point_at nodes u ≡ last_from first rest))
          go (inl e) (inl q) = inl (rw (← e.0) (sym q.0), rw (← e.1) (sym q.1))
          go (inl e) (inr q) = inr (rw (← e.1) (sym q.0), rw (← e.0) (sym q.1))
          go (inr e) (inl q) = inr (rw (← e.0) (sym q.0), rw (← e.1) (sym q.1))
          go (inr e) (inr q) = inl (rw (← e.1) (sym q.0), rw (← e.0) (sym q.1))

      -- so a point is left odd exactly when it is an end
      pub ends_odd : (last_from first rest ≡ first → ⊥) → (p : Point) → (still_odd p ≡ true) ↔ ((p ≡ first) ⊎ (p ≡ last_from first rest))
      ends_odd apart p = go (left_odd d r F reached)
        where
          End : ℕ → Type 0
          End w = (point_at nodes w ≡ first) ⊎ (point_at nodes w ≡ last_from first rest)

          end : (u v w : ℕ) → odd_nodes (length nodes) r.edges ≡ u ∷ v ∷ [] → In w (u ∷ v ∷ []) → End w
          end u v w o (inl e) = elim (at_ends u v o) [ inl k ↦ inl (rw e k.0) | inr k ↦ inr (rw e k.1) ]
          end u v w o (inr (inl e)) = elim (at_ends u v o) [ inl k ↦ inr (rw e k.1) | inr k ↦ inl (rw e k.0) ]
          end u v w o (inr (inr e)) = absurd e

          odd_at : (w : ℕ) → In w (odd_nodes (length nodes) r.edges) → (q : Point) → p ≡ q → point_at nodes w ≡ q → still_odd p ≡ true
          odd_at w i q e k = rw (e ∙ sym k) (odd_still w i)

          go : (odd_nodes (length nodes) r.edges ≡ []) ⊎ ((u : ℕ) × (v : ℕ) × (odd_nodes (length nodes) r.edges ≡ u ∷ v ∷ [])) → (still_odd p ≡ true) ↔ ((p ≡ first) ⊎ (p ≡ last_from first rest))
          go (inl o) = absurd (apart (meet (E.closed o)))
          go (inr t) = (
            λ h. (let x = still_odd_lem p h in elim (end t.0 t.1 x.0 t.2 (rw t.2 at x.3)) [ inl k ↦ inl (x.2 ∙ k) | inr k ↦ inr (x.2 ∙ k) ]),
            λ h. (
                let u_in : In t.0 (odd_nodes (length nodes) r.edges) = rw t.2 (inl refl) in
                let v_in : In t.1 (odd_nodes (length nodes) r.edges) = rw t.2 (inr (inl refl)) in
                elim (at_ends t.0 t.1 t.2) [
                  | inl k ↦ elim h [ inl e ↦ odd_at t.0 u_in first e k.0 | inr e ↦ odd_at t.1 v_in (last_from first rest) e k.1 ]
                  | inr k ↦ elim h [ inl e ↦ odd_at t.1 v_in first e k.0 | inr e ↦ odd_at t.0 u_in (last_from first rest) e k.1 ]
                ]),
          )
