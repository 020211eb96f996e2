-- Steps, pieces, links and copies of a repaired drawing, counted by points.
use mathlib.Core.Path.{◌≡◌, refl, sym, ap₂, ◌∙◌, subst}
use mathlib.Core.Logic.{◌⊎◌, inl, inr}
use mathlib.Core.List.{List, [], ◌∷◌, map}
use mathlib.Core.Bool.{Bool, true, false, ◌&&◌, ◌||◌, true≢false}
use Prim.Native.Nat.{ℕ, suc, ◌+◌, ◌≤◌, ◌<◌}
use native.Mathlib.Nat.{lt_of_not-le, eq-zero-or-pos, not-suc-le-zero}
use native.Mathlib.Decide.{dec_le}
use native.Mathlib.Omega.{arith}
use lib.ListN.{length, length-map}
use lib.Dec.{eqb}
use borrow.Author.Tests.{eqb-true, eq-eqb}
use Rattle.limits.specs.Limits.{most_edges}
use Rattle.drawing_spec.specs.Drawing.{Point, Settings, closing, same, Drawing}
use Rattle.lists.specs.Members.{All}
use Rattle.lists.proofs.Members.{all_imp, all_map}
use Rattle.drawing_spec.proofs.Same.{both}
use Rattle.graph_spec.specs.Pieces.{Stroke, strokes_of}
use Rattle.graph_spec.specs.Graph.{Edge, node_of, point_at, build_graph}
use Rattle.graph_spec.specs.Odd.{one, hit, degree, odd_nodes}
use Rattle.graph_spec.specs.Count.{sum_over, line_sum, joint, joining, lies, steps_between, strokes_between, touches, strokes_at}
use Rattle.graph_spec.specs.Ways.{Joins, Joined, Inside, Reach}
use Rattle.lists.specs.Members.{In}
use Rattle.graph_spec.proofs.Sums.{joins_joint, other_way}
use Rattle.graph_spec.proofs.Connected.{joined_more, reach_more}
use Rattle.graph_spec.proofs.Strokes.{lies_own}
use Rattle.graph_spec.proofs.Nodes.{node_point}
use Rattle.graph_spec.proofs.Between.{sum_none, sum_map, Agrees, nothing, lies_joint, touches_hit, lies_none, touches_none, steps_agree, steps_none}
use Rattle.graph_spec.proofs.Built.{built_numbered, built_strokes, built_joining, built_degree, built_none, built_untouched}
use Rattle.repair_spec.specs.Repair.{Repair}
use Rattle.repair_spec.proofs.Repaired.{Repaired}
use Rattle.walk_spec.specs.EulerLine.{EulerLine}
use Rattle.walk_spec.specs.Line.{hierholzer}
use Rattle.walk_spec.specs.Orient.{orient}
use Rattle.walk_spec.proofs.Line.{hierholzer_line}
use Rattle.walk_spec.proofs.Traced.{Traced, traced}
use Rattle.walk_spec.proofs.Orient.{orient_sum, orient_length}

-- ---- what lies between two points, either way round

lies_comm : (p q a b : Point) → lies p q a b ≡ lies p q b a
lies_comm p q a b = other_way (same a p) (same b q) (same a q) (same b p)

-- ---- two nodes are joined where a positive number of edges joins them

either_true : (s t : Bool) → 0 < one (s || t) → (s ≡ true) ⊎ (t ≡ true)
either_true true t h = inl refl
either_true false true h = inr refl
either_true false false h = absurd (omega arith)

joint_joins : (u v : ℕ) (e : Edge) → 0 < joint u v e.a e.b → Joins e u v
joint_joins u v e h = elim (either_true (eqb e.a u && eqb e.b v) (eqb e.a v && eqb e.b u) h) [
  | inl t ↦ inl (here t)
  | inr t ↦ inr (here t)
]
  where
    here : {x y : ℕ} → eqb e.a x && eqb e.b y ≡ true → (e.a ≡ x) × (e.b ≡ y)
    here {x} {y} t = let k = both (eqb e.a x) (eqb e.b y) t in (eqb-true e.a x k.0, eqb-true e.b y k.1)

joined_of_count : (u v : ℕ) (es : List Edge) → 0 < joining u v es → Joined es u v
unfolding sum_over
joined_of_count u v [] h = absurd (omega arith)
joined_of_count u v (e ∷ es) h = elim (eq-zero-or-pos (joint u v e.a e.b)) [
  | inl z ↦ joined_more (λ x i. inr i) (joined_of_count u v es (omega arith))
  | inr k ↦ record { by = e; is_in = inl refl; joins = joint_joins u v e k }
]

joins_once : (u v : ℕ) (e : Edge) → Joins e u v → joint u v e.a e.b ≡ 1
joins_once u v e j = sym (joins_joint u v e u v j) ∙ ap₂ (λ (s t : Bool). one ((s && t) || (eqb u v && eqb v u))) (eq-eqb u u refl) (eq-eqb v v refl)

count_of_joined : (u v : ℕ) (es : List Edge) → Joined es u v → 0 < joining u v es
unfolding sum_over
count_of_joined u v [] j = absurd j.is_in
count_of_joined u v (e ∷ es) j = go j.is_in (λ i. count_of_joined u v es (record { by = j.by; is_in = i; joins = j.joins }))
  where
    go : In j.by (e ∷ es) → (In j.by es → 0 < joining u v es) → 0 < joint u v e.a e.b + joining u v es
    go (inl k) r = omega (arith, joins_once u v e (subst (λ (x : Edge). Joins x u v) k j.joins))
    go (inr i) r = omega (arith, r i)

-- a graph of no nodes has no edges
no_edges : (es : List Edge) → Inside 0 es → es ≡ []
no_edges [] h = refl
no_edges (e ∷ es) h = absurd (not-suc-le-zero (h e (inl refl)).0)

-- the walk through any graph with nodes
line_through : (s : Settings) (ns : List Point) (es : List Edge) → 0 < length ns → Inside (length ns) es → ((v : ℕ) → v < length ns → Reach es 0 v)
    → (odd_nodes (length ns) es ≡ []) ⊎ ((u : ℕ) × (v : ℕ) × (odd_nodes (length ns) es ≡ u ∷ v ∷ [])) → EulerLine (length ns) es (hierholzer s ns es)
line_through s [] es h = absurd (not-suc-le-zero h)
line_through s (p ∷ ps) es h = hierholzer_line s p ps es

-- ---- the line of a repaired drawing, its retraces and copies, as points

abbrev pub node_line : Drawing → Repair → List ℕ
node_line d r = hierholzer d.settings (build_graph d).nodes r.edges

abbrev pub line : Drawing → Repair → List Point
line d r = orient d.settings (map (point_at (build_graph d).nodes) (node_line d r))

abbrev pub ways : Drawing → Repair → List (List Point)
ways d r = map (λ (way : List ℕ). map (point_at (build_graph d).nodes) way) r.retraces

-- the copies between two points, and those that end at a point
abbrev pub copies : Drawing → Repair → Point → Point → ℕ
copies d r p q = sum_over (λ (way : List Point). steps_between p q way) (ways d r)

abbrev pub copies_touching : Drawing → Repair → Point → ℕ
copies_touching d r p = sum_over (λ (way : List Point). line_sum (touches p) way) (ways d r)

-- ---- a drawing d whose graph is connected, and its repair r

module _ (d : Drawing) (r : Repair) (F : Repaired most_edges (build_graph d) d.settings r)
    (reached : (v : ℕ) → v < length (build_graph d).nodes → Reach (build_graph d).edges 0 v)
  where
    abbrev nodes : List Point
    nodes = (build_graph d).nodes

    -- copies keep every node within reach
    reach_repaired : (v : ℕ) → v < length nodes → Reach r.edges 0 v
    reach_repaired v l = reach_more F.copied.old (reached v l)

    -- repair leaves none or two nodes odd
    pub left_odd : (odd_nodes (length nodes) r.edges ≡ []) ⊎ ((u : ℕ) × (v : ℕ) × (odd_nodes (length nodes) r.edges ≡ u ∷ v ∷ []))
    left_odd = go (closing d.settings) (odd_nodes (length nodes) (build_graph d).edges) refl refl
      where
        go : (b : Bool) (vs : List ℕ) → closing d.settings ≡ b → odd_nodes (length nodes) (build_graph d).edges ≡ vs
            → (odd_nodes (length nodes) r.edges ≡ []) ⊎ ((u : ℕ) × (v : ℕ) × (odd_nodes (length nodes) r.edges ≡ u ∷ v ∷ []))
        go true vs c o = inl (F.none_left (inl c))
        go false [] c o = inl (F.none_left (inr o))
        go false (x ∷ vs) c o = let t = F.two_left c (λ z. true≢false (cc)) in inr (t.0, t.1, t.3)

    pub euler_line : 0 < length nodes → EulerLine (length nodes) r.edges (node_line d r)
    euler_line h = line_through d.settings nodes r.edges h F.copied.inside reach_repaired left_odd

    pub trace : 0 < length nodes → Traced (length nodes) r.edges (node_line d r)
    trace h = traced (length nodes) r.edges (node_line d r) F.copied.inside (euler_line h)

    -- what holds of the line, also where there are no nodes
    record Steps (line : List ℕ) : Type 0 where
      counts : (u v : ℕ) → line_sum (joint u v) line ≡ joining u v r.edges
      within : All (λ (v : ℕ). v < length nodes) line
      few : length line ≤ suc (length r.edges)

    no_steps : length nodes ≡ 0 → Steps (node_line d r)
    unfolding hierholzer line_sum sum_over
    no_steps h = go nodes refl h
      where
        go : (ns : List Point) → nodes ≡ ns → length ns ≡ 0 → Steps (hierholzer d.settings nodes r.edges)
        go (p ∷ ps) e h = absurd (omega arith)
        go [] e h =
            let k : r.edges ≡ [] = no_edges r.edges (subst (λ (ps : List Point). Inside (length ps) r.edges) e F.copied.inside) in
            rw e (record { counts = λ u v. rw k refl; within = tt; few = omega arith })

    line_steps : Steps (node_line d r)
    line_steps = elim (eq-zero-or-pos (length nodes)) [
      | inl z ↦ no_steps z
      | inr h ↦ let t = trace h in record { counts = t.steps; within = t.within; few = omega (arith, t.count) }
    ]

    -- ---- between two points

    -- Of any two points both are nodes, or one of them is none.
    Place : Point → Point → Type 0
    Place p q = ((u : ℕ) × (v : ℕ) × (u < length nodes) × (v < length nodes) × (p ≡ point_at nodes u) × (q ≡ point_at nodes v)) ⊎ ((length nodes ≤ node_of nodes p) ⊎ (length nodes ≤ node_of nodes q))

    placed : (p q : Point) → Place p q
    unfolding Place
    placed p q = elim (dec_le (length nodes) (node_of nodes p)) [
      | yes h ↦ inr (inl h)
      | no m ↦ elim (dec_le (length nodes) (node_of nodes q)) [
        | yes k ↦ inr (inr k)
        | no k ↦ inl (node_of nodes p, node_of nodes q, lt_of_not-le m, lt_of_not-le k, sym (node_point nodes p (lt_of_not-le m)), sym (node_point nodes q (lt_of_not-le k)))
      ]
    ]

    copies_agree : (w : Point → Point → ℕ) (t : ℕ → ℕ → ℕ) → Agrees nodes w t → sum_over (λ (way : List Point). line_sum w way) (ways d r) ≡ sum_over (λ (way : List ℕ). line_sum t way) r.retraces
    copies_agree w t e =
        sum_map (λ (way : List ℕ). map (point_at nodes) way) _ _ r.retraces
        (all_imp _ _ (λ way a. steps_agree nodes (built_numbered d) w t e way a) r.retraces F.copied.ways_inside)

    copies_joint : (u v : ℕ) → u < length nodes → v < length nodes → copies d r (point_at nodes u) (point_at nodes v) ≡ sum_over (λ (way : List ℕ). line_sum (joint u v) way) r.retraces
    copies_joint u v hu hv = copies_agree _ (joint u v) (lies_joint nodes (built_numbered d) u v hu hv)

    copies_none : (w : Point → Point → ℕ) → Agrees nodes w nothing → sum_over (λ (way : List Point). line_sum w way) (ways d r) ≡ 0
    copies_none w e =
        sum_none (λ (way : List Point). line_sum w way) (ways d r)
        (all_map (λ (way : List ℕ). map (point_at nodes) way) _ r.retraces (all_imp _ _ (λ way a. steps_none nodes (built_numbered d) w e way a) r.retraces F.copied.ways_inside))

    no_copies : (p q : Point) → (length nodes ≤ node_of nodes p) ⊎ (length nodes ≤ node_of nodes q) → copies d r p q ≡ 0
    no_copies p q h = copies_none (lies p q) (lies_none nodes (built_numbered d) p q h)

    -- the first sentence of demand 3
    pub steps_counted : (p q : Point) → steps_between p q (line d r) ≡ strokes_between p q (strokes_of d) + copies d r p q
    unfolding Place
    steps_counted p q = orient_sum (lies p q) (lies_comm p q) d.settings (map (point_at nodes) (node_line d r)) ∙ go (placed p q)
      where
        go : Place p q → steps_between p q (map (point_at nodes) (node_line d r)) ≡ strokes_between p q (strokes_of d) + copies d r p q
        go (inr h) = omega (arith, steps_none nodes (built_numbered d) (lies p q) (lies_none nodes (built_numbered d) p q h) (node_line d r) line_steps.within, built_none d p q h, no_copies p q h)
        go (inl w) =
            rw (w.4, w.5)
            (omega (
              arith,
              steps_agree nodes (built_numbered d) _ (joint w.0 w.1) (lies_joint nodes (built_numbered d) w.0 w.1 w.2 w.3) (node_line d r) line_steps.within,
              line_steps.counts w.0 w.1,
              F.copied.joining_is w.0 w.1,
              built_joining d w.0 w.1 w.2 w.3,
              copies_joint w.0 w.1 w.2 w.3,
            ))

    -- no copy lies where nothing was drawn
    pub copies_drawn : (p q : Point) → 0 < copies d r p q → 0 < strokes_between p q (strokes_of d)
    unfolding Place
    copies_drawn p q h = go (placed p q)
      where
        go : Place p q → 0 < strokes_between p q (strokes_of d)
        go (inr k) = absurd (omega (arith, no_copies p q k))
        go (inl w) =
            let u = w.0 in
            let v = w.1 in
            let c : 0 < copies d r (point_at nodes u) (point_at nodes v) = rw (w.4, w.5) at h in
            let j : Joined r.edges u v = joined_of_count u v r.edges (omega (arith, F.copied.joining_is u v, copies_joint u v w.2 w.3)) in
            rw (w.4, w.5) (omega (arith, built_joining d u v w.2 w.3, count_of_joined u v (build_graph d).edges (F.copied.on_drawn u v j)))

    -- nothing lies between a point and itself
    strokes_self : (p : Point) → strokes_between p p (strokes_of d) ≡ 0
    strokes_self p =
        sum_none (λ (s : Stroke). lies p p s.from s.to) (strokes_of d)
        (all_imp _ _ (λ s b. lies_own p s.from s.to b.apart) (strokes_of d) (built_strokes d))

    pub steps_apart : (p : Point) → steps_between p p (line d r) ≡ 0
    steps_apart p = elim (eq-zero-or-pos (copies d r p p)) [
      | inl z ↦ omega (arith, steps_counted p p, strokes_self p)
      | inr h ↦ absurd (omega (arith, copies_drawn p p h, strokes_self p))
    ]

    -- ---- at a point

    -- at a node as many ends of pieces, links and copies as its degree after repair
    pub left_degree : (u : ℕ) → u < length nodes → strokes_at (point_at nodes u) (strokes_of d) + copies_touching d r (point_at nodes u) ≡ degree r.edges u
    left_degree u hu =
        omega (arith, built_degree d u hu, F.copied.degree_is u, copies_agree _ (λ (a b : ℕ). hit a u + hit b u) (touches_hit nodes (built_numbered d) u hu))

    -- none at a point that is no node
    pub left_untouched : (p : Point) → length nodes ≤ node_of nodes p → strokes_at p (strokes_of d) + copies_touching d r p ≡ 0
    left_untouched p h = omega (arith, built_untouched d p h, copies_none (touches p) (touches_none nodes (built_numbered d) p h))

    -- the line has one point more than there are edges, at most
    pub line_few : length (line d r) ≤ suc (length r.edges)
    line_few = omega (arith, orient_length d.settings (map (point_at nodes) (node_line d r)), length-map (node_line d r) (point_at nodes), line_steps.few)
