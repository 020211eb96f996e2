-- The walk through a connected graph of which none or two nodes are odd is an Euler line.
use mathlib.Core.Path.{◌≡◌, refl, sym, ap, ◌∙◌, subst}
use mathlib.Core.Logic.{◌⊎◌, inl, inr}
use mathlib.Core.List.{List, [], ◌∷◌, ◌++◌, map, reverse}
use mathlib.Mathlib.Data.List.Basic.{map-reverse_aux}
use Prim.Native.Nat.{ℕ, ◌%◌, ◌<◌}
use native.Mathlib.Nat.{zero-add, zero-lt-suc}
use native.Mathlib.Decide.{ℕ_discrete}
use native.Mathlib.Omega.{arith}
use lib.ListN.{length}
use lib.Ieee.{Float}
use Rattle.drawing_spec.specs.Drawing.{Point, Settings}
use Rattle.lists.specs.Members.{In}
use Rattle.lists.proofs.Members.{in_left, in_append}
use Rattle.graph_spec.specs.Graph.{Edge, edge, point_at}
use Rattle.graph_spec.specs.Odd.{hit, degree, odd_nodes}
use Rattle.graph_spec.specs.Ways.{Inside, Reach}
use Rattle.graph_spec.proofs.Sums.{hit_same, hit_other, degree_append}
use Rattle.graph_spec.proofs.Odd.{odd_nodes_member, odd_nodes_ascends, even_else}
use Rattle.graph_spec.proofs.Connected.{reach_trans, reach_sym, joined_more, reach_more}
use Rattle.repair_spec.specs.Distance.{zero_length}
use Rattle.walk_spec.specs.EulerLine.{EulerLine, Leads}
use Rattle.walk_spec.specs.Walk.{Entry, circuit, nodes_of}
use Rattle.walk_spec.specs.Start.{best, with_edges}
use Rattle.walk_spec.specs.Line.{euler, hierholzer, line_of}
use Rattle.walk_spec.specs.Orient.{orient, end_points}
use Rattle.walk_spec.proofs.Circuit.{Circuit, circuit_is, steps_of, steps_of_nodes, trail_leads, trail_times}
use Rattle.walk_spec.proofs.VirtualStep.{CutLine, cut_line}
use Rattle.walk_spec.proofs.EulerLine.{euler_reverse}
use Rattle.walk_spec.proofs.Orient.{orient_keeps}
use Rattle.walk_spec.proofs.Start.{best_keeps, with_edges_within}

-- ---- a circuit, where no node is odd

circuit_line : (n : ℕ) (es : List Edge) (s : ℕ) (o : List Entry) → s < n → odd_nodes n es ≡ [] → Circuit es s o → EulerLine n es (nodes_of o)
circuit_line n es s o l h c = record {
  first = s;
  steps = steps_of c.rest;
  last = s;
  is = ap nodes_of c.is ∙ rw (c.begins, steps_of_nodes c.rest);
  is_node = l;
  leads = subst (λ (u : ℕ). Leads es u (steps_of c.rest) s) c.begins (trail_leads es s c.first c.rest c.trail);
  once = λ i k. trail_times es s c.first c.rest i c.trail ∙ c.once i k;
  ends = inl (h, refl);
}

-- ---- a circuit cut, where u and v are odd

open_line : (n : ℕ) (es : List Edge) (u v : ℕ) (x : Float) (line : List ℕ) → odd_nodes n es ≡ u ∷ v ∷ [] → CutLine es (edge u v x) line → EulerLine n es line
open_line n es u v x line h c = record {
  first = c.first;
  steps = c.steps;
  last = c.last;
  is = c.is;
  is_node = elim c.joins [
    | inl j ↦ ((odd_nodes_member n es c.first).0 (rw h (inr (inl (sym j.1))))).0
    | inr j ↦ ((odd_nodes_member n es c.first).0 (rw h (inl (sym j.0)))).0
  ];
  leads = c.leads;
  once = c.once;
  ends = inr (elim c.joins [ inl j ↦ inr (h ∙ rw (j.0, j.1)) | inr j ↦ inl (h ∙ rw (j.0, j.1)) ]);
}

-- the virtual edge makes every node even
even_with : (n : ℕ) (es : List Edge) (u v : ℕ) (x : Float) → Inside n es → odd_nodes n es ≡ u ∷ v ∷ [] → (w : ℕ) → degree (es ++ (edge u v x ∷ [])) w % 2 ≡ 0
unfolding degree
even_with n es u v x inside h w =
    let apart : u < v = odd_nodes_ascends n es u (v ∷ []) h v (inl refl) in
    let sum = degree_append es (edge u v x ∷ []) w in
    elim (ℕ_discrete w u) [
      | yes e ↦ omega (arith, sum, odd (inl e), ap (λ (y : ℕ). hit y w) (sym e), hit_same w, hit_other v w (λ k. omega arith))
      | no a ↦ elim (ℕ_discrete w v) [
        | yes e ↦ omega (arith, sum, odd (inr (inl e)), ap (λ (y : ℕ). hit y w) (sym e), hit_same w, hit_other u w (λ k. omega arith))
        | no b ↦ omega (arith, sum, even_else n es w inside (λ i. not (rw h at i) a b), hit_other u w (λ k. omega arith), hit_other v w (λ k. omega arith))
      ]
    ]
  where
    odd : In w (u ∷ v ∷ []) → degree es w % 2 ≡ 1
    odd i = ((odd_nodes_member n es w).0 (rw h i)).1

    not : In w (u ∷ v ∷ []) → (w ≡ u → ⊥) → (w ≡ v → ⊥) → ⊥
    not (inl e) a b = a e
    not (inr (inl e)) a b = b e
    not (inr (inr e)) a b = e

inside_with : (n : ℕ) (es : List Edge) (u v : ℕ) (x : Float) → Inside n es → u < n → v < n → Inside n (es ++ (edge u v x ∷ []))
inside_with n es u v x inside l m e i = elim (in_append e es (edge u v x ∷ []) i) [
  | inl k ↦ inside e k
  | inr k ↦ elim k [ inl k ↦ rw k (l, m) | inr k ↦ absurd k ]
]

-- ---- the walk

module _ (s : Settings) (p : Point) (ps : List Point) (es : List Edge) (inside : Inside (length (p ∷ ps)) es) (reached : (v : ℕ) → v < length (p ∷ ps) → Reach es 0 v) where
  -- every node is reached from any other
  from : (v u : ℕ) → v < length (p ∷ ps) → u < length (p ∷ ps) → Reach es v u
  from v u l m = reach_trans (reach_sym (reached v l)) (reached u m)

  closed_walk : odd_nodes (length (p ∷ ps)) es ≡ [] → EulerLine (length (p ∷ ps)) es (euler s (p ∷ ps) es)
  unfolding euler
  closed_walk h =
      let n = length (p ∷ ps) in
      let v = best s (p ∷ ps) (with_edges es n 0) in
      let l : v < n = best_keeps (λ (x : ℕ). x < n) s (p ∷ ps) (with_edges es n 0) (zero-lt-suc (length ps)) (with_edges_within es n 0 n (zero-add n)) in
      rw (euler, h) (circuit_line n es v (circuit es v) l h
      (circuit_is es v (λ w. even_else n es w inside (λ i. rw h at i)) (λ e i. from v e.a l (inside e i).0)))

  open_walk : (u v : ℕ) → odd_nodes (length (p ∷ ps)) es ≡ u ∷ v ∷ [] → EulerLine (length (p ∷ ps)) es (euler s (p ∷ ps) es)
  unfolding euler
  open_walk u v h =
      let n = length (p ∷ ps) in
      let x = edge u v zero_length in
      let w = best s (p ∷ ps) (u ∷ v ∷ []) in
      let lu : u < n = ((odd_nodes_member n es u).0 (rw h (inl refl))).0 in
      let lv : v < n = ((odd_nodes_member n es v).0 (rw h (inr (inl refl)))).0 in
      let l : w < n = best_keeps (λ (y : ℕ). y < n) s (p ∷ ps) (u ∷ v ∷ []) (zero-lt-suc (length ps)) (lu, (lv, tt)) in
      let more = inside_with n es u v zero_length inside lu lv in
      let c = circuit_is (es ++ (x ∷ [])) w (even_with n es u v zero_length inside h) (λ e i. reach_more (λ a b. joined_more (λ y k. in_left y es (x ∷ []) k)) (from w e.a l (more e i).0)) in
      rw (euler, h) (open_line n es u v zero_length _ h (cut_line es x w (circuit (es ++ (x ∷ [])) w) c))

-- The theorem of 1873: through a connected graph of which none or two nodes are odd the walk is an Euler line.
pub hierholzer_line : (s : Settings) (p : Point) (ps : List Point) (es : List Edge) → Inside (length (p ∷ ps)) es → ((v : ℕ) → v < length (p ∷ ps) → Reach es 0 v)
    → (odd_nodes (length (p ∷ ps)) es ≡ []) ⊎ ((u : ℕ) × (v : ℕ) × (odd_nodes (length (p ∷ ps)) es ≡ u ∷ v ∷ []))
    → EulerLine (length (p ∷ ps)) es (hierholzer s (p ∷ ps) es)
unfolding hierholzer
hierholzer_line s p ps es inside reached (inl h) = closed_walk s p ps es inside reached h
hierholzer_line s p ps es inside reached (inr h) = open_walk s p ps es inside reached h.0 h.1 h.2

-- ---- as points, whichever end comes first

pub record EulerPoints (ns : List Point) (es : List Edge) (line : List Point) : Type 0 where
  pub way : List ℕ
  pub points : line ≡ map (point_at ns) way
  pub euler : EulerLine (length ns) es way

pub line_of_euler : (s : Settings) (ns : List Point) (es : List Edge) → EulerLine (length ns) es (hierholzer s ns es) → EulerPoints ns es (line_of s ns es)
unfolding line_of
line_of_euler s ns es E =
    let way = hierholzer s ns es in
    orient_keeps (EulerPoints ns es) s (map (point_at ns) way) (record { way = way; points = refl; euler = E })
    (record { way = reverse way; points = sym (map-reverse_aux (point_at ns) way []); euler = euler_reverse (length ns) es way E })

-- with no nodes there is no line
pub line_of_none : (s : Settings) (es : List Edge) → line_of s [] es ≡ []
unfolding line_of hierholzer orient end_points
line_of_none s es = refl
