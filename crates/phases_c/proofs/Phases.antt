-- Laws of specs/Phases: each way out of the code is one case of the definition.
use mathlib.Core.Path.{◌≡◌, refl, sym, ap, ◌∙◌}
use mathlib.Core.List.{List}
use mathlib.Core.Bool.{Bool, true, false}
use Prim.Native.Nat.{ℕ, zero, suc, ◌≤◌, ◌<◌}
use native.Mathlib.Omega.{arith}
use lib.ListN.{length}
use lib.Dec.{eqb, ltb}
use borrow.Author.Tests.{eq-eqb, ne_eqb, lt-ltb, le-ltb}
use Rattle.limits.specs.Limits.{refused_apart}
use Rattle.drawing_spec.specs.Drawing as drawn
use Rattle.drawing_spec.specs.Refusal as refusal
use Rattle.drawing_spec.specs.Read.{read_conditions}
use Rattle.graph_spec.specs.Graph.{Graph, build_graph}
use Rattle.graph_spec.specs.Reach.{all_reached}
use Rattle.graph_adjacency.specs.Lists.{Adjacency}
use Rattle.graph_arrays.specs.Arrays.{point_in, edge_in, nodes_in, edges_in, graph_in}
use Rattle.lists.proofs.Tabulate.{tabulate_length}
use Rattle.graph.specs.Built.{Built}
use Rattle.file_records.specs.Meaning.{settings_of}
use Rattle.file_records.specs.declared.MstEdge.{MstEdge}
use Rattle.file_drawing.specs.declared.Drawing.{Drawing}
use Rattle.file_drawing.specs.Back.{lines_back, links_back, drawing_from}
use Rattle.file_drawing.specs.Held.{drawing_held}
use Rattle.links_spec.specs.Made.{to_plan}
use Rattle.file.specs.Reading.{Accepted, Refused}
use Rattle.limits.specs.declared.Refusal.{Refusal}
use Rattle.limits.specs.Refused.{number_of}
use Rattle.repair_spec.specs.Distance.{zero_length}
use Rattle.planner_spec.specs.Plan.{drawing_in}
use Rattle.planner.proofs.Drawn.{planned_in, linked_in}
use Rattle.phases.specs.declared.Phase.{Phase}
use Rattle.phases.specs.Ends.{refused_with, made, odd_end, pairs_end, repair_end}
use Rattle.phases_c.specs.Phases.{reached_phase, graph_phase, drawing_phase, phase_of}

-- ---- which phase is the last

module _ (n m : ℕ) (xs ys : List ℕ) (a : Adjacency) (s : drawn.Settings) (floats bytes last : ℕ) where
  abbrev g : Graph
  g = graph_in n m xs ys a

  node_count : length (nodes_in n xs ys) ≡ n
  node_count = tabulate_length (point_in xs ys) n 0

  edge_count : length (edges_in m a) ≡ m
  edge_count = tabulate_length (edge_in a) m 0

  abbrev reached_by : Bool → Bool → Phase
  reached_by b c =
      elim b as (λ t. Phase) [
        | true ↦ odd_end (length g.nodes) g.edges
        | false ↦ elim c as (λ t. Phase) [ true ↦ pairs_end g s floats bytes last | false ↦ repair_end g s floats bytes last ]
      ]

  reached_by_lem : (b c : Bool) → eqb last 2 ≡ b → ltb last 5 ≡ c → reached_phase g s floats bytes last ≡ reached_by b c
  unfolding reached_phase
  reached_by_lem b c p q = ap (λ (t : Bool). reached_by t (ltb last 5)) p ∙ ap (reached_by b) q

  abbrev graph_by : Bool → Bool → Phase
  graph_by b c =
      elim b as (λ t. Phase) [
        | true ↦ made (length g.nodes) (length g.edges) zero_length
        | false ↦ elim c as (λ t. Phase) [ true ↦ reached_phase g s floats bytes last | false ↦ refused_with refused_apart ]
      ]

  graph_by_lem : (b c : Bool) → eqb last 1 ≡ b → all_reached n (edges_in m a) ≡ c → graph_phase g s floats bytes last ≡ graph_by b c
  unfolding graph_phase
  graph_by_lem b c p q =
      ap (λ (t : Bool). graph_by t (all_reached (length g.nodes) g.edges)) p ∙ ap (graph_by b) (ap (λ (k : ℕ). all_reached k (edges_in m a)) node_count ∙ q)

  pub graph_stops : last ≡ 1 → made n m zero_length ≡ graph_phase g s floats bytes last
  graph_stops h = (λ i. made (sym node_count i) (sym edge_count i) zero_length) ∙ sym (graph_by_lem true _ (eq-eqb last 1 h) refl)

  module _ (further : last ≡ 1 → ⊥) (r : Bool) (R : r ≡ all_reached n (edges_in m a)) where
    pub apart_stops : r ≡ false → refused_with refused_apart ≡ graph_phase g s floats bytes last
    apart_stops h = sym (graph_by_lem false false (ne_eqb last 1 further) (sym R ∙ h))

    module _ (h : r ≡ true) where
      on_reached : (b c : Bool) → eqb last 2 ≡ b → ltb last 5 ≡ c → graph_phase g s floats bytes last ≡ reached_by b c
      on_reached b c p q = graph_by_lem false true (ne_eqb last 1 further) (sym R ∙ h) ∙ reached_by_lem b c p q

      pub odd_stops : last ≡ 2 → (p : Phase) → p ≡ odd_end n (edges_in m a) → p ≡ graph_phase g s floats bytes last
      odd_stops e p is = is ∙ ap (λ (k : ℕ). odd_end k (edges_in m a)) (sym node_count) ∙ sym (on_reached true _ (eq-eqb last 2 e) refl)

      pub pairs_stop : (last ≡ 2 → ⊥) → last < 5 → (p : Phase) → p ≡ pairs_end g s floats bytes last → p ≡ graph_phase g s floats bytes last
      pairs_stop z e p is = is ∙ sym (on_reached false true (ne_eqb last 2 z) (lt-ltb last 5 e))

      pub repair_stops : (last ≡ 2 → ⊥) → 5 ≤ last → (p : Phase) → p ≡ repair_end g s floats bytes last → p ≡ graph_phase g s floats bytes last
      repair_stops z e p is = is ∙ sym (on_reached false false (ne_eqb last 2 z) (le-ltb last 5 e))

-- ---- of a drawing

lines_count : (n i : ℕ) (starts xs ys : List ℕ) → length (lines_back n i starts xs ys) ≡ n
unfolding lines_back
lines_count zero i starts xs ys = refl
lines_count (suc n) i starts xs ys = ap suc (lines_count n (suc i) starts xs ys)

links_count : (n i : ℕ) (edges : List MstEdge) → length (links_back n i edges) ≡ n
unfolding links_back
links_count zero i edges = refl
links_count (suc n) i edges = ap suc (links_count n (suc i) edges)

module _ (d : Drawing) (floats bytes last : ℕ) where
  abbrev drawing_by : Bool → Phase
  drawing_by b =
      let a = drawing_from d in
      elim b as (λ t. Phase) [ true ↦ made (length a.lines) (length a.links) zero_length | false ↦ graph_phase (build_graph a) a.settings floats bytes last ]

  drawing_by_lem : (b : Bool) → eqb last 0 ≡ b → drawing_phase (drawing_from d) floats bytes last ≡ drawing_by b
  unfolding drawing_phase
  drawing_by_lem b p = ap drawing_by p

  pub read_stops : last ≡ 0 → made d.lines d.link_count zero_length ≡ drawing_phase (drawing_from d) floats bytes last
  unfolding drawing_from
  read_stops h =
      (λ i. made (sym (lines_count d.lines 0 d.starts d.xs d.ys) i) (sym (links_count d.link_count 0 d.links) i) zero_length) ∙ sym (drawing_by_lem true (eq-eqb last 0 h))

  pub graph_follows : (last ≡ 0 → ⊥) → (n m : ℕ) (xs ys : List ℕ) (a : Adjacency) → Built (build_graph (drawing_from d)) n m xs ys a
      → (p : Phase) → p ≡ graph_phase (graph_in n m xs ys a) (settings_of d.settings) floats bytes last → p ≡ drawing_phase (drawing_from d) floats bytes last
  unfolding drawing_from
  graph_follows z n m xs ys a B p is =
      is ∙ ap (λ (g : Graph). graph_phase g (settings_of d.settings) floats bytes last) B.is ∙ sym (drawing_by_lem false (ne_eqb last 0 z))

-- ---- of a file

module _ (file : List ℕ) (floats bytes last : ℕ) where
  abbrev file_by : refusal.Verdict → Phase
  file_by v = elim v as (λ t. Phase) [ refusal.refused k ↦ refused_with k | refusal.accepted ↦ drawing_phase (drawing_in file) floats bytes last ]

  by_verdict : (v : refusal.Verdict) → refusal.verdict (read_conditions file) ≡ v → file_by v ≡ phase_of file floats bytes last
  unfolding phase_of
  by_verdict v e = ap file_by (sym e)

  pub refused_stops : (r : Refusal) → Refused file r → refused_with (number_of r) ≡ phase_of file floats bytes last
  refused_stops r e = by_verdict (refusal.refused (number_of r)) e

  pub linked_follows : (r : Drawing) → Accepted file r → (p : Phase) → p ≡ drawing_phase (to_plan (drawing_from r)) floats bytes last → p ≡ phase_of file floats bytes last
  linked_follows r A p e = e ∙ ap (λ (x : drawn.Drawing). drawing_phase x floats bytes last) (linked_in file r A) ∙ by_verdict refusal.accepted A.verdict_is

  pub drawing_follows : (r : Drawing) → Accepted file r → (d : Drawing) → d ≡ drawing_held (to_plan (drawing_from r)) → (p : Phase) → p ≡ drawing_phase (drawing_from d) floats bytes last
      → p ≡ phase_of file floats bytes last
  drawing_follows r A d planned p e = e ∙ ap (λ (x : drawn.Drawing). drawing_phase x floats bytes last) (planned_in file r A d planned) ∙ by_verdict refusal.accepted A.verdict_is
