-- The four ways through `plan_graph`, each by what its calls answered.
use mathlib.Core.Path.{◌≡◌, refl, sym, ap, subst, ◌∙◌}
use mathlib.Core.List.{List}
use Rattle.std.specs.Prelude.{Option, Some, None}
use mathlib.Core.Bool.{Bool, true, false}
use Prim.Native.Nat.{ℕ}
use native.Mathlib.Omega.{arith}
use lib.ListN.{length}
use lib.Ieee.{Float, binary64}
use Rattle.limits.specs.Limits.{most_edges, refused_apart, refused_edges, refused_output}
use Rattle.sums.specs.Key.{Nonneg}
use Rattle.drawing_spec.specs.Drawing.{Point}
use Rattle.graph_spec.specs.Graph.{Graph}
use Rattle.graph_spec.specs.Reach.{all_reached}
use Rattle.graph_spec.specs.Weights.{Searchable}
use Rattle.graph_adjacency.specs.Lists.{Adjacency}
use Rattle.graph_arrays.specs.Arrays.{nodes_in, edges_in, graph_in, EdgesHeld}
use Rattle.graph_arrays.proofs.NodeList.{nodes_count}
use Rattle.file_records.specs.declared.Settings.{Settings}
use Rattle.file_records.specs.Meaning.{settings_of}
use Rattle.repair.specs.Parity as parity
use Rattle.repair.specs.Meaning.{case_in, case_held, parity_in, HeldWith}
use Rattle.repair.specs.declared.Parity.{Parity}
use Rattle.repair.specs.declared.Parity.TheVariants as fixed
use Rattle.repair.specs.declared.Repair.{Repair}
use Rattle.walk_spec.specs.Line.{line_of}
use Rattle.planner_output.specs.Output.{emitted_by, output_by, emitted_of, output_with, short}
use Rattle.planner_spec.specs.Plan as plan
use Rattle.planner_spec.proofs.Plan.{plan_apart}
use Rattle.planner_graph.specs.Answer.{outcome_of, lent, Plannable}
use Rattle.planner_graph.specs.declared.Answer.TheVariants.{Refused, Planned}
use Rattle.planner_graph.proofs.Steps.{Mended, mended, refused_planned, short_planned, line_planned, mended_number}

module _ (t : Settings) (n m : ℕ) (xs ys : List ℕ) (a : Adjacency) (P : Plannable t n m xs ys a) (floats : List Float) (bytes output : List ℕ) (b : Bool)
    (R : b ≡ all_reached n (edges_in m a)) where
  abbrev g : Graph
  g = graph_in n m xs ys a

  abbrev l : plan.Lent
  l = lent floats bytes output

  reached_by_lem : (c : Bool) → b ≡ c → all_reached (length (nodes_in n xs ys)) (edges_in m a) ≡ c
  reached_by_lem c h = ap (λ (k : ℕ). all_reached k (edges_in m a)) (nodes_count n xs ys) ∙ sym R ∙ h

  pub not_reached : b ≡ false → outcome_of (Refused refused_apart) output ≡ plan.plan_graph g (settings_of t) l
  not_reached h = sym (plan_apart g (settings_of t) l (reached_by_lem false h))

  module _ (h : b ≡ true) (a' : Adjacency) (r : Repair) (F : parity_in r a' ≡ parity.parity_for most_edges refused_edges g (settings_of t) (length floats) (length bytes)) (H : HeldWith n r a') where
    pub repair_refused : (k : ℕ) → r.parity ≡ fixed.Refused k → outcome_of (Refused k) output ≡ plan.plan_graph g (settings_of t) l
    repair_refused k e = sym (refused_planned g (settings_of t) l (reached_by_lem true h) k (ap (λ (p : Parity). case_in p r.edges a') (sym e) ∙ F))

    module _ (x : Float) (before after : ℕ) (e : r.parity ≡ fixed.Repaired x before after) where
      pub held : EdgesHeld n r.edges a'
      held = subst (λ (p : Parity). case_held n p r.edges a') e H

      M : Mended g (settings_of t) l x before after (edges_in r.edges a')
      M = mended g (settings_of t) l x before after (edges_in r.edges a') (ap (λ (p : Parity). case_in p r.edges a') (sym e) ∙ F)

      pub number : Nonneg binary64 x
      number =
          mended_number g (settings_of t) l x before after (edges_in r.edges a') M (subst (λ (k : ℕ). Searchable k (edges_in m a)) (sym (nodes_count n xs ys)) P.edges.searchable)

      abbrev line : List Point
      line = line_of (settings_of t) (nodes_in n xs ys) (edges_in r.edges a')

      module _ (em : Option ℕ) (output' : List ℕ) (E : em ≡ emitted_of output line) (O : output' ≡ output_with output line) where
        abbrev kind : Option ℕ → ℕ
        kind None = 0
        kind (Some k) = 1

        abbrev count : Option ℕ → ℕ
        count None = 0
        count (Some k) = k

        pub line_short : em ≡ None → outcome_of (Refused refused_output) output' ≡ plan.plan_graph g (settings_of t) l
        line_short i = go (short output (length line)) refl
          where
            go : (c : Bool) → short output (length line) ≡ c → outcome_of (Refused refused_output) output' ≡ plan.plan_graph g (settings_of t) l
            go true z =
                ap (outcome_of (Refused refused_output)) (O ∙ ap (λ (c : Bool). output_by c output line) z)
                ∙ sym (short_planned g (settings_of t) l (reached_by_lem true h) x before after (edges_in r.edges a') M line refl z)
            go false z = absurd (let q : ◌≡◌ {A = ℕ} 0 1 = ap kind (sym i ∙ E ∙ ap (λ (c : Bool). emitted_by c (length line)) z) in omega arith)

        pub line_points : (k : ℕ) → em ≡ Some k → outcome_of (Planned x before after k) output' ≡ plan.plan_graph g (settings_of t) l
        line_points k i = go (short output (length line)) refl
          where
            go : (c : Bool) → short output (length line) ≡ c → outcome_of (Planned x before after k) output' ≡ plan.plan_graph g (settings_of t) l
            go true z = absurd (let q : ◌≡◌ {A = ℕ} 1 0 = ap kind (sym i ∙ E ∙ ap (λ (c : Bool). emitted_by c (length line)) z) in omega arith)
            go false z =
                let same : k ≡ length line = ap count (sym i ∙ E ∙ ap (λ (c : Bool). emitted_by c (length line)) z) in
                ap (λ (j : ℕ). outcome_of (Planned x before after j) output') same
                ∙ ap (outcome_of (Planned x before after (length line))) (O ∙ ap (λ (c : Bool). output_by c output line) z)
                ∙ sym (line_planned g (settings_of t) l (reached_by_lem true h) x before after (edges_in r.edges a') M line refl z)
