-- Each way through `plan_graph` gives the plan of the graph that was read off the arrays.
use mathlib.Core.Path.{◌≡◌, refl, sym, ap, subst, ◌∙◌}
use mathlib.Core.List.{List, [], ◌∷◌}
use mathlib.Core.Bool.{Bool, true, false}
use Prim.Native.Nat.{ℕ, ◌+◌, ◌*◌}
use native.Mathlib.Omega.{arith}
use lib.ListN.{length}
use lib.Dec.{ltb}
use lib.Ieee.{Float, binary64, to_bits}
use Rattle.limits.specs.Limits.{most_odd, most_edges, refused_tables, refused_edges, refused_output}
use Rattle.sums.specs.Key.{Nonneg}
use Rattle.drawing_spec.specs.Drawing.{Point, Settings}
use Rattle.drawing_spec.specs.Refusal.{condition, refused, accepted, verdict}
use Rattle.graph_spec.specs.Graph.{Edge, Graph}
use Rattle.graph_spec.specs.Odd.{odd_nodes}
use Rattle.graph_spec.specs.Reach.{all_reached}
use Rattle.graph_spec.specs.Weights.{Searchable}
use Rattle.repair_spec.specs.Repair.{Repair, Repairing, stopped, repaired, table_short}
use Rattle.repair_pairs.specs.Refusal.{table_conditions}
use Rattle.repair_retrace.specs.Outcome.{outcome}
use Rattle.repair.specs.Parity.{Value, refusal, values, value_of, parity_for}
use Rattle.walk_spec.specs.Line.{line_of}
use Rattle.planner_spec.specs.LineRecord.{line_record}
use Rattle.drawing_spec.specs.Bytes.{in_front}
use Rattle.planner_spec.specs.Plan as plan
use Rattle.planner_spec.proofs.Plan.{plan_tables, plan_stopped, plan_output, plan_drawn}
use Rattle.planner_graph.proofs.Sum.{repair_summed}

module _ (g : Graph) (s : Settings) (lent : plan.Lent) where
  -- how many nodes are odd, with these edges
  abbrev odd : List Edge → ℕ
  odd es = length (odd_nodes (length g.nodes) es)

  abbrev parity : Value
  parity = parity_for most_edges refused_edges g s lent.floats lent.bytes

  -- by the truth of condition 11
  abbrev by : Bool → Value
  by short =
      elim (verdict (condition refused_tables short ∷ [])) as (λ v. Value) [
        | refused k ↦ refusal k
        | accepted ↦ value_of (length g.nodes) (odd g.edges) (outcome (plan.repair_of g s))
      ]

  abbrev Short : Bool → Type 0
  Short b = table_short most_odd s (odd g.edges) lent.floats lent.bytes ≡ b

  parity_by : (c : Bool) → Short c → parity ≡ by c
  unfolding parity_for table_conditions plan.repair_of
  parity_by c q = ap by q

  -- what a repair without refusal is
  pub record Mended (x : Float) (before after : ℕ) (es : List Edge) : Type 0 where
    pub long : Short false
    pub repair : Repair
    pub repairs : plan.repair_of g s ≡ repaired repair
    pub sum_is : repair.sum ≡ x
    pub before_is : odd g.edges ≡ before
    pub after_is : odd repair.edges ≡ after
    pub edges_are : repair.edges ≡ es

  pub mended : (x : Float) (before after : ℕ) (es : List Edge) → values x before after es ≡ parity → Mended x before after es
  unfolding verdict
  mended x before after es e = go (table_short most_odd s (odd g.edges) lent.floats lent.bytes) refl
    where
      one : Value → ℕ
      one (refusal k) = 0
      one (values y b a fs) = 1

      sum : Value → Float
      sum (refusal k) = x
      sum (values y b a fs) = y

      first : Value → ℕ
      first (refusal k) = 0
      first (values y b a fs) = b

      second : Value → ℕ
      second (refusal k) = 0
      second (values y b a fs) = a

      edges : Value → List Edge
      edges (refusal k) = []
      edges (values y b a fs) = fs

      repaired_so : Short false → (r : Repairing) → plan.repair_of g s ≡ r → values x before after es ≡ value_of (length g.nodes) (odd g.edges) (outcome r) → Mended x before after es
      repaired_so q (stopped k) i h = absurd (let z : ◌≡◌ {A = ℕ} 1 0 = ap one h in omega arith)
      repaired_so q (repaired r) i h = record {
        long = q;
        repair = r;
        repairs = i;
        sum_is = sym (ap sum h);
        before_is = sym (ap first h);
        after_is = sym (ap second h);
        edges_are = sym (ap edges h);
      }

      go : (c : Bool) → Short c → Mended x before after es
      go true q = absurd (let z : ◌≡◌ {A = ℕ} 1 0 = ap one (e ∙ parity_by true q) in omega arith)
      go false q = repaired_so q (plan.repair_of g s) refl (e ∙ parity_by false q)

  module _ (reached : all_reached (length g.nodes) g.edges ≡ true) where
    pub refused_planned : (k : ℕ) → refusal k ≡ parity → plan.plan_graph g s lent ≡ plan.refuse k lent
    unfolding verdict plan.odd_count
    refused_planned k e = go (table_short most_odd s (odd g.edges) lent.floats lent.bytes) refl
      where
        number : Value → ℕ
        number (refusal j) = j
        number (values y b a fs) = k

        one : Value → ℕ
        one (refusal j) = 0
        one (values y b a fs) = 1

        refuse_by : (j : ℕ) → j ≡ k → plan.plan_graph g s lent ≡ plan.refuse j lent → plan.plan_graph g s lent ≡ plan.refuse k lent
        refuse_by j i h = h ∙ ap (λ (m : ℕ). plan.refuse m lent) i

        stopped_so : Short false → (r : Repairing) → plan.repair_of g s ≡ r → refusal k ≡ value_of (length g.nodes) (odd g.edges) (outcome r) → plan.plan_graph g s lent ≡ plan.refuse k lent
        stopped_so q (stopped j) i h = refuse_by j (sym (ap number h)) (plan_stopped g s lent reached q j i)
        stopped_so q (repaired r) i h = absurd (let z : ◌≡◌ {A = ℕ} 0 1 = ap one h in omega arith)

        go : (c : Bool) → Short c → plan.plan_graph g s lent ≡ plan.refuse k lent
        go true q = refuse_by refused_tables (sym (ap number (e ∙ parity_by true q))) (plan_tables g s lent reached q)
        go false q = stopped_so q (plan.repair_of g s) refl (e ∙ parity_by false q)

    module _ (x : Float) (before after : ℕ) (es : List Edge) (M : Mended x before after es) (line : List Point) (line_is : line ≡ line_of s g.nodes es) where
      line_for : plan.line_for g s M.repair ≡ line
      unfolding plan.line_for
      line_for = ap (line_of s g.nodes) M.edges_are ∙ sym line_is

      pub short_planned : ltb (length lent.output) (6 + 16 * length line) ≡ true → plan.plan_graph g s lent ≡ plan.refuse refused_output lent
      unfolding plan.odd_count
      short_planned h =
          plan_output g s lent reached M.long M.repair M.repairs (ap (λ (l : List Point). ltb (length lent.output) (6 + 16 * length l)) line_for ∙ h)

      pub line_planned : ltb (length lent.output) (6 + 16 * length line) ≡ false
          → plan.plan_graph g s lent ≡ record { answer = plan.planned (record { retrace = to_bits binary64 x; before = before; after = after; points = length line }); output = in_front (line_record line) lent.output }
      unfolding plan.odd_count plan.answer_for
      line_planned h =
          let open_room = ap (λ (l : List Point). ltb (length lent.output) (6 + 16 * length l)) line_for ∙ h in
          plan_drawn g s lent reached M.long M.repair M.repairs open_room
          ∙ (λ i. record {
            answer = plan.planned (record { retrace = to_bits binary64 (M.sum_is i); before = M.before_is i; after = M.after_is i; points = length (line_for i) });
            output = in_front (line_record (line_for i)) lent.output;
          })

  pub mended_number : (x : Float) (before after : ℕ) (es : List Edge) → Mended x before after es → Searchable (length g.nodes) g.edges → Nonneg binary64 x
  unfolding plan.repair_of
  mended_number x before after es M S = subst (Nonneg binary64) M.sum_is (repair_summed most_edges refused_edges g s S M.repair M.repairs)
