-- What follows of every Euler line: its steps between any two nodes, its length and its ends.
use mathlib.Core.Path.{◌≡◌, sym, ap, ◌∙◌}
use mathlib.Core.Logic.{◌⊎◌, inl, inr}
use mathlib.Core.List.{List, [], ◌∷◌}
use mathlib.Core.Bool.{true≢false}
use Prim.Native.Nat.{ℕ, suc, ◌<◌}
use lib.ListN.{length, length-map}
use Rattle.lists.specs.Members.{All}
use Rattle.graph_spec.specs.Graph.{Edge}
use Rattle.graph_spec.specs.Odd.{odd_nodes}
use Rattle.graph_spec.specs.Count.{line_sum, last_from, joint, joining}
use Rattle.graph_spec.specs.Ways.{Inside}
use Rattle.graph_spec.proofs.Sums.{joins_joint}
use Rattle.walk_spec.specs.EulerLine.{Step, EulerLine}
use Rattle.walk_spec.proofs.EulerLine.{nodes_to, leads_last, leads_within, each_edge, leads_sum, sum_ones}

-- what holds of the line of nodes through a graph of n nodes
pub record Traced (n : ℕ) (es : List Edge) (line : List ℕ) : Type 0 where
  pub first : ℕ
  pub rest : List ℕ
  pub is : line ≡ first ∷ rest
  -- between any two nodes it steps as often as edges join them
  pub steps : (u v : ℕ) → line_sum (joint u v) line ≡ joining u v es
  pub within : All (λ (v : ℕ). v < n) line
  pub count : length line ≡ suc (length es)
  pub closed : odd_nodes n es ≡ [] → last_from first rest ≡ first
  pub ends : (u v : ℕ) → odd_nodes n es ≡ u ∷ v ∷ [] → ((first ≡ u) × (last_from first rest ≡ v)) ⊎ ((first ≡ v) × (last_from first rest ≡ u))

module _ (n : ℕ) (es : List Edge) (line : List ℕ) (inside : Inside n es) (E : EulerLine n es line) where
  abbrev first : ℕ
  first = E.first

  abbrev rest : List ℕ
  rest = nodes_to E.steps

  -- as many steps between u and v as edges
  steps_joining : (u v : ℕ) → line_sum (joint u v) (first ∷ rest) ≡ joining u v es
  unfolding line_sum
  steps_joining u v =
      let h : Edge → ℕ = λ e. joint u v e.a e.b in
      leads_sum es (joint u v) h (joins_joint u v) first E.last E.steps E.leads ∙ each_edge es h first E.last E.steps E.leads E.once

  -- as many steps as edges
  steps_count : length rest ≡ length es
  steps_count =
      length-map E.steps (λ (s : Step). s.to)
      ∙ sym (sum_ones E.steps)
      ∙ each_edge es (λ (e : Edge). 1) first E.last E.steps E.leads E.once
      ∙ sum_ones es

  last_is : last_from first rest ≡ E.last
  last_is = leads_last es first E.last E.steps E.leads

  pub traced : Traced n es line
  traced = record {
    first = first;
    rest = rest;
    is = E.is;
    steps = λ u v. ap (line_sum (joint u v)) E.is ∙ steps_joining u v;
    within = rw E.is (E.is_node, leads_within es n first E.last E.steps inside E.leads);
    count = ap length E.is ∙ ap suc steps_count;
    closed = λ k. last_is ∙ elim E.ends [
      | inl c ↦ sym c.1
      | inr o ↦ absurd (elim o [ inl i ↦ true≢false (cc) | inr i ↦ true≢false (cc) ])
    ];
    ends = λ u v k. rw last_is (elim E.ends [
      | inl c ↦ absurd (let z = c.0 in true≢false (cc))
      | inr o ↦ elim o [ inl i ↦ inl ((cc), (cc)) | inr i ↦ inr ((cc), (cc)) ]
    ]);
  }
