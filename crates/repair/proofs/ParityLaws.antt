-- Laws of specs/Parity.
use mathlib.Core.Path.{◌≡◌, refl, sym, ap, subst, ◌∙◌}
use Rattle.std.specs.Prelude.{Result, Ok, Err}
use mathlib.Core.List.{List, []}
use Prim.Native.Nat.{ℕ}
use native.Mathlib.Omega.{arith}
use lib.ListN.{length}
use lib.Ieee.{Float}
use Rattle.drawing_spec.specs.Drawing.{Settings, closing}
use Rattle.drawing_spec.specs.Refusal.{Verdict, refused, accepted, verdict}
use Rattle.graph_spec.specs.Graph.{Graph}
use Rattle.graph_spec.specs.Odd.{odd_nodes}
use Rattle.graph_adjacency.specs.Lists.{Adjacency}
use Rattle.graph_arrays.specs.Arrays.{nodes_in, edges_in, graph_in, EdgesHeld}
use Rattle.graph_arrays.proofs.NodeList.{nodes_count}
use Rattle.repair_spec.specs.Distance.{zero_length}
use Rattle.repair_spec.specs.Pairing.{Pair}
use Rattle.repair_spec.specs.PairsIn.{PairList, listed}
use Rattle.repair_spec.specs.Repair.{Repairing, pairs_of, apply_matching, close_if, fix_parity}
use Rattle.repair_retrace.specs.Outcome.{RepairOutcome, outcome, so_far}
use Rattle.repair_retrace.specs.Answer.{outcome_in, HeldAfter}
use Rattle.repair_retrace.specs.declared.Laid.{Laid}
use Rattle.repair_pairs.specs.Refusal.{table_conditions}
use Rattle.repair_pairs.specs.Pairs as found
use Rattle.repair_pairs.specs.Pairs.{Found, pairs_for}
use Rattle.repair_pairs.proofs.Few.{fix_parity_is}
use Rattle.repair_pairs.proofs.Usable.{Usable, pairs_usable}
use Rattle.repair.specs.Parity.{Value, refusal, values, value_of, parity_for}

odd_of : Graph → List ℕ
odd_of g = odd_nodes (length g.nodes) g.edges

module _ (most number : ℕ) (g : Graph) (s : Settings) (floats bytes : ℕ) where
  -- the answer, by what `pairs_for` gives
  after : Found → Value
  after (found.refusal k) = refusal k
  after (found.pairs odd ps) = value_of (length g.nodes) (length (odd_of g)) (outcome (fix_parity most number g s))

  by_pairs : after (pairs_for g s floats bytes) ≡ parity_for most number g s floats bytes
  unfolding pairs_for parity_for after odd_of
  by_pairs = go (verdict (table_conditions s (length (odd_of g)) floats bytes))
    where
      go : (v : Verdict)
          → after (elim v [ refused k ↦ found.refusal k | accepted ↦ found.pairs (length (odd_of g)) (pairs_of g s (odd_of g)) ])
          ≡ elim v [ refused k ↦ refusal k | accepted ↦ value_of (length g.nodes) (length (odd_of g)) (outcome (fix_parity most number g s)) ]
      go (refused k) = refl
      go accepted = refl

  pub parity_refused : (k : ℕ) → found.refusal k ≡ pairs_for g s floats bytes → refusal k ≡ parity_for most number g s floats bytes
  unfolding after
  parity_refused k e = ap after e ∙ by_pairs

  parity_found : (odd : ℕ) (ps : List Pair) → found.pairs odd ps ≡ pairs_for g s floats bytes
      → value_of (length g.nodes) (length (odd_of g)) (outcome (fix_parity most number g s)) ≡ parity_for most number g s floats bytes
  unfolding after
  parity_found odd ps e = ap after e ∙ by_pairs

odd_in : Found → ℕ
odd_in (found.refusal k) = 0
odd_in (found.pairs odd ps) = odd

pairs_from : Found → List Pair
pairs_from (found.refusal k) = []
pairs_from (found.pairs odd ps) = ps

-- where there are pairs, they are those of the definition, and the odd nodes are counted
found_is : (g : Graph) (s : Settings) (floats bytes odd : ℕ) (ps : List Pair) → found.pairs odd ps ≡ pairs_for g s floats bytes
    → (odd ≡ length (odd_of g)) × (ps ≡ pairs_of g s (odd_of g))
unfolding pairs_for odd_of odd_in pairs_from
found_is g s floats bytes odd ps e = go (verdict (table_conditions s (length (odd_of g)) floats bytes)) e
  where
    go : (v : Verdict) → found.pairs odd ps ≡ elim v [ refused k ↦ found.refusal k | accepted ↦ found.pairs (length (odd_of g)) (pairs_of g s (odd_of g)) ]
        → (odd ≡ length (odd_of g)) × (ps ≡ pairs_of g s (odd_of g))
    go (refused k) q = let z : ◌≡◌ {A = ℕ} 0 1 = cc in absurd (omega arith)
    go accepted q = (ap odd_in q, ap pairs_from q)

module _ (most number n m : ℕ) (xs ys : List ℕ) (a : Adjacency) (E : EdgesHeld n m a) (s : Settings) (floats bytes odd : ℕ) (p : PairList)
    (F : found.pairs odd (listed p) ≡ pairs_for (graph_in n m xs ys a) s floats bytes) where
  same_odd : odd_of (graph_in n m xs ys a) ≡ odd_nodes n (edges_in m a)
  unfolding odd_of
  same_odd = ap (λ (k : ℕ). odd_nodes k (edges_in m a)) (nodes_count n xs ys)

  pub found_usable : Usable n p.count p.firsts p.seconds
  found_usable =
      let ps = (found_is (graph_in n m xs ys a) s floats bytes odd _ F).1 in
      pairs_usable n E.edges.few_nodes (edges_in m a) E.edges.inside (graph_in n m xs ys a) s p.count p.firsts p.seconds (ps ∙ ap (pairs_of (graph_in n m xs ys a) s) same_odd)

  retraced : Repairing
  retraced = close_if (closing s) most number n (apply_matching most number n (listed p) (so_far (edges_in m a) zero_length))

  retraced_is : retraced ≡ fix_parity most number (graph_in n m xs ys a) s
  unfolding retraced odd_of
  retraced_is =
      let ps = (found_is (graph_in n m xs ys a) s floats bytes odd _ F).1 in
      ap (λ (qs : List Pair). close_if (closing s) most number n (apply_matching most number n qs (so_far (edges_in m a) zero_length))) ps
      ∙ ap (λ (k : ℕ). close_if (closing s) most number k (apply_matching most number k (pairs_of (graph_in n m xs ys a) s (odd_of (graph_in n m xs ys a))) (so_far (edges_in m a) zero_length))) (sym (nodes_count n xs ys))
      ∙ sym (fix_parity_is most number (graph_in n m xs ys a) s)

  -- what the retraces leave is the answer
  pub parity_retraced : (o : RepairOutcome) → o ≡ outcome (close_if (closing s) most number n (apply_matching most number n (listed p) (so_far (edges_in m a) zero_length)))
      → value_of n odd o ≡ parity_for most number (graph_in n m xs ys a) s floats bytes
  unfolding retraced
  parity_retraced o e =
      let counted = (found_is (graph_in n m xs ys a) s floats bytes odd _ F).0 in
      ap (value_of n odd) (e ∙ ap outcome retraced_is)
      ∙ ap (λ (k : ℕ). value_of k odd (outcome (fix_parity most number (graph_in n m xs ys a) s))) (sym (nodes_count n xs ys))
      ∙ ap (λ (k : ℕ). value_of (length (nodes_in n xs ys)) k (outcome (fix_parity most number (graph_in n m xs ys a) s))) counted
      ∙ parity_found most number (graph_in n m xs ys a) s floats bytes odd _ F

-- ---- the odd nodes of the repaired graph, counted

module _ (n before : ℕ) (a : Adjacency) (laid : Result Laid ℕ) where
  pub counted_refused : (k : ℕ) → laid ≡ Err k → refusal k ≡ value_of n before (outcome_in laid a)
  counted_refused k e = ap (λ (l : Result Laid ℕ). value_of n before (outcome_in l a)) (sym e)

  module _ (l : Laid) (is : laid ≡ Ok l) where
    pub counted : (after : ℕ) → after ≡ length (odd_nodes n (edges_in l.edges a)) → values l.sum before after (edges_in l.edges a) ≡ value_of n before (outcome_in laid a)
    counted after c = ap (λ (k : ℕ). values l.sum before k (edges_in l.edges a)) c ∙ ap (λ (r : Result Laid ℕ). value_of n before (outcome_in r a)) (sym is)

    pub counted_held : HeldAfter n laid a → EdgesHeld n l.edges a
    counted_held h = subst (λ (r : Result Laid ℕ). HeldAfter n r a) is h
