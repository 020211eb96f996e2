-- The retraces of pairs that stand in two arrays, one after the other.
use mathlib.Core.Path.{◌≡◌, refl, sym, ap, ◌∙◌}
use mathlib.Core.List.{List, [], ◌∷◌}
use Prim.Native.Nat.{ℕ, zero, suc, ◌+◌, ◌-◌, ◌≤◌, ◌<◌}
use native.Mathlib.Numerals.{add-one}
use native.Mathlib.Omega.{arith}
use lib.ListN.{get_or}
use lib.Ieee.{Float}
use Rattle.graph_adjacency.specs.Lists.{Adjacency}
use Rattle.graph_arrays.specs.Arrays.{edges_in, EdgesHeld}
use Rattle.repair_spec.specs.Pairing.{Pair, pair}
use Rattle.repair_spec.specs.PairsIn.{pairs_in}
use Rattle.repair_spec.specs.Repair.{Repairing, apply_matching}
use Rattle.repair_retrace.specs.Outcome.{RepairOutcome, outcome, so_far}
use Rattle.std.specs.Prelude.{Ok, Err}
use Rattle.repair_retrace.specs.declared.Laid.{Laid}
use Rattle.repair_retrace.specs.Answer.{Answers}
use Rattle.repair_retrace.proofs.Outcome.{outcome_none, others, outcome_first}

pairs_first : (firsts seconds : List ℕ) (i k : ℕ) → 0 < k → pairs_in firsts seconds i k ≡ pair (get_or firsts i 0) (get_or seconds i 0) ∷ pairs_in firsts seconds (i + 1) (k - 1)
unfolding pairs_in
pairs_first firsts seconds i zero h = absurd (omega (arith, h))
pairs_first firsts seconds i (suc k) h =
    let less : suc k - 1 ≡ k = omega arith in
    ap (λ (j : ℕ). pair (get_or firsts i 0) (get_or seconds i 0) ∷ pairs_in firsts seconds (suc i) j) (sym less)
    ∙ ap (λ (j : ℕ). pair (get_or firsts i 0) (get_or seconds i 0) ∷ pairs_in firsts seconds j (suc k - 1)) (sym (add-one i))

pairs_end : (firsts seconds : List ℕ) (i k : ℕ) → k ≡ 0 → pairs_in firsts seconds i k ≡ []
unfolding pairs_in
pairs_end firsts seconds i zero h = refl
pairs_end firsts seconds i (suc k) h = absurd (omega (arith, h))

module _ (most number n : ℕ) (firsts seconds : List ℕ) (pairs : ℕ) (all : Repairing) where
  -- the pairs from the place i on make of the graph as it is what all pairs are to make
  pub record Applying (a : Adjacency) (i m : ℕ) (total : Float) : Type 0 where
    pub most_pairs : i ≤ pairs
    pub held : EdgesHeld n m a
    pub same : outcome (apply_matching most number n (pairs_in firsts seconds i (pairs - i)) (so_far (edges_in m a) total)) ≡ outcome all

  module _ (a : Adjacency) (i m : ℕ) (total : Float) (Y : Applying a i m total) where
    pub applying_end : (i < pairs → ⊥) → Answers n all (Ok (record { sum = total; edges = m })) a
    applying_end h =
        let none : pairs - i ≡ 0 = omega arith in
        record {
          is = sym (outcome_none most number n (so_far (edges_in m a) total))
              ∙ ap (λ (ps : List Pair). outcome (apply_matching most number n ps (so_far (edges_in m a) total))) (sym (pairs_end firsts seconds i (pairs - i) none)) ∙ Y.same;
          held = Y.held;
        }

    module _ (more : i < pairs) (from to : ℕ) (is_from : from ≡ get_or firsts i 0) (is_to : to ≡ get_or seconds i 0) (a' : Adjacency) where
      -- the pairs that are left begin with this one
      left : pairs_in firsts seconds i (pairs - i) ≡ pair from to ∷ pairs_in firsts seconds (i + 1) (pairs - (i + 1))
      left =
          let k : pairs - i - 1 ≡ pairs - (i + 1) = omega arith in
          pairs_first firsts seconds i (pairs - i) (omega arith)
          ∙ ap (λ (j : ℕ). pair (get_or firsts i 0) (get_or seconds i 0) ∷ pairs_in firsts seconds (i + 1) j) k
          ∙ ap (λ (x : ℕ). pair x (get_or seconds i 0) ∷ pairs_in firsts seconds (i + 1) (pairs - (i + 1))) (sym is_from)
          ∙ ap (λ (x : ℕ). pair from x ∷ pairs_in firsts seconds (i + 1) (pairs - (i + 1))) (sym is_to)

      after : (o : RepairOutcome) → o ≡ outcome (apply_matching most number n (pair from to ∷ []) (so_far (edges_in m a) total)) → others most number n (pairs_in firsts seconds (i + 1) (pairs - (i + 1))) o ≡ outcome all
      after o e =
          ap (others most number n (pairs_in firsts seconds (i + 1) (pairs - (i + 1)))) e
          ∙ sym (outcome_first most number n (pair from to) (pairs_in firsts seconds (i + 1) (pairs - (i + 1))) (so_far (edges_in m a) total))
          ∙ ap (λ (ps : List Pair). outcome (apply_matching most number n ps (so_far (edges_in m a) total))) (sym left) ∙ Y.same

      pub applying_refused : (k : ℕ) → Answers n (apply_matching most number n (pair from to ∷ []) (so_far (edges_in m a) total)) (Err k) a' → Answers n all (Err k) a'
      applying_refused k P = record { is = after _ P.is; held = tt }

      pub applying_step : (l : Laid) → Answers n (apply_matching most number n (pair from to ∷ []) (so_far (edges_in m a) total)) (Ok l) a' → Applying a' (i + 1) l.edges l.sum
      applying_step l P = record { most_pairs = omega arith; held = P.held; same = after _ P.is }

pub applying_begin : (most number n : ℕ) (firsts seconds : List ℕ) (pairs m : ℕ) (sum : Float) (a : Adjacency) → EdgesHeld n m a
    → Applying most number n firsts seconds pairs (apply_matching most number n (pairs_in firsts seconds 0 pairs) (so_far (edges_in m a) sum)) a 0 m sum
applying_begin most number n firsts seconds pairs m sum a H =
    let none : pairs - 0 ≡ pairs = omega arith in
    record { most_pairs = omega arith; held = H; same = ap (λ (k : ℕ). outcome (apply_matching most number n (pairs_in firsts seconds 0 k) (so_far (edges_in m a) sum))) none }
