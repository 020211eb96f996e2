-- The pairs that stand in two arrays are what the retraces ask for: of nodes, and no more than there is room for.
use mathlib.Core.Path.{◌≡◌, refl, sym, ap, ◌∙◌}
use mathlib.Core.Logic.{inl, inr}
use mathlib.Core.List.{List, [], ◌∷◌}
use Prim.Native.Nat.{ℕ, zero, suc, ◌+◌, ◌*◌, ◌≤◌, ◌<◌}
use native.Mathlib.Nat.{lt_of_not-le, add-suc, suc-add, le_of_suc-le-suc}
use native.Mathlib.Decide.{dec_le}
use native.Mathlib.Omega.{arith}
use lib.ListN.{length, get_or}
use Rattle.limits.specs.Limits.{most_nodes, most_pairs}
use Rattle.drawing_spec.specs.Drawing.{Settings}
use Rattle.graph_spec.specs.Graph.{Edge, Graph}
use Rattle.graph_spec.specs.Odd.{hit, odd_nodes}
use Rattle.graph_spec.proofs.Sums.{hit_same, HitCases, hit_cases}
use Rattle.graph_spec.proofs.Handshake.{handshake}
use Rattle.graph_spec.proofs.Occurs.{count, count_outside}
use Rattle.graph_spec.specs.Ways.{Inside}
use Rattle.graph_odd.proofs.Listed.{odd_few}
use Rattle.repair_spec.specs.Pairing.{Pair, pair, ends}
use Rattle.repair_spec.specs.Repair.{pairs_of}
use Rattle.repair_spec.proofs.Repaired.{pairs_of_lem}
use Rattle.repair_spec.specs.PairsIn.{pairs_in, PairsAmong}
use Rattle.repair_spec.proofs.PairsIn.{pairs_count}
use Rattle.repair_pairs.proofs.Few.{pairs_few}

-- ---- a list whose elements all stand in another, as often, is no longer

record TakenOut (x : ℕ) (ys : List ℕ) : Type 0 where
  rest : List ℕ
  counts : (v : ℕ) → hit x v + count v rest ≡ count v ys
  long : suc (length rest) ≡ length ys

take_out : (x : ℕ) (ys : List ℕ) → 0 < count x ys → TakenOut x ys
unfolding count
take_out x [] h = absurd (omega arith)
take_out x (y ∷ ys) h = go (hit_cases y x) (take_out x ys)
  where
    go : HitCases y x → (0 < count x ys → TakenOut x ys) → TakenOut x (y ∷ ys)
    go (inl p) more = record { rest = ys; counts = λ v. ap (λ (z : ℕ). hit z v + count v ys) (sym p.0); long = refl }
    go (inr p) more =
        let R = more (omega arith) in
        record { rest = y ∷ R.rest; counts = λ v. omega (arith, R.counts v); long = ap suc R.long }

no_longer : (xs ys : List ℕ) → ((v : ℕ) → count v xs ≤ count v ys) → length xs ≤ length ys
unfolding count
no_longer [] ys h = omega arith
no_longer (x ∷ xs) ys h =
    let R = take_out x ys (omega (arith, h x, hit_same x)) in
    omega (arith, no_longer xs R.rest (λ v. omega (arith, h v, R.counts v)), R.long)

-- ---- the pairs of the odd nodes

ends_long : (ps : List Pair) → length (ends ps) ≡ 2 * length ps
unfolding ends
ends_long [] = refl
ends_long (p ∷ ps) = omega (arith, ends_long ps)

-- both nodes of a pair are among its ends
ends_have : (ps : List Pair) (j : ℕ) → j < length ps → (0 < count (get_or ps j (pair 0 0)).from (ends ps)) × (0 < count (get_or ps j (pair 0 0)).to (ends ps))
unfolding ends count
ends_have [] j h = absurd (omega arith)
ends_have (p ∷ ps) zero h = (omega (arith, hit_same p.from), omega (arith, hit_same p.to))
ends_have (p ∷ ps) (suc j) h = let r = ends_have ps j (le_of_suc-le-suc h) in (omega (arith, r.0), omega (arith, r.1))

module _ (n : ℕ) (es : List Edge) (inside : Inside n es) (g : Graph) (s : Settings) where
  -- their ends are odd nodes, each once
  ends_odd : (v : ℕ) → count v (ends (pairs_of g s (odd_nodes n es))) ≤ count v (odd_nodes n es)
  unfolding count ends
  ends_odd v = elim (dec_le (length (odd_nodes n es)) 2) [
    | yes h ↦ none (pairs_few g s (odd_nodes n es) h)
    | no h ↦ omega (arith, (pairs_of_lem g s (odd_nodes n es) (lt_of_not-le h) (handshake n es inside)).counts v)
  ]
    where
      none : pairs_of g s (odd_nodes n es) ≡ [] → count v (ends (pairs_of g s (odd_nodes n es))) ≤ count v (odd_nodes n es)
      none e = omega (arith, ap (λ (ps : List Pair). count v (ends ps)) e)

  pairs_few_of : 2 * length (pairs_of g s (odd_nodes n es)) ≤ n
  pairs_few_of = omega (arith, ends_long (pairs_of g s (odd_nodes n es)), no_longer (ends (pairs_of g s (odd_nodes n es))) (odd_nodes n es) ends_odd, odd_few es n)

  odd_node : (v : ℕ) → 0 < count v (ends (pairs_of g s (odd_nodes n es))) → v < n
  odd_node v h = lt_of_not-le (λ l. omega (arith, ends_odd v, count_outside es n v 0 (λ u a b q. omega arith)))

-- ---- the pairs as they stand in two arrays

pairs_at : (fs ss : List ℕ) (i k j : ℕ) → j < k → get_or (pairs_in fs ss i k) j (pair 0 0) ≡ pair (get_or fs (i + j) 0) (get_or ss (i + j) 0)
unfolding pairs_in
pairs_at fs ss i zero j h = absurd (omega arith)
pairs_at fs ss i (suc k) zero h = let e : i ≡ i + 0 = omega arith in ap (λ (q : ℕ). pair (get_or fs q 0) (get_or ss q 0)) e
pairs_at fs ss i (suc k) (suc j) h = let e : suc i + j ≡ i + suc j = suc-add i j ∙ sym (add-suc i j) in pairs_at fs ss (suc i) k j (le_of_suc-le-suc h) ∙ ap (λ (q : ℕ). pair (get_or fs q 0) (get_or ss q 0)) e

-- there is room for them, and they are pairs of nodes
pub record Usable (n k : ℕ) (fs ss : List ℕ) : Type 0 where
  pub few : k ≤ most_pairs
  pub nodes : PairsAmong n fs ss k

pub pairs_usable : (n : ℕ) → n ≤ most_nodes → (es : List Edge) → Inside n es → (g : Graph) (s : Settings) (k : ℕ) (fs ss : List ℕ) → pairs_in fs ss 0 k ≡ pairs_of g s (odd_nodes n es) → Usable n k fs ss
pairs_usable n room es inside g s k fs ss e =
    let ps = pairs_of g s (odd_nodes n es) in
    let long : k ≡ length ps = sym (pairs_count fs ss 0 k) ∙ ap length e in
    let at : (j : ℕ) → j < k → get_or ps j (pair 0 0) ≡ pair (get_or fs j 0) (get_or ss j 0) =
    λ j h. let z : 0 + j ≡ j = omega arith in ap (λ (qs : List Pair). get_or qs j (pair 0 0)) (sym e) ∙ pairs_at fs ss 0 k j h ∙ ap (λ (q : ℕ). pair (get_or fs q 0) (get_or ss q 0)) z in
    record {
      few = omega (arith, pairs_few_of n es inside g s);
      nodes = record {
        among = λ j h.
            let have = ends_have ps j (omega arith) in (
              omega (arith, ap (λ (p : Pair). p.from) (at j h), odd_node n es inside g s (get_or ps j (pair 0 0)).from have.0),
              omega (arith, ap (λ (p : Pair). p.to) (at j h), odd_node n es inside g s (get_or ps j (pair 0 0)).to have.1),
            );
      };
    }
