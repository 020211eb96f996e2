-- Laws of specs/Rounds.
use mathlib.Core.Path.{◌≡◌, refl, sym, ap, subst, ◌∙◌}
use mathlib.Core.Bool.{Bool, true}
use mathlib.Core.List.{List, [], ◌∷◌, ◌++◌, append_assoc, append-nil}
use Prim.Native.Nat.{ℕ, zero, suc, ◌+◌, ◌-◌, ◌*◌, ◌≤◌, ◌<◌}
use native.Mathlib.Decide.{ℕ_discrete}
use native.Mathlib.Omega.{arith}
use lib.ListN.{length, get_or, take, set, length-set}
use lib.Seq.{length-take-le, take-take, take-set-lt, get_or-take, get_or-set_same, get_or-set_other}
use lib.Dec.{ltb}
use borrow.Author.Tests.{lt-ltb, le-ltb}
use Rattle.limits.specs.Limits.{most_pairs, most_nodes}
use Rattle.repair_spec.specs.Pairing.{Pair, pair, nothing, between, closest, swap_remove, nearest_pairs}
use Rattle.repair_spec.proofs.Pairs.{Places, closest_places}
use Rattle.repair_spec.proofs.Alike.{turn, turn_is}
use Rattle.repair_spec.specs.PairsIn.{PairList, pairs_in, listed, PairRoom, PairsAmong, pushed}
use Rattle.repair_spec.proofs.PairsIn.{pairs_more, room_more}
use Rattle.graph_arrays.specs.NodeList.{NodeList}
use Rattle.repair_greedy.proofs.Costs.{nodes_removed}
use Rattle.repair_greedy.specs.Bounds.{Bounds}
use Rattle.repair_greedy.proofs.Bounds.{bounds_removed}
use Rattle.repair_greedy.specs.Rounds.{Round, Paired, moved}

removed_is : (w : List ℕ) (n i : ℕ) → n ≤ length w → i < n → swap_remove (take n w) i ≡ take (n - 1) (moved w n i)
unfolding swap_remove
removed_is w n i long h =
    let all = length-take-le n w long in
    ap (λ (m : ℕ). take (m - 1) (set (take n w) i (get_or (take n w) (m - 1) 0))) all
    ∙ ap (λ (v : ℕ). take (n - 1) (set (take n w) i v)) (get_or-take n w (n - 1) 0 (omega arith))
    ∙ ap (take (n - 1)) (sym (take-set-lt n w i (get_or w (n - 1) 0) h))
    ∙ take-take (n - 1) n (moved w n i) (omega arith)

-- both nodes of a pair go, the later one first
abbrev pub without : List ℕ → ℕ → ℕ → ℕ → List ℕ
without w n i j = moved (moved w n j) (n - 1) i

-- the two places that are found
pub found_places : (cost : ℕ → ℕ → ℕ) (w : List ℕ) (n i j d : ℕ) → n ≤ length w → closest ltb cost (take n w) 0 nothing ≡ between i j d → 2 ≤ n → (i < j) × (j < n)
found_places cost w n i j d long is h =
    let all = length-take-le n w long in
    subst (λ (m : ℕ). Places m (between i j d)) all (subst (Places (length (take n w))) is (closest_places ltb cost (take n w) (omega (arith, all))))

module _ (cost : ℕ → ℕ → ℕ) (w : List ℕ) (n i j d : ℕ) (long : n ≤ length w)
    (is : closest ltb cost (take n w) 0 nothing ≡ between i j d) where
  round_pairs : 2 < n → (k : ℕ) → nearest_pairs ltb (suc k) cost (take n w) ≡ pair (get_or w i 0) (get_or w j 0) ∷ nearest_pairs ltb k cost (take (n - 2) (without w n i j))
  unfolding turn
  round_pairs h k =
      let at = found_places cost w n i j d long is (omega arith) in
      let less : n - 1 - 1 ≡ n - 2 = omega arith in
      let next : swap_remove (swap_remove (take n w) j) i ≡ take (n - 2) (without w n i j) =
      ap (λ (l : List ℕ). swap_remove l i) (removed_is w n j long at.1)
      ∙ removed_is (moved w n j) (n - 1) i (omega (arith, length-set w j (get_or w (n - 1) 0))) (omega (arith, at.0, at.1))
      ∙ ap (λ (m : ℕ). take m (without w n i j)) less in
      turn_is ltb k cost (take n w)
      ∙ ap (λ (t : Bool). turn (take n w) (nearest_pairs ltb k cost) t (closest ltb cost (take n w) 0 nothing))
      (lt-ltb 2 (length (take n w)) (omega (arith, length-take-le n w long)))
      ∙ ap (turn (take n w) (nearest_pairs ltb k cost) true) is
      ∙ ap (λ (u : ℕ). pair u (get_or (take n w) j 0) ∷ nearest_pairs ltb k cost (swap_remove (swap_remove (take n w) j) i)) (get_or-take n w i 0 (omega (arith, at.0, at.1)))
      ∙ ap (λ (u : ℕ). pair (get_or w i 0) u ∷ nearest_pairs ltb k cost (swap_remove (swap_remove (take n w) j) i)) (get_or-take n w j 0 at.1)
      ∙ ap (λ (l : List ℕ). pair (get_or w i 0) (get_or w j 0) ∷ nearest_pairs ltb k cost l) next

-- two nodes are left
round_end : (k : ℕ) (cost : ℕ → ℕ → ℕ) (w : List ℕ) (n : ℕ) → n ≤ 2 → n ≤ length w → nearest_pairs ltb k cost (take n w) ≡ []
unfolding nearest_pairs turn
round_end zero cost w n h long = refl
round_end (suc k) cost w n h long =
    turn_is ltb k cost (take n w)
    ∙ ap (λ (t : Bool). turn (take n w) (nearest_pairs ltb k cost) t (closest ltb cost (take n w) 0 nothing))
    (le-ltb 2 (length (take n w)) (omega (arith, length-take-le n w long)))

-- the bounds hold for the next round
round_bounds : (cost : ℕ → ℕ → ℕ) (w : List ℕ) (n i j : ℕ) (lows : List ℕ) → i < j → j < n → Bounds cost w n lows
    → Bounds cost (without w n i j) (n - 2) (set (set lows j 0) i 0)
round_bounds cost w n i j lows h k B =
    subst (λ (m : ℕ). Bounds cost (without w n i j) m (set (set lows j 0) i 0)) (omega arith)
    (bounds_removed cost (moved w n j) (n - 1) (set lows j 0) i (omega arith) (bounds_removed cost w n lows j k B))

-- the round by its steps: the place j goes, then the place i
pub round_done : (cost : ℕ → ℕ → ℕ) (w w₁ w₂ lows lows₁ lows₂ : List ℕ) (n n₁ n₂ i j d : ℕ) (p p' : PairList) → 2 < n → n ≤ length w → Bounds cost w n lows
    → closest ltb cost (take n w) 0 nothing ≡ between i j d → p' ≡ pushed (get_or w i 0) (get_or w j 0) p
    → w₁ ≡ set w j (get_or w (n - 1) 0) → n₁ ≡ n - 1 → lows₁ ≡ set lows j 0 → w₂ ≡ set w₁ i (get_or w₁ (n₁ - 1) 0) → n₂ ≡ n₁ - 1 → lows₂ ≡ set lows₁ i 0
    → (n₂ ≡ n - 2) × Bounds cost w₂ n₂ lows₂ × Round cost n w w₂ p p'
round_done cost w w₁ w₂ lows lows₁ lows₂ n n₁ n₂ i j d p p' h long B is q e₁ m₁ g₁ e₂ m₂ g₂ =
    let at = found_places cost w n i j d long is (omega arith) in
    let two : n₂ ≡ n - 2 = omega arith in
    let e : w₂ ≡ without w n i j = e₂ ∙ ap (λ (l : List ℕ). set l i (get_or l (n₁ - 1) 0)) e₁ ∙ ap (λ (m : ℕ). set (moved w n j) i (get_or (moved w n j) (m - 1) 0)) m₁ in
    let g : lows₂ ≡ set (set lows j 0) i 0 = g₂ ∙ ap (λ (l : List ℕ). set l i 0) g₁ in (
      two,
      rw (two, g, e) (round_bounds cost w n i j lows at.0 at.1 B),
      record { from = i; to = j; at = d; nearest = is; next = q; rest = e },
    )

among_more : (fs ss : List ℕ) (count : ℕ) → PairRoom fs ss → count < most_pairs → (u v : ℕ) → u < most_nodes → v < most_nodes → PairsAmong most_nodes fs ss count
    → PairsAmong most_nodes (set fs count u) (set ss count v) (count + 1)
among_more fs ss count room h u v hu hv A = record {
  among = λ j l. elim (ℕ_discrete j count) [
    | yes e ↦ (
      omega (arith, ap (λ (k : ℕ). get_or (set fs count u) k 0) e, get_or-set_same fs count u 0 (omega (arith, room.firsts_long))),
      omega (arith, ap (λ (k : ℕ). get_or (set ss count v) k 0) e, get_or-set_same ss count v 0 (omega (arith, room.seconds_long))),
    )
    | no d ↦
        let a = A.among j (omega (arith, d)) in
        (omega (arith, get_or-set_other fs count j u 0 d, a.0), omega (arith, get_or-set_other ss count j v 0 d, a.1))
  ];
}

-- ---- all rounds: `left` nodes of the working list w are to be paired

pub record Writing (cost : ℕ → ℕ → ℕ) (all left : ℕ) (w₀ w : List ℕ) (p : PairList) : Type 0 where
  pub sum : left + 2 * p.count ≡ all
  pub nodes : NodeList most_nodes most_nodes w left
  pub room : PairRoom p.firsts p.seconds
  pub among : PairsAmong most_nodes p.firsts p.seconds p.count
  pub pairs : listed p ++ nearest_pairs ltb (all - p.count) cost (take left w) ≡ nearest_pairs ltb all cost (take all w₀)

module _ (cost : ℕ → ℕ → ℕ) (all : ℕ) (w₀ : List ℕ) where
  pub writing_start : (p : PairList) → p.count ≡ 0 → NodeList most_nodes most_nodes w₀ all → PairRoom p.firsts p.seconds → Writing cost all all w₀ w₀ p
  unfolding pairs_in
  writing_start p none W R =
      let e : all - p.count ≡ all = omega arith in
      record {
        sum = omega arith;
        nodes = W;
        room = R;
        among = record { among = λ j h. absurd (omega arith) };
        pairs = ap (λ (k : ℕ). pairs_in p.firsts p.seconds 0 k ++ nearest_pairs ltb (all - p.count) cost (take all w₀)) none ∙ ap (λ (k : ℕ). nearest_pairs ltb k cost (take all w₀)) e;
      }

  module _ (left : ℕ) (w : List ℕ) (p : PairList) (S : Writing cost all left w₀ w p) where
    pub writing_round : (w' : List ℕ) (p' : PairList) → 2 < left → p.count < most_pairs → Round cost left w w' p p' → Writing cost all (left - 2) w₀ w' p'
    writing_round w' p' h room R =
        let count = p.count in
        let W = S.nodes in
        let at = found_places cost w left R.from R.to R.at W.long R.nearest (omega arith) in
        let more : all - count ≡ suc (all - (count + 1)) = omega (arith, S.sum) in
        let q = pair (get_or w R.from 0) (get_or w R.to 0) in
        let rest = nearest_pairs ltb (all - (count + 1)) cost (take (left - 2) w') in
        let turned : nearest_pairs ltb (all - count) cost (take left w) ≡ q ∷ rest =
        ap (λ (k : ℕ). nearest_pairs ltb k cost (take left w)) more
        ∙ round_pairs cost w left R.from R.to R.at W.long R.nearest h (all - (count + 1))
        ∙ ap (λ (l : List ℕ). q ∷ nearest_pairs ltb (all - (count + 1)) cost (take (left - 2) l)) (sym R.rest) in
        let less : left - 1 - 1 ≡ left - 2 = omega arith in
        subst (λ (p' : PairList). Writing cost all (left - 2) w₀ w' p') (sym R.next)
        (record {
          sum = omega (arith, S.sum);
          nodes = subst (λ (l : List ℕ). NodeList most_nodes most_nodes l (left - 2)) (sym R.rest)
              (subst (NodeList most_nodes most_nodes (without w left R.from R.to)) less
              (nodes_removed most_nodes (moved w left R.to) (left - 1) (nodes_removed most_nodes w left W R.to at.1) R.from (omega (arith, at.0, at.1))));
          room = room_more p.firsts p.seconds S.room count (get_or w R.from 0) (get_or w R.to 0) room;
          among = among_more p.firsts p.seconds count S.room room (get_or w R.from 0) (get_or w R.to 0) (W.nodes_in_known R.from (omega (arith, at.0, at.1))) (W.nodes_in_known R.to at.1) S.among;
          pairs =
              ap (λ (qs : List Pair). qs ++ rest) (pairs_more p.firsts p.seconds S.room count (get_or w R.from 0) (get_or w R.to 0) room)
              ∙ append_assoc (listed p) (q ∷ []) rest
              ∙ ap (λ (qs : List Pair). listed p ++ qs) (sym turned) ∙ S.pairs;
        })

    pub writing_end : left ≤ 2 → listed p ≡ nearest_pairs ltb all cost (take all w₀)
    writing_end h =
        sym (append-nil (listed p))
        ∙ ap (λ (qs : List Pair). listed p ++ qs) (sym (round_end (all - p.count) cost w left h S.nodes.long))
        ∙ S.pairs

    pub writing_paired : all ≤ most_nodes → Paired p
    writing_paired h = record { room = S.room; few = omega (arith, S.sum); among = S.among }
