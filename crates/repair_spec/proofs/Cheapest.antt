-- Laws of specs/Cheapest: no choice of pairs that leaves two nodes out costs less than the one that Optimal takes. Of nodes in ascending order, any pairs that use them all have one with the lowest node, which is
-- added last. The others are matched as well or better by induction, and a rounded sum never falls where its first argument grows.
use mathlib.Core.Path.{◌≡◌, refl, sym, ap, ◌∙◌, subst}
use mathlib.Core.Logic.{◌⊎◌, inl, inr}
use mathlib.Core.Bool.{Bool, true, false}
use mathlib.Core.List.{List, [], ◌∷◌, map, reverse}
use Prim.Native.Nat.{ℕ, zero, suc, ◌+◌, ◌≤◌, ◌<◌, zero-le}
use native.Mathlib.Omega.{arith}
use lib.ListN.{length}
use lib.Dec.{eqb}
use lib.Ieee.{Float, binary64, add}
use borrow.Author.Tests.{eqb-true, eqb-false}
use Rattle.sums.specs.Key.{Nonneg, key}
use Rattle.sums.proofs.Sum.{add_mono, zero_key, zero_nonneg, inf_nonneg}
use Rattle.lists.specs.Members.{In, All}
use Rattle.lists.proofs.Members.{either, all_in, in_all, all_imp, all_map, all_reverse, in_map, in_left, in_right}
use Rattle.graph_spec.specs.Graph.{Edge}
use Rattle.graph_spec.specs.Odd.{hit, odd_nodes}
use Rattle.graph_spec.specs.Ways.{Inside}
use Rattle.graph_spec.specs.Weights.{Weights}
use Rattle.graph_spec.proofs.Sums.{hit_same, hit_other, hit_cases, HitCases}
use Rattle.graph_spec.proofs.Odd.{Ascends, odd_ascends}
use Rattle.graph_spec.proofs.Handshake.{handshake}
use Rattle.graph_spec.proofs.Occurs.{count}
use Rattle.repair_spec.specs.Distance.{infinity, zero_length, distance_at, distances}
use Rattle.repair_spec.specs.Cost.{Least}
use Rattle.repair_spec.specs.Pairing.{Pair, pair, ends, Matching, matching, none, choice_of, without, match_all, leave_two, optimal_pairs, add_pairs, cost_of}
use Rattle.repair_spec.specs.Repair.{rows, distance_in}
use Rattle.repair_spec.specs.Cheapest.{NoneTwice, LeavesTwo, rising, choice_cost, LeastBetween, NoCheaper}
use Rattle.repair_spec.proofs.Cost.{least_nonneg, least_unique}
use Rattle.repair_spec.proofs.Least.{least_distance}
use Rattle.repair_spec.proofs.Pairs.{AllButTwo}
use Rattle.repair_spec.proofs.Matched.{Whole, optimal_pairs_lem}
use Rattle.repair_spec.proofs.NoDearer.{cost_nonneg}
use Rattle.repair_spec.proofs.Repaired.{odd_below}
use Rattle.repair_spec.proofs.Tried.{tried_is, tried_least, CostNonneg, tried, with_partner, match_tried, left_out, left_outs, two_tried, lefts_all}
use Rattle.repair_spec.proofs.Without.{in_count, count_in, without_count, without_length, without_all, without_in}
use Rattle.repair_spec.proofs.Choices.{leaves_counts, counts_leave, Rises, LowerFirst, rising_rises, rising_lower, rising_count, Both, rising_both, rising_first, choice_has, cost_first, cost_same}

-- ---- nodes in ascending order

ascends_once : (us : List ℕ) → Ascends us → NoneTwice us
ascends_once [] a = tt
ascends_once (u ∷ us) a = (λ i. omega (arith, all_in (λ (v : ℕ). u < v) us a.0 u i), ascends_once us a.1)

without_ascends : (v : ℕ) (us : List ℕ) → Ascends us → Ascends (without v us)
unfolding without
without_ascends v [] a = tt
without_ascends v (u ∷ us) a = either Ascends us (u ∷ without v us) a.1 (without_all (λ (w : ℕ). u < w) v us a.0, without_ascends v us a.1) (eqb u v)

-- ---- pairs in rising order that use all of some nodes in ascending order

-- of pairs in rising order that use all of them, the first has the lowest node
first_is : (u : ℕ) (vs : List ℕ) (p : Pair) (ps : List Pair) → Ascends (u ∷ vs) → Rises (p ∷ ps) → LowerFirst (p ∷ ps) → Whole (u ∷ vs) (p ∷ ps) → p.from ≡ u
unfolding count ends
first_is u vs p ps a r l w = elim (hit_cases u p.from) [
  | inl q ↦ sym q.0
  | inr q ↦
      let above : u < p.from = all_in (λ (v : ℕ). u < v) vs a.0 p.from (count_in p.from vs (omega (arith, w p.from, q.1, hit_same p.from))) in
      absurd (omega (arith, w u, hit_same u, hit_other p.from u (λ e. omega arith), hit_other p.to u (λ e. omega (arith, l.0)), absent ps r.0 l.1 above))
]
  where
    absent : (qs : List Pair) → All (λ (q : Pair). p.from ≤ q.from) qs → LowerFirst qs → u < p.from → count u (ends qs) ≡ 0
    absent [] x y h = refl
    absent (q ∷ qs) x y h = omega (arith, hit_other q.from u (λ e. omega (arith, x.0)), hit_other q.to u (λ e. omega (arith, x.0, y.0)), absent qs x.1 y.1 h)

-- the other node of that pair is one of the others, and the other pairs use all of these without it
split_first : (u : ℕ) (vs : List ℕ) (p : Pair) (ps : List Pair) → Ascends (u ∷ vs) → Rises (p ∷ ps) → LowerFirst (p ∷ ps) → Whole (u ∷ vs) (p ∷ ps)
    → (p.from ≡ u) × (0 < count p.to vs) × Whole (without p.to vs) ps
unfolding count ends
split_first u vs p ps a r l w =
    let is = first_is u vs p ps a r l w in
    let others : (x : ℕ) → hit p.to x + count x (ends ps) ≡ count x vs = λ x. omega (arith, w x, ap (λ (y : ℕ). hit y x) is) in
    let there : 0 < count p.to vs = omega (arith, others p.to, hit_same p.to) in
    (is, there, λ x. omega (arith, others x, without_count p.to vs x there))

-- ---- two nodes of a list, in the order in which they stand there

-- u stands in front of v
abbrev Follows : ℕ → ℕ → List ℕ → Type 0
Follows u v [] = ⊥
Follows u v (w ∷ ws) = ((u ≡ w) × In v ws) ⊎ Follows u v ws

-- two that stand in a list stand in one order or the other
in_order : (u v : ℕ) (ws : List ℕ) → ((w : ℕ) → hit u w + hit v w ≤ count w ws) → Follows u v ws ⊎ Follows v u ws
unfolding count
in_order u v [] h = absurd (omega (arith, h u, hit_same u))
in_order u v (w ∷ ws) h = go (hit_cases w u) (hit_cases w v) (in_order u v ws)
  where
    go : HitCases w u → HitCases w v → (((x : ℕ) → hit u x + hit v x ≤ count x ws) → Follows u v ws ⊎ Follows v u ws) → Follows u v (w ∷ ws) ⊎ Follows v u (w ∷ ws)
    go (inl p) t rec = inl (inl (sym p.0, count_in v ws (omega (arith, h v, hit_same v, ap (λ (x : ℕ). hit x v) p.0))))
    go (inr p) (inl t) rec = inr (inl (sym t.0, count_in u ws (omega (arith, h u, hit_same u, ap (λ (x : ℕ). hit x u) t.0))))
    go (inr p) (inr t) rec = elim (rec fewer) [ inl f ↦ inl (inr f) | inr f ↦ inr (inr f) ]
      where
        fewer : (x : ℕ) → hit u x + hit v x ≤ count x ws
        fewer x = elim (hit_cases w x) [
          | inl q ↦ omega (arith, hit_other u x (λ e. p.0 (q.0 ∙ sym e)), hit_other v x (λ e. t.0 (q.0 ∙ sym e)))
          | inr q ↦ omega (arith, h x, q.1)
        ]

-- ---- by distances none of which is a NaN or negative

module _ (d : ℕ → ℕ → Float) (nonneg : (u v : ℕ) → Nonneg binary64 (d u v)) where
  sum_nonneg : (ps : List Pair) → Nonneg binary64 (cost_of d ps)
  sum_nonneg ps = cost_nonneg d (λ (v : ℕ). Unit {0}) (λ u v _ _. nonneg u v) ps (in_all (λ (p : Pair). Unit {0} × Unit {0}) ps (λ p i. (tt, tt)))

  -- what is known of each pairing that is tried: its cost is that of its pairs, which are pairs of the nodes vs
  record Tallied (vs : List ℕ) (m : Matching) : Type 0 where
    cost_is : m.cost ≡ choice_cost d m.pairs
    within : All (λ (v : ℕ). In v vs) (ends m.pairs)

  tallied_nonneg : (vs : List ℕ) (m : Matching) → Tallied vs m → CostNonneg m
  tallied_nonneg vs m T = rw T.cost_is (choice_has (Nonneg binary64) d sum_nonneg m.pairs)

  empty_tallied : (vs : List ℕ) → Tallied vs (matching zero_length [])
  unfolding choice_cost rising cost_of add_pairs ends
  empty_tallied vs = record { cost_is = refl; within = tt }

  -- pairs of some of the nodes are pairs of them all
  wider : (us vs : List ℕ) (m : Matching) → ((w : ℕ) → In w us → In w vs) → Tallied us m → Tallied vs m
  wider us vs m h T = record { cost_is = T.cost_is; within = all_imp (λ (w : ℕ). In w us) (λ (w : ℕ). In w vs) h (ends m.pairs) T.within }

  -- the lowest node with another, the others by m
  with_lowest : (u v : ℕ) (vs : List ℕ) (m : Matching) → Ascends (u ∷ vs) → In v vs → Tallied (without v vs) m → Tallied (u ∷ vs) (matching (add binary64 m.cost (d u v)) (pair u v ∷ m.pairs))
  unfolding choice_cost ends
  with_lowest u v vs m a i T = record {
    cost_is = ap (λ (x : Float). add binary64 x (d u v)) T.cost_is ∙ sym (cost_first d (pair u v) (rising m.pairs)) ∙ ap (λ (ps : List Pair). cost_of d (reverse ps)) (sym first);
    within = (inl refl, (inr i, all_imp (λ (w : ℕ). In w (without v vs)) (λ (w : ℕ). In w (u ∷ vs)) (λ w j. inr (without_in v vs w j)) (ends m.pairs) T.within));
  }
    where
      above : (w : ℕ) → In w vs → u < w
      above = all_in (λ (w : ℕ). u < w) vs a.0

      first : rising (pair u v ∷ m.pairs) ≡ pair u v ∷ rising m.pairs
      first = rising_first u v m.pairs (above v i) (all_imp (λ (w : ℕ). In w (without v vs)) (λ (w : ℕ). u < w) (λ w j. above w (without_in v vs w j)) (ends m.pairs) T.within)

  partners_tallied : (k u : ℕ) (vs : List ℕ) → Ascends (u ∷ vs) → ((us : List ℕ) → Ascends us → Tallied us (match_all k d us)) → All (Tallied (u ∷ vs)) (map (with_partner k d u vs) vs)
  partners_tallied k u vs a others =
      all_map (with_partner k d u vs) (Tallied (u ∷ vs)) vs
      (in_all (λ (v : ℕ). Tallied (u ∷ vs) (with_partner k d u vs v)) vs (λ v i. with_lowest u v vs (match_all k d (without v vs)) a i (others (without v vs) (without_ascends v vs a.1))))

  match_tallied : (k : ℕ) (vs : List ℕ) → Ascends vs → Tallied vs (match_all k d vs)
  unfolding match_all
  match_tallied zero vs a = empty_tallied vs
  match_tallied (suc k) [] a = empty_tallied []
  match_tallied (suc k) (u ∷ vs) a =
      subst (Tallied (u ∷ vs)) (sym (match_tried k d u vs))
      (tried_is (Tallied (u ∷ vs)) (map (with_partner k d u vs) vs) none (empty_tallied (u ∷ vs)) (partners_tallied k u vs a (match_tallied k)))

  -- ---- all nodes

  -- with the same pair of the lowest node, the others paired at least as well
  module _ (k u : ℕ) (vs : List ℕ) (p : Pair) (ps : List Pair) (a : Ascends (u ∷ vs)) (is : p.from ≡ u) (there : 0 < count p.to vs) where
    abbrev v : ℕ
    v = p.to

    first_least : key binary64 (match_all k d (without v vs)).cost ≤ key binary64 (cost_of d (reverse ps)) → key binary64 (match_all (suc k) d (u ∷ vs)).cost ≤ key binary64 (cost_of d (reverse (p ∷ ps)))
    first_least rest =
        subst (λ (m : Matching). key binary64 m.cost ≤ most) (sym (match_tried k d u vs))
        (tried_least tries none (zero_nonneg binary64) (all_imp (Tallied (u ∷ vs)) CostNonneg (tallied_nonneg (u ∷ vs)) tries (partners_tallied k u vs a (match_tallied k)))
        (with_partner k d u vs v) (in_map (with_partner k d u vs) v vs (count_in v vs there)) most low)
      where
        most : ℕ
        most = key binary64 (cost_of d (reverse (p ∷ ps)))

        tries : List Matching
        tries = map (with_partner k d u vs) vs

        rest_nonneg : CostNonneg (match_all k d (without v vs))
        rest_nonneg = tallied_nonneg (without v vs) (match_all k d (without v vs)) (match_tallied k (without v vs) (without_ascends v vs a.1))

        same : add binary64 (cost_of d (reverse ps)) (d u v) ≡ cost_of d (reverse (p ∷ ps))
        same = ap (λ (y : ℕ). add binary64 (cost_of d (reverse ps)) (d y v)) (sym is) ∙ sym (cost_first d p ps)

        low : key binary64 (with_partner k d u vs v).cost ≤ most
        low = subst (λ (x : Float). key binary64 (with_partner k d u vs v).cost ≤ key binary64 x) same
            (add_mono binary64 (match_all k d (without v vs)).cost (cost_of d (reverse ps)) (d u v) rest_nonneg (sum_nonneg (reverse ps)) (nonneg u v) rest)

  -- no pairs of all nodes cost less than those by match_all, for k at least the number of nodes
  match_least : (k : ℕ) (vs : List ℕ) (ps : List Pair) → length vs ≤ k → Ascends vs → Rises ps → LowerFirst ps → Whole vs ps → key binary64 (match_all k d vs).cost ≤ key binary64 (cost_of d (reverse ps))
  unfolding match_all count ends
  match_least zero [] ps h a r l w = rw (zero_key binary64) zero-le
  match_least zero (u ∷ vs) ps h a r l w = absurd (omega arith)
  match_least (suc k) [] ps h a r l w = rw (zero_key binary64) zero-le
  match_least (suc k) (u ∷ vs) [] h a r l w = absurd (omega (arith, w u, hit_same u))
  match_least (suc k) (u ∷ vs) (p ∷ ps) h a r l w =
      let q = split_first u vs p ps a r l w in
      first_least k u vs p ps a q.0 q.1 (match_least k (without p.to vs) ps (omega (arith, without_length p.to vs q.1)) (without_ascends p.to vs a.1) r.1 l.1 q.2)

  -- ---- all nodes but two

  left_in : (k : ℕ) (all : List ℕ) (u v : ℕ) (rest : List ℕ) → Follows u v rest → In (left_out k d all u v) (left_outs k d all rest)
  unfolding left_outs
  left_in k all u v (w ∷ rest) (inl p) =
      in_left (left_out k d all u v) (map (left_out k d all w) rest) (left_outs k d all rest) (subst (λ (x : ℕ). In (left_out k d all u v) (map (left_out k d all x) rest)) p.0 (in_map (left_out k d all u) v rest p.1))
  left_in k all u v (w ∷ rest) (inr f) = in_right (left_out k d all u v) (map (left_out k d all w) rest) (left_outs k d all rest) (left_in k all u v rest f)
  left_in k all u v [] x' = elim x' [ ]

  lefts_tallied : (k : ℕ) (all : List ℕ) → Ascends all → All (Tallied all) (left_outs k d all all)
  lefts_tallied k all a = lefts_all k d (Tallied all) all all (λ u v _ _. left u v) (λ v. omega arith)
    where
      left : (u v : ℕ) → Tallied all (left_out k d all u v)
      left u v =
          wider (without v (without u all)) all (left_out k d all u v) (λ w j. without_in u all w (without_in v (without u all) w j))
          (match_tallied k (without v (without u all)) (without_ascends v (without u all) (without_ascends u all a)))

  module _ (vs : List ℕ) (a : Ascends vs) where
    abbrev tries : List Matching
    tries = left_outs (length vs) d vs vs

    -- the pairing chosen costs what its pairs cost
    chosen_tallied : Tallied vs (choice_of (leave_two (length vs) d vs vs none))
    chosen_tallied =
        subst (λ (m : Matching). Tallied vs m) (ap choice_of (sym (two_tried (length vs) d vs vs none)))
        (tried_is (Tallied vs) tries none (empty_tallied vs) (lefts_tallied (length vs) vs a))

    -- pairs that leave x and y out
    module _ (ps : List Pair) (r : Rises ps) (l : LowerFirst ps) where
      without_two : (x y : ℕ) → ((w : ℕ) → count w (ends ps) + hit x w + hit y w ≡ count w vs) → key binary64 (left_out (length vs) d vs x y).cost ≤ key binary64 (cost_of d (reverse ps))
      without_two x y c =
          let first : 0 < count x vs = omega (arith, c x, hit_same x) in
          let second : 0 < count y (without x vs) = omega (arith, c y, hit_same y, without_count x vs y first) in
          match_least (length vs) (without y (without x vs)) ps (omega (arith, without_length x vs first, without_length y (without x vs) second)) (without_ascends y (without x vs) (without_ascends x vs a)) r l
          (λ w. omega (arith, c w, without_count x vs w first, without_count y (without x vs) w second))

      cost_least : AllButTwo vs ps → key binary64 (choice_of (leave_two (length vs) d vs vs none)).cost ≤ key binary64 (cost_of d (reverse ps))
      cost_least b = subst (λ (m : Matching). key binary64 m.cost ≤ most) (ap choice_of (sym (two_tried (length vs) d vs vs none)))
          (elim (in_order b.x b.y vs (λ w. omega (arith, b.counts w))) [
            | inl f ↦ least b.x b.y f b.counts
            | inr f ↦ least b.y b.x f (λ w. omega (arith, b.counts w))
          ])
        where
          most : ℕ
          most = key binary64 (cost_of d (reverse ps))

          least : (x y : ℕ) → Follows x y vs → ((w : ℕ) → count w (ends ps) + hit x w + hit y w ≡ count w vs) → key binary64 (choice_of (tried tries none)).cost ≤ most
          least x y f c =
              tried_least tries none (zero_nonneg binary64) (all_imp (Tallied vs) CostNonneg (tallied_nonneg vs) tries (lefts_tallied (length vs) vs a))
              (left_out (length vs) d vs x y) (left_in (length vs) vs x y vs f) most (without_two x y c)

    -- no choice of pairs costs less than the one that Optimal takes
    optimal_least : (ps : List Pair) → LeavesTwo vs ps → key binary64 (choice_cost d (optimal_pairs d vs)) ≤ key binary64 (choice_cost d ps)
    unfolding optimal_pairs choice_cost
    optimal_least ps L =
        let b = leaves_counts vs ps L in
        subst (λ (x : Float). key binary64 x ≤ key binary64 (choice_cost d ps)) chosen_tallied.cost_is
        (cost_least (rising ps) (rising_rises ps) (rising_lower ps L.once) (record { x = b.x; y = b.y; counts = λ w. omega (arith, b.counts w, rising_count w ps) }))

-- ---- the odd nodes, and the least distances between them

pub odd_once : (n : ℕ) (es : List Edge) → NoneTwice (odd_nodes n es)
odd_once n es = ascends_once (odd_nodes n es) (odd_ascends es n 0)

module _ (n : ℕ) (es : List Edge) (weights : Weights es) (inside : Inside n es) where
  -- what the rows of some nodes say: the least distances from these, and infinity from another
  row_least : (us : List ℕ) → All (λ (u : ℕ). u < n) us → (u v : ℕ) → Least es u v (distance_in (rows n es us) u v) ⊎ ((In u us → ⊥) × (distance_in (rows n es us) u v ≡ infinity))
  unfolding rows distance_in
  row_least [] a u v = inr (λ i. i, refl)
  row_least (w ∷ us) a u v = go (eqb w u) refl (row_least us a.1 u v)
    where
      go : (t : Bool) → eqb w u ≡ t → Least es u v (distance_in (rows n es us) u v) ⊎ ((In u us → ⊥) × (distance_in (rows n es us) u v ≡ infinity))
          → Least es u v (elim t [ true ↦ distance_at (distances n es w) v | false ↦ distance_in (rows n es us) u v ])
          ⊎ ((In u (w ∷ us) → ⊥) × (elim t [ true ↦ distance_at (distances n es w) v | false ↦ distance_in (rows n es us) u v ] ≡ infinity))
      go true e r = inl (subst (λ (x : ℕ). Least es x v (distance_at (distances n es w) v)) (eqb-true w u e) (least_distance n es weights inside w a.0 v))
      go false e (inl l) = inl l
      go false e (inr p) = inr (λ i. elim i [ inl q ↦ eqb-false w u e (sym q) | inr j ↦ p.0 j ], p.1)

  abbrev odd : List ℕ
  odd = odd_nodes n es

  abbrev pub table : ℕ → ℕ → Float
  table = distance_in (rows n es odd)

  below : All (λ (u : ℕ). u < n) odd
  below = in_all (λ (u : ℕ). u < n) odd (λ u i. odd_below n es u (in_count u odd i))

  table_nonneg : (u v : ℕ) → Nonneg binary64 (table u v)
  table_nonneg u v = elim (row_least odd below u v) [ inl l ↦ least_nonneg es weights u l | inr p ↦ rw p.1 (inf_nonneg binary64) ]

  pub table_least : LeastBetween es odd table
  table_least u v i j = elim (row_least odd below u v) [ inl l ↦ l | inr p ↦ absurd (p.0 i) ]

  -- whatever has the least distances has the same costs
  by_table : (d : ℕ → ℕ → Float) → LeastBetween es odd d → (ps : List Pair) → LeavesTwo odd ps → choice_cost table ps ≡ choice_cost d ps
  unfolding choice_cost cost_of
  by_table d D ps L =
      cost_same (λ (v : ℕ). In v odd) table d (λ u v i j. least_unique es weights u (table_least u v i j) (D u v i j)) (reverse (rising ps)) zero_length
      (all_reverse (Both (λ (v : ℕ). In v odd)) (rising ps) (rising_both (λ (v : ℕ). In v odd) ps L.nodes))

  -- change request 6, of the definitions
  pub no_cheaper : 2 ≤ length odd → NoCheaper es odd (optimal_pairs table odd)
  no_cheaper many =
      let taken = optimal_pairs table odd in
      let choice = counts_leave odd taken (odd_once n es) (optimal_pairs_lem table odd many (handshake n es inside)) in
      record {
        choice = choice;
        distances = (table, table_least);
        least = λ d D ps L.
            subst (λ (x : Float). key binary64 x ≤ key binary64 (choice_cost d ps)) (by_table d D taken choice)
            (subst (λ (x : Float). key binary64 (choice_cost table taken) ≤ key binary64 x) (by_table d D ps L) (optimal_least table table_nonneg odd (odd_ascends es n 0) ps L));
      }
