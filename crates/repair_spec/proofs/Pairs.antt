-- The pairs use all nodes of an even list but two, each as often as it stands there.
use Prim.Native.Nat.{ℕ, zero, suc, ◌+◌, ◌-◌, ◌%◌, ◌≤◌, ◌<◌}
use native.Mathlib.Omega.{arith}
use native.Mathlib.Nat.{le_of_suc-le-suc}
use mathlib.Core.Path.{◌≡◌, refl, ap, ◌∙◌}
use mathlib.Core.Logic.{inl, inr}
use mathlib.Core.List.{List, [], ◌∷◌}
use mathlib.Core.Bool.{Bool, true, false}
use lib.ListN.{length, get_or, take, set, length-take, length-set}
use lib.Seq.{get_or-set_other, get_or-take}
use lib.Dec.{ltb}
use lib.Ieee.{Float, lt, le}
use borrow.Author.Tests.{ltb-true, ltb-false}
use Rattle.drawing_spec.specs.Drawing.{Point}
use Rattle.lists.proofs.Members.{either}
use Rattle.lists.proofs.Elements.{set_cases}
use Rattle.graph_spec.specs.Odd.{hit}
use Rattle.graph_spec.proofs.Occurs.{count}
use Rattle.repair_spec.specs.Pairing.{Pair, pair, ends, Closest, nothing, between, closer, closest_to, closest, swap_remove, nearest_pairs, apart, greedy_pairs, graph_pairs, cost_of, less_costly, busy_pairs}

-- the pairs use all of vs but x and y
pub record AllButTwo (vs : List ℕ) (ps : List Pair) : Type 0 where
  pub x : ℕ
  pub y : ℕ
  pub counts : (v : ℕ) → count v (ends ps) + hit x v + hit y v ≡ count v vs

-- ---- the last takes the place of the one that goes

pub swap_length : (vs : List ℕ) (i : ℕ) → length (swap_remove vs i) ≡ length vs - 1
unfolding swap_remove
swap_length vs i = simp (length-take, length-set) (omega arith)

-- x takes the place of the element at i
count_set : (v : ℕ) (vs : List ℕ) (i x : ℕ) → i < length vs → count v (set vs i x) + hit (get_or vs i 0) v ≡ count v vs + hit x v
unfolding count
count_set v [] i x h = absurd (omega arith)
count_set v (u ∷ us) zero x h = omega arith
count_set v (u ∷ us) (suc i) x h = omega (arith, count_set v us i x (le_of_suc-le-suc h))

-- the last goes
count_take : (v : ℕ) (vs : List ℕ) (n : ℕ) → length vs ≡ suc n → count v (take n vs) + hit (get_or vs n 0) v ≡ count v vs
unfolding count
count_take v [] n h = absurd (omega arith)
count_take v (u ∷ []) zero h = omega arith
count_take v (u ∷ w ∷ us) zero h = absurd (omega arith)
count_take v (u ∷ us) (suc n) h = omega (arith, count_take v us n (omega arith))

-- the last stays the last where it takes another place, its own too
get_d_set_last : (vs : List ℕ) (i n : ℕ) → get_or (set vs i (get_or vs n 0)) n 0 ≡ get_or vs n 0
get_d_set_last vs i n = elim (set_cases vs i (get_or vs n 0) 0 n) [ inl p ↦ p.1 | inr e ↦ e ]

-- the element at i goes
pub swap_count : (v : ℕ) (vs : List ℕ) (i : ℕ) → i < length vs → hit (get_or vs i 0) v + count v (swap_remove vs i) ≡ count v vs
unfolding swap_remove
swap_count v vs i h =
    let n = length vs - 1 in
    let last = get_or vs n 0 in
    omega (
      arith,
      count_set v vs i last h,
      count_take v (set vs i last) n (length-set vs i last ∙ omega arith),
      ap (λ (x : ℕ). hit x v) (get_d_set_last vs i n),
    )

-- those in front of it stay
pub swap_before : (vs : List ℕ) (i j : ℕ) → i < j → j < length vs → get_or (swap_remove vs j) i 0 ≡ get_or vs i 0
unfolding swap_remove
swap_before vs i j h k = get_or-take (length vs - 1) _ i 0 (omega arith) ∙ get_or-set_other vs j i _ 0 (omega arith)

-- ---- the nearest two

-- two places in order, below n
abbrev pub Places : {A : Type 0} → ℕ → Closest A → Type 0
Places n nothing = ⊥
Places n (between i j d) = (i < j) × (j < n)

module _ {A : Type 0} (less : A → A → Bool) where
  closer_places : (n : ℕ) (best : Closest A) (i j : ℕ) (d : A) → i < j → j < n → Places n best → Places n (closer less best i j d)
  unfolding closer
  closer_places n nothing i j d h k p = absurd p
  closer_places n (between i' j' d') i j d h k p = either (Places n) (between i j d) (between i' j' d') (h, k) p (less d d')

  module _ (cost : ℕ → ℕ → A) where
    to_places : (n u i : ℕ) (vs : List ℕ) (j : ℕ) (best : Closest A) → i < j → j + length vs ≤ n → Places n best → Places n (closest_to less cost u i vs j best)
    unfolding closest_to
    to_places n u i [] j best h k b = b
    to_places n u i (v ∷ vs) j best h k b = to_places n u i vs (suc j) _ (omega arith) (omega arith) (closer_places n best i j (cost u v) h (omega arith) b)

    from_places : (n : ℕ) (us : List ℕ) (i : ℕ) (best : Closest A) → i + length us ≤ n → Places n best → Places n (closest less cost us i best)
    unfolding closest
    from_places n [] i best k b = b
    from_places n (u ∷ us) i best k b = from_places n us (suc i) _ (omega arith) (to_places n u i us (suc i) best (omega arith) (omega arith) b)

    -- of two nodes or more some two are the closest
    pub closest_places : (vs : List ℕ) → 2 ≤ length vs → Places (length vs) (closest less cost vs 0 nothing)
    unfolding closest closest_to closer
    closest_places [] h = absurd (omega arith)
    closest_places (u ∷ []) h = absurd (omega arith)
    closest_places (u ∷ v ∷ vs) h =
        from_places _ (v ∷ vs) 1 _ (omega arith) (to_places _ u 0 vs 2 (between 0 1 (cost u v)) (omega arith) (omega arith) (omega arith, omega arith))

-- two nodes are left
two_left : (vs : List ℕ) → length vs ≡ 2 → AllButTwo vs []
unfolding count ends
two_left [] h = absurd (omega arith)
two_left (x ∷ []) h = absurd (omega arith)
two_left (x ∷ y ∷ []) h = record { x = x; y = y; counts = λ v. omega arith }
two_left (x ∷ y ∷ z ∷ vs) h = absurd (omega arith)

-- the nodes at i and j are paired, and ps are the pairs of the others
one_more : (vs : List ℕ) (i j : ℕ) (ps : List Pair) → i < j → j < length vs
    → AllButTwo (swap_remove (swap_remove vs j) i) ps → AllButTwo vs (pair (get_or vs i 0) (get_or vs j 0) ∷ ps)
unfolding count ends
one_more vs i j ps h k r = record {
  x = r.x;
  y = r.y;
  counts = λ v. omega (
    arith,
    r.counts v,
    swap_count v vs j k,
    swap_count v (swap_remove vs j) i (rw swap_length (omega arith)),
    ap (λ (u : ℕ). hit u v) (swap_before vs i j h k),
  );
}

-- The nearest two, again and again, use all nodes but two, for k at least the number of nodes.
module _ {A : Type 0} (less : A → A → Bool) (cost : ℕ → ℕ → A) where
  pub nearest_pairs_lem : (k : ℕ) (vs : List ℕ) → length vs ≤ k → 2 ≤ length vs → length vs % 2 ≡ 0 → AllButTwo vs (nearest_pairs less k cost vs)
  unfolding nearest_pairs
  nearest_pairs_lem zero vs h l e = absurd (omega arith)
  nearest_pairs_lem (suc k) vs h l e = go (ltb 2 (length vs)) refl (closest less cost vs 0 nothing) (closest_places less cost vs l) (nearest_pairs_lem k)
    where
      go : (t : Bool) → ltb 2 (length vs) ≡ t → (c : Closest A) → Places (length vs) c
          → ((ws : List ℕ) → length ws ≤ k → 2 ≤ length ws → length ws % 2 ≡ 0 → AllButTwo ws (nearest_pairs less k cost ws))
          → AllButTwo vs (elim t [
            | false ↦ []
            | true ↦ elim c [
              | nothing ↦ []
              | between i j d ↦ pair (get_or vs i 0) (get_or vs j 0) ∷ nearest_pairs less k cost (swap_remove (swap_remove vs j) i)
            ]
          ])
      go false b c p r = two_left vs (omega (arith, ltb-false 2 (length vs) b))
      go true b nothing p r = absurd p
      go true b (between i j d) p r =
          let m : 2 < length vs = ltb-true 2 (length vs) b in
          let n : length (swap_remove (swap_remove vs j) i) ≡ length vs - 2 = omega (arith, swap_length (swap_remove vs j) i, swap_length vs j) in
          one_more vs i j _ p.0 p.1 (r _ (omega arith) (omega arith) (omega arith))

-- Greedy does
pub greedy_pairs_lem : (k : ℕ) (ns : List Point) (vs : List ℕ) → length vs ≤ k → 2 ≤ length vs → length vs % 2 ≡ 0 → AllButTwo vs (greedy_pairs k ns vs)
unfolding greedy_pairs
greedy_pairs_lem k ns vs h l e = nearest_pairs_lem ltb (apart ns) k vs h l e

-- and so does the better of Greedy and the nearest by graph distance
pub busy_pairs_lem : (ns : List Point) (d : ℕ → ℕ → Float) (vs : List ℕ) → 2 ≤ length vs → length vs % 2 ≡ 0 → AllButTwo vs (busy_pairs ns d vs)
unfolding busy_pairs less_costly graph_pairs
busy_pairs_lem ns d vs l e =
    either (AllButTwo vs) _ _ (greedy_pairs_lem (length vs) ns vs (omega arith) l e) (nearest_pairs_lem lt d (length vs) vs (omega arith) l e)
    (le (cost_of d (greedy_pairs (length vs) ns vs)) (cost_of d (graph_pairs d vs)))
