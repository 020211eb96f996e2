-- Optimal's pairs, too, use all nodes of an even list but two, each as often as it stands there.
use Prim.Native.Nat.{ℕ, zero, suc, ◌%◌, ◌≤◌, ◌<◌}
use native.Mathlib.Omega.{arith}
use mathlib.Core.Path.{◌≡◌, refl, sym, ap, subst}
use mathlib.Core.List.{List, [], ◌∷◌, ◌++◌, map}
use lib.ListN.{length}
use lib.Ieee.{Float}
use Rattle.lists.specs.Members.{In}
use Rattle.lists.proofs.Members.{in_all, all_map}
use Rattle.graph_spec.proofs.Occurs.{count}
use Rattle.repair_spec.specs.Pairing.{Pair, pair, ends, Matching, none, choice_of, without, match_all, optimal_pairs}
use Rattle.repair_spec.proofs.Pairs.{AllButTwo}
use Rattle.repair_spec.proofs.Without.{in_count, without_count, without_length}
use Rattle.repair_spec.proofs.Tried.{tried_some, with_partner, match_tried, left_out, left_outs, two_tried, lefts_all}

-- ---- all nodes of an even list

-- the pairs use all of vs
abbrev pub Whole : List ℕ → List Pair → Type 0
Whole vs ps = (v : ℕ) → count v (ends ps) ≡ count v vs

-- the first node with v, the others by ps
with_first : (u v : ℕ) (vs : List ℕ) (ps : List Pair) → 0 < count v vs → Whole (without v vs) ps → Whole (u ∷ vs) (pair u v ∷ ps)
unfolding count ends
with_first u v vs ps h w x = omega (arith, w x, without_count v vs x h)

-- match_all leaves none out, for k at least the number of nodes
pub match_all_lem : (k : ℕ) (d : ℕ → ℕ → Float) (vs : List ℕ) → length vs ≤ k → length vs % 2 ≡ 0 → Whole vs (match_all k d vs).pairs
unfolding match_all ends count
match_all_lem zero d [] h e = λ v. refl
match_all_lem zero d (u ∷ vs) h e = absurd (omega arith)
match_all_lem (suc k) d [] h e = λ v. refl
match_all_lem (suc k) d (u ∷ []) h e = absurd (omega arith)
match_all_lem (suc k) d (u ∷ w ∷ ws) h e =
    let vs = w ∷ ws in
    let each : (v : ℕ) → In v vs → Whole (u ∷ vs) (with_partner k d u vs v).pairs
    = λ v i. let c = in_count v vs i in with_first u v vs (match_all k d (without v vs)).pairs c (match_all_lem k d (without v vs) (omega (arith, without_length v vs c)) (omega (arith, without_length v vs c))) in
    subst (λ (m : Matching). Whole (u ∷ vs) m.pairs) (sym (match_tried k d u vs))
    (tried_some (λ (m : Matching). Whole (u ∷ vs) m.pairs) (with_partner k d u vs w) (map (with_partner k d u vs) ws)
    (all_map (with_partner k d u vs) (λ (m : Matching). Whole (u ∷ vs) m.pairs) vs (in_all (λ (v : ℕ). Whole (u ∷ vs) (with_partner k d u vs v).pairs) vs each)))

-- ---- all nodes but two

pub optimal_pairs_lem : (d : ℕ → ℕ → Float) (vs : List ℕ) → 2 ≤ length vs → length vs % 2 ≡ 0 → AllButTwo vs (optimal_pairs d vs)
unfolding optimal_pairs left_outs
optimal_pairs_lem d [] l e = absurd (omega arith)
optimal_pairs_lem d (u ∷ []) l e = absurd (omega arith)
optimal_pairs_lem d (u ∷ w ∷ ws) l e =
    subst (λ (m : Matching). AllButTwo vs m.pairs) (ap choice_of (sym (two_tried n d vs vs none)))
    (tried_some (λ (m : Matching). AllButTwo vs m.pairs) (left_out n d vs u w) (map (left_out n d vs u) ws ++ left_outs n d vs (w ∷ ws)) (lefts_all n d (λ (m : Matching). AllButTwo vs m.pairs) vs vs left (λ v. omega arith)))
  where
    vs : List ℕ
    vs = u ∷ w ∷ ws

    n : ℕ
    n = length vs

    left : (x y : ℕ) → 0 < count x vs → 0 < count y (without x vs) → AllButTwo vs (left_out n d vs x y).pairs
    left x y h k =
        let a = without_length x vs h in
        let b = without_length y (without x vs) k in
        let m = match_all_lem n d (without y (without x vs)) (omega arith) (omega arith) in
        record { x = x; y = y; counts = λ v. omega (arith, m v, without_count y (without x vs) v k, without_count x vs v h) }
