-- The pairing that Optimal chooses costs no more than any that it tries: each is kept until a later one costs less.
use mathlib.Core.Path.{◌≡◌, refl, sym, ap, ◌∙◌, subst}
use mathlib.Core.Logic.{◌⊎◌, inl, inr}
use mathlib.Core.Bool.{Bool, true, false}
use mathlib.Core.List.{List, [], ◌∷◌, ◌++◌, map}
use Prim.Native.Nat.{ℕ, suc, ◌≤◌, ◌<◌}
use native.Mathlib.Nat.{le_trans, le_of_lt}
use native.Mathlib.Omega.{arith}
use lib.Ieee.{Float, binary64, add, lt}
use Rattle.sums.specs.Key.{Nonneg, key}
use Rattle.sums.proofs.KeyLaws.{lt_true, lt_false}
use Rattle.lists.specs.Members.{In, All}
use Rattle.lists.proofs.Members.{in_all, all_append, all_map}
use Rattle.graph_spec.proofs.Occurs.{count}
use Rattle.repair_spec.specs.Pairing.{pair, Matching, matching, Choice, none, chosen, cheaper, choice_of, without, partner, match_all, leave_with, leave_two}
use Rattle.repair_spec.proofs.Without.{in_count, Among, stands, later, after_first}

-- ---- the cheapest of several pairings, in hand already the choice c

unfoldable pub tried : List Matching → Choice → Choice
tried [] c = c
tried (m ∷ ms) c = tried ms (cheaper c m)

tried_append : (ms ns : List Matching) (c : Choice) → tried (ms ++ ns) c ≡ tried ns (tried ms c)
unfolding tried
tried_append [] ns c = refl
tried_append (m ∷ ms) ns c = tried_append ms ns (cheaper c m)

-- a pairing takes the place of the one in hand where it costs less, and else that one stays
abbrev CheaperCases : Matching → Matching → Type 0
CheaperCases b m = ((lt m.cost b.cost ≡ true) × (cheaper (chosen b) m ≡ chosen m)) ⊎ ((lt m.cost b.cost ≡ false) × (cheaper (chosen b) m ≡ chosen b))

cheaper_cases : (b m : Matching) → CheaperCases b m
unfolding cheaper
cheaper_cases b m = go (lt m.cost b.cost) refl
  where
    go : (t : Bool) → lt m.cost b.cost ≡ t → CheaperCases b m
    go true e = inl (e, rw (e, cheaper))
    go false e = inr (e, rw (e, cheaper))

-- what holds of each holds of the one chosen
module _ (P : Matching → Type 0) where
  abbrev Of : Choice → Type 0
  Of c = P (choice_of c)

  cheaper_is : (c : Choice) (m : Matching) → Of c → P m → Of (cheaper c m)
  unfolding cheaper
  cheaper_is none m h p = p
  cheaper_is (chosen b) m h p = elim (cheaper_cases b m) [ inl q ↦ subst Of (sym q.1) p | inr q ↦ subst Of (sym q.1) h ]

  pub tried_is : (ms : List Matching) (c : Choice) → Of c → All P ms → Of (tried ms c)
  unfolding tried
  tried_is [] c h a = h
  tried_is (m ∷ ms) c h a = tried_is ms (cheaper c m) (cheaper_is c m h a.0) a.1

  -- where at least one is tried
  pub tried_some : (m : Matching) (ms : List Matching) → All P (m ∷ ms) → Of (tried (m ∷ ms) none)
  unfolding tried cheaper
  tried_some m ms a = tried_is ms (chosen m) a.0 a.1

abbrev pub CostNonneg : Matching → Type 0
CostNonneg m = Nonneg binary64 m.cost

-- something is chosen, and it costs no more than `most` units
abbrev AtMost : ℕ → Choice → Type 0
AtMost most none = ⊥
AtMost most (chosen m) = key binary64 m.cost ≤ most

at_most : (most : ℕ) (c : Choice) → AtMost most c → key binary64 (choice_of c).cost ≤ most
at_most most none h = absurd h
at_most most (chosen m) h = h

-- a further one leaves it so
cheaper_keeps : (most : ℕ) (c : Choice) (m : Matching) → CostNonneg (choice_of c) → CostNonneg m → AtMost most c → AtMost most (cheaper c m)
unfolding cheaper
cheaper_keeps most none m p q h = absurd h
cheaper_keeps most (chosen b) m p q h = elim (cheaper_cases b m) [
  | inl r ↦ subst (AtMost most) (sym r.1) (le_trans (le_of_lt (lt_true m.cost b.cost q p r.0)) h)
  | inr r ↦ subst (AtMost most) (sym r.1) h
]

-- and one that costs no more makes it so
cheaper_takes : (most : ℕ) (c : Choice) (m : Matching) → CostNonneg (choice_of c) → CostNonneg m → key binary64 m.cost ≤ most → AtMost most (cheaper c m)
unfolding cheaper
cheaper_takes most none m p q h = h
cheaper_takes most (chosen b) m p q h = elim (cheaper_cases b m) [
  | inl r ↦ subst (AtMost most) (sym r.1) h
  | inr r ↦ subst (AtMost most) (sym r.1) (le_trans (lt_false m.cost b.cost q p r.0) h)
]

tried_keeps : (most : ℕ) (ms : List Matching) (c : Choice) → CostNonneg (choice_of c) → All CostNonneg ms → AtMost most c → AtMost most (tried ms c)
unfolding tried
tried_keeps most [] c p a h = h
tried_keeps most (m ∷ ms) c p a h = tried_keeps most ms (cheaper c m) (cheaper_is CostNonneg c m p a.0) a.1 (cheaper_keeps most c m p a.0 h)

tried_takes : (most : ℕ) (ms : List Matching) (c : Choice) → CostNonneg (choice_of c) → All CostNonneg ms → (m : Matching) → In m ms → key binary64 m.cost ≤ most → AtMost most (tried ms c)
unfolding tried
tried_takes most (n ∷ ms) c p a m (inl e) h =
    tried_keeps most ms (cheaper c n) (cheaper_is CostNonneg c n p a.0) a.1 (cheaper_takes most c n p a.0 (subst (λ (x : Matching). key binary64 x.cost ≤ most) e h))
tried_takes most (n ∷ ms) c p a m (inr i) h = tried_takes most ms (cheaper c n) (cheaper_is CostNonneg c n p a.0) a.1 m i h
tried_takes most [] c p a m x4 h = elim x4 [ ]

-- where one that is tried costs at most `most` units, so does the one chosen; no cost is a NaN
pub tried_least : (ms : List Matching) (c : Choice) → CostNonneg (choice_of c) → All CostNonneg ms → (m : Matching) → In m ms → (most : ℕ) → key binary64 m.cost ≤ most
    → key binary64 (choice_of (tried ms c)).cost ≤ most
tried_least ms c p a m i most h = at_most most (tried ms c) (tried_takes most ms c p a m i h)

-- ---- what Optimal tries

module _ (k : ℕ) (d : ℕ → ℕ → Float) where
  -- u with v, and the others of vs in the best way
  abbrev pub with_partner : ℕ → List ℕ → ℕ → Matching
  with_partner u vs v = let m = match_all k d (without v vs) in matching (add binary64 m.cost (d u v)) (pair u v ∷ m.pairs)

  partner_tried : (u : ℕ) (vs cs : List ℕ) (c : Choice) → partner (λ (l : List ℕ). match_all k d l) (d u) u vs cs c ≡ tried (map (with_partner u vs) cs) c
  unfolding partner tried
  partner_tried u vs [] c = refl
  partner_tried u vs (v ∷ cs) c = partner_tried u vs cs _

  pub match_tried : (u : ℕ) (vs : List ℕ) → match_all (suc k) d (u ∷ vs) ≡ choice_of (tried (map (with_partner u vs) vs) none)
  unfolding match_all
  match_tried u vs = ap choice_of (partner_tried u vs vs none)

  -- all of the nodes without u and v
  abbrev pub left_out : List ℕ → ℕ → ℕ → Matching
  left_out all u v = match_all k d (without v (without u all))

  -- each node of `rest` left out together with each later one
  unfoldable pub left_outs : List ℕ → List ℕ → List Matching
  left_outs all [] = []
  left_outs all (u ∷ later) = map (left_out all u) later ++ left_outs all later

  with_tried : (all : List ℕ) (u : ℕ) (later : List ℕ) (c : Choice) → leave_with k d (without u all) later c ≡ tried (map (left_out all u) later) c
  unfolding leave_with tried
  with_tried all u [] c = refl
  with_tried all u (v ∷ later) c = with_tried all u later _

  pub two_tried : (all rest : List ℕ) (c : Choice) → leave_two k d all rest c ≡ tried (left_outs all rest) c
  unfolding leave_two left_outs tried
  two_tried all [] c = refl
  two_tried all (u ∷ later) c =
      two_tried all later (leave_with k d (without u all) later c) ∙ ap (tried (left_outs all later)) (with_tried all u later c) ∙ sym (tried_append (map (left_out all u) later) (left_outs all later) c)

  -- what holds without any two nodes holds of each that is tried
  pub lefts_all : (P : Matching → Type 0) (all rest : List ℕ) → ((u v : ℕ) → 0 < count u all → 0 < count v (without u all) → P (left_out all u v)) → Among rest all → All P (left_outs all rest)
  unfolding left_outs
  lefts_all P all [] h sub = tt
  lefts_all P all (u ∷ later_ones) h sub =
      let out = after_first u later_ones all sub in
      all_append P (map (left_out all u) later_ones) (left_outs all later_ones)
      (all_map (left_out all u) P later_ones (in_all (λ (v : ℕ). P (left_out all u v)) later_ones (λ v i. h u v (stands u later_ones all sub) (omega (arith, out v, in_count v later_ones i)))))
      (lefts_all P all later_ones h (later u later_ones all sub))
