-- Laws of specs/Places.
use Prim.Native.Nat.{ℕ, zero, suc, ◌+◌, ◌≤◌, ◌<◌}
use native.Mathlib.Omega.{arith}
use mathlib.Core.Path.{◌≡◌, refl, sym, ap, ◌∙◌}
use mathlib.Core.List.{List, [], ◌∷◌, map}
use mathlib.Core.Bool.{Bool, true, false}
use lib.ListN.{length, take, drop, length-map}
use lib.Seq.{drop-cons}
use lib.Dec.{eqb}
use lib.Ieee.{Float, binary64, add, lt}
use borrow.Author.Tests.{eqb-true, eqb-false, eq-eqb, ne_eqb}
use Rattle.lists.specs.Members.{All}
use Rattle.repair_spec.specs.Pairing.{pair, Matching, matching, Choice, none, chosen, cheaper, choice_of, without, partner, match_all, leave_with, leave_two, optimal_pairs}
use Rattle.repair_masks.specs.Places.{node_at, pair_of, optimal_places, up_to}

-- ---- a list without one of its elements

pub without_yes : (v u : ℕ) (us : List ℕ) → u ≡ v → without v (u ∷ us) ≡ us
unfolding without
without_yes v u us e = rw (eq-eqb u v e, without)

pub without_no : (v u : ℕ) (us : List ℕ) → (u ≡ v → ⊥) → without v (u ∷ us) ≡ u ∷ without v us
unfolding without
without_no v u us e = rw (ne_eqb u v e, without)

pub without_length : (v : ℕ) (us : List ℕ) → length (without v us) ≤ length us
unfolding without
without_length v [] = omega arith
without_length v (u ∷ us) = go (eqb u v) refl (without_length v us)
  where
    go : (t : Bool) → eqb u v ≡ t → length (without v us) ≤ length us → length (without v (u ∷ us)) ≤ suc (length us)
    go true e h = omega (arith, ap length (without_yes v u us (eqb-true u v e)))
    go false e h = omega (arith, ap length (without_no v u us (eqb-false u v e)))

-- ---- more fuel changes nothing

pub partner_same : (others others' : List ℕ → Matching) (from : ℕ → Float) (u : ℕ) (vs cs : List ℕ) (best : Choice)
    → ((v : ℕ) → others (without v vs) ≡ others' (without v vs))
    → partner others from u vs cs best ≡ partner others' from u vs cs best
unfolding partner
partner_same others others' from u vs [] best h = refl
partner_same others others' from u vs (c ∷ cs) best h =
    ap (λ (m : Matching). partner others from u vs cs (cheaper best (matching (add binary64 m.cost (from c)) (pair u c ∷ m.pairs)))) (h c)
    ∙ partner_same others others' from u vs cs _ h

pub enough_fuel : (k l : ℕ) (d : ℕ → ℕ → Float) (vs : List ℕ) → length vs ≤ k → length vs ≤ l → match_all k d vs ≡ match_all l d vs
unfolding match_all
enough_fuel zero zero d vs h g = refl
enough_fuel zero (suc l) d [] h g = refl
enough_fuel zero (suc l) d (u ∷ vs) h g = absurd (omega arith)
enough_fuel (suc k) zero d [] h g = refl
enough_fuel (suc k) zero d (u ∷ vs) h g = absurd (omega arith)
enough_fuel (suc k) (suc l) d [] h g = refl
enough_fuel (suc k) (suc l) d (u ∷ vs) h g =
    ap choice_of (partner_same (λ (w : List ℕ). match_all k d w) (λ (w : List ℕ). match_all l d w) (d u) u vs vs none
    (λ v. enough_fuel k l d (without v vs) (omega (arith, without_length v vs)) (omega (arith, without_length v vs))))

-- ---- nodes by other numbers

-- a pairing with f of each number
abbrev pub renamed : (ℕ → ℕ) → Matching → Matching
renamed f m = matching m.cost (map (pair_of f) m.pairs)

abbrev renamed_choice : (ℕ → ℕ) → Choice → Choice
renamed_choice f none = none
renamed_choice f (chosen m) = chosen (renamed f m)

-- f tells numbers below n apart
abbrev pub Apart : (ℕ → ℕ) → ℕ → Type 0
Apart f n = (i j : ℕ) → i < n → j < n → f i ≡ f j → i ≡ j

abbrev pub Below : ℕ → List ℕ → Type 0
Below n vs = All (λ (v : ℕ). v < n) vs

below_without : (n v : ℕ) (vs : List ℕ) → Below n vs → Below n (without v vs)
unfolding without
below_without n v [] b = tt
below_without n v (u ∷ us) b = go (eqb u v) (below_without n v us b.1)
  where
    go : (t : Bool) → Below n (without v us) → Below n (elim t [ true ↦ us | false ↦ u ∷ without v us ])
    go true h = b.1
    go false h = (b.0, h)

module _ (f : ℕ → ℕ) (n : ℕ) (apart : Apart f n) where
  without_renamed : (v : ℕ) (vs : List ℕ) → v < n → Below n vs → without (f v) (map f vs) ≡ map f (without v vs)
  unfolding without
  without_renamed v [] h b = refl
  without_renamed v (u ∷ us) h b = go (eqb u v) refl (without_renamed v us h b.1)
    where
      go : (t : Bool) → eqb u v ≡ t → without (f v) (map f us) ≡ map f (without v us) → without (f v) (f u ∷ map f us) ≡ map f (without v (u ∷ us))
      go true e r =
          without_yes (f v) (f u) (map f us) (ap f (eqb-true u v e)) ∙ ap (map f) (sym (without_yes v u us (eqb-true u v e)))
      go false e r =
          without_no (f v) (f u) (map f us) (λ q. eqb-false u v e (apart u v b.0 h q))
          ∙ ap (λ (l : List ℕ). f u ∷ l) r
          ∙ ap (map f) (sym (without_no v u us (eqb-false u v e)))

  cheaper_renamed : (best : Choice) (m : Matching) → cheaper (renamed_choice f best) (renamed f m) ≡ renamed_choice f (cheaper best m)
  unfolding cheaper
  cheaper_renamed none m = refl
  cheaper_renamed (chosen b) m = go (lt m.cost b.cost)
    where
      go : (t : Bool) → elim t [ true ↦ chosen (renamed f m) | false ↦ chosen (renamed f b) ] ≡ renamed_choice f (elim t [ true ↦ chosen m | false ↦ chosen b ])
      go true = refl
      go false = refl

  choice_renamed : (c : Choice) → choice_of (renamed_choice f c) ≡ renamed f (choice_of c)
  choice_renamed none = refl
  choice_renamed (chosen m) = refl

  partner_renamed : (others others' : List ℕ → Matching) (from from' : ℕ → Float) (u : ℕ) (vs cs : List ℕ) (best : Choice)
      → ((v : ℕ) → v < n → from' (f v) ≡ from v)
      → Below n cs
      → Below n vs
      → ((v : ℕ) → v < n → others' (map f (without v vs)) ≡ renamed f (others (without v vs)))
      → partner others' from' (f u) (map f vs) (map f cs) (renamed_choice f best) ≡ renamed_choice f (partner others from u vs cs best)
  unfolding partner
  partner_renamed others others' from from' u vs [] best same bc b h = refl
  partner_renamed others others' from from' u vs (c ∷ cs) best same bc b h =
      ap (λ (m : Matching). partner others' from' (f u) (map f vs) (map f cs) (cheaper (renamed_choice f best) (matching (add binary64 m.cost (from' (f c))) (pair (f u) (f c) ∷ m.pairs))))
      (ap others' (without_renamed c vs bc.0 b) ∙ h c bc.0)
      ∙ ap (λ (x : Float). partner others' from' (f u) (map f vs) (map f cs) (cheaper (renamed_choice f best) (renamed f (matching (add binary64 (others (without c vs)).cost x) (pair u c ∷ (others (without c vs)).pairs)))))
      (same c bc.0)
      ∙ ap (partner others' from' (f u) (map f vs) (map f cs)) (cheaper_renamed best (matching (add binary64 (others (without c vs)).cost (from c)) (pair u c ∷ (others (without c vs)).pairs)))
      ∙ partner_renamed others others' from from' u vs cs _ same bc.1 b h

  -- e are the distances by the numbers below n
  module _ (d e : ℕ → ℕ → Float) (same : (i j : ℕ) → i < n → j < n → d (f i) (f j) ≡ e i j) where
    match_renamed : (k : ℕ) (vs : List ℕ) → Below n vs → match_all k d (map f vs) ≡ renamed f (match_all k e vs)
    unfolding match_all
    match_renamed zero vs b = refl
    match_renamed (suc k) [] b = refl
    match_renamed (suc k) (u ∷ vs) b =
        ap choice_of (partner_renamed (λ (l : List ℕ). match_all k e l) (λ (l : List ℕ). match_all k d l) (e u) (d (f u)) u vs vs none (λ v. same u v b.0) b.1 b.1
        (λ v h. match_renamed k (without v vs) (below_without n v vs b.1)))
        ∙ choice_renamed (partner (λ (l : List ℕ). match_all k e l) (e u) u vs vs none)

    with_renamed : (k : ℕ) (vs cs : List ℕ) (best : Choice) → Below n vs → Below n cs
        → leave_with k d (map f vs) (map f cs) (renamed_choice f best) ≡ renamed_choice f (leave_with k e vs cs best)
    unfolding leave_with
    with_renamed k vs [] best b bc = refl
    with_renamed k vs (c ∷ cs) best b bc =
        ap (λ (m : Matching). leave_with k d (map f vs) (map f cs) (cheaper (renamed_choice f best) m))
        (ap (match_all k d) (without_renamed c vs bc.0 b) ∙ match_renamed k (without c vs) (below_without n c vs b))
        ∙ ap (leave_with k d (map f vs) (map f cs)) (cheaper_renamed best (match_all k e (without c vs)))
        ∙ with_renamed k vs cs _ b bc.1

    two_renamed : (k : ℕ) (vs cs : List ℕ) (best : Choice) → Below n vs → Below n cs
        → leave_two k d (map f vs) (map f cs) (renamed_choice f best) ≡ renamed_choice f (leave_two k e vs cs best)
    unfolding leave_two
    two_renamed k vs [] best b bc = refl
    two_renamed k vs (c ∷ cs) best b bc =
        ap (λ (l : List ℕ). leave_two k d (map f vs) (map f cs) (leave_with k d l (map f cs) (renamed_choice f best))) (without_renamed c vs bc.0 b)
        ∙ ap (leave_two k d (map f vs) (map f cs)) (with_renamed k (without c vs) cs best (below_without n c vs b) bc.1)
        ∙ two_renamed k vs cs _ b bc.1

    pub optimal_renamed : (vs : List ℕ) → Below n vs → optimal_pairs d (map f vs) ≡ map (pair_of f) (optimal_pairs e vs)
    unfolding optimal_pairs
    optimal_renamed vs b =
        ap (λ (k : ℕ). (choice_of (leave_two k d (map f vs) (map f vs) none)).pairs) (length-map vs f)
        ∙ ap (λ (c : Choice). (choice_of c).pairs) (two_renamed (length vs) vs vs none b b)
        ∙ ap (λ (m : Matching). m.pairs) (choice_renamed (leave_two (length vs) e vs vs none))

pub up_to_length : (k i : ℕ) → length (up_to k i) ≡ k
unfolding up_to
up_to_length zero i = refl
up_to_length (suc k) i = ap suc (up_to_length k (suc i))

up_to_below : (n k i : ℕ) → i + k ≤ n → Below n (up_to k i)
unfolding up_to
up_to_below n zero i h = tt
up_to_below n (suc k) i h = (omega arith, up_to_below n k (suc i) (omega arith))

-- the first n of a list, by their places
pub first_places : (vs : List ℕ) (k i : ℕ) → i + k ≤ length vs → map (node_at vs) (up_to k i) ≡ take k (drop i vs)
unfolding up_to
first_places vs zero i h = refl
first_places vs (suc k) i h =
    ap (λ (l : List ℕ). node_at vs i ∷ l) (first_places vs k (suc i) (omega arith)) ∙ ap (take (suc k)) (sym (drop-cons vs i 0 (omega arith)))

-- of different nodes, the first n of a list, where e are the distances between the places
pub optimal_first : (n : ℕ) (d e : ℕ → ℕ → Float) (vs : List ℕ) → n ≤ length vs → Apart (node_at vs) n
    → ((i j : ℕ) → i < n → j < n → d (node_at vs i) (node_at vs j) ≡ e i j)
    → optimal_pairs d (take n vs) ≡ map (pair_of (node_at vs)) (optimal_places n e)
unfolding optimal_places
optimal_first n d e vs room apart same =
    ap (optimal_pairs d) (sym (first_places vs n 0 (omega arith)))
    ∙ optimal_renamed (node_at vs) n apart d e same (up_to n 0) (up_to_below n n 0 (omega arith))
