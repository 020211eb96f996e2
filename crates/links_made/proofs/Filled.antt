-- Laws of specs/Filled.
use mathlib.Core.Path.{◌≡◌, refl, ap, ◌∙◌, subst}
use mathlib.Core.Logic.{inl, inr}
use mathlib.Core.List.{List}
use mathlib.Core.Bool.{Bool, true, false}
use Prim.Native.Nat.{ℕ, ◌+◌, ◌-◌, ◌≤◌, ◌<◌}
use native.Mathlib.Nat.{not-suc-le-zero}
use native.Mathlib.Omega.{arith}
use lib.ListN.{get_or, set, replicate, length-set, length-replicate}
use lib.Seq.{get_or-set_same, get_or-set_other}
use lib.Dec.{ltb}
use borrow.Author.Tests.{ltb-true, ltb-false}
use Rattle.limits.specs.Limits.{most_lines}
use Rattle.lists.proofs.Elements.{set_cases, get_d_same}
use Rattle.links_tree.specs.declared.Ends.{Ends}
use Rattle.links_tree.specs.Packed.{EndsOn, ends_in, no_ends}
use Rattle.links_tree.proofs.Cases.{below}
use Rattle.links_made.specs.Filled.{PlacesOn, place_in, mark_at, ends_at, Marked, Ended}

-- ---- all lines

module _ (starts : List ℕ) where
  pub marked_turn : (has next : List ℕ) (i : ℕ) → i < most_lines → Marked starts has i → next ≡ mark_at starts has i → Marked starts next (i + 1)
  unfolding mark_at
  marked_turn has next i l M e = go (ltb (get_or starts i 0) (get_or starts (i + 1) 0)) refl
    where
      go : (t : Bool) → ltb (get_or starts i 0) (get_or starts (i + 1) 0) ≡ t → Marked starts next (i + 1)
      go true f =
          let s : next ≡ set has i 1 = e ∙ rw (f, mark_at) in
          let b = ltb-true (get_or starts i 0) (get_or starts (i + 1) 0) f in
          rw s (record {
            long = omega (arith, M.long, length-set has i 1);
            some = λ w h p. elim (below i w h) [ inl q ↦ rw q (get_or-set_same has i 1 0 (omega (arith, M.long))) | inr q ↦ get_or-set_other has i w 1 0 (λ d. omega arith) ∙ M.some w q p ];
            none = λ w h p. elim (below i w h) [ inl q ↦ absurd (omega (arith, subst (λ (k : ℕ). get_or starts (k + 1) 0 ≤ get_or starts k 0) q p)) | inr q ↦ get_or-set_other has i w 1 0 (λ d. omega arith) ∙ M.none w q p ];
            rest = λ w h. get_or-set_other has i w 1 0 (λ d. omega arith) ∙ M.rest w (omega arith);
          })
      go false f =
          let s : next ≡ has = e ∙ rw (f, mark_at) in
          let b = ltb-false (get_or starts i 0) (get_or starts (i + 1) 0) f in
          rw s (record {
            long = M.long;
            some = λ w h p. elim (below i w h) [ inl q ↦ absurd (omega (arith, subst (λ (k : ℕ). get_or starts k 0 < get_or starts (k + 1) 0) q p)) | inr q ↦ M.some w q p ];
            none = λ w h p. elim (below i w h) [ inl q ↦ rw q (M.rest i (omega arith)) | inr q ↦ M.none w q p ];
            rest = λ w h. M.rest w (omega arith);
          })

  module _ (xs ys : List ℕ) (X : PlacesOn xs) (Y : PlacesOn ys) where
    on_set : (es : List Ends) (i j k : ℕ) → EndsOn es → EndsOn (set es i (record { start = place_in xs ys j; end = place_in xs ys k }))
    on_set es i j k O = record {
      on = λ l. elim (set_cases es i (record { start = place_in xs ys j; end = place_in xs ys k }) no_ends l) [
        | inl p ↦ rw p.1 (record { start_x = X.on j; start_y = Y.on j; end_x = X.on k; end_y = Y.on k })
        | inr e ↦ rw e (O.on l)
      ];
    }

    pub ended_turn : (es next : List Ends) (i : ℕ) → i < most_lines → Ended starts xs ys es i → next ≡ ends_at starts xs ys es i → Ended starts xs ys next (i + 1)
    unfolding ends_at
    ended_turn es next i l E e = go (ltb (get_or starts i 0) (get_or starts (i + 1) 0)) refl
      where
        j : ℕ
        j = get_or starts i 0

        k : ℕ
        k = get_or starts (i + 1) 0 - 1

        its : Ends
        its = record { start = place_in xs ys j; end = place_in xs ys k }

        there : (w : ℕ) → w < i → ends_in (set es i its) w ≡ ends_in es w
        there w q = get_or-set_other es i w its no_ends (λ d. omega arith)

        go : (t : Bool) → ltb (get_or starts i 0) (get_or starts (i + 1) 0) ≡ t → Ended starts xs ys next (i + 1)
        go true f =
            let s : next ≡ set es i its = e ∙ rw (f, ends_at) in
            let here : ends_in (set es i its) i ≡ its = get_or-set_same es i its no_ends (omega (arith, E.long)) in
            rw s (record {
              long = omega (arith, E.long, length-set es i its);
              on = on_set es i j k E.on;
              first = λ w h p. elim (below i w h) [ inl q ↦ rw q (ap (λ (x : Ends). x.start) here) | inr q ↦ ap (λ (x : Ends). x.start) (there w q) ∙ E.first w q p ];
              last = λ w h p. elim (below i w h) [ inl q ↦ rw q (ap (λ (x : Ends). x.end) here) | inr q ↦ ap (λ (x : Ends). x.end) (there w q) ∙ E.last w q p ];
            })
        go false f =
            let s : next ≡ es = e ∙ rw (f, ends_at) in
            let b = ltb-false (get_or starts i 0) (get_or starts (i + 1) 0) f in
            rw s (record {
              long = E.long;
              on = E.on;
              first = λ w h p. elim (below i w h) [ inl q ↦ absurd (omega (arith, subst (λ (k : ℕ). get_or starts k 0 < get_or starts (k + 1) 0) q p)) | inr q ↦ E.first w q p ];
              last = λ w h p. elim (below i w h) [ inl q ↦ absurd (omega (arith, subst (λ (k : ℕ). get_or starts k 0 < get_or starts (k + 1) 0) q p)) | inr q ↦ E.last w q p ];
            })

  -- before the first line no line is marked, and all ends are zeros
  pub marked_start : Marked starts (replicate most_lines 0) 0
  marked_start = record {
    long = omega (arith, length-replicate {A = ℕ} most_lines 0);
    some = λ l b. absurd (not-suc-le-zero b);
    none = λ l b. absurd (not-suc-le-zero b);
    rest = λ l b. get_d_same most_lines l 0;
  }

  pub ended_start : (xs ys : List ℕ) → Ended starts xs ys (replicate most_lines no_ends) 0
  ended_start xs ys = record {
    long = omega (arith, length-replicate {A = Ends} most_lines no_ends);
    on = record { on = λ i. rw (get_d_same most_lines i no_ends) (record { start_x = omega arith; start_y = omega arith; end_x = omega arith; end_y = omega arith }) };
    first = λ l b. absurd (not-suc-le-zero b);
    last = λ l b. absurd (not-suc-le-zero b);
  }

pub at_end : (P : ℕ → Type 0) (n i : ℕ) → n ≤ i → i ≤ n → P i → P n
at_end P n i a b p = let e : i ≡ n = omega arith in subst P e p
