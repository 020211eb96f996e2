-- On the way along a chain: a split point comes next, or the end. Assumes nothing.
use mathlib.Core.Path.{◌≡◌, sym, ap, subst, ◌∙◌}
use mathlib.Core.List.{List, [], ◌∷◌, ◌++◌}
use Prim.Native.Nat.{ℕ, ◌+◌, ◌-◌, ◌≤◌, ◌<◌}
use native.Mathlib.Omega.{arith}
use lib.ListN.{get_or}
use Rattle.drawing_spec.specs.Drawing.{Point}
use Rattle.graph_splits.specs.Next.{at, next_split}
use Rattle.graph_moves.specs.Moves.{on, draw_all}
use Rattle.graph_strokes.specs.Step.{StepReady, Traced, stepped}
use Rattle.graph_chain.specs.Along.{traced_by, traced_along, Traceable}
use Rattle.graph_chain.proofs.Along.{step_ready, traceable_next}
use Rattle.graph_chain.specs.Kept.{kept_from, chain_in}
use Rattle.graph_chain.proofs.Kept.{kept_none, kept_one}

module _ (xs ys : List ℕ) (n : ℕ) (a b : Point) where
  -- the points to come, from place i on, where p stayed before
  abbrev pub to_come : Point → ℕ → List Point
  to_come p i = kept_from xs ys a b p (n - i) i ++ (b ∷ [])

-- at p, with the flat lists s; all that is to come from place i on leads to the answer r
pub record Walking (xs ys : List ℕ) (n : ℕ) (a b p : Point) (i : ℕ) (s r : Traced) : Type 0 where
  pub inside : i ≤ n
  pub traceable : Traceable p (draw_all (to_come xs ys n a b p i)) s
  pub answer : traced_along p (draw_all (to_come xs ys n a b p i)) s ≡ r

module _ (xs ys : List ℕ) (n : ℕ) (a b : Point) where
  pub walk_starts : (s : Traced) → Traceable a (draw_all (chain_in xs ys n a b)) s → Walking xs ys n a b a 0 s (traced_along a (draw_all (chain_in xs ys n a b)) s)
  walk_starts s t =
      let none : n ≡ n - 0 = omega arith in
      record {
        inside = omega arith;
        traceable = subst (λ (m : ℕ). Traceable a (draw_all (kept_from xs ys a b a m 0 ++ (b ∷ []))) s) none t;
        answer = sym (ap (λ (m : ℕ). traced_along a (draw_all (kept_from xs ys a b a m 0 ++ (b ∷ []))) s) none);
      }

  module _ (p : Point) (i : ℕ) (s r : Traced) (w : Walking xs ys n a b p i s r) where
    -- the split point j, which comes next
    module _ (j : ℕ) (q : Point) (next : j ≡ next_split (n - i) xs ys a b p i) (h : j < n) (is : q ≡ at (get_or xs j 0) (get_or ys j 0)) where
      one : to_come xs ys n a b p i ≡ q ∷ to_come xs ys n a b q (j + 1)
      one =
          let all : i + (n - i) ≡ n = omega (arith, w.inside) in
          let low : j < i + (n - i) = omega arith in
          ap (λ (ps : List Point). ps ++ (b ∷ []))
          (kept_one xs ys a b p (n - i) i j next low
          ∙ ap (λ (m : ℕ). at (get_or xs j 0) (get_or ys j 0) ∷ kept_from xs ys a b (at (get_or xs j 0) (get_or ys j 0)) (m - (j + 1)) (j + 1)) all
          ∙ ap (λ (z : Point). z ∷ kept_from xs ys a b z (n - (j + 1)) (j + 1)) (sym is))

      pub split_ready : StepReady p q s
      split_ready = step_ready p _ _ s (subst (λ (ps : List Point). Traceable p (draw_all ps) s) one w.traceable)

      pub split_drawn : (s' : Traced) → s' ≡ stepped p q s → Walking xs ys n a b q (j + 1) s' r
      unfolding traced_along traced_by
      split_drawn s' e =
          let rest = draw_all (to_come xs ys n a b q (j + 1)) in
          let t = traceable_next p (on q) rest s (subst (λ (ps : List Point). Traceable p (draw_all ps) s) one w.traceable) in
          record {
            inside = omega arith;
            traceable = subst (Traceable q rest) (sym e) t;
            answer = ap (traced_along q rest) e ∙ sym (ap (λ (ps : List Point). traced_along p (draw_all ps) s) one) ∙ w.answer;
          }

    -- the end of the segment, where no split point comes next
    module _ (next : next_split (n - i) xs ys a b p i ≡ n) where
      last : to_come xs ys n a b p i ≡ b ∷ []
      last = ap (λ (ps : List Point). ps ++ (b ∷ [])) (kept_none xs ys a b p (n - i) i (omega (arith, w.inside)))

      pub end_ready : StepReady p b s
      end_ready = step_ready p b [] s (subst (λ (ps : List Point). Traceable p (draw_all ps) s) last w.traceable)

      pub end_drawn : (s' : Traced) → s' ≡ stepped p b s → s' ≡ r
      unfolding traced_along traced_by
      end_drawn s' e = e ∙ sym (ap (λ (ps : List Point). traced_along p (draw_all ps) s) last) ∙ w.answer
