-- Laws of specs/All.
use mathlib.Core.Path.{◌≡◌, sym, ap, subst, ◌∙◌}
use mathlib.Core.List.{List, ◌∷◌, ◌++◌}
use Prim.Native.Nat.{ℕ, zero, suc, ◌+◌, ◌-◌, ◌*◌, ◌≤◌, ◌<◌}
use native.Mathlib.Omega.{arith}
use lib.ListN.{get_or}
use Rattle.limits.specs.Limits.{most_points}
use Rattle.drawing_spec.specs.Drawing.{Point}
use Rattle.graph_splits.specs.Points.{Points, point_in}
use Rattle.graph_moves.specs.Moves.{Move, start, on}
use Rattle.graph_strokes.specs.Step.{NodeReady, StepReady, Traced, begun, stepped}
use Rattle.graph_chain.specs.Along.{traced_by, traced_along, Traceable}
use Rattle.graph_chain.proofs.Along.{traceable_next, step_ready, begin_ready}
use Rattle.graph_line.specs.Lines.{Filing, line_in, anywhere, Ready}
use Rattle.graph_line.proofs.Lines.{Anew, anew_any, anew_append, line_anew, ready_front, ready_back, anew_back}
use Rattle.graph_lines.specs.All.{StartsInside, lines_in, links_in}

pub start_low : (starts : List ℕ) → StartsInside starts → (i k : ℕ) → k ≡ get_or starts i 0 → k ≤ most_points
start_low starts h i k e = omega (arith, h.low i)

module _ (f : Filing) (ps : Points) (starts : List ℕ) where
  pub lines_anew : (n i : ℕ) → Anew (lines_in f ps starts n i)
  unfolding lines_in
  lines_anew zero i = tt
  lines_anew (suc n) i = anew_append (line_in f ps (get_or starts i 0) (get_or starts (i + 1) 0)) (lines_in f ps starts n (i + 1)) (line_anew f ps (get_or starts i 0) (get_or starts (i + 1) 0)) (lines_anew n (i + 1))

-- before line i of n, with the flat lists s; all that is to come leads to the answer r
pub record OnLines (f : Filing) (ps : Points) (starts : List ℕ) (n i : ℕ) (s r : Traced) : Type 0 where
  pub ready : Ready (lines_in f ps starts (n - i) i) s
  pub answer : traced_along anywhere (lines_in f ps starts (n - i) i) s ≡ r

module _ (f : Filing) (ps : Points) (starts : List ℕ) (n : ℕ) where
  pub lines_begin : (s : Traced) → Ready (lines_in f ps starts n 0) s → OnLines f ps starts n 0 s (traced_along anywhere (lines_in f ps starts n 0) s)
  lines_begin s r =
      let none : n ≡ n - 0 = omega arith in
      record { ready = subst (λ (m : ℕ). Ready (lines_in f ps starts m 0) s) none r; answer = sym (ap (λ (m : ℕ). traced_along anywhere (lines_in f ps starts m 0) s) none) }

  module _ (i : ℕ) (s r : Traced) (o : OnLines f ps starts n i s r) where
    module _ (h : i < n) (a b : ℕ) (ea : a ≡ get_or starts i 0) (eb : b ≡ get_or starts (i + 1) 0) where
      one : lines_in f ps starts (n - i) i ≡ line_in f ps a b ++ lines_in f ps starts (n - (i + 1)) (i + 1)
      unfolding lines_in
      one =
          let more : n - i ≡ suc (n - (i + 1)) = omega arith in
          ap (λ (m : ℕ). lines_in f ps starts m i) more
          ∙ ap (λ (k : ℕ). line_in f ps k (get_or starts (i + 1) 0) ++ lines_in f ps starts (n - (i + 1)) (i + 1)) (sym ea)
          ∙ ap (λ (k : ℕ). line_in f ps a k ++ lines_in f ps starts (n - (i + 1)) (i + 1)) (sym eb)

      pub line_ready : Ready (line_in f ps a b) s
      line_ready = ready_front (line_in f ps a b) (lines_in f ps starts (n - (i + 1)) (i + 1)) s (subst (λ (ms : List Move). Ready ms s) one o.ready)

      pub line_drawn : (s' : Traced) → s' ≡ traced_along anywhere (line_in f ps a b) s → OnLines f ps starts n (i + 1) s' r
      line_drawn s' e =
          let own = line_in f ps a b in
          let rest = lines_in f ps starts (n - (i + 1)) (i + 1) in
          record {
            ready = ready_back own rest s s' (subst (λ (ms : List Move). Ready ms s) one o.ready) (line_anew f ps a b) e;
            answer = sym (anew_back own rest s s' (lines_anew f ps starts (n - (i + 1)) (i + 1)) e) ∙ sym (ap (λ (ms : List Move). traced_along anywhere ms s) one) ∙ o.answer;
          }

    pub lines_end : n ≤ i → s ≡ r
    unfolding traced_along lines_in
    lines_end h =
        let none : n - i ≡ 0 = omega arith in
        sym (ap (λ (m : ℕ). traced_along anywhere (lines_in f ps starts m i) s) none) ∙ o.answer

pub links_anew : (f : Points) (n k : ℕ) → Anew (links_in f n k)
unfolding links_in
links_anew f zero k = tt
links_anew f (suc n) k = tt

pub record OnLinks (f : Points) (n k : ℕ) (s r : Traced) : Type 0 where
  pub ready : Ready (links_in f (n - k) k) s
  pub answer : traced_along anywhere (links_in f (n - k) k) s ≡ r

module _ (f : Points) (n : ℕ) where
  pub links_begin : (s : Traced) → Ready (links_in f n 0) s → OnLinks f n 0 s (traced_along anywhere (links_in f n 0) s)
  links_begin s r =
      let none : n ≡ n - 0 = omega arith in
      record { ready = subst (λ (m : ℕ). Ready (links_in f m 0) s) none r; answer = sym (ap (λ (m : ℕ). traced_along anywhere (links_in f m 0) s) none) }

  module _ (k : ℕ) (s r : Traced) (o : OnLinks f n k s r) where
    -- link k, from its end at p to that at q
    module _ (h : k < n) (p q : Point) (start_is : p ≡ point_in f (2 * k)) (end_is : q ≡ point_in f (2 * k + 1)) where
      to_come : List Move
      to_come = links_in f (n - (k + 1)) (k + 1)

      link_one : links_in f (n - k) k ≡ start p ∷ on q ∷ to_come
      unfolding links_in to_come
      link_one =
          let more : n - k ≡ suc (n - (k + 1)) = omega arith in
          ap (λ (m : ℕ). links_in f m k) more ∙ ap (λ (z : Point). start z ∷ on (point_in f (2 * k + 1)) ∷ links_in f (n - (k + 1)) (k + 1)) (sym start_is)
          ∙ ap (λ (z : Point). start p ∷ on z ∷ links_in f (n - (k + 1)) (k + 1)) (sym end_is)

      from_first : Traceable o.ready.place (start p ∷ on q ∷ to_come) s
      from_first = subst (λ (ms : List Move). Traceable o.ready.place ms s) link_one o.ready.traceable

      pub first_ready : NodeReady p s.node_count s.table
      first_ready = begin_ready o.ready.place p (on q ∷ to_come) s from_first

      module _ (s₁ : Traced) (e₁ : s₁ ≡ begun p s) where
        first_done : Traceable p (on q ∷ to_come) s₁
        unfolding traced_by
        first_done = subst (Traceable p (on q ∷ to_come)) (sym e₁) (traceable_next o.ready.place (start p) (on q ∷ to_come) s from_first)

        pub second_ready : StepReady p q s₁
        second_ready = step_ready p q to_come s₁ first_done

        pub link_drawn : (s₂ : Traced) → s₂ ≡ stepped p q s₁ → OnLinks f n (k + 1) s₂ r
        unfolding traced_along traced_by to_come
        link_drawn s₂ e₂ = record {
          ready = record { place = q; traceable = subst (Traceable q to_come) (sym e₂) (traceable_next p (on q) to_come s₁ first_done) };
          answer = anew_any anywhere q to_come s₂ (links_anew f (n - (k + 1)) (k + 1)) ∙ ap (traced_along q to_come) (e₂ ∙ ap (stepped p q) e₁)
              ∙ sym (ap (λ (ks : List Move). traced_along anywhere ks s) link_one) ∙ o.answer;
        }

    pub links_end : n ≤ k → s ≡ r
    unfolding traced_along links_in
    links_end h =
        let none : n - k ≡ 0 = omega arith in
        sym (ap (λ (m : ℕ). traced_along anywhere (links_in f m k) s) none) ∙ o.answer
