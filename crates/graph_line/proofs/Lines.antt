-- Laws of specs/Lines.
use mathlib.Core.Path.{◌≡◌, refl, sym, ap, subst, ◌∙◌}
use mathlib.Core.Bool.{Bool, true, false}
use mathlib.Core.List.{List, [], ◌∷◌, ◌++◌}
use Prim.Native.Nat.{ℕ, suc, ◌+◌, ◌-◌, ◌≤◌, ◌<◌}
use native.Mathlib.Omega.{arith}
use native.Mathlib.Numerals.{add-one}
use lib.ListN.{get_or}
use lib.Dec.{ltb}
use borrow.Author.Tests.{lt-ltb, le-ltb}
use Rattle.drawing_spec.specs.Drawing.{Point}
use Rattle.graph_spec.specs.Chain.{inner, changes}
use Rattle.file_drawing.specs.Back.{points_back}
use Rattle.graph_moves.specs.Moves.{Move, start, on, draw_all, line_moves}
use Rattle.graph_moves.proofs.Moves.{end_of}
use Rattle.graph_moves.proofs.Built.{end_draw}
use Rattle.graph_splits.specs.Points.{Points, point_in}
use Rattle.graph_strokes.specs.Step.{NodeReady, Traced, begun}
use Rattle.graph_chain.specs.Along.{traced_by, traced_along, Traceable}
use Rattle.graph_chain.proofs.Along.{traced_append, traceable_next, traceable_front, traceable_back, begin_ready}
use Rattle.graph_line.specs.Follow.{chain_from, sorted_from}
use Rattle.graph_line.specs.Lines.{Filing, Ready, chains_of, line_in, anywhere, segments_from}

line_some : (f : Filing) (ps : Points) (first stop : ℕ) → first < stop → line_in f ps first stop ≡ start (point_in ps first) ∷ segments_from f ps stop first
unfolding line_in
line_some f ps first stop h = ap (λ (t : Bool). elim t [ true ↦ start (point_in ps first) ∷ segments_from f ps stop first | false ↦ [] ]) (lt-ltb first stop h)

line_none : (f : Filing) (ps : Points) (first stop : ℕ) → stop ≤ first → line_in f ps first stop ≡ []
unfolding line_in
line_none f ps first stop h = ap (λ (t : Bool). elim t [ true ↦ start (point_in ps first) ∷ segments_from f ps stop first | false ↦ [] ]) (le-ltb first stop h)

abbrev pub Anew : List Move → Type 0
Anew [] = Unit {0}
Anew (start q ∷ ms) = Unit {0}
Anew (on q ∷ ms) = ⊥

pub anew_any : (p q : Point) (ms : List Move) (s : Traced) → Anew ms → traced_along p ms s ≡ traced_along q ms s
unfolding traced_along traced_by
anew_any p q [] s h = refl
anew_any p q (start r ∷ ms) s h = refl
anew_any p q (on r ∷ ms) s h = absurd h

pub anew_append : (ms ks : List Move) → Anew ms → Anew ks → Anew (ms ++ ks)
anew_append [] ks h k = k
anew_append (start q ∷ ms) ks h k = tt
anew_append (on q ∷ ms) ks h k = h

pub line_anew : (f : Filing) (ps : Points) (first stop : ℕ) → Anew (line_in f ps first stop)
unfolding line_in
line_anew f ps first stop = go (ltb first stop)
  where
    go : (t : Bool) → Anew (elim t [ true ↦ start (point_in ps first) ∷ segments_from f ps stop first | false ↦ [] ])
    go true = tt
    go false = tt

pub ready_first : (f : Filing) (ps : Points) (first stop : ℕ) (s : Traced) (p : Point) → first < stop → p ≡ point_in ps first → Ready (line_in f ps first stop) s → NodeReady p s.node_count s.table
ready_first f ps first stop s p h e r = subst (λ (q : Point). NodeReady q s.node_count s.table) (sym e) (begin_ready r.place (point_in ps first) (segments_from f ps stop first) s (subst (λ (ms : List Move). Traceable r.place ms s) (line_some f ps first stop h) r.traceable))

pub ready_front : (ms ks : List Move) (s : Traced) → Ready (ms ++ ks) s → Ready ms s
ready_front ms ks s r = record { place = r.place; traceable = traceable_front r.place ms ks s r.traceable }

pub ready_back : (ms ks : List Move) (s s' : Traced) → Ready (ms ++ ks) s → Anew ms → s' ≡ traced_along anywhere ms s → Ready ks s'
ready_back ms ks s s' r h e = record {
  place = end_of r.place ms;
  traceable = subst (Traceable (end_of r.place ms) ks) (anew_any r.place anywhere ms s h ∙ sym e) (traceable_back r.place ms ks s r.traceable);
}

pub anew_back : (ms ks : List Move) (s s' : Traced) → Anew ks → s' ≡ traced_along anywhere ms s → traced_along anywhere (ms ++ ks) s ≡ traced_along anywhere ks s'
anew_back ms ks s s' h e = traced_append anywhere ms ks s ∙ anew_any (end_of anywhere ms) anywhere ks (traced_along anywhere ms s) h ∙ ap (traced_along anywhere ks) (sym e)

-- ---- along one line

-- at the point g of a line, with the flat lists s; what is to come of the line leads to the answer r
pub record OnLine (f : Filing) (ps : Points) (stop g : ℕ) (s r : Traced) : Type 0 where
  pub inside : g < stop
  pub traceable : Traceable (point_in ps g) (segments_from f ps stop g) s
  pub answer : traced_along (point_in ps g) (segments_from f ps stop g) s ≡ r

module _ (f : Filing) (ps : Points) (stop : ℕ) where
  segments_one : (g : ℕ) → g + 1 < stop → segments_from f ps stop g ≡ draw_all (chains_of f g (point_in ps g) (point_in ps (g + 1))) ++ segments_from f ps stop (g + 1)
  unfolding line_moves points_back
  segments_one g h =
      let more : stop - (g + 1) ≡ suc (stop - (g + 1 + 1)) = omega arith in
      ap (λ (n : ℕ). line_moves (chains_of f) g (point_in ps g) (points_back n (g + 1) ps.xs ps.ys)) more
      ∙ ap (λ (n : ℕ). draw_all (chains_of f g (point_in ps g) (point_in ps (g + 1))) ++ line_moves (chains_of f) n (point_in ps (g + 1)) (points_back (stop - (g + 1 + 1)) (suc (g + 1)) ps.xs ps.ys)) (sym (add-one g))
      ∙ ap (λ (n : ℕ). draw_all (chains_of f g (point_in ps g) (point_in ps (g + 1))) ++ line_moves (chains_of f) (g + 1) (point_in ps (g + 1)) (points_back (stop - (g + 1 + 1)) n ps.xs ps.ys)) (sym (add-one (g + 1)))

  segments_none : (g : ℕ) → stop ≤ g + 1 → segments_from f ps stop g ≡ []
  unfolding line_moves points_back
  segments_none g h =
      let none : stop - (g + 1) ≡ 0 = omega arith in
      ap (λ (n : ℕ). line_moves (chains_of f) g (point_in ps g) (points_back n (g + 1) ps.xs ps.ys)) none

  chain_ends : (g : ℕ) (a b : Point) → end_of a (draw_all (chains_of f g a b)) ≡ b
  chain_ends g a b = end_draw a (changes a (inner a b (sorted_from f.ends f.next (get_or f.newest g 0) a))) b

  pub line_empty : (first : ℕ) (s : Traced) → stop ≤ first → s ≡ traced_along anywhere (line_in f ps first stop) s
  unfolding traced_along
  line_empty first s h = sym (ap (λ (ms : List Move). traced_along anywhere ms s) (line_none f ps first stop h))

  pub line_begins : (first : ℕ) (s s' : Traced) → first < stop → Ready (line_in f ps first stop) s → s' ≡ begun (point_in ps first) s
      → OnLine f ps stop first s' (traced_along (point_in ps first) (segments_from f ps stop first) s')
  unfolding traced_by
  line_begins first s s' h r e =
      let q = point_in ps first in
      let ms = segments_from f ps stop first in
      let t : Traceable r.place (start q ∷ ms) s = subst (λ (ks : List Move). Traceable r.place ks s) (line_some f ps first stop h) r.traceable in
      record {
        inside = h;
        traceable = subst (Traceable q ms) (sym e) (traceable_next r.place (start q) ms s t);
        answer = refl;
      }

  pub line_answer : (first : ℕ) (s s' r : Traced) → first < stop → s' ≡ begun (point_in ps first) s → r ≡ traced_along (point_in ps first) (segments_from f ps stop first) s'
      → r ≡ traced_along anywhere (line_in f ps first stop) s
  unfolding traced_along traced_by
  line_answer first s s' r h e k = k ∙ ap (traced_along (point_in ps first) (segments_from f ps stop first)) e ∙ sym (ap (λ (ks : List Move). traced_along anywhere ks s) (line_some f ps first stop h))

  module _ (g : ℕ) (s r : Traced) (o : OnLine f ps stop g s r) where
    -- the segment from here, from a to b, whose newest end is e
    module _ (h : g + 1 < stop) (e : ℕ) (is : e ≡ get_or f.newest g 0) (a b : Point) (start_is : a ≡ point_in ps g) (end_is : b ≡ point_in ps (g + 1)) where
      own_is : draw_all (chains_of f g (point_in ps g) (point_in ps (g + 1))) ≡ draw_all (chain_from f.ends f.next e a b)
      own_is =
          ap (λ (k : ℕ). draw_all (chain_from f.ends f.next k (point_in ps g) (point_in ps (g + 1)))) (sym is)
          ∙ ap (λ (p : Point). draw_all (chain_from f.ends f.next e p (point_in ps (g + 1)))) (sym start_is) ∙ ap (λ (p : Point). draw_all (chain_from f.ends f.next e a p)) (sym end_is)

      pub next_ready : Traceable a (draw_all (chain_from f.ends f.next e a b)) s
      next_ready =
          subst (λ (p : Point). Traceable p (draw_all (chain_from f.ends f.next e a b)) s) (sym start_is)
          (subst (λ (ms : List Move). Traceable (point_in ps g) ms s) own_is
          (traceable_front (point_in ps g) (draw_all (chains_of f g (point_in ps g) (point_in ps (g + 1)))) (segments_from f ps stop (g + 1)) s
          (subst (λ (ms : List Move). Traceable (point_in ps g) ms s) (segments_one g h) o.traceable)))

      pub next_drawn : (s' : Traced) → s' ≡ traced_along a (draw_all (chain_from f.ends f.next e a b)) s → OnLine f ps stop (g + 1) s' r
      next_drawn s' d =
          let p = point_in ps g in
          let q = point_in ps (g + 1) in
          let own = draw_all (chains_of f g p q) in
          let rest = segments_from f ps stop (g + 1) in
          let d' : s' ≡ traced_along p own s = d ∙ ap (λ (ms : List Move). traced_along a ms s) (sym own_is) ∙ ap (λ (z : Point). traced_along z own s) start_is in
          let t : Traceable (end_of p own) rest (traced_along p own s) = traceable_back p own rest s (subst (λ (ms : List Move). Traceable p ms s) (segments_one g h) o.traceable) in
          record {
            inside = h;
            traceable = subst (Traceable q rest) (sym d') (subst (λ (z : Point). Traceable z rest (traced_along p own s)) (chain_ends g p q) t);
            answer = ap (traced_along q rest) d' ∙ ap (λ (z : Point). traced_along z rest (traced_along p own s)) (sym (chain_ends g p q))
                ∙ sym (traced_append p own rest s) ∙ sym (ap (λ (ms : List Move). traced_along p ms s) (segments_one g h)) ∙ o.answer;
          }

    pub line_ends : stop ≤ g + 1 → s ≡ r
    unfolding traced_along
    line_ends h = sym (ap (λ (ms : List Move). traced_along (point_in ps g) ms s) (segments_none g h)) ∙ o.answer
