-- Laws of specs/Marks.
use mathlib.Core.Path.{◌≡◌, refl, sym, ap, subst, ◌∙◌}
use mathlib.Core.Logic.{◌⊎◌, inl, inr}
use mathlib.Core.List.{List, [], ◌∷◌}
use mathlib.Core.Bool.{Bool, true, false, false≢true, cond}
use Prim.Native.Nat.{ℕ, zero, suc, ◌≤◌, ◌<◌}
use native.Mathlib.Nat.{le_of_suc-le-suc, lt_of_not-le}
use native.Mathlib.Decide.{ℕ_discrete}
use native.Mathlib.Omega.{arith}
use lib.ListN.{length, get_or, set, length-set, get_or-eq_default}
use lib.Seq.{get_or-set_same, get_or-set_other}
use Rattle.limits.specs.Limits.{most_nodes}
use Rattle.lists.specs.Members.{In, All}
use Rattle.lists.proofs.Elements.{set_cases, set_keeps}
use Rattle.graph_reach.specs.Marks.{Marked, Marks, Tidy, free, mark_all, marking, with}

abbrev pub Nodes : List ℕ → Type 0
Nodes ws = All (λ (w : ℕ). w < most_nodes) ws

module _ (v : ℕ) (s : Marks) where
  pub marking_old : Marked s v → marking v s ≡ s
  unfolding marking
  marking_old h = ap (λ (t : Bool). cond t s (with v s)) h

  pub marking_new : get_or s.marked v false ≡ false → marking v s ≡ with v s
  unfolding marking
  marking_new h = ap (λ (t : Bool). cond t s (with v s)) h

  marking_case : (P : Marks → Type 0) → (Marked s v → P s) → (get_or s.marked v false ≡ false → P (with v s)) → P (marking v s)
  unfolding marking
  marking_case P old new = go (get_or s.marked v false) refl
    where
      go : (t : Bool) → get_or s.marked v false ≡ t → P (cond t s (with v s))
      go true e = old e
      go false e = new e

free_set : (ms : List Bool) (v : ℕ) → v < length ms → get_or ms v false ≡ false → free ms ≡ suc (free (set ms v true))
unfolding free
free_set [] v h e = absurd (omega arith)
free_set (true ∷ ms) zero h e = absurd (false≢true (sym e))
free_set (false ∷ ms) zero h e = refl
free_set (true ∷ ms) (suc v) h e = free_set ms v (le_of_suc-le-suc h) e
free_set (false ∷ ms) (suc v) h e = ap suc (free_set ms v (le_of_suc-le-suc h) e)

-- a marked node is a node
pub marked_below : (s : Marks) → Tidy s → (v : ℕ) → Marked s v → v < most_nodes
marked_below s t v m = lt_of_not-le (λ l. false≢true (sym (get_or-eq_default s.marked false (past l)) ∙ m))
  where
    past : most_nodes ≤ v → length s.marked ≤ v
    past l = omega (arith, t.marked_long)

pub room_for : (s : Marks) → Tidy s → (v : ℕ) → v < most_nodes → get_or s.marked v false ≡ false → s.tail < most_nodes
room_for s t v h e = omega (arith, t.room, free_set s.marked v (omega (arith, t.marked_long)) e)

module _ (s : Marks) (t : Tidy s) (v : ℕ) (h : v < most_nodes) where
  new_marked : Marked (with v s) v
  new_marked = get_or-set_same s.marked v true false (omega (arith, t.marked_long))

  tidy_new : get_or s.marked v false ≡ false → Tidy (with v s)
  tidy_new e =
      let some = room_for s t v h e in
      record {
        marked_long = length-set s.marked v true ∙ t.marked_long;
        queue_long = length-set s.queue s.tail v ∙ t.queue_long;
        room = omega (arith, t.room, free_set s.marked v (omega (arith, t.marked_long)) e);
        queued = λ j l. elim (ℕ_discrete j s.tail) [
          | yes is ↦
              let at : get_or (set s.queue s.tail v) j 0 ≡ v = ap (λ (i : ℕ). get_or (set s.queue s.tail v) i 0) is ∙ get_or-set_same s.queue s.tail v 0 (omega (arith, t.queue_long)) in
              subst (λ (w : ℕ). Marked (with v s) w) (sym at) new_marked
          | no other ↦
              let at : get_or (set s.queue s.tail v) j 0 ≡ get_or s.queue j 0 = get_or-set_other s.queue s.tail j v 0 other in
              subst (λ (w : ℕ). Marked (with v s) w) (sym at) (set_keeps s.marked v true false (get_or s.queue j 0) (t.queued j (omega arith)))
        ];
      }

  pub tidy_marking : Tidy (marking v s)
  tidy_marking = marking_case v s Tidy (λ m. t) tidy_new

  marking_marks : Marked (marking v s) v
  marking_marks = marking_case v s (λ (r : Marks). Marked r v) (λ m. m) (λ e. new_marked)

marking_only : (v : ℕ) (s : Marks) (w : ℕ) → Marked (marking v s) w → Marked s w ⊎ (w ≡ v)
marking_only v s w = marking_case v s (λ (r : Marks). Marked r w → Marked s w ⊎ (w ≡ v)) (λ m k. inl k) (λ e k. elim (set_cases s.marked v true false w) [ inl p ↦ inr p.0 | inr q ↦ inl (sym q ∙ k) ])

-- ---- what marking does to the queue

-- w waits in the queue, from the place i on
pub record Waits (s : Marks) (i w : ℕ) : Type 0 where
  pub place : ℕ
  pub from : i ≤ place
  pub before : place < s.tail
  pub is : get_or s.queue place 0 ≡ w

-- from r to s: what is marked stays, the queue goes on, and what is new waits in it
pub record Grown (r s : Marks) : Type 0 where
  pub keeps : (w : ℕ) → Marked r w → Marked s w
  pub longer : r.tail ≤ s.tail
  pub same : (j : ℕ) → j < r.tail → get_or s.queue j 0 ≡ get_or r.queue j 0
  pub fresh : (w : ℕ) → Marked s w → Marked r w ⊎ Waits s r.tail w

grown_none : (s : Marks) → Grown s s
grown_none s = record { keeps = λ w m. m; longer = omega arith; same = λ j h. refl; fresh = λ w m. inl m }

pub waits_on : (r s : Marks) → Grown r s → (i w : ℕ) → Waits r i w → Waits s i w
waits_on r s g i w k = record { place = k.place; from = k.from; before = omega (arith, k.before, g.longer); is = g.same k.place k.before ∙ k.is }

grown_on : (r s t : Marks) → Grown r s → Grown s t → Grown r t
grown_on r s t g h = record {
  keeps = λ w m. h.keeps w (g.keeps w m);
  longer = omega (arith, g.longer, h.longer);
  same = λ j l. h.same j (omega (arith, g.longer)) ∙ g.same j l;
  fresh = λ w m. elim (h.fresh w m) [
    | inl k ↦ elim (g.fresh w k) [ inl o ↦ inl o | inr z ↦ inr (waits_on s t h r.tail w z) ]
    | inr z ↦ inr (record { place = z.place; from = omega (arith, z.from, g.longer); before = z.before; is = z.is })
  ];
}

marking_grown : (s : Marks) → Tidy s → (v : ℕ) → v < most_nodes → Grown s (marking v s)
marking_grown s t v h = marking_case v s (Grown s) (λ m. grown_none s) new
  where
    new : get_or s.marked v false ≡ false → Grown s (with v s)
    new e =
        let some = room_for s t v h e in
        record {
          keeps = λ w m. set_keeps s.marked v true false w m;
          longer = omega arith;
          same = λ j l. get_or-set_other s.queue s.tail j v 0 (λ z. omega arith);
          fresh = λ w m. elim (set_cases s.marked v true false w) [
            | inl p ↦ inr (record { place = s.tail; from = omega arith; before = omega arith; is = get_or-set_same s.queue s.tail v 0 (omega (arith, t.queue_long)) ∙ sym p.0 })
            | inr q ↦ inl (sym q ∙ m)
          ];
        }

pub tidy_all : (ws : List ℕ) (s : Marks) → Nodes ws → Tidy s → Tidy (mark_all ws s)
unfolding mark_all
tidy_all [] s a t = t
tidy_all (w ∷ ws) s a t = tidy_all ws (marking w s) a.1 (tidy_marking s t w a.0)

pub grown_all : (ws : List ℕ) (s : Marks) → Nodes ws → Tidy s → Grown s (mark_all ws s)
unfolding mark_all
grown_all [] s a t = grown_none s
grown_all (w ∷ ws) s a t = grown_on s (marking w s) (mark_all ws (marking w s)) (marking_grown s t w a.0) (grown_all ws (marking w s) a.1 (tidy_marking s t w a.0))

-- each of them is marked then
pub all_marks : (ws : List ℕ) (s : Marks) → Nodes ws → Tidy s → (w : ℕ) → In w ws → Marked (mark_all ws s) w
unfolding mark_all
all_marks [] s a t w x3 = elim x3 [ ]
all_marks (x ∷ ws) s a t w (inl e) =
    let u = tidy_marking s t x a.0 in
    (grown_all ws (marking x s) a.1 u).keeps w (subst (λ (z : ℕ). Marked (marking x s) z) (sym e) (marking_marks s t x a.0))
all_marks (x ∷ ws) s a t w (inr i) = all_marks ws (marking x s) a.1 (tidy_marking s t x a.0) w i

-- and nothing else is new
pub all_only : (ws : List ℕ) (s : Marks) (w : ℕ) → Marked (mark_all ws s) w → Marked s w ⊎ In w ws
unfolding mark_all
all_only [] s w m = inl m
all_only (x ∷ ws) s w m = elim (all_only ws (marking x s) w m) [
  | inl k ↦ elim (marking_only x s w k) [ inl o ↦ inl o | inr e ↦ inr (inl e) ]
  | inr i ↦ inr (inr i)
]
