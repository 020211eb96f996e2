-- The marks spread from node 0 along the edges until none waits: then the marked nodes are those that can be reached. Assumes nothing.
use mathlib.Core.Path.{◌≡◌, refl, sym, ap, subst, ◌∙◌}
use mathlib.Core.Logic.{◌⊎◌, inl, inr}
use mathlib.Core.List.{List}
use mathlib.Core.Bool.{Bool, true, false, false≢true}
use Prim.Native.Nat.{ℕ, ◌+◌, ◌≤◌, ◌<◌}
use native.Mathlib.Decide.{ℕ_discrete}
use native.Mathlib.Omega.{arith}
use lib.ListN.{get_or, set, replicate, length-set, length-replicate}
use Rattle.limits.specs.Limits.{most_nodes}
use Rattle.lists.specs.Members.{In}
use Rattle.lists.proofs.Elements.{set_cases, get_d_same}
use Rattle.graph_spec.specs.Graph.{Edge}
use Rattle.graph_spec.specs.Ways.{Inside, Joined, Reach, here, on}
use Rattle.graph_spec.specs.Reach.{all_reached}
use Rattle.graph_spec.proofs.Reached.{reached_all, all_reached_lem}
use Rattle.graph_adjacency.specs.Lists.{Adjacency}
use Rattle.graph_arrays.specs.Arrays.{edges_in, EdgesLinked}
use Rattle.graph_reach.specs.Marks.{Marks, marks, Marked, mark_all, free, Tidy, targets_of}
use Rattle.graph_reach.proofs.MarksLaws.{Nodes, marked_below, Waits, waits_on, Grown, tidy_all, grown_all, all_marks, all_only}
use Rattle.graph_reach.proofs.Targets.{joined_target, target_joined, targets_nodes}
use Rattle.graph_reach.specs.Tells.{Tells}

-- every neighbour of v is marked
abbrev pub Done : List Edge → Marks → ℕ → Type 0
Done es s v = (w : ℕ) → Joined es v w → Marked s w

-- the nodes in the queue before `head` are done
pub record Spread (es : List Edge) (s : Marks) (head : ℕ) : Type 0 where
  pub start : Marked s 0
  pub sound : (v : ℕ) → Marked s v → Reach es 0 v
  pub done : (v : ℕ) → Marked s v → Waits s head v ⊎ Done es s v

-- ---- node 0 alone is marked

abbrev pub begun : Marks
begun = marks (set (replicate most_nodes false) 0 true) (replicate most_nodes 0) 1

begun_only : (v : ℕ) → Marked begun v → v ≡ 0
begun_only v m = elim (set_cases (replicate most_nodes false) 0 true false v) [ inl p ↦ p.0 | inr e ↦ absurd (false≢true (sym (get_d_same most_nodes v false) ∙ sym e ∙ m)) ]

pub begun_tidy : Tidy begun
unfolding free
begun_tidy = record {
  marked_long = length-set (replicate most_nodes false) 0 true ∙ length-replicate {A = Bool} most_nodes false;
  queue_long = length-replicate {A = ℕ} most_nodes 0;
  room = omega arith;
  queued = λ j h. subst (λ (w : ℕ). Marked begun w) (sym (get_d_same most_nodes j 0)) refl;
}

pub begun_spread : (es : List Edge) → Spread es begun 0
begun_spread es = record {
  start = refl;
  sound = λ v m. subst (λ (w : ℕ). Reach es 0 w) (sym (begun_only v m)) here;
  done = λ v m. inl (record { place = 0; from = omega arith; before = omega arith; is = sym (begun_only v m) });
}

-- ---- one node more is done

module _ (es : List Edge) (s : Marks) (t : Tidy s) (head v : ℕ) (h : head < s.tail) (first : get_or s.queue head 0 ≡ v) (ws : List ℕ) (nodes : Nodes ws)
    (to : (w : ℕ) → Joined es v w → In w ws) (by : (w : ℕ) → In w ws → Joined es v w) where
  spread_next : Spread es s head → Spread es (mark_all ws s) (head + 1)
  spread_next p = record { start = g.keeps 0 p.start; sound = sound; done = done }
    where
      g : Grown s (mark_all ws s)
      g = grown_all ws s nodes t

      is_marked_lem : Marked s v
      is_marked_lem = subst (λ (w : ℕ). Marked s w) first (t.queued head h)

      sound : (w : ℕ) → Marked (mark_all ws s) w → Reach es 0 w
      sound w m = elim (all_only ws s w m) [ inl k ↦ p.sound w k | inr i ↦ on (p.sound v is_marked_lem) (by w i) ]

      old : (w : ℕ) → Waits s head w ⊎ Done es s w → Waits (mark_all ws s) (head + 1) w ⊎ Done es (mark_all ws s) w
      old w (inr d) = inr (λ u k. g.keeps u (d u k))
      old w (inl z) = elim (ℕ_discrete z.place head) [
        | yes e ↦
            let is : v ≡ w = sym first ∙ ap (λ (i : ℕ). get_or s.queue i 0) (sym e) ∙ z.is in
            inr (λ u k. all_marks ws s nodes t u (to u (subst (λ (x : ℕ). Joined es x u) (sym is) k)))
        | no e ↦ inl (waits_on s (mark_all ws s) g (head + 1) w (record { place = z.place; from = omega (arith, z.from, e); before = z.before; is = z.is }))
      ]

      done : (w : ℕ) → Marked (mark_all ws s) w → Waits (mark_all ws s) (head + 1) w ⊎ Done es (mark_all ws s) w
      done w m = elim (g.fresh w m) [
        | inl k ↦ old w (p.done w k)
        | inr z ↦ inl (record { place = z.place; from = omega (arith, z.from, h); before = z.before; is = z.is })
      ]

-- ---- the loop over the queue

-- the marks have spread from the nodes before `head`
pub record Walking (es : List Edge) (s : Marks) (head : ℕ) : Type 0 where
  pub tidy : Tidy s
  pub on : head ≤ s.tail
  pub spread : Spread es s head

pub walking_start : (es : List Edge) → Walking es begun 0
walking_start es = record { tidy = begun_tidy; on = omega arith; spread = begun_spread es }

module _ (es : List Edge) (s : Marks) (head v : ℕ) (h : head < s.tail) (first : v ≡ get_or s.queue head 0) (p : Walking es s head) where
  pub walking_node : v < most_nodes
  walking_node = marked_below s p.tidy v (subst (λ (w : ℕ). Marked s w) (sym first) (p.tidy.queued head h))

pub walking_next : (n m : ℕ) (a : Adjacency) (s : Marks) (head v : ℕ) → head < s.tail → v ≡ get_or s.queue head 0 → Walking (edges_in m a) s head
    → EdgesLinked n m a → (s' : Marks) → s' ≡ mark_all (targets_of (edges_in m a) v) s → Walking (edges_in m a) s' (head + 1)
walking_next n m a s head v h first p L s' is =
    let es = edges_in m a in
    let ws = targets_of es v in
    let nodes = targets_nodes n m a L v in
    record {
      tidy = rw is (tidy_all ws s nodes p.tidy);
      on = rw is (omega (arith, (grown_all ws s nodes p.tidy).longer, h));
      spread = rw is (spread_next es s p.tidy head v h (sym first) ws nodes (joined_target es v) (target_joined es v) p.spread);
    }

-- ---- at the end

reached_marked : (es : List Edge) (s : Marks) (head : ℕ) → Spread es s head → s.tail ≤ head → (v : ℕ) → Reach es 0 v → Marked s v
reached_marked es s head p h v here = p.start
reached_marked es s head p h v (on {u = u} r j) = elim (p.done u (reached_marked es s head p h u r)) [
  | inl z ↦ absurd (omega (arith, z.from, z.before))
  | inr d ↦ d v j
]

-- check 9
pub walked : (n : ℕ) (es : List Edge) (s : Marks) (head : ℕ) (r : Bool) → Inside n es → s.tail ≤ head → Walking es s head → Tells n s.marked r → r ≡ all_reached n es
walked n es s head r inside h p t = go r (all_reached n es) refl refl
  where
    go : (a b : Bool) → r ≡ a → all_reached n es ≡ b → a ≡ b
    go true true ea eb = refl
    go false false ea eb = refl
    go true false ea eb = sym (sym eb ∙ reached_all n es inside (λ v l. p.spread.sound v (t.all ea v l)))
    go false true ea eb = sym ea ∙ t.only (λ v l. reached_marked es s head p.spread h v (all_reached_lem n es eb v l))
