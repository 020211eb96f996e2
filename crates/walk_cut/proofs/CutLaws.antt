-- Laws of specs/Cut.
use mathlib.Core.Path.{◌≡◌, refl, sym, ap, ◌∙◌}
use mathlib.Core.List.{List, [], ◌∷◌, ◌++◌, map-append, reverse, reverse-cons, append-nil, append_assoc}
use mathlib.Core.Bool.{true, false}
use Prim.Native.Nat.{ℕ, zero, suc, ◌+◌, ◌-◌, ◌≤◌, ◌<◌}
use native.Mathlib.Nat.{zero-add, add-suc, suc-add}
use native.Mathlib.Decide.{ℕ_discrete}
use native.Mathlib.Numerals.{add-one}
use native.Mathlib.Omega.{arith}
use lib.ListN.{get_or, take, drop}
use borrow.Author.Tests.{eq-eqb, ne_eqb}
use Rattle.limits.specs.Limits.{line_room}
use Rattle.walk_spec.specs.Walk.{Entry, nodes_of}
use Rattle.walk_spec.specs.VirtualStep.{is_by, cut_at}
use Rattle.graph_arrays.specs.NodeList.{NodeList}
use Rattle.walk_circuit.specs.Entries.{EntriesIn, by_of, entry_of, entries_of, entries_from}
use Rattle.walk_cut.specs.Copy.{places_of, nodes_from, Copy}
use Rattle.walk_cut.proofs.CopyLaws.{below_append, places_below, taken_nodes, copy_nodes}
use Rattle.walk_cut.specs.Cut.{EnteredAt, cut_line}

-- ---- the test

by_other : (i b : ℕ) → (b ≡ i + 1 → ⊥) → is_by i (by_of b) ≡ false
unfolding is_by by_of
by_other i zero h = refl
by_other i (suc j) h = ne_eqb j i (λ e. h (omega (arith, e)))

by_same : (i b : ℕ) → b ≡ i + 1 → is_by i (by_of b) ≡ true
unfolding is_by by_of
by_same i zero h = absurd (omega (arith, h))
by_same i (suc j) h = eq-eqb j i (omega (arith, h))

-- ---- entries

module _ (ns bs : List ℕ) where
  pub entries_nodes : (n p : ℕ) → nodes_of (entries_of n p ns bs) ≡ places_of n p ns
  unfolding entries_of places_of
  entries_nodes zero p = refl
  entries_nodes (suc n) p = ap (λ (l : List ℕ). get_or ns p 0 ∷ l) (entries_nodes n (suc p))

  entries_split : (a n p : ℕ) → entries_of (a + n) p ns bs ≡ entries_of a p ns bs ++ entries_of n (a + p) ns bs
  unfolding entries_of
  entries_split zero n p = rw (zero-add, zero-add)
  entries_split (suc a) n p =
      rw (suc-add, entries_of) (ap (λ (l : List Entry). entry_of (get_or ns p 0) (get_or bs p 0) ∷ l) (entries_split a n (suc p) ∙ rw (add-suc, ← suc-add)))

  -- entries that were not entered by the edge i are passed over
  module _ (i : ℕ) where
    cut_passed : (a p : ℕ) (before ts : List Entry) → ((j : ℕ) → p ≤ j → j < p + a → get_or bs j 0 ≡ i + 1 → ⊥)
        → (out : List Entry → List Entry) → ((b : List Entry) → cut_at i b ts ≡ out (reverse b)) → cut_at i before (entries_of a p ns bs ++ ts) ≡ out (reverse before ++ entries_of a p ns bs)
    unfolding entries_of cut_at
    cut_passed zero p before ts h out e = e before ∙ ap out (sym (append-nil (reverse before)))
    cut_passed (suc a) p before ts h out e =
        let t = entry_of (get_or ns p 0) (get_or bs p 0) in
        rw (cut_at, by_other i (get_or bs p 0) (h p (omega arith) (omega arith)))
        (cut_passed a (suc p) (t ∷ before) ts (λ j l k. h j (omega arith) (omega arith)) out e ∙ ap out (rw (reverse-cons t before, append_assoc)))

    cut_hit : (t : Entry) (ts b : List Entry) → is_by i t.by ≡ true → cut_at i b (t ∷ ts) ≡ (t ∷ ts) ++ drop 1 (reverse b)
    unfolding cut_at
    cut_hit t ts b e = rw (cut_at, e)

    cut_end : (b : List Entry) → cut_at i b [] ≡ reverse b
    unfolding cut_at
    cut_end b = refl

    -- no entry was entered by the edge
    pub cut_none : (first r : ℕ) → line_room ≤ r → EnteredAt bs first (i + 1) r → cut_line i first ns bs ≡ places_of (line_room - first) first ns
    cut_none first r h f =
        ap nodes_of (ap (cut_at i []) (sym (append-nil (entries_from first ns bs)))
        ∙ cut_passed (line_room - first) first [] [] (λ j l k. f.before j l (omega (arith, k, h, f.from, f.within))) (λ (l : List Entry). l) cut_end)
        ∙ entries_nodes (line_room - first) first

    drop_first : (n p : ℕ) → drop 1 (entries_of n p ns bs) ≡ entries_of (n - 1) (p + 1) ns bs
    unfolding entries_of
    drop_first zero p = refl
    drop_first (suc n) p = let less : suc n - 1 ≡ n = omega arith in rw (less, add-one)

    -- the entry at r was
    pub cut_some : (first r : ℕ) → r < line_room → EnteredAt bs first (i + 1) r → cut_line i first ns bs ≡ places_of (line_room - r) r ns ++ places_of (r - (first + 1)) (first + 1) ns
    unfolding entries_of
    cut_some first r h f =
        let a = r - first in
        let n = line_room - r in
        let all : line_room - first ≡ a + n = omega (arith, f.from) in
        let at : a + first ≡ r = omega (arith, f.from) in
        let some : n ≡ suc (n - 1) = omega arith in
        let fewer : a - 1 ≡ r - (first + 1) = omega arith in
        let t = entry_of (get_or ns r 0) (get_or bs r 0) in
        let back : entries_of n r ns bs ≡ t ∷ entries_of (n - 1) (suc r) ns bs = ap (λ (x : ℕ). entries_of x r ns bs) some in
        let split : entries_from first ns bs ≡ entries_of a first ns bs ++ (t ∷ entries_of (n - 1) (suc r) ns bs) =
        ap (λ (x : ℕ). entries_of x first ns bs) all ∙ entries_split a n first ∙ ap (λ (x : ℕ). entries_of a first ns bs ++ entries_of n x ns bs) at
        ∙ ap (λ (l : List Entry). entries_of a first ns bs ++ l) back in
        let passed = cut_passed a first [] (t ∷ entries_of (n - 1) (suc r) ns bs) (λ j l k. f.before j l (omega (arith, k, f.from)))
        (λ (l : List Entry). (t ∷ entries_of (n - 1) (suc r) ns bs) ++ drop 1 l) (λ b. cut_hit t _ b (by_same i (get_or bs r 0) (f.is h))) in
        ap nodes_of (ap (cut_at i []) split ∙ passed ∙ ap (λ (l : List Entry). l ++ drop 1 (entries_of a first ns bs)) (sym back)
        ∙ ap (λ (l : List Entry). entries_of n r ns bs ++ l) (drop_first a first ∙ ap (λ (x : ℕ). entries_of x (first + 1) ns bs) fewer))
        ∙ map-append (λ (t : Entry). t.node) (entries_of n r ns bs) (entries_of (r - (first + 1)) (first + 1) ns bs)
        ∙ rw (entries_nodes n r, entries_nodes (r - (first + 1)) (first + 1))

-- ---- what the code copies

entries_some : (n first : ℕ) (ns : List ℕ) → EntriesIn n first ns → 0 < n
entries_some n first ns e = omega (arith, e.nodes_in_known first (omega arith) e.some)

pub whole_nodes : (first : ℕ) (ns line₀ line : List ℕ) (r : ℕ) → Copy ns first line_room line₀ 0 line r → (n : ℕ) → EntriesIn n first ns → NodeList n line_room line r
whole_nodes first ns line₀ line r c n e = copy_nodes ns first line_room n line r c (omega arith) (entries_some n first ns e) e.nodes_in_known

pub cut_whole : (i first : ℕ) (ns bs line : List ℕ) (r : ℕ) → EnteredAt bs first (i + 1) line_room → take r line ≡ nodes_from first ns → take r line ≡ cut_line i first ns bs
cut_whole i first ns bs line r f e = e ∙ sym (cut_none ns bs i first line_room (omega arith) f)

module _ (i first : ℕ) (ns bs line₀ : List ℕ) (p : ℕ) (f : EnteredAt bs first (i + 1) p) where
  module _ (line line' : List ℕ) (m r : ℕ) (h : p < line_room) (c : Copy ns p line_room line₀ 0 line m) (d : Copy ns (first + 1) p line m line' r) where
    both : take r line' ≡ places_of (line_room - p) p ns ++ places_of (p - (first + 1)) (first + 1) ns
    both = d.is ∙ ap (λ (l : List ℕ). l ++ places_of (p - (first + 1)) (first + 1) ns) c.is

    pub cut_parts : take r line' ≡ cut_line i first ns bs
    cut_parts = both ∙ sym (cut_some ns bs i first p h f)

    pub parts_nodes : (n : ℕ) → EntriesIn n first ns → NodeList n line_room line' r
    parts_nodes n e =
        let some = entries_some n first ns e in
        taken_nodes n r line' _ both (omega (arith, c.count, d.count, f.from)) d.long some
        (below_append n (places_of (line_room - p) p ns) (places_of (p - (first + 1)) (first + 1) ns)
        (places_below ns n (line_room - p) p some (λ q k m. e.nodes_in_known q (omega (arith, k, f.from)) (omega (arith, m, h))))
        (places_below ns n (p - (first + 1)) (first + 1) some (λ q k m. e.nodes_in_known q (omega (arith, k)) (omega (arith, m, h, k)))))

-- no place from `first` to before p was entered by b
pub record Passed (bys : List ℕ) (first b p : ℕ) : Type 0 where
  pub from : first ≤ p
  pub within : p ≤ line_room
  pub before : (j : ℕ) → first ≤ j → j < p → get_or bys j 0 ≡ b → ⊥

module _ (bys : List ℕ) (first b : ℕ) where
  pub passed_none : first ≤ line_room → Passed bys first b first
  passed_none h = record { from = omega arith; within = h; before = λ j l k e. omega (arith, l, k) }

  pub passed_more : (p : ℕ) → p < line_room → Passed bys first b p → (get_or bys p 0 ≡ b → ⊥) → Passed bys first b (p + 1)
  passed_more p l f n = record {
    from = omega (arith, f.from);
    within = omega arith;
    before = λ j h k e. elim (ℕ_discrete j p) [ yes q ↦ n (rw (← q) e) | no a ↦ f.before j h (omega (arith, k, a)) e ];
  }

  pub passed_found : (p : ℕ) → p < line_room → Passed bys first b p → get_or bys p 0 ≡ b → EnteredAt bys first b p × (p < line_room)
  passed_found p h f e = (record { from = f.from; within = f.within; before = f.before; is = λ l. e }, h)

  pub passed_all : (p : ℕ) → line_room ≤ p → Passed bys first b p → EnteredAt bys first b line_room
  passed_all p l f = record { from = omega (arith, f.from, f.within); within = omega arith; before = λ j h k. f.before j h (omega (arith, k)); is = λ h. absurd (omega (arith, h)) }
