-- Laws of `is_marked`: lines that are marked; and of marks that are numbers.
use mathlib.Core.Path.{◌≡◌, refl, sym, ap, ◌∙◌}
use mathlib.Core.Logic.{inl, inr}
use mathlib.Core.List.{List, [], ◌∷◌}
use mathlib.Core.Bool.{Bool, true, false, ◌&&◌, false≢true}
use Prim.Native.Nat.{ℕ, zero, suc, ◌+◌, ◌≤◌, ◌<◌}
use native.Mathlib.Nat.{not-suc-le-zero}
use native.Mathlib.Omega.{arith}
use lib.ListN.{length, get_or, set, replicate, length-set, length-map, length-replicate}
use lib.Seq.{get_or-set_same, get_or-set_other, ext_get_or}
use lib.Dec.{ltb}
use borrow.Author.Tests.{ltb-true, lt-ltb}
use Rattle.links_tree.specs.Packed.{is_mark, marks_of, is_marked}
use Rattle.links_tree.proofs.Cases.{below}

pub marked_in : (n : ℕ) (os : List Bool) (w : ℕ) → is_marked n os w ≡ true → (w < n) × (get_or os w false ≡ true)
unfolding is_marked
marked_in n os w h = go (ltb w n) refl h
  where
    go : (s : Bool) → ltb w n ≡ s → s && get_or os w false ≡ true → (w < n) × (get_or os w false ≡ true)
    go true e h = (ltb-true w n e, h)
    go false e h = absurd (false≢true h)

pub is_marked_lem : (n : ℕ) (os : List Bool) (w : ℕ) → w < n → get_or os w false ≡ true → is_marked n os w ≡ true
unfolding is_marked
is_marked_lem n os w l o = rw (lt-ltb w n l) o

-- ---- a mark is taken away

set_off : (l : List Bool) (i : ℕ) → get_or (set l i false) i false ≡ false
set_off [] i = refl
set_off (x ∷ l) zero = refl
set_off (x ∷ l) (suc i) = set_off l i

pub now_shut : (n : ℕ) (os : List Bool) (v : ℕ) → is_marked n (set os v false) v ≡ false
unfolding is_marked
now_shut n os v = go (ltb v n)
  where
    go : (s : Bool) → s && get_or (set os v false) v false ≡ false
    go true = set_off os v
    go false = refl

pub as_before : (n : ℕ) (os : List Bool) (v w : ℕ) → (w ≡ v → ⊥) → is_marked n (set os v false) w ≡ is_marked n os w
unfolding is_marked
as_before n os v w d = ap (λ (o : Bool). ltb w n && o) (get_or-set_other os v w false false d)

-- ---- marks that are numbers, each made a Boolean

pub mark_at : (ms : List ℕ) (l : ℕ) → get_or (marks_of ms) l false ≡ is_mark (get_or ms l 0)
unfolding marks_of
mark_at [] l = refl
mark_at (m ∷ ms) zero = refl
mark_at (m ∷ ms) (suc l) = mark_at ms l

-- those in front of i are made
pub record Marking (ms : List ℕ) (os : List Bool) (i : ℕ) : Type 0 where
  pub long : length os ≡ length ms
  pub those : (k : ℕ) → k < i → get_or os k false ≡ is_mark (get_or ms k 0)

pub marking_start : (ms : List ℕ) (n : ℕ) → length ms ≡ n → Marking ms (replicate n false) 0
marking_start ms n e = record {
  long = length-replicate {A = Bool} n false ∙ sym e;
  those = λ k b. absurd (not-suc-le-zero b);
}

pub marking_turn : (ms : List ℕ) (os : List Bool) (i : ℕ) → i < length ms → Marking ms os i → Marking ms (set os i (is_mark (get_or ms i 0))) (i + 1)
marking_turn ms os i h M = record {
  long = length-set os i (is_mark (get_or ms i 0)) ∙ M.long;
  those = λ k b. elim (below i k b) [
    | inl q ↦ rw q (get_or-set_same os i (is_mark (get_or ms i 0)) false (omega (arith, M.long)))
    | inr q ↦ get_or-set_other os i k (is_mark (get_or ms i 0)) false (λ d. omega arith) ∙ M.those k q
  ];
}

pub marking_end : (ms : List ℕ) (os : List Bool) (i : ℕ) → length ms ≤ i → Marking ms os i → os ≡ marks_of ms
unfolding marks_of
marking_end ms os i h M =
    ext_get_or false os (marks_of ms) (M.long ∙ sym (length-map ms is_mark)) (λ k b. M.those k (omega (arith, M.long)) ∙ sym (mark_at ms k))
