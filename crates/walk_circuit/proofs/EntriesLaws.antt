-- Laws of specs/Entries.
use mathlib.Core.Path.{◌≡◌, refl, ap, ◌∙◌}
use mathlib.Core.List.{List, [], ◌∷◌}
use Prim.Native.Nat.{ℕ, zero, suc, ◌+◌, ◌-◌, ◌≤◌, ◌<◌}
use native.Mathlib.Numerals.{add-one}
use native.Mathlib.Omega.{arith}
use lib.ListN.{length, get_or, set}
use lib.Seq.{get_or-set_same, get_or-set_other}
use Rattle.limits.specs.Limits.{line_room}
use Rattle.walk_spec.specs.Walk.{By, Entry}
use Rattle.walk_circuit.specs.Entries.{by_of, entries_from, entries_of, entry_of}

pub by_edge : (i : ℕ) → by_of (i + 1) ≡ By.edge i
unfolding by_of
by_edge i = rw add-one refl

-- the first d entries, the last of them first
unfoldable pub stack_of : ℕ → List ℕ → List ℕ → List Entry
stack_of zero ns bs = []
stack_of (suc d) ns bs = entry_of (get_or ns d 0) (get_or bs d 0) ∷ stack_of d ns bs

module _ (ns bs : List ℕ) where
  -- an entry elsewhere
  pub stack_other : (d p v b : ℕ) → d ≤ p → stack_of d (set ns p v) (set bs p b) ≡ stack_of d ns bs
  unfolding stack_of
  stack_other zero p v b h = refl
  stack_other (suc d) p v b h =
      let away : d ≡ p → ⊥ = omega arith in
      rw (get_or-set_other ns p d v 0 away, get_or-set_other bs p d b 0 away, stack_other d p v b (omega arith))

  pub entries_other : (n p i v b : ℕ) → i < p → entries_of n p (set ns i v) (set bs i b) ≡ entries_of n p ns bs
  unfolding entries_of
  entries_other zero p i v b h = refl
  entries_other (suc n) p i v b h =
      let away : p ≡ i → ⊥ = omega arith in
      rw (get_or-set_other ns i p v 0 away, get_or-set_other bs i p b 0 away, entries_other n (suc p) i v b (omega arith))

  -- an entry on the stack
  pub stack_push : (d v b : ℕ) → d < length ns → d < length bs → stack_of (d + 1) (set ns d v) (set bs d b) ≡ entry_of v b ∷ stack_of d ns bs
  unfolding stack_of
  stack_push d v b h k = rw (add-one, get_or-set_same ns d v 0 h, get_or-set_same bs d b 0 k, stack_other d d v b (omega arith))

  -- the stack by its top
  pub stack_top : (d : ℕ) → 0 < d → stack_of d ns bs ≡ entry_of (get_or ns (d - 1) 0) (get_or bs (d - 1) 0) ∷ stack_of (d - 1) ns bs
  unfolding stack_of
  stack_top d h =
      let is : d ≡ suc (d - 1) = omega arith in
      ap (λ (x : ℕ). stack_of x ns bs) is ∙ one (d - 1)
    where
      one : (x : ℕ) → stack_of (suc x) ns bs ≡ entry_of (get_or ns x 0) (get_or bs x 0) ∷ stack_of x ns bs
      one x = refl

  -- an entry in front of those taken off
  pub entries_put : (p v b : ℕ) → 0 < p → p ≤ line_room → p - 1 < length ns → p - 1 < length bs
      → entries_from (p - 1) (set ns (p - 1) v) (set bs (p - 1) b) ≡ entry_of v b ∷ entries_from p ns bs
  unfolding entries_of
  entries_put p v b h l i j =
      let more : line_room - (p - 1) ≡ suc (line_room - p) = omega arith in
      let on : suc (p - 1) ≡ p = omega arith in
      ap (λ (x : ℕ). entries_of x (p - 1) (set ns (p - 1) v) (set bs (p - 1) b)) more ∙ one (line_room - p) (p - 1) p on i j
    where
      one : (n q r : ℕ) → suc q ≡ r → q < length ns → q < length bs → entries_of (suc n) q (set ns q v) (set bs q b) ≡ entry_of v b ∷ entries_of n r ns bs
      one n q r e x y = rw (get_or-set_same ns q v 0 x, get_or-set_same bs q b 0 y, e) (ap (λ (l : List Entry). entry_of v b ∷ l) (entries_other n r q v b (omega arith)))
