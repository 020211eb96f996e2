-- Laws of specs/Stores.
use Prim.Native.Nat.{ℕ, zero, suc, ◌+◌, ◌-◌, ◌≤◌}
use native.Mathlib.Nat.{zero-add, sub-zero, zero-sub}
use native.Mathlib.Omega.{arith}
use mathlib.Core.Path.{◌≡◌, refl, sym, ap, ◌∙◌}
use mathlib.Core.List.{List, [], ◌∷◌, ◌++◌, map, map-append}
use lib.ListN.{length, drop, replicate, length-replicate, length-map}
use lib.Seq.{sets, sets-eq}
use Rattle.lists.proofs.Parts.{sets_append}
use Rattle.drawing_spec.specs.Drawing.{Point}
use Rattle.file_drawing.specs.Stores.{ends_from, padded}

-- ---- laws

module _ {A : Type 0} where
  drop_replicate : (k n : ℕ) (z : A) → drop k (replicate n z) ≡ replicate (n - k) z
  drop_replicate zero n z = ap (λ (m : ℕ). replicate m z) (sym (sub-zero n))
  drop_replicate (suc k) zero z = ap (λ (m : ℕ). replicate m z) (sym (zero-sub (suc k)))
  drop_replicate (suc k) (suc n) z = let e : suc n - suc k ≡ n - k = omega arith in drop_replicate k n z ∙ ap (λ (m : ℕ). replicate m z) (sym e)

  -- filled from the front
  pub sets_padded : (n : ℕ) (z : A) (vs : List A) → length vs ≤ n → sets (replicate n z) 0 vs ≡ padded n z vs
  sets_padded n z vs h =
      sets-eq vs (replicate n z) 0 (rw length-replicate (omega arith)) ∙ ap (λ (r : List A). vs ++ r) (ap (λ (k : ℕ). drop k (replicate n z)) (zero-add (length vs)) ∙ drop_replicate (length vs) n z)

module _ {A : Type 0} (f : A → ℕ) where
  -- one run after another
  pub sets_map : (l : List ℕ) (i : ℕ) (a b : List A) → sets l i (map f (a ++ b)) ≡ sets (sets l i (map f a)) (i + length a) (map f b)
  sets_map l i a b = ap (sets l i) (map-append f a b) ∙ sets_append l i (map f a) (map f b) ∙ ap (λ (k : ℕ). sets (sets l i (map f a)) (i + k) (map f b)) (length-map a f)

pub length_ends : (k : ℕ) (ls : List (List Point)) → length (ends_from k ls) ≡ length ls
unfolding ends_from
length_ends k [] = refl
length_ends k (l ∷ ls) = ap suc (length_ends (k + length l) ls)
