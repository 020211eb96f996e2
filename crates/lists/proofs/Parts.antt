-- Parts of a list, and stores of one part behind another.
use Prim.Native.Nat.{ℕ, zero, suc, ◌+◌}
use native.Mathlib.Nat.{add-zero}
use native.Mathlib.Numerals.{add-one}
use native.Mathlib.Omega.{arith}
use mathlib.Core.Path.{◌≡◌, refl, sym, ap, ◌∙◌}
use mathlib.Core.List.{List, [], ◌∷◌, ◌++◌, map}
use lib.ListN.{length, get_or, drop, set}
use lib.Seq.{sets, get_or-drop, drop-drop}

-- what stands at a place, and behind it, where the rest from there on is known
module _ {A : Type 0} (l : List A) (i : ℕ) (v d : A) (rest : List A) (e : drop i l ≡ v ∷ rest) where
  pub at_front : get_or l i d ≡ v
  at_front = ap (λ (j : ℕ). get_or l j d) (sym (add-zero i)) ∙ sym (get_or-drop i l 0 d) ∙ ap (λ (m : List A). get_or m 0 d) e

  pub behind_front : drop (suc i) l ≡ rest
  behind_front = ap (λ (j : ℕ). drop j l) (sym (add-one i)) ∙ sym (drop-drop 1 i l) ∙ ap (drop 1) e

-- what stands n behind the first m
pub drop_on : {A : Type 0} (m n : ℕ) (l a b : List A) → drop m l ≡ a → drop n a ≡ b → drop (m + n) l ≡ b
drop_on m n l a b h k = sym (drop-drop n m l) ∙ ap (drop n) h ∙ k

pub drop_map : {A B : Type 0} (f : A → B) (n : ℕ) (l : List A) → drop n (map f l) ≡ map f (drop n l)
drop_map f zero l = refl
drop_map f (suc n) [] = refl
drop_map f (suc n) (x ∷ l) = drop_map f n l

-- stored in two parts
pub sets_append : {A : Type 0} (l : List A) (i : ℕ) (a b : List A) → sets l i (a ++ b) ≡ sets (sets l i a) (i + length a) b
sets_append l i [] b = ap (λ (k : ℕ). sets l k b) (sym (add-zero i))
sets_append l i (x ∷ a) b =
    let e : suc i + length a ≡ i + suc (length a) = omega arith in
    sets_append (set l i x) (suc i) a b ∙ ap (λ (k : ℕ). sets (sets (set l i x) (suc i) a) k b) e
