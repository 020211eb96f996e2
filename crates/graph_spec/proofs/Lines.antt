-- Laws of lines: sums of steps and ends of two lines joined and of a line reversed, and the end of a line's image.
use mathlib.Core.Path.{◌≡◌, refl, sym, ◌∙◌}
use mathlib.Core.List.{List, [], ◌∷◌, ◌++◌, map, reverse, reverse_aux}
use Prim.Native.Nat.{ℕ, ◌+◌}
use native.Mathlib.Nat.{zero-add, add-zero}
use native.Mathlib.Omega.{arith}
use Rattle.graph_spec.specs.Count.{step_sum, line_sum, last_from}

-- ---- one line after another

pub step_sum_append : {A : Type 0} (w : A → A → ℕ) (x : A) (xs ys : List A) → step_sum w x (xs ++ ys) ≡ step_sum w x xs + step_sum w (last_from x xs) ys
unfolding step_sum last_from
step_sum_append w x [] ys = sym (zero-add (step_sum w x ys))
step_sum_append w x (y ∷ xs) ys = omega (arith, step_sum_append w y xs ys)

pub last_from_append : {A : Type 0} (x : A) (xs ys : List A) → last_from x (xs ++ ys) ≡ last_from (last_from x xs) ys
unfolding last_from
last_from_append x [] ys = refl
last_from_append x (y ∷ xs) ys = last_from_append y xs ys

pub last_from_map : {A B : Type 0} (f : A → B) (x : A) (xs : List A) → last_from (f x) (map f xs) ≡ f (last_from x xs)
unfolding last_from
last_from_map f x [] = refl
last_from_map f x (y ∷ xs) = last_from_map f y xs

-- ---- a line reversed

-- xs reversed, then x, then what came before it
module _ {A : Type 0} (w : A → A → ℕ) (symmetric : (a b : A) → w a b ≡ w b a) where
  line_sum_reverse_aux : (x : A) (xs before : List A) → line_sum w (reverse_aux xs (x ∷ before)) ≡ step_sum w x xs + step_sum w x before
  unfolding line_sum step_sum
  line_sum_reverse_aux x [] before = sym (zero-add (step_sum w x before))
  line_sum_reverse_aux x (y ∷ xs) before = omega (arith, line_sum_reverse_aux y xs (x ∷ before), symmetric x y)

  pub line_sum_reverse : (line : List A) → line_sum w (reverse line) ≡ line_sum w line
  unfolding line_sum step_sum
  line_sum_reverse [] = refl
  line_sum_reverse (x ∷ xs) = line_sum_reverse_aux x xs [] ∙ add-zero (step_sum w x xs)

-- the line begins with a and ends with b
pub record Runs {A : Type 0} (a b : A) (line : List A) : Type 0 where
  pub rest : List A
  pub is : line ≡ a ∷ rest
  pub ends : last_from a rest ≡ b

runs_reverse_aux : {A : Type 0} (x : A) (xs before : List A) → Runs (last_from x xs) (last_from x before) (reverse_aux xs (x ∷ before))
unfolding last_from
runs_reverse_aux x [] before = record { rest = before; is = refl; ends = refl }
runs_reverse_aux x (y ∷ xs) before = runs_reverse_aux y xs (x ∷ before)

pub runs_reverse : {A : Type 0} (x : A) (xs : List A) → Runs (last_from x xs) x (reverse (x ∷ xs))
unfolding last_from
runs_reverse x xs = runs_reverse_aux x xs []
