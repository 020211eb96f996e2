-- Laws of specs/Tabulate.
use mathlib.Core.Path.{◌≡◌, refl, sym, ap, ◌∙◌}
use mathlib.Core.List.{List}
use Prim.Native.Nat.{ℕ, zero, suc, ◌+◌, ◌<◌}
use native.Mathlib.Nat.{add-zero, suc-add, add-suc, le_of_suc-le-suc}
use native.Mathlib.Omega.{arith}
use lib.ListN.{length, get_or}
use lib.Seq.{ext_get_or}
use Rattle.lists.specs.Tabulate.{tabulate}

pub tabulate_length : {A : Type 0} (f : ℕ → A) (k i : ℕ) → length (tabulate f k i) ≡ k
unfolding tabulate
tabulate_length f zero i = refl
tabulate_length f (suc k) i = ap suc (tabulate_length f k (suc i))

tabulate_from : {A : Type 0} (f : ℕ → A) (k i j : ℕ) (d : A) → j < k → get_or (tabulate f k i) j d ≡ f (i + j)
unfolding tabulate
tabulate_from f zero i j d h = absurd (omega arith)
tabulate_from f (suc k) i zero d h = ap f (sym (add-zero i))
tabulate_from f (suc k) i (suc j) d h = tabulate_from f k (suc i) j d (le_of_suc-le-suc h) ∙ ap f (suc-add i j ∙ sym (add-suc i j))

pub tabulate_at : {A : Type 0} (f : ℕ → A) (k j : ℕ) (d : A) → j < k → get_or (tabulate f k 0) j d ≡ f j
tabulate_at f k j d h = tabulate_from f k 0 j d h ∙ ap f (omega arith)

-- a list whose elements f gives
pub tabulate_is : {A : Type 0} (f : ℕ → A) (l : List A) (d : A) → ((j : ℕ) → j < length l → f j ≡ get_or l j d) → tabulate f (length l) 0 ≡ l
tabulate_is f l d h =
    let long = tabulate_length f (length l) 0 in
    ext_get_or d (tabulate f (length l) 0) l long (λ i b. let j : i < length l = omega (arith, long) in tabulate_at f (length l) i d j ∙ h i j)
