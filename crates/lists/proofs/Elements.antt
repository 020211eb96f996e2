-- Elements by their places, read after a store and past the end.
use Prim.Native.Nat.{ℕ, zero, suc, ◌<◌}
use native.Mathlib.Nat.{le_of_suc-le-suc, not-suc-le-zero}
use mathlib.Core.Path.{◌≡◌, refl, ap, ◌∙◌}
use mathlib.Core.Logic.{◌⊎◌, inl, inr}
use mathlib.Core.List.{List, [], ◌∷◌}
use lib.ListN.{length, get_or, set, replicate}

module _ {A : Type 0} where
  -- an element read after `set` is the one set, or as before
  pub set_cases : (xs : List A) (i : ℕ) (a d : A) (j : ℕ) → ((j ≡ i) × (get_or (set xs i a) j d ≡ a)) ⊎ (get_or (set xs i a) j d ≡ get_or xs j d)
  set_cases [] i a d j = inr refl
  set_cases (x ∷ xs) zero a d zero = inl (refl, refl)
  set_cases (x ∷ xs) zero a d (suc j) = inr refl
  set_cases (x ∷ xs) (suc i) a d zero = inr refl
  set_cases (x ∷ xs) (suc i) a d (suc j) = elim (set_cases xs i a d j) [ inl p ↦ inl (ap suc p.0, p.1) | inr e ↦ inr e ]

  -- so what is a stays a where a is set
  pub set_keeps : (xs : List A) (i : ℕ) (a d : A) (j : ℕ) → get_or xs j d ≡ a → get_or (set xs i a) j d ≡ a
  set_keeps xs i a d j h = elim (set_cases xs i a d j) [ inl p ↦ p.1 | inr e ↦ e ∙ h ]

  -- a list of one element, whatever the place
  pub get_d_same : (n i : ℕ) (a : A) → get_or (replicate n a) i a ≡ a
  get_d_same zero i a = refl
  get_d_same (suc n) zero a = refl
  get_d_same (suc n) (suc i) a = get_d_same n i a

  -- within a list, what stands for what is missing does not matter
  pub get_d_inside : (xs : List A) (i : ℕ) (c d : A) → i < length xs → get_or xs i c ≡ get_or xs i d
  get_d_inside [] i c d h = absurd (not-suc-le-zero h)
  get_d_inside (x ∷ xs) zero c d h = refl
  get_d_inside (x ∷ xs) (suc i) c d h = get_d_inside xs i c d (le_of_suc-le-suc h)
