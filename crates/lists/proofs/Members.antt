-- Laws of specs/Members.
use Prim.Native.Nat.{ℕ, zero, suc, ◌<◌}
use native.Mathlib.Nat.{le_of_suc-le-suc, not-suc-le-zero}
use mathlib.Core.Path.{◌≡◌, refl, sym, ap, subst}
use mathlib.Core.Logic.{◌⊎◌, inl, inr}
use mathlib.Core.Bool.{Bool, true, false}
use mathlib.Core.List.{List, [], ◌∷◌, ◌++◌, map, reverse, reverse_aux}
use lib.ListN.{length, get_or, take, drop, take-append-drop}
use Rattle.lists.specs.Members.{All, In}

-- what holds in both cases of a test holds of the case that is taken
pub either : {A : Type 0} (P : A → Type 0) (x y : A) → P x → P y → (t : Bool) → P (elim t [ true ↦ x | false ↦ y ])
either P x y h k true = h
either P x y h k false = k

module _ {A : Type 0} where
  -- ---- elements

  pub in_at : (xs : List A) (i : ℕ) (d : A) → i < length xs → In (get_or xs i d) xs
  in_at [] i d h = absurd (not-suc-le-zero h)
  in_at (x ∷ xs) zero d h = inl refl
  in_at (x ∷ xs) (suc i) d h = inr (in_at xs i d (le_of_suc-le-suc h))

  pub in_left : (x : A) (xs ys : List A) → In x xs → In x (xs ++ ys)
  in_left x (y ∷ xs) ys (inl e) = inl e
  in_left x (y ∷ xs) ys (inr i) = inr (in_left x xs ys i)
  in_left x [] ys x'' = elim x'' [ ]

  pub in_right : (x : A) (xs ys : List A) → In x ys → In x (xs ++ ys)
  in_right x [] ys i = i
  in_right x (y ∷ xs) ys i = inr (in_right x xs ys i)

  pub in_append : (x : A) (xs ys : List A) → In x (xs ++ ys) → In x xs ⊎ In x ys
  in_append x [] ys i = inr i
  in_append x (y ∷ xs) ys (inl e) = inl (inl e)
  in_append x (y ∷ xs) ys (inr i) = elim (in_append x xs ys i) [ inl k ↦ inl (inr k) | inr k ↦ inr k ]

  -- ---- what holds of each

  module _ (P : A → Type 0) where
    pub all_in : (xs : List A) → All P xs → (x : A) → In x xs → P x
    all_in (y ∷ xs) a x (inl e) = subst P (sym e) a.0
    all_in (y ∷ xs) a x (inr i) = all_in xs a.1 x i
    all_in [] a x x4 = elim x4 [ ]

    pub in_all : (xs : List A) → ((x : A) → In x xs → P x) → All P xs
    in_all [] h = tt
    in_all (x ∷ xs) h = (h x (inl refl), in_all xs (λ y i. h y (inr i)))

    pub all_at : (xs : List A) → All P xs → (i : ℕ) (d : A) → i < length xs → P (get_or xs i d)
    all_at xs a i d h = all_in xs a (get_or xs i d) (in_at xs i d h)

    pub all_append : (xs ys : List A) → All P xs → All P ys → All P (xs ++ ys)
    all_append [] ys a b = b
    all_append (x ∷ xs) ys a b = (a.0, all_append xs ys a.1 b)

    pub all_front : (xs ys : List A) → All P (xs ++ ys) → All P xs
    all_front [] ys a = tt
    all_front (x ∷ xs) ys a = (a.0, all_front xs ys a.1)

    pub all_back : (xs ys : List A) → All P (xs ++ ys) → All P ys
    all_back [] ys a = a
    all_back (x ∷ xs) ys a = all_back xs ys a.1

    pub all_take : (n : ℕ) (xs : List A) → All P xs → All P (take n xs)
    all_take n xs a = all_front (take n xs) (drop n xs) (subst (All P) (sym (take-append-drop n xs)) a)

    pub all_drop : (n : ℕ) (xs : List A) → All P xs → All P (drop n xs)
    all_drop n xs a = all_back (take n xs) (drop n xs) (subst (All P) (sym (take-append-drop n xs)) a)

    -- what holds at every place, past the end too
    pub all_by_place : (d : A) (xs : List A) → ((i : ℕ) → P (get_or xs i d)) → All P xs
    all_by_place d [] h = tt
    all_by_place d (x ∷ xs) h = (h 0, all_by_place d xs (λ i. h (suc i)))

    all_reverse_aux : (xs before : List A) → All P xs → All P before → All P (reverse_aux xs before)
    all_reverse_aux [] before a b = b
    all_reverse_aux (x ∷ xs) before a b = all_reverse_aux xs (x ∷ before) a.1 (a.0, b)

    pub all_reverse : (xs : List A) → All P xs → All P (reverse xs)
    all_reverse xs a = all_reverse_aux xs [] a tt

pub all_imp : {A : Type 0} (P Q : A → Type 0) → ((x : A) → P x → Q x) → (xs : List A) → All P xs → All Q xs
all_imp P Q f [] a = tt
all_imp P Q f (x ∷ xs) a = (f x a.0, all_imp P Q f xs a.1)

-- ---- images

pub in_map : {A B : Type 0} (f : A → B) (x : A) (xs : List A) → In x xs → In (f x) (map f xs)
in_map f x (y ∷ xs) (inl e) = inl (ap f e)
in_map f x (y ∷ xs) (inr i) = inr (in_map f x xs i)
in_map {A = A} {B = B} f x [] x'' = elim x'' [ ]

pub of_map : {A B : Type 0} (f : A → B) (y : B) (xs : List A) → In y (map f xs) → (x : A) × In x xs × (f x ≡ y)
of_map f y (x ∷ xs) (inl e) = (x, inl refl, sym e)
of_map f y (x ∷ xs) (inr i) = let r = of_map f y xs i in (r.0, inr r.1, r.2)
of_map {A = A} {B = B} f y [] x' = elim x' [ ]

pub all_map : {A B : Type 0} (f : A → B) (P : B → Type 0) (xs : List A) → All (λ (x : A). P (f x)) xs → All P (map f xs)
all_map f P [] a = tt
all_map f P (x ∷ xs) a = (a.0, all_map f P xs a.1)
