-- Laws of specs/Rows.
use mathlib.Core.Path.{◌≡◌, refl, sym, ap, subst, ◌∙◌}
use mathlib.Core.Bool.{Bool, true, false}
use mathlib.Core.List.{List, [], ◌∷◌}
use Prim.Native.Nat.{ℕ, zero, suc, ◌+◌, ◌-◌, ◌≤◌, ◌<◌}
use native.Mathlib.Nat.{le_refl}
use native.Mathlib.Numerals.{add-one}
use native.Mathlib.Decide.{dec_le}
use native.Mathlib.Omega.{arith}
use lib.ListN.{length, get_or, take, drop, drop_of_length-le}
use lib.Seq.{length-take-le, drop-cons, get_or-take}
use lib.Dec.{ltb}
use borrow.Author.Tests.{lt-ltb, le-ltb, ltb-true, ltb-false}
use Rattle.repair_spec.specs.Pairing.{Closest, nothing, between, closer, closest_to, closest}
use Rattle.repair_greedy.specs.Rows.{AtMost}

-- ---- a row's own nearest, taken into the search

-- the second where it is nearer than the first
unfoldable pub merge : Closest ℕ → Closest ℕ → Closest ℕ
merge best nothing = best
merge best (between i j d) = closer ltb best i j d

-- one more place in the row
merge_one : (best row : Closest ℕ) (i j d : ℕ) → merge (closer ltb best i j d) row ≡ merge best (merge (between i j d) row)
unfolding merge closer
merge_one nothing nothing i j d = refl
merge_one (between a b e) nothing i j d = refl
merge_one nothing (between k l f) i j d = go (ltb f d)
  where
    go : (t : Bool) → elim t [ true ↦ between k l f | false ↦ between i j d ] ≡ merge nothing (elim t [ true ↦ between k l f | false ↦ between i j d ])
    go true = refl
    go false = refl
merge_one (between a b e) (between k l f) i j d = go (ltb d e) refl (ltb f d) refl
  where
    go : (t : Bool) → ltb d e ≡ t → (u : Bool) → ltb f d ≡ u
        → closer ltb (elim t [ true ↦ between i j d | false ↦ between a b e ]) k l f ≡ merge (between a b e) (elim u [ true ↦ between k l f | false ↦ between i j d ])
    go true h true g =
        ap (λ (s : Bool). elim s [ true ↦ between k l f | false ↦ between i j d ]) g
        ∙ sym (ap (λ (s : Bool). elim s [ true ↦ between k l f | false ↦ between a b e ]) (lt-ltb f e (omega (arith, ltb-true d e h, ltb-true f d g))))
    go true h false g =
        ap (λ (s : Bool). elim s [ true ↦ between k l f | false ↦ between i j d ]) g
        ∙ sym (ap (λ (s : Bool). elim s [ true ↦ between i j d | false ↦ between a b e ]) h)
    go false h true g = refl
    go false h false g =
        ap (λ (s : Bool). elim s [ true ↦ between k l f | false ↦ between a b e ]) (le-ltb f e (omega (arith, ltb-false d e h, ltb-false f d g)))
        ∙ sym (ap (λ (s : Bool). elim s [ true ↦ between i j d | false ↦ between a b e ]) h)

merge_nothing : (row : Closest ℕ) → merge nothing row ≡ row
unfolding merge closer
merge_nothing nothing = refl
merge_nothing (between i j d) = refl

merge_assoc : (best row later : Closest ℕ) → merge (merge best row) later ≡ merge best (merge row later)
unfolding merge
merge_assoc best nothing later = ap (merge best) (sym (merge_nothing later))
merge_assoc best (between i j d) later = merge_one best later i j d

pub closer_taken : (a b e i j d : ℕ) → d < e → between i j d ≡ closer ltb (between a b e) i j d
unfolding closer
closer_taken a b e i j d h = sym (ap (λ (t : Bool). elim t [ true ↦ between i j d | false ↦ between a b e ]) (lt-ltb d e h))

pub closer_left : (a b e i j d : ℕ) → e ≤ d → between a b e ≡ closer ltb (between a b e) i j d
unfolding closer
closer_left a b e i j d h = sym (ap (λ (t : Bool). elim t [ true ↦ between i j d | false ↦ between a b e ]) (le-ltb d e h))

closer_keeps : (best : Closest ℕ) (i j d e : ℕ) → AtMost best e → AtMost (closer ltb best i j d) e
unfolding closer
closer_keeps nothing i j d e h = absurd h
closer_keeps (between a b f) i j d e h = go (ltb d f) refl
  where
    go : (t : Bool) → ltb d f ≡ t → AtMost (elim t [ true ↦ between i j d | false ↦ between a b f ]) e
    go true g = omega (arith, ltb-true d f g)
    go false g = h

closer_takes : (best : Closest ℕ) (i j d : ℕ) → AtMost (closer ltb best i j d) d
unfolding closer
closer_takes nothing i j d = le_refl d
closer_takes (between a b f) i j d = go (ltb d f) refl
  where
    go : (t : Bool) → ltb d f ≡ t → AtMost (elim t [ true ↦ between i j d | false ↦ between a b f ]) d
    go true g = le_refl d
    go false g = ltb-false d f g

-- ---- by a cost of two nodes

module _ (cost : ℕ → ℕ → ℕ) where
  pub row_merge : (u : ℕ) (i : ℕ) (vs : List ℕ) (j : ℕ) (best : Closest ℕ) → closest_to ltb cost u i vs j best ≡ merge best (closest_to ltb cost u i vs j nothing)
  unfolding closest_to merge closer
  row_merge u i [] j best = refl
  row_merge u i (v ∷ vs) j best =
      row_merge u i vs (suc j) (closer ltb best i j (cost u v)) ∙ merge_one best (closest_to ltb cost u i vs (suc j) nothing) i j (cost u v)
      ∙ sym (ap (merge best) (row_merge u i vs (suc j) (between i j (cost u v))))

  -- the nearest two of all rows, taken into the search
  rows_merge : (us : List ℕ) (i : ℕ) (best : Closest ℕ) → closest ltb cost us i best ≡ merge best (closest ltb cost us i nothing)
  unfolding closest merge
  rows_merge [] i best = refl
  rows_merge (u ∷ us) i best =
      let row = closest_to ltb cost u i us (suc i) nothing in
      rows_merge us (suc i) (closest_to ltb cost u i us (suc i) best) ∙ ap (λ (c : Closest ℕ). merge c (closest ltb cost us (suc i) nothing)) (row_merge u i us (suc i) best)
      ∙ merge_assoc best row (closest ltb cost us (suc i) nothing) ∙ sym (ap (merge best) (rows_merge us (suc i) row))

  -- the row's own nearest, a and b, is taken where it is nearer than what is in hand
  pub row_taken : (u : ℕ) (i : ℕ) (vs : List ℕ) (j : ℕ) (best : Closest ℕ) (a b d : ℕ) (best' : Closest ℕ)
      → closest_to ltb cost u i vs j nothing ≡ between a b d → best' ≡ closer ltb best a b d → closest_to ltb cost u i vs j best ≡ best'
  unfolding merge
  row_taken u i vs j best a b d best' e g = row_merge u i vs j best ∙ ap (merge best) e ∙ sym g

  row_keeps : (u : ℕ) (i : ℕ) (vs : List ℕ) (j : ℕ) (best : Closest ℕ) (e : ℕ) → AtMost best e → AtMost (closest_to ltb cost u i vs j best) e
  unfolding closest_to
  row_keeps u i [] j best e h = h
  row_keeps u i (v ∷ vs) j best e h = row_keeps u i vs (suc j) _ e (closer_keeps best i j (cost u v) e h)

  rows_keep : (us : List ℕ) (i : ℕ) (best : Closest ℕ) (e : ℕ) → AtMost best e → AtMost (closest ltb cost us i best) e
  unfolding closest
  rows_keep [] i best e h = h
  rows_keep (u ∷ us) i best e h = rows_keep us (suc i) _ e (row_keeps u i us (suc i) best e h)

  -- what is farther than the nearest two may be in hand at the start
  pub start_farther : (us : List ℕ) (a b e d : ℕ) → AtMost (closest ltb cost us 0 nothing) d → d < e → closest ltb cost us 0 (between a b e) ≡ closest ltb cost us 0 nothing
  unfolding merge closer
  start_farther us a b e d h l = rows_merge us 0 (between a b e) ∙ go (closest ltb cost us 0 nothing) h
    where
      go : (c : Closest ℕ) → AtMost c d → merge (between a b e) c ≡ c
      go nothing g = absurd g
      go (between i j x) g = ap (λ (t : Bool). elim t [ true ↦ between i j x | false ↦ between a b e ]) (lt-ltb x e (omega arith))

  -- ---- the first n of a list of nodes, each at its point

  module _ (w : List ℕ) (n : ℕ) (long : n ≤ length w) where
    places : length (take n w) ≡ n
    places = length-take-le n w long

    rest_cons : (j : ℕ) → j < n → drop j (take n w) ≡ get_or w j 0 ∷ drop (suc j) (take n w)
    rest_cons j h = drop-cons (take n w) j 0 (omega (arith, places)) ∙ ap (λ (v : ℕ). v ∷ drop (suc j) (take n w)) (get_or-take n w j 0 h)

    rest_end : (j : ℕ) → n ≤ j → drop j (take n w) ≡ []
    rest_end j h = drop_of_length-le (take n w) {i = j} (omega (arith, places))

    -- ---- along a row

    row_on : (u : ℕ) (i j : ℕ) (best r : Closest ℕ) → j < n → closest_to ltb cost u i (drop j (take n w)) j best ≡ r
        → closest_to ltb cost u i (drop (j + 1) (take n w)) (j + 1) (closer ltb best i j (cost u (get_or w j 0))) ≡ r
    unfolding closest_to
    row_on u i j best r h e =
        ap (λ (k : ℕ). closest_to ltb cost u i (drop k (take n w)) k (closer ltb best i j (cost u (get_or w j 0)))) (add-one j)
        ∙ sym (ap (λ (vs : List ℕ). closest_to ltb cost u i vs j best) (rest_cons j h)) ∙ e

    pub row_turn : (u : ℕ) (i j d : ℕ) (best best' r : Closest ℕ) → j < n → d ≡ cost u (get_or w j 0) → best' ≡ closer ltb best i j d
        → closest_to ltb cost u i (drop j (take n w)) j best ≡ r → closest_to ltb cost u i (drop (j + 1) (take n w)) (j + 1) best' ≡ r
    row_turn u i j d best best' r h e g inv =
        ap (closest_to ltb cost u i (drop (j + 1) (take n w)) (j + 1)) (g ∙ ap (closer ltb best i j) e) ∙ row_on u i j best r h inv

    -- the first place of a row is in hand whatever it is
    pub row_first : (u : ℕ) (i j d : ℕ) → j < n → d ≡ cost u (get_or w j 0)
        → closest_to ltb cost u i (drop (j + 1) (take n w)) (j + 1) (between i j d) ≡ closest_to ltb cost u i (drop j (take n w)) j nothing
    unfolding closer
    row_first u i j d h e =
        ap (λ (x : ℕ). closest_to ltb cost u i (drop (j + 1) (take n w)) (j + 1) (between i j x)) e ∙ row_on u i j nothing _ h refl

    pub row_end : (u : ℕ) (i j : ℕ) (best r : Closest ℕ) → n ≤ j → closest_to ltb cost u i (drop j (take n w)) j best ≡ r → best ≡ r
    unfolding closest_to
    row_end u i j best r h e = sym (ap (λ (vs : List ℕ). closest_to ltb cost u i vs j best) (rest_end j h)) ∙ e

    -- a row of places none of which is nearer leaves what is in hand; m places are left
    row_none : (m : ℕ) (u : ℕ) (i j a b d : ℕ) → j + m ≡ n → ((k : ℕ) → j ≤ k → k < n → d ≤ cost u (get_or w k 0))
        → closest_to ltb cost u i (drop j (take n w)) j (between a b d) ≡ between a b d
    unfolding closest_to closer
    row_none zero u i j a b d e h = ap (λ (vs : List ℕ). closest_to ltb cost u i vs j (between a b d)) (rest_end j (omega arith))
    row_none (suc m) u i j a b d e h =
        ap (λ (vs : List ℕ). closest_to ltb cost u i vs j (between a b d)) (rest_cons j (omega arith))
        ∙ ap (λ (t : Bool). closest_to ltb cost u i (drop (suc j) (take n w)) (suc j) (elim t [ true ↦ between i j (cost u (get_or w j 0)) | false ↦ between a b d ]))
        (le-ltb (cost u (get_or w j 0)) d (h j (le_refl j) (omega arith)))
        ∙ row_none m u i (suc j) a b d (omega arith) (λ k l. h k (omega arith))

    pub row_skipped : (u : ℕ) (i j a b d : ℕ) → j ≤ n → ((k : ℕ) → j ≤ k → k < n → d ≤ cost u (get_or w k 0))
        → closest_to ltb cost u i (drop j (take n w)) j (between a b d) ≡ between a b d
    row_skipped u i j a b d l h = row_none (n - j) u i j a b d (omega arith) h

    -- what is found in a row is no farther than any of its places
    row_all : (m : ℕ) (u : ℕ) (i j : ℕ) (best : Closest ℕ) → j + m ≡ n → (k : ℕ) → j ≤ k → k < n
        → AtMost (closest_to ltb cost u i (drop j (take n w)) j best) (cost u (get_or w k 0))
    unfolding closest_to
    row_all zero u i j best e k l h = absurd (omega arith)
    row_all (suc m) u i j best e k l h =
        subst (λ (vs : List ℕ). AtMost (closest_to ltb cost u i vs j best) (cost u (get_or w k 0))) (sym (rest_cons j (omega arith))) (elim (dec_le (suc j) k) [
          | yes g ↦ row_all m u i (suc j) _ (omega arith) k g h
          | no g ↦
              let here : k ≡ j = omega (arith, g) in
              row_keeps u i (drop (suc j) (take n w)) (suc j) _ (cost u (get_or w k 0))
              (subst (λ (x : ℕ). AtMost (closer ltb best i j (cost u (get_or w j 0))) (cost u (get_or w x 0))) (sym here) (closer_takes best i j (cost u (get_or w j 0))))
        ])

    pub row_least : (u : ℕ) (i j a b d : ℕ) (best : Closest ℕ) → closest_to ltb cost u i (drop j (take n w)) j best ≡ between a b d
        → (k : ℕ) → j ≤ k → k < n → d ≤ cost u (get_or w k 0)
    row_least u i j a b d best e k l h = subst (λ (c : Closest ℕ). AtMost c (cost u (get_or w k 0))) e (row_all (n - j) u i j best (omega arith) k l h)

    -- ---- from row to row

    rows_on : (i : ℕ) (best r : Closest ℕ) → i < n → closest ltb cost (drop i (take n w)) i best ≡ r
        → closest ltb cost (drop (i + 1) (take n w)) (i + 1) (closest_to ltb cost (get_or w i 0) i (drop (i + 1) (take n w)) (i + 1) best) ≡ r
    unfolding closest
    rows_on i best r h e =
        ap (λ (k : ℕ). closest ltb cost (drop k (take n w)) k (closest_to ltb cost (get_or w i 0) i (drop k (take n w)) k best)) (add-one i)
        ∙ sym (ap (λ (vs : List ℕ). closest ltb cost vs i best) (rest_cons i h)) ∙ e

    pub rows_turn : (i : ℕ) (best best' r : Closest ℕ) → i < n → closest_to ltb cost (get_or w i 0) i (drop (i + 1) (take n w)) (i + 1) best ≡ best'
        → closest ltb cost (drop i (take n w)) i best ≡ r → closest ltb cost (drop (i + 1) (take n w)) (i + 1) best' ≡ r
    rows_turn i best best' r h e inv = ap (closest ltb cost (drop (i + 1) (take n w)) (i + 1)) (sym e) ∙ rows_on i best r h inv

    -- the last row is empty
    pub rows_end : (i : ℕ) (best r : Closest ℕ) → i + 1 ≡ n → closest ltb cost (drop i (take n w)) i best ≡ r → best ≡ r
    unfolding closest closest_to
    rows_end i best r h e =
        sym (ap (λ (vs : List ℕ). closest ltb cost vs i best) (rest_cons i (omega arith) ∙ ap (λ (vs : List ℕ). get_or w i 0 ∷ vs) (rest_end (suc i) (omega arith)))) ∙ e

    -- the nearest two are no farther than the nearest of a row m
    rows_reach : (k m i a b d : ℕ) (best : Closest ℕ) → i + k ≡ m → m < n
        → closest_to ltb cost (get_or w m 0) m (drop (m + 1) (take n w)) (m + 1) nothing ≡ between a b d → AtMost (closest ltb cost (drop i (take n w)) i best) d
    unfolding closest
    rows_reach zero m i a b d best e h is =
        let here : i ≡ m = omega arith in
        subst (λ (x : ℕ). AtMost (closest ltb cost (drop x (take n w)) x best) d) (sym here)
        (subst (λ (c : Closest ℕ). AtMost c d) (rows_on m best _ h refl)
        (rows_keep (drop (m + 1) (take n w)) (m + 1) _ d
        (subst (λ (c : Closest ℕ). AtMost c d) (sym (row_taken (get_or w m 0) m (drop (m + 1) (take n w)) (m + 1) best a b d _ is refl)) (closer_takes best a b d))))
    rows_reach (suc k) m i a b d best e h is =
        subst (λ (vs : List ℕ). AtMost (closest ltb cost vs i best) d) (sym (rest_cons i (omega arith))) (rows_reach k m (suc i) a b d _ (omega arith) h is)

    pub row_reaches : (m a b d : ℕ) → m < n → closest_to ltb cost (get_or w m 0) m (drop (m + 1) (take n w)) (m + 1) nothing ≡ between a b d
        → AtMost (closest ltb cost (take n w) 0 nothing) d
    row_reaches m a b d h is = rows_reach m m 0 a b d nothing (omega arith) h is
