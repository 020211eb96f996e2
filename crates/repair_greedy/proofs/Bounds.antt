-- Laws of specs/Bounds.
use mathlib.Core.Path.{◌≡◌, refl, sym, ap, subst, ◌∙◌}
use mathlib.Core.Logic.{inl, inr}
use mathlib.Core.Bool.{Bool, true, false}
use mathlib.Core.List.{List, [], ◌∷◌}
use Prim.Native.Nat.{ℕ, zero, suc, ◌+◌, ◌-◌, ◌≤◌, ◌<◌, zero-le}
use native.Mathlib.Omega.{arith}
use lib.ListN.{length, get_or, take, drop, set, replicate}
use lib.Seq.{get_or-set_other}
use lib.Dec.{eqb, ltb}
use borrow.Author.Tests.{eqb-true, eqb-false}
use Rattle.lists.proofs.Elements.{set_cases, get_d_same}
use Rattle.repair_spec.specs.Pairing.{nothing, between, closest_to}
use Rattle.repair_greedy.proofs.Rows.{row_skipped, row_least}
use Rattle.repair_greedy.specs.Bounds.{Bounds, cost_at}

-- a bound of 0, also where there is no such place
zero_there : (lows : List ℕ) (i : ℕ) → get_or (set lows i 0) i 0 ≡ 0
zero_there [] i = refl
zero_there (l ∷ lows) zero = refl
zero_there (l ∷ lows) (suc i) = zero_there lows i

module _ (cost : ℕ → ℕ → ℕ) (w : List ℕ) (n : ℕ) where
  -- nothing is nearer than 0
  pub bounds_zero : (m : ℕ) → Bounds cost w n (replicate m 0)
  unfolding Bounds
  bounds_zero m i j h k = rw (get_d_same {A = ℕ} m i 0) zero-le

  -- a row's bound may be replaced by another one
  pub bounds_set : (lows : List ℕ) (i d : ℕ) → Bounds cost w n lows → ((j : ℕ) → i < j → j < n → d ≤ cost_at cost w i j) → Bounds cost w n (set lows i d)
  unfolding Bounds
  bounds_set lows i d B h a b l k = elim (set_cases lows i d 0 a) [
    | inl p ↦ rw p.1 (subst (λ (x : ℕ). d ≤ cost_at cost w x b) (sym p.0) (h b (omega (arith, p.0)) k))
    | inr e ↦ rw e (B a b l k)
  ]

  -- The last place's node goes to the place i, and there are n - 1 places: only that node's row has other places than before, so that its bound
  -- is taken back to 0. Another row a loses the last place, or the place i with it, but where i is after a the node is still after a.
  pub bounds_removed : (lows : List ℕ) (i : ℕ) → i < n → Bounds cost w n lows → Bounds cost (set w i (get_or w (n - 1) 0)) (n - 1) (set lows i 0)
  unfolding Bounds
  bounds_removed lows i h B a b l k = go (eqb a i) refl
    where
      last : ℕ
      last = get_or w (n - 1) 0

      go : (t : Bool) → eqb a i ≡ t → get_or (set lows i 0) a 0 ≤ cost_at cost (set w i (get_or w (n - 1) 0)) a b
      go true e = let here = eqb-true a i e in subst (λ (x : ℕ). x ≤ cost_at cost (set w i (get_or w (n - 1) 0)) a b) (sym (ap (λ (x : ℕ). get_or (set lows i 0) x 0) here ∙ zero_there lows i)) zero-le
      go false e =
          let off = eqb-false a i e in
          subst (λ (x : ℕ). x ≤ cost_at cost (set w i (get_or w (n - 1) 0)) a b) (sym (get_or-set_other lows i a 0 0 off))
          (subst (λ (u : ℕ). get_or lows a 0 ≤ cost u (get_or (set w i (get_or w (n - 1) 0)) b 0)) (sym (get_or-set_other w i a (get_or w (n - 1) 0) 0 off))
          (elim (set_cases w i (get_or w (n - 1) 0) 0 b) [
            | inl p ↦ subst (λ (v : ℕ). get_or lows a 0 ≤ cost (get_or w a 0) v) (sym p.1) (B a (n - 1) (omega arith) (omega arith))
            | inr g ↦ subst (λ (v : ℕ). get_or lows a 0 ≤ cost (get_or w a 0) v) (sym g) (B a b l (omega arith))
          ]))

-- ---- a row in the search, by its bound

module _ (cost : ℕ → ℕ → ℕ) (w : List ℕ) (n : ℕ) (long : n ≤ length w) where
  -- it is passed over where nothing in it can be nearer than what is in hand
  pub row_passed : (lows : List ℕ) (i a b d : ℕ) → i < n → Bounds cost w n lows → d ≤ get_or lows i 0
      → closest_to ltb cost (get_or w i 0) i (drop (i + 1) (take n w)) (i + 1) (between a b d) ≡ between a b d
  unfolding Bounds
  row_passed lows i a b d h B l =
      row_skipped cost w n long (get_or w i 0) i (i + 1) a b d (omega arith) (λ k g m. omega (arith, B i k (omega arith) m))

  -- the distance found in it is its bound
  pub row_bounds : (lows : List ℕ) (i a b d : ℕ) → Bounds cost w n lows
      → closest_to ltb cost (get_or w i 0) i (drop (i + 1) (take n w)) (i + 1) nothing ≡ between a b d → Bounds cost w n (set lows i d)
  row_bounds lows i a b d B e =
      bounds_set cost w n lows i d B (λ j h k. row_least cost w n long (get_or w i 0) i (i + 1) a b d nothing e j (omega arith) k)

  -- it is no more than that of the row's first place
  pub row_small : (i a b d : ℕ) → i + 1 < n → closest_to ltb cost (get_or w i 0) i (drop (i + 1) (take n w)) (i + 1) nothing ≡ between a b d → d ≤ cost_at cost w i (i + 1)
  row_small i a b d h e = row_least cost w n long (get_or w i 0) i (i + 1) a b d nothing e (i + 1) (omega arith) h
