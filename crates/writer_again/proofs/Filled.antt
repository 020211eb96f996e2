-- Laws of specs/Filled: lists filled one index after another.
use mathlib.Core.Path.{◌≡◌, refl, sym, ap, ◌∙◌}
use mathlib.Core.List.{List, [], ◌∷◌, ◌++◌}
use Prim.Native.Nat.{ℕ, zero, suc, ◌+◌, ◌-◌, ◌*◌, ◌≤◌, ◌<◌}
use native.Mathlib.Nat.{mul-zero, sub-zero}
use native.Mathlib.Omega.{arith}
use lib.ListN.{length, set}
use lib.Seq.{sets}
use Rattle.lists.proofs.Parts.{sets_append}
use Rattle.writer_again.specs.Filled.{appended}

-- ---- one index after another

appended_one : (f : ℕ → List ℕ) (n i : ℕ) → i < n → appended f (n - i) i ≡ f i ++ appended f (n - (i + 1)) (i + 1)
unfolding appended
appended_one f n i h =
    let more : n - i ≡ suc (n - (i + 1)) = omega arith in
    let next : suc i ≡ i + 1 = omega arith in
    ap (λ (k : ℕ). appended f k i) more ∙ ap (λ (j : ℕ). f i ++ appended f (n - (i + 1)) j) next

appended_none : (f : ℕ → List ℕ) (k i : ℕ) → k ≡ 0 → appended f k i ≡ []
unfolding appended
appended_none f zero i h = refl
appended_none f (suc k) i h = absurd (omega arith)

-- Of n indices those below i are done, w numbers each: with what the others give behind them the list is the one that is to be filled.
pub record Filling (f : ℕ → List ℕ) (w : ℕ) (start : List ℕ) (n i : ℕ) (vs : List ℕ) : Type 0 where
  pub inside : i ≤ n
  pub same : sets vs (w * i) (appended f (n - i) i) ≡ sets start 0 (appended f n 0)

pub fill_start : (f : ℕ → List ℕ) (w : ℕ) (start : List ℕ) (n : ℕ) → Filling f w start n 0 start
fill_start f w start n = record { inside = omega arith; same = ap (λ (k : ℕ). sets start k (appended f (n - 0) 0)) (mul-zero w) ∙ ap (λ (k : ℕ). sets start 0 (appended f k 0)) (sub-zero n) }

module _ (f : ℕ → List ℕ) (w : ℕ) (start : List ℕ) (n i : ℕ) (vs : List ℕ) (h : Filling f w start n i vs) where
  pub fill_turn : i < n → length (f i) ≡ w → (at : ℕ) → at ≡ w * i → (vs' : List ℕ) → vs' ≡ sets vs at (f i) → Filling f w start n (i + 1) vs'
  fill_turn l z at e vs' is =
      let rest = appended f (n - (i + 1)) (i + 1) in
      let place : w * (i + 1) ≡ w * i + length (f i) = omega arith in
      record {
        inside = omega arith;
        same =
            ap (λ (vs : List ℕ). sets vs (w * (i + 1)) rest) (is ∙ ap (λ (k : ℕ). sets vs k (f i)) e)
            ∙ ap (λ (k : ℕ). sets (sets vs (w * i) (f i)) k rest) place
            ∙ sym (sets_append vs (w * i) (f i) rest)
            ∙ ap (sets vs (w * i)) (sym (appended_one f n i l))
            ∙ h.same;
      }

  pub fill_end : n ≤ i → vs ≡ sets start 0 (appended f n 0)
  fill_end l = sym (ap (sets vs (w * i)) (appended_none f (n - i) i (omega arith))) ∙ h.same

-- ---- stores one behind the other

pub two_sets : (l : List ℕ) (k a b a' b' : ℕ) → a' ≡ a → b' ≡ b → set (set l k a') (k + 1) b' ≡ sets l k (a ∷ b ∷ [])
two_sets l k a b a' b' ea eb = let one : k + 1 ≡ suc k = omega arith in λ i. set (set l k (ea i)) (one i) (eb i)

pub four_sets : (l : List ℕ) (k a b c d a' b' c' d' : ℕ) → a' ≡ a → b' ≡ b → c' ≡ c → d' ≡ d → set (set (set (set l k a') (k + 1) b') (k + 2) c') (k + 3) d' ≡ sets l k (a ∷ b ∷ c ∷ d ∷ [])
four_sets l k a b c d a' b' c' d' ea eb ec ed =
    let one : k + 1 ≡ suc k = omega arith in
    let two : k + 2 ≡ suc (suc k) = omega arith in
    let three : k + 3 ≡ suc (suc (suc k)) = omega arith in
    λ i. set (set (set (set l k (ea i)) (one i) (eb i)) (two i) (ec i)) (three i) (ed i)
