-- What `pick` finds: a node that is not done and no farther than any other such node, or none where all of these are as far as the one in hand.
use mathlib.Core.Path.{◌≡◌, refl, sym, ap, ◌∙◌}
use mathlib.Core.Logic.{◌⊎◌, inl, inr}
use mathlib.Core.List.{List, [], ◌∷◌}
use mathlib.Core.Bool.{Bool, true, false, true≢false}
use Prim.Native.Nat.{ℕ, zero, suc, ◌+◌, ◌≤◌, ◌<◌, suc-le-suc}
use native.Mathlib.Nat.{le_refl, le_trans, le_of_lt, le_of_suc-le-suc, not-suc-le-zero, zero-lt-suc, add-zero}
use native.Mathlib.Omega.{arith}
use lib.ListN.{length, get_or}
use lib.Ieee.{Float, binary64, lt}
use Rattle.sums.specs.Key.{Nonneg, key}
use Rattle.repair_spec.specs.Distance.{distance_at, Nearest, pick}
use Rattle.repair_spec.specs.Relax.{key_at, AllNonneg}
use Rattle.sums.proofs.KeyLaws.{lt_true, lt_false}

abbrev pub Done : List Bool → ℕ → Type 0
Done done v = get_or done v false ≡ true

abbrev pub Open : List Bool → ℕ → Type 0
Open done v = get_or done v false ≡ false

-- r, picked from distances the first of which is the node v's, with `best` in hand
pub record Picked (ds : List Float) (done : List Bool) (v : ℕ) (best r : Nearest) : Type 0 where
  pub low : key binary64 r.distance ≤ key binary64 best.distance
  pub least : (j : ℕ) → j < length ds → Open done j → key binary64 r.distance ≤ key_at ds j
  pub which : (r ≡ best) ⊎ ((j : ℕ) × (j < length ds) × (r.node ≡ v + j) × (r.distance ≡ distance_at ds j) × Open done j)

-- what holds of the later nodes, and of the first one, holds of all
module _ (d : Float) (ds : List Float) (b : Bool) (done : List Bool) (v : ℕ) (best r : Nearest) (P : Picked ds done (suc v) best r) where
  later : (r ≡ best) ⊎ ((j : ℕ) × (j < length (d ∷ ds)) × (r.node ≡ v + j) × (r.distance ≡ distance_at (d ∷ ds) j) × Open (b ∷ done) j)
  later = elim P.which [ inl e ↦ inl e | inr w ↦ inr (suc w.0, suc-le-suc w.1, omega (arith, w.2), w.3, w.4) ]

  all : (b ≡ false → key binary64 r.distance ≤ key binary64 d) → (j : ℕ) → j < length (d ∷ ds) → Open (b ∷ done) j → key binary64 r.distance ≤ key_at (d ∷ ds) j
  all first zero l o = first o
  all first (suc j) l o = P.least j (le_of_suc-le-suc l) o

pub pick_is : (ds : List Float) (done : List Bool) (v : ℕ) (best : Nearest) → length done ≡ length ds → AllNonneg ds → Nonneg binary64 best.distance
    → Picked ds done v best (pick ds done v best)
unfolding pick
pick_is [] done v best h g n = record { low = le_refl _; least = λ j l. absurd (not-suc-le-zero l); which = inl refl }
pick_is (d ∷ ds) [] v best h g n = absurd (omega arith)
pick_is (d ∷ ds) (true ∷ done) v best h g n =
    let P = pick_is ds done (suc v) best (omega arith) (λ x. g (suc x)) n in
    record { low = P.low; least = all d ds true done v best _ P (λ o. absurd (true≢false o)); which = later d ds true done v best _ P }
pick_is (d ∷ ds) (false ∷ done) v best h g n = go (lt d best.distance) refl (λ c m. pick_is ds done (suc v) c (omega arith) (λ x. g (suc x)) m)
  where
    nearer : Nearest
    nearer = record { node = v; distance = d }

    go : (t : Bool) → lt d best.distance ≡ t → ((c : Nearest) → Nonneg binary64 c.distance → Picked ds done (suc v) c (pick ds done (suc v) c))
        → Picked (d ∷ ds) (false ∷ done) v best (elim t [ true ↦ pick ds done (suc v) (record { node = v; distance = d }) | false ↦ pick ds done (suc v) best ])
    go true h rest =
        let P = rest nearer (g 0) in
        record {
          low = le_trans P.low (le_of_lt (lt_true d best.distance (g 0) n h));
          least = all d ds false done v nearer _ P (λ o. P.low);
          which = inr (elim (later d ds false done v nearer _ P) [
            | inl e ↦ (0, zero-lt-suc _, ap (λ (r : Nearest). r.node) e ∙ sym (add-zero v), ap (λ (r : Nearest). r.distance) e, refl)
            | inr w ↦ w
          ]);
        }
    go false h rest =
        let P = rest best n in
        record {
          low = P.low;
          least = all d ds false done v best _ P (λ o. le_trans P.low (lt_false d best.distance (g 0) n h));
          which = later d ds false done v best _ P;
        }
