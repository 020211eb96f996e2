-- Laws of specs/Optimal.
use Prim.Native.Nat.{ℕ, zero, suc, ◌+◌, ◌-◌, ◌/◌, ◌%◌, ◌^◌, ◌≤◌, ◌<◌}
use native.Mathlib.Omega.{arith}
use mathlib.Core.Path.{◌≡◌, refl, sym, ap, ◌∙◌}
use mathlib.Core.Logic.{◌⊎◌, inl, inr}
use mathlib.Core.List.{List, [], ◌∷◌}
use mathlib.Core.Bool.{Bool, true, false}
use lib.ListN.{length}
use lib.Dec.{ltb}
use lib.Count.{ones}
use lib.Ieee.{Float}
use borrow.Author.Tests.{ltb-true, ltb-false}
use Rattle.graph_spec.specs.Graph.{Edge}
use Rattle.graph_spec.specs.Odd.{odd_from, odd_nodes}
use Rattle.graph_spec.proofs.Handshake.{odd_step}
use Rattle.repair_masks.specs.Places.{node_at, optimal_places}
use Rattle.repair_masks.proofs.Places.{Apart}
use Rattle.repair_masks.specs.Table.{pairing}
use Rattle.repair_masks.proofs.Table.{Known, needed_first}
use Rattle.repair_masks.specs.Left.{left_out}
use Rattle.repair_masks.proofs.Left.{optimal_left}
use Rattle.repair_masks.specs.Follow.{follow}
use Rattle.repair_masks.proofs.Follow.{follow_pairs}
use Rattle.repair_masks.specs.Optimal.{Right}

pub right_known : (n : ℕ) (d : ℕ → ℕ → Float) (cost : ℕ → Float) (partner : ℕ → ℕ) (m : ℕ) → Right n d cost partner m → Known n d cost m
right_known n d cost partner m r m' h e g = (r m' h e g).cost

module _ (n : ℕ) (d : ℕ → ℕ → Float) (cost : ℕ → Float) (partner : ℕ → ℕ) (even : n % 2 ≡ 0) (two : 2 ≤ n) (fits : n ≤ 64) (right : Right n d cost partner (2 ^ n)) where
  left : (optimal_places n d ≡ (pairing n d (left_out n cost).at).pairs) × ((left_out n cost).at < 2 ^ n) × (ones (left_out n cost).at + 2 ≡ n)
  left = optimal_left n d cost (right_known n d cost partner (2 ^ n) right) even two

  pub optimal_table : optimal_places n d ≡ follow (n / 2 - 1) partner (left_out n cost).at
  optimal_table =
      left.0
      ∙ sym (follow_pairs n d fits partner (λ m p h e g. (right m h e g).partner p) (n / 2 - 1) (left_out n cost).at left.1 (omega (arith, left.2)) (needed_first n (left_out n cost).at left.2))

-- ---- the odd nodes are different

-- the first of the nodes is odd and stands first, or it does not stand there
abbrev First : List Edge → ℕ → ℕ → Type 0
First es n v = (odd_from es (suc n) v ≡ v ∷ odd_from es n (suc v)) ⊎ (odd_from es (suc n) v ≡ odd_from es n (suc v))

first : (es : List Edge) (n v : ℕ) → First es n v
first es n v = elim (odd_step es n v) [ inl p ↦ inl p.1 | inr p ↦ inr p.1 ]

no_odd : (es : List Edge) (v : ℕ) → odd_from es 0 v ≡ []
unfolding odd_from
no_odd es v = refl

from_least : (es : List Edge) (n v i : ℕ) → i < length (odd_from es n v) → v ≤ node_at (odd_from es n v) i
from_least es zero v i h = absurd (omega (arith, ap length (no_odd es v)))
from_least es (suc n) v i h = go i (first es n v) h (from_least es n (suc v))
  where
    go : (i : ℕ) → First es n v → i < length (odd_from es (suc n) v)
        → ((j : ℕ) → j < length (odd_from es n (suc v)) → suc v ≤ node_at (odd_from es n (suc v)) j)
        → v ≤ node_at (odd_from es (suc n) v) i
    go zero (inl e) g r = rw e (omega arith)
    go (suc j) (inl e) g r = rw e (omega (arith, r j (omega (arith, ap length e))))
    go zero (inr e) g r = rw e (omega (arith, r 0 (rw e at g)))
    go (suc j) (inr e) g r = rw e (omega (arith, r (suc j) (rw e at g)))

from_ascends : (es : List Edge) (n v i j : ℕ) → i < j → j < length (odd_from es n v) → node_at (odd_from es n v) i < node_at (odd_from es n v) j
from_ascends es zero v i j l h = absurd (omega (arith, ap length (no_odd es v)))
from_ascends es (suc n) v i j l h = go i j (first es n v) l h (from_ascends es n (suc v))
  where
    rest : List ℕ
    rest = odd_from es n (suc v)

    go : (i j : ℕ) → First es n v → i < j → j < length (odd_from es (suc n) v)
        → ((i' j' : ℕ) → i' < j' → j' < length rest → node_at rest i' < node_at rest j')
        → node_at (odd_from es (suc n) v) i < node_at (odd_from es (suc n) v) j
    go i zero f l' g r = absurd (omega arith)
    go zero (suc j') (inl e) l' g r = rw e (omega (arith, from_least es n (suc v) j' (omega (arith, ap length e))))
    go (suc i') (suc j') (inl e) l' g r = rw e (r i' j' (omega arith) (omega (arith, ap length e)))
    go i (suc j') (inr e) l' g r = rw e (r i (suc j') l' (rw e at g))

pub odd_apart : (n : ℕ) (es : List Edge) → Apart (node_at (odd_nodes n es)) (length (odd_nodes n es))
odd_apart n es i j h k e = go (ltb i j) refl (ltb j i) refl
  where
    go : (s : Bool) → ltb i j ≡ s → (t : Bool) → ltb j i ≡ t → i ≡ j
    go true p t q = absurd (omega (arith, from_ascends es n 0 i j (ltb-true i j p) k))
    go false p true q = absurd (omega (arith, from_ascends es n 0 j i (ltb-true j i q) h))
    go false p false q = omega (arith, ltb-false i j p, ltb-false j i q)
