-- The nearest pairs of a list hang on which of two costs is less, and on nothing else of the costs.
use mathlib.Core.Path.{◌≡◌, refl, sym, ap, ◌∙◌, subst}
use mathlib.Core.Bool.{Bool, true, false}
use mathlib.Core.List.{List, [], ◌∷◌}
use Prim.Native.Nat.{ℕ, zero, suc, ◌-◌, ◌≤◌, ◌<◌}
use native.Mathlib.Omega.{arith}
use lib.ListN.{length, get_or, take, set}
use lib.Dec.{ltb}
use borrow.Author.Tests.{ltb-true}
use Rattle.lists.specs.Members.{All}
use Rattle.lists.proofs.Members.{all_at}
use Rattle.repair_spec.specs.Pairing.{Pair, pair, Closest, nothing, between, closer, closest_to, closest, swap_remove, nearest_pairs}
use Rattle.repair_spec.proofs.Pairs.{Places, closest_places}

-- ---- a round: t where more than two are left, c the nearest two, and `rest` the rounds after it

unfoldable pub turn : {A : Type 0} → List ℕ → (List ℕ → List Pair) → Bool → Closest A → List Pair
unfolding swap_remove
turn vs rest t c =
    elim t [
      | false ↦ []
      | true ↦ elim c [
        | nothing ↦ []
        | between i j d ↦ pair (get_or vs i 0) (get_or vs j 0) ∷ rest (swap_remove (swap_remove vs j) i)
      ]
    ]

pub turn_is : {A : Type 0} (less : A → A → Bool) (k : ℕ) (cost : ℕ → ℕ → A) (vs : List ℕ)
    → nearest_pairs less (suc k) cost vs ≡ turn vs (nearest_pairs less k cost) (ltb 2 (length vs)) (closest less cost vs 0 nothing)
unfolding nearest_pairs turn
turn_is less k cost vs = refl

-- whoever begins with a cost above that of the first two, as the source begins with infinity, finds the same two
pub from_above : {A : Type 0} (less : A → A → Bool) (cost : ℕ → ℕ → A) (u v : ℕ) (vs : List ℕ) (top : A) → less (cost u v) top ≡ true
    → closest less cost (u ∷ v ∷ vs) 0 (between 0 1 top) ≡ closest less cost (u ∷ v ∷ vs) 0 nothing
unfolding closest closest_to closer
from_above less cost u v vs top h =
    ap (λ (t : Bool). closest less cost (v ∷ vs) 1 (closest_to less cost u 0 vs 2 (elim t [ true ↦ between 0 1 (cost u v) | false ↦ between 0 1 top ]))) h

-- ---- what holds of all nodes of a list holds of all that are left

module _ (P : ℕ → Type 0) where
  pub all_from : (vs : List ℕ) → ((i : ℕ) → i < length vs → P (get_or vs i 0)) → All P vs
  all_from [] h = tt
  all_from (v ∷ vs) h = (h 0 (omega arith), all_from vs (λ i l. h (suc i) (omega arith)))

  all_take : (n : ℕ) (vs : List ℕ) → All P vs → All P (take n vs)
  all_take zero vs h = tt
  all_take (suc n) [] h = tt
  all_take (suc n) (v ∷ vs) h = (h.0, all_take n vs h.1)

  all_set : (vs : List ℕ) (i x : ℕ) → All P vs → P x → All P (set vs i x)
  all_set [] i x h p = tt
  all_set (v ∷ vs) zero x h p = (p, h.1)
  all_set (v ∷ vs) (suc i) x h p = (h.0, all_set vs i x h.1 p)

  all_removed : (vs : List ℕ) (i : ℕ) → All P vs → All P (swap_remove vs i)
  unfolding swap_remove
  all_removed [] i h = tt
  all_removed (v ∷ vs) i h =
      let n = length (v ∷ vs) - 1 in
      all_take n _ (all_set (v ∷ vs) i _ h (all_at P (v ∷ vs) h n 0 (omega arith)))

  -- both nodes of each pair are of the list
  abbrev Both : Pair → Type 0
  Both p = P p.from × P p.to

  pub nearest_ends : {A : Type 0} (less : A → A → Bool) (k : ℕ) (cost : ℕ → ℕ → A) (vs : List ℕ) → All P vs → All Both (nearest_pairs less k cost vs)
  unfolding nearest_pairs turn
  nearest_ends less zero cost vs h = tt
  nearest_ends {A} less (suc k) cost vs h =
      subst (All Both) (sym (turn_is less k cost vs)) (go (ltb 2 (length vs)) refl (closest less cost vs 0 nothing) (closest_places less cost vs) (nearest_ends less k cost))
    where
      go : (t : Bool) → ltb 2 (length vs) ≡ t → (x : Closest A) → (2 ≤ length vs → Places (length vs) x)
          → ((ws : List ℕ) → All P ws → All Both (nearest_pairs less k cost ws)) → All Both (turn vs (nearest_pairs less k cost) t x)
      go false e x at r = tt
      go true e nothing at r = tt
      go true e (between i j d) at r =
          let l : 2 < length vs = ltb-true 2 (length vs) e in
          let p = at (omega arith) in
          ((all_at P vs h i 0 (omega (arith, p.0, p.1)), all_at P vs h j 0 p.1), r _ (all_removed (swap_remove vs j) i (all_removed vs j h)))

-- ---- two costs that are in the same order on the nodes of the list

-- of nodes with P, one pair costs less than another by the one just where it does by the other
pub record SameOrder {A B : Type 0} (P : ℕ → Type 0) (less : A → A → Bool) (cost : ℕ → ℕ → A) (less' : B → B → Bool) (cost' : ℕ → ℕ → B) : Type 0 where
  pub order : (u v a b : ℕ) → P u → P v → P a → P b → less (cost u v) (cost a b) ≡ less' (cost' u v) (cost' a b)

module _ {A B : Type 0} (P : ℕ → Type 0) (less : A → A → Bool) (cost : ℕ → ℕ → A) (less' : B → B → Bool) (cost' : ℕ → ℕ → B) (O : SameOrder P less cost less' cost') where
  -- the same places, each with its own cost of the same two nodes
  data Alike : Closest A → Closest B → Type 0 where
    none : Alike nothing nothing
    found : (i j a b : ℕ) → P a → P b → Alike (between i j (cost a b)) (between i j (cost' a b))

  alike_closer : (c : Closest A) (e : Closest B) (i j u v : ℕ) → P u → P v → Alike c e → Alike (closer less c i j (cost u v)) (closer less' e i j (cost' u v))
  unfolding closer
  alike_closer c e i j u v p q none = found i j u v p q
  alike_closer c e i j u v p q (found i' j' a b pa pb) =
      subst (λ (t : Bool). Alike (elim (less (cost u v) (cost a b)) [ true ↦ between i j (cost u v) | false ↦ between i' j' (cost a b) ]) (elim t [ true ↦ between i j (cost' u v) | false ↦ between i' j' (cost' a b) ]))
      (O.order u v a b p q pa pb) (go (less (cost u v) (cost a b)))
    where
      go : (t : Bool) → Alike (elim t [ true ↦ between i j (cost u v) | false ↦ between i' j' (cost a b) ]) (elim t [ true ↦ between i j (cost' u v) | false ↦ between i' j' (cost' a b) ])
      go true = found i j u v p q
      go false = found i' j' a b pa pb

  alike_row : (u i : ℕ) (vs : List ℕ) (j : ℕ) (c : Closest A) (e : Closest B) → P u → All P vs → Alike c e → Alike (closest_to less cost u i vs j c) (closest_to less' cost' u i vs j e)
  unfolding closest_to
  alike_row u i [] j c e p h s = s
  alike_row u i (v ∷ vs) j c e p h s = alike_row u i vs (suc j) _ _ p h.1 (alike_closer c e i j u v p h.0 s)

  alike_rows : (us : List ℕ) (i : ℕ) (c : Closest A) (e : Closest B) → All P us → Alike c e → Alike (closest less cost us i c) (closest less' cost' us i e)
  unfolding closest
  alike_rows [] i c e h s = s
  alike_rows (u ∷ us) i c e h s = alike_rows us (suc i) _ _ h.1 (alike_row u i us (suc i) c e h.0 h.1 s)

  pub pairs_alike : (k : ℕ) (vs : List ℕ) → All P vs → nearest_pairs less k cost vs ≡ nearest_pairs less' k cost' vs
  unfolding nearest_pairs turn
  pairs_alike zero vs h = refl
  pairs_alike (suc k) vs h =
      turn_is less k cost vs ∙ go (ltb 2 (length vs)) (closest less cost vs 0 nothing) (closest less' cost' vs 0 nothing) (alike_rows vs 0 nothing nothing h none) (pairs_alike k) ∙ sym (turn_is less' k cost' vs)
    where
      go : (t : Bool) (x : Closest A) (y : Closest B) → Alike x y → ((ws : List ℕ) → All P ws → nearest_pairs less k cost ws ≡ nearest_pairs less' k cost' ws)
          → turn vs (nearest_pairs less k cost) t x ≡ turn vs (nearest_pairs less' k cost') t y
      go false x y s r = refl
      go true x y none r = refl
      go true x y (found i j a b pa pb) r = ap (λ (ps : List Pair). pair (get_or vs i 0) (get_or vs j 0) ∷ ps) (r _ (all_removed P (swap_remove vs j) i (all_removed P vs j h)))
