-- Laws of choices of pairs in specs/Cheapest: how often each node stands in one, the pairs in rising order of their lower nodes, and what they cost.
use mathlib.Core.Path.{◌≡◌, refl, sym, ap, ◌∙◌, subst}
use mathlib.Core.Logic.{inl, inr}
use mathlib.Core.Bool.{Bool, true, false}
use mathlib.Core.List.{List, [], ◌∷◌, ◌++◌, reverse, reverse-cons}
use Prim.Native.Nat.{ℕ, zero, suc, ◌+◌, ◌*◌, ◌≤◌, ◌<◌, zero-le}
use native.Mathlib.Nat.{lt_of_not-le}
use native.Mathlib.Omega.{arith}
use lib.ListN.{length}
use lib.Dec.{ltb}
use lib.Ieee.{Float, binary64, add}
use borrow.Author.Tests.{ltb-true, ltb-false, le-ltb}
use Rattle.lists.specs.Members.{In, All}
use Rattle.lists.proofs.Members.{either, all_in, in_all, all_imp}
use Rattle.graph_spec.specs.Odd.{hit}
use Rattle.graph_spec.proofs.Sums.{hit_same, hit_other, hit_cases}
use Rattle.graph_spec.proofs.Occurs.{count}
use Rattle.repair_spec.specs.Distance.{zero_length}
use Rattle.repair_spec.specs.Pairing.{Pair, pair, ends, without, add_pairs, cost_of}
use Rattle.repair_spec.specs.Cheapest.{NoneTwice, LeavesTwo, lower_first, insert, rising, choice_cost}
use Rattle.repair_spec.proofs.Pairs.{AllButTwo}
use Rattle.repair_spec.proofs.Without.{in_count, count_in, without_count, without_length, Among, stands, after_first}

-- ---- how often a node stands in a list

count_none : (v : ℕ) (us : List ℕ) → (In v us → ⊥) → count v us ≡ 0
unfolding count
count_none v [] h = refl
count_none v (u ∷ us) h = omega (arith, hit_other u v (λ e. h (inl (sym e))), count_none v us (λ i. h (inr i)))

once_count : (v : ℕ) (us : List ℕ) → NoneTwice us → count v us ≤ 1
unfolding count
once_count v [] a = zero-le
once_count v (u ∷ us) a = elim (hit_cases u v) [
  | inl p ↦ omega (arith, p.1, count_none v us (λ i. a.0 (subst (λ (w : ℕ). In w us) (sym p.0) i)))
  | inr p ↦ omega (arith, p.1, once_count v us a.1)
]

count_once : (us : List ℕ) → ((v : ℕ) → count v us ≤ 1) → NoneTwice us
unfolding count
count_once [] h = tt
count_once (u ∷ us) h = (λ i. omega (arith, h u, hit_same u, in_count u us i), count_once us (λ v. omega (arith, h v)))

-- of a list that is two longer two are left
left_over : (us vs : List ℕ) → Among us vs → length us + 2 ≡ length vs → (x y : ℕ) × ((v : ℕ) → count v us + hit x v + hit y v ≡ count v vs)
unfolding count
left_over [] [] h e = absurd (omega arith)
left_over [] (x ∷ []) h e = absurd (omega arith)
left_over [] (x ∷ y ∷ []) h e = (x, y, λ v. omega arith)
left_over [] (x ∷ y ∷ z ∷ vs) h e = absurd (omega arith)
left_over (u ∷ us) vs h e =
    let there = stands u us vs h in
    let r = left_over us (without u vs) (after_first u us vs h) (omega (arith, without_length u vs there)) in
    (r.0, r.1, λ v. omega (arith, r.2 v, without_count u vs v there))

same_length : (us vs : List ℕ) → ((v : ℕ) → count v us ≡ count v vs) → length us ≡ length vs
unfolding count
same_length [] [] h = refl
same_length [] (v ∷ vs) h = absurd (omega (arith, h v, hit_same v))
same_length (u ∷ us) vs h =
    let there : 0 < count u vs = omega (arith, h u, hit_same u) in
    omega (arith, without_length u vs there, same_length us (without u vs) (λ v. omega (arith, h v, without_count u vs v there)))

-- a choice that leaves two out, by how often each node stands in it
pub leaves_counts : (vs : List ℕ) (ps : List Pair) → LeavesTwo vs ps → AllButTwo vs ps
leaves_counts vs ps L =
    let r = left_over (ends ps) vs fewer L.two_left in
    record { x = r.0; y = r.1; counts = r.2 }
  where
    fewer : Among (ends ps) vs
    fewer v = go (count v (ends ps)) refl
      where
        go : (c : ℕ) → count v (ends ps) ≡ c → c ≤ count v vs
        go zero e = zero-le
        go (suc c) e = omega (arith, once_count v (ends ps) L.once, in_count v vs (all_in (λ (w : ℕ). In w vs) (ends ps) L.nodes v (count_in v (ends ps) (omega arith))))

ends_number : (vs : List ℕ) (ps : List Pair) → AllButTwo vs ps → length (ends ps) + 2 ≡ length vs
unfolding count
ends_number vs ps b = omega (arith, same_length (b.x ∷ b.y ∷ ends ps) vs (λ v. omega (arith, b.counts v)))

pub counts_leave : (vs : List ℕ) (ps : List Pair) → NoneTwice vs → AllButTwo vs ps → LeavesTwo vs ps
unfolding count
counts_leave vs ps a b = record {
  nodes = in_all (λ (v : ℕ). In v vs) (ends ps) (λ v i. count_in v vs (omega (arith, in_count v (ends ps) i, b.counts v)));
  once = count_once (ends ps) (λ v. omega (arith, once_count v vs a, b.counts v));
  two_left = ends_number vs ps b;
}

-- how many pairs that are
ends_length : (ps : List Pair) → length (ends ps) ≡ 2 * length ps
unfolding ends
ends_length [] = refl
ends_length (p ∷ ps) = omega (arith, ends_length ps)

pub pairs_number : (vs : List ℕ) (ps : List Pair) → AllButTwo vs ps → 2 * length ps + 2 ≡ length vs
pairs_number vs ps b = omega (arith, ends_length ps, ends_number vs ps b)

pub leaves_number : (vs : List ℕ) (ps : List Pair) → LeavesTwo vs ps → 2 * length ps + 2 ≡ length vs
leaves_number vs ps L = omega (arith, ends_length ps, L.two_left)

-- ---- pairs in rising order of their lower nodes

abbrev pub Rises : List Pair → Type 0
Rises [] = Unit {0}
Rises (p ∷ ps) = All (λ (q : Pair). p.from ≤ q.from) ps × Rises ps

abbrev pub LowerFirst : List Pair → Type 0
LowerFirst = All (λ (p : Pair). p.from < p.to)

insert_all : (P : Pair → Type 0) (p : Pair) (qs : List Pair) → P p → All P qs → All P (insert p qs)
unfolding insert
insert_all P p [] h a = (h, tt)
insert_all P p (q ∷ qs) h a = either (All P) (q ∷ insert p qs) (p ∷ q ∷ qs) (a.0, insert_all P p qs h a.1) (h, a) (ltb q.from p.from)

insert_rises : (p : Pair) (qs : List Pair) → Rises qs → Rises (insert p qs)
unfolding insert
insert_rises p [] a = (tt, tt)
insert_rises p (q ∷ qs) a = go (ltb q.from p.from) refl (insert_rises p qs a.1)
  where
    go : (t : Bool) → ltb q.from p.from ≡ t → Rises (insert p qs) → Rises (elim t [ true ↦ q ∷ insert p qs | false ↦ p ∷ q ∷ qs ])
    go true e r = (insert_all (λ (s : Pair). q.from ≤ s.from) p qs (omega (arith, ltb-true q.from p.from e)) a.0, r)
    go false e r =
        let l : p.from ≤ q.from = ltb-false q.from p.from e in
        ((l, all_imp (λ (s : Pair). q.from ≤ s.from) (λ (s : Pair). p.from ≤ s.from) (λ s h. omega arith) qs a.0), a)

insert_count : (v : ℕ) (p : Pair) (qs : List Pair) → count v (ends (insert p qs)) ≡ hit p.from v + (hit p.to v + count v (ends qs))
unfolding insert count ends
insert_count v p [] = refl
insert_count v p (q ∷ qs) = go (ltb q.from p.from) (insert_count v p qs)
  where
    go : (t : Bool) → count v (ends (insert p qs)) ≡ hit p.from v + (hit p.to v + count v (ends qs))
        → count v (ends (elim t [ true ↦ q ∷ insert p qs | false ↦ p ∷ q ∷ qs ])) ≡ hit p.from v + (hit p.to v + (hit q.from v + (hit q.to v + count v (ends qs))))
    go true r = omega (arith, r)
    go false r = refl

-- the two nodes of a pair, the lower first
record Lower (p q : Pair) : Type 0 where
  first : (p.from ≡ p.to → ⊥) → q.from < q.to
  same : (v : ℕ) → hit q.from v + hit q.to v ≡ hit p.from v + hit p.to v

lower : (p : Pair) → Lower p (lower_first p)
unfolding lower_first
lower p = go (ltb p.to p.from) refl
  where
    go : (t : Bool) → ltb p.to p.from ≡ t → Lower p (lower_first p)
    go true e = rw (e, lower_first) (record { first = λ _. ltb-true p.to p.from e; same = λ v. omega arith })
    go false e = rw (e, lower_first) (record { first = λ h. lt_of_not-le (λ l. h (omega (arith, ltb-false p.to p.from e))); same = λ v. refl })

pub rising_rises : (ps : List Pair) → Rises (rising ps)
unfolding rising
rising_rises [] = tt
rising_rises (p ∷ ps) = insert_rises (lower_first p) (rising ps) (rising_rises ps)

pub rising_lower : (ps : List Pair) → NoneTwice (ends ps) → LowerFirst (rising ps)
unfolding rising ends
rising_lower [] a = tt
rising_lower (p ∷ ps) a = insert_all (λ (q : Pair). q.from < q.to) (lower_first p) (rising ps) ((lower p).first (λ e. a.0 (inl e))) (rising_lower ps a.1.1)

pub rising_count : (v : ℕ) (ps : List Pair) → count v (ends (rising ps)) ≡ count v (ends ps)
unfolding rising count ends
rising_count v [] = refl
rising_count v (p ∷ ps) = omega (arith, insert_count v (lower_first p) (rising ps), rising_count v ps, (lower p).same v)

pub rising_number : (ps : List Pair) → length (rising ps) ≡ length ps
rising_number ps = omega (arith, ends_length (rising ps), ends_length ps, same_length (ends (rising ps)) (ends ps) (λ v. rising_count v ps))

-- what holds of the nodes of pairs holds of the same nodes in another order
module _ (P : ℕ → Type 0) where
  abbrev pub Both : Pair → Type 0
  Both p = P p.from × P p.to

  by_pairs : (ps : List Pair) → All P (ends ps) → All Both ps
  unfolding ends
  by_pairs [] a = tt
  by_pairs (p ∷ ps) a = ((a.0, a.1.0), by_pairs ps a.1.1)

  pub rising_both : (ps : List Pair) → All P (ends ps) → All Both (rising ps)
  rising_both ps a = by_pairs (rising ps) (in_all P (ends (rising ps)) (λ v i. all_in P (ends ps) a v (count_in v (ends ps) (omega (arith, rising_count v ps, in_count v (ends (rising ps)) i)))))

-- a pair whose lower node is below all others comes first
insert_first : (p : Pair) (qs : List Pair) → All (λ (q : Pair). p.from ≤ q.from) qs → insert p qs ≡ p ∷ qs
unfolding insert
insert_first p [] a = refl
insert_first p (q ∷ qs) a = ap (λ (t : Bool). elim t [ true ↦ q ∷ insert p qs | false ↦ p ∷ q ∷ qs ]) (le-ltb q.from p.from a.0)

pub rising_first : (u v : ℕ) (ps : List Pair) → u < v → All (λ (w : ℕ). u < w) (ends ps) → rising (pair u v ∷ ps) ≡ pair u v ∷ rising ps
unfolding rising lower_first
rising_first u v ps l a =
    ap (λ (t : Bool). insert (elim t [ true ↦ pair v u | false ↦ pair u v ]) (rising ps)) (le-ltb v u (omega arith))
    ∙ insert_first (pair u v) (rising ps) (all_imp (Both (λ (w : ℕ). u < w)) (λ (q : Pair). u ≤ q.from) (λ q b. omega (arith, b.0)) (rising ps) (rising_both (λ (w : ℕ). u < w) ps a))

-- ---- sums

module _ (d : ℕ → ℕ → Float) where
  last_added : (ps : List Pair) (p : Pair) (x : Float) → add_pairs d (ps ++ (p ∷ [])) x ≡ add binary64 (add_pairs d ps x) (d p.from p.to)
  unfolding add_pairs
  last_added [] p x = refl
  last_added (q ∷ ps) p x = last_added ps p _

  -- of pairs in rising order the first is added last
  pub cost_first : (p : Pair) (ps : List Pair) → cost_of d (reverse (p ∷ ps)) ≡ add binary64 (cost_of d (reverse ps)) (d p.from p.to)
  unfolding cost_of
  cost_first p ps = ap (cost_of d) (reverse-cons p ps) ∙ last_added (reverse ps) p zero_length

-- what the cost of any pairs has, that of a choice has
pub choice_has : (Q : Float → Type 0) (d : ℕ → ℕ → Float) → ((ps : List Pair) → Q (cost_of d ps)) → (ps : List Pair) → Q (choice_cost d ps)
unfolding choice_cost
choice_has Q d all ps = all (reverse (rising ps))

-- distances that agree on the nodes of the pairs give one cost
pub cost_same : (P : ℕ → Type 0) (e d : ℕ → ℕ → Float) → ((u v : ℕ) → P u → P v → e u v ≡ d u v) → (ps : List Pair) (x : Float) → All (Both P) ps → add_pairs e ps x ≡ add_pairs d ps x
unfolding add_pairs
cost_same P e d same [] x h = refl
cost_same P e d same (p ∷ ps) x h = ap (λ (y : Float). add_pairs e ps (add binary64 x y)) (same p.from p.to h.0.0 h.0.1) ∙ cost_same P e d same ps _ h.1
