-- Laws of specs/Packed: the order of candidates with their lengths.
use mathlib.Core.Path.{◌≡◌, refl, sym, ◌∙◌}
use mathlib.Core.Logic.{◌⊎◌, inl, inr}
use mathlib.Core.Bool.{Bool, true, false, false≢true}
use Prim.Native.Nat.{◌≤◌, ◌<◌}
use native.Mathlib.Omega.{arith}
use lib.Dec.{ltb}
use borrow.Author.Tests.{ltb-true, ltb-false, lt-ltb, le-ltb}
use Rattle.links_tree.specs.declared.Ranked.{Ranked}
use Rattle.links_tree.specs.Packed.{before}
use Rattle.links_tree.proofs.Cases.{not_true}

-- ---- the order

abbrev Key : Ranked → Ranked → Type 0
Key a b = (a.squared < b.squared) ⊎ ((a.squared ≡ b.squared) × (a.code < b.code))

pub before_key : (a b : Ranked) → before a b ≡ true → Key a b
unfolding before
before_key a b h = go (ltb a.squared b.squared) refl (ltb b.squared a.squared) refl h
  where
    go : (s : Bool) → ltb a.squared b.squared ≡ s → (t : Bool) → ltb b.squared a.squared ≡ t
        → elim s [ true ↦ true | false ↦ elim t [ true ↦ false | false ↦ ltb a.code b.code ] ] ≡ true → Key a b
    go true e t f h = inl (ltb-true a.squared b.squared e)
    go false e true f h = absurd (false≢true h)
    go false e false f h = inr (omega (arith, ltb-false a.squared b.squared e, ltb-false b.squared a.squared f), ltb-true a.code b.code h)

pub before_now : (a b : Ranked) → a.squared < b.squared → true ≡ before a b
unfolding before
before_now a b l = rw (lt-ltb a.squared b.squared l, before)

pub before_tie : (a b : Ranked) → b.squared ≤ a.squared → a.squared ≤ b.squared → ltb a.code b.code ≡ before a b
unfolding before
before_tie a b l m = rw (le-ltb a.squared b.squared l, le-ltb b.squared a.squared m, before)

pub key_before : (a b : Ranked) → Key a b → before a b ≡ true
key_before a b (inl l) = sym (before_now a b l)
key_before a b (inr p) = sym (before_tie a b (omega (arith, p.0)) (omega (arith, p.0))) ∙ lt-ltb a.code b.code p.1

pub before_self : (a : Ranked) → before a a ≡ false
before_self a = not_true (before a a) (λ h. elim (before_key a a h) [ inl l ↦ omega arith | inr p ↦ omega (arith, p.1) ])

pub before_trans : (a b c : Ranked) → before a b ≡ true → before b c ≡ true → before a c ≡ true
before_trans a b c h g = key_before a c (go (before_key a b h) (before_key b c g))
  where
    go : Key a b → Key b c → Key a c
    go (inl p) (inl q) = inl (omega arith)
    go (inl p) (inr q) = inl (omega (arith, q.0))
    go (inr p) (inl q) = inl (omega (arith, p.0))
    go (inr p) (inr q) = inr (p.0 ∙ q.0, omega (arith, p.1, q.1))
