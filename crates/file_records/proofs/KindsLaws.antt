-- Laws of specs/Kind.
use Prim.Native.Nat.{ℕ}
use mathlib.Core.Path.{◌≡◌, refl, ap, ◌∙◌}
use mathlib.Core.Bool.{Bool, true, false}
use lib.Dec.{eqb}
use borrow.Author.Tests.{eqb-true, eqb-false}
use Rattle.file_records.specs.declared.Kind.TheVariants as kind
use Rattle.file_records.specs.Kind.{kind_of}

-- each number is 1, 2 or 3, or none of them
pub data Number (k : ℕ) : Type 0 where
  first : k ≡ 1 → Number k
  second : k ≡ 2 → Number k
  third : k ≡ 3 → Number k
  none : (k ≡ 1 → ⊥) → (k ≡ 2 → ⊥) → (k ≡ 3 → ⊥) → kind_of k ≡ kind.Other → Number k

pub number_of : (k : ℕ) → Number k
number_of k = go (eqb k 1) refl (eqb k 2) refl (eqb k 3) refl
  where
    go : (a : Bool) → eqb k 1 ≡ a → (b : Bool) → eqb k 2 ≡ b → (c : Bool) → eqb k 3 ≡ c → Number k
    go true p b q c r = first (eqb-true k 1 p)
    go false p true q c r = second (eqb-true k 2 q)
    go false p false q true r = third (eqb-true k 3 r)
    go false p false q false r = none (eqb-false k 1 p) (eqb-false k 2 q) (eqb-false k 3 r) (rw (p, q, r))

-- and its kind tells which
module _ (k : ℕ) where
  pub settings_number : kind.Settings ≡ kind_of k → k ≡ 1
  settings_number h = go (number_of k)
    where
      go : Number k → k ≡ 1
      go (first e) = e
      go (second e) = let z : kind.Settings ≡ kind.Line = h ∙ ap kind_of e in absurd cc
      go (third e) = let z : kind.Settings ≡ kind.Link = h ∙ ap kind_of e in absurd cc
      go (none p q r o) = let z : kind.Settings ≡ kind.Other = h ∙ o in absurd cc

  pub line_number : kind.Line ≡ kind_of k → k ≡ 2
  line_number h = go (number_of k)
    where
      go : Number k → k ≡ 2
      go (first e) = let z : kind.Line ≡ kind.Settings = h ∙ ap kind_of e in absurd cc
      go (second e) = e
      go (third e) = let z : kind.Line ≡ kind.Link = h ∙ ap kind_of e in absurd cc
      go (none p q r o) = let z : kind.Line ≡ kind.Other = h ∙ o in absurd cc

  pub link_number : kind.Link ≡ kind_of k → k ≡ 3
  link_number h = go (number_of k)
    where
      go : Number k → k ≡ 3
      go (first e) = let z : kind.Link ≡ kind.Settings = h ∙ ap kind_of e in absurd cc
      go (second e) = let z : kind.Link ≡ kind.Line = h ∙ ap kind_of e in absurd cc
      go (third e) = e
      go (none p q r o) = let z : kind.Link ≡ kind.Other = h ∙ o in absurd cc

  pub other_number : kind.Other ≡ kind_of k → (k ≡ 1 → ⊥) × (k ≡ 2 → ⊥) × (k ≡ 3 → ⊥)
  other_number h = (
    λ e. let z : kind.Other ≡ kind.Settings = h ∙ ap kind_of e in cc,
    λ e. let z : kind.Other ≡ kind.Line = h ∙ ap kind_of e in cc,
    λ e. let z : kind.Other ≡ kind.Link = h ∙ ap kind_of e in cc,
  )
