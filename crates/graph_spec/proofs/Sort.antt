-- The sort of split points by whole numbers is the source's sort by lengths: `sort` compares squared distances in grid steps, the source's `build_graph` the f64 that `hypot` gives,
-- by a sort that is stable.
use mathlib.Core.Path.{◌≡◌, refl, ap, ◌∙◌}
use mathlib.Core.Bool.{Bool, true, false}
use mathlib.Core.List.{List, [], ◌∷◌}
use Prim.Native.Nat.{◌^◌, ◌<◌}
use native.Mathlib.Omega.{arith}
use lib.Dec.{ltb, leb, lit≤}
use lib.Ieee.{Float, lt}
use borrow.Author.Tests.{lt-ltb, le-ltb, leb-true, leb-false}
use Rattle.grid.specs.Grid.{grid_exponent}
use Rattle.length.specs.Root.{length_of}
use Rattle.length.proofs.LengthLaws.{squared_lt, length_order}
use Rattle.drawing_spec.specs.Drawing.{Point}
use Rattle.lists.specs.Members.{All}
use Rattle.drawing_spec.specs.OnGrid.{OnGrid}
use Rattle.graph_spec.specs.Chain.{squared, insert, sort}
use Rattle.graph_spec.proofs.Strokes.{sort_all}

-- the source's distance of a split point from the start a of its segment
abbrev pub length_from : Point → Point → Float
length_from a p = length_of (squared a p)

-- p goes behind those that are strictly nearer, and stays in front of all others
unfoldable pub insert_by_length : Point → Point → List Point → List Point
insert_by_length a p [] = p ∷ []
insert_by_length a p (q ∷ qs) = elim (lt (length_from a q) (length_from a p)) [ true ↦ q ∷ insert_by_length a p qs | false ↦ p ∷ q ∷ qs ]

unfoldable pub sort_by_length : Point → List Point → List Point
unfolding insert_by_length
sort_by_length a [] = []
sort_by_length a (p ∷ ps) = insert_by_length a p (sort_by_length a ps)

pub small_squared : (p q : Point) → OnGrid p → OnGrid q → squared p q < 2 ^ 50
small_squared p q P Q = squared_lt p.x p.y q.x q.y (omega (arith, P.0)) (omega (arith, P.1)) (omega (arith, Q.0)) (omega (arith, Q.1))

module _ (a : Point) (A : OnGrid a) where
  insert_by_length_lem : (p : Point) (qs : List Point) → OnGrid p → All OnGrid qs → insert_by_length a p qs ≡ insert a p qs
  unfolding insert_by_length insert
  insert_by_length_lem p [] P Q = refl
  insert_by_length_lem p (q ∷ qs) P Q =
      ap (λ (t : Bool). elim t [ true ↦ q ∷ insert_by_length a p qs | false ↦ p ∷ q ∷ qs ])
      (length_order grid_exponent (lit≤ tt) (squared a q) (squared a p) (small_squared a q A Q.0) (small_squared a p A P))
      ∙ go (leb (squared a p) (squared a q)) refl (insert_by_length_lem p qs P Q.1)
    where
      go : (t : Bool) → leb (squared a p) (squared a q) ≡ t → insert_by_length a p qs ≡ insert a p qs
          → ◌≡◌ {A = List Point} (elim (ltb (squared a q) (squared a p)) [ true ↦ q ∷ insert_by_length a p qs | false ↦ p ∷ q ∷ qs ]) (elim t [ true ↦ p ∷ q ∷ qs | false ↦ q ∷ insert a p qs ])
      go true h r = rw (le-ltb (squared a q) (squared a p) (leb-true (squared a p) (squared a q) h)) refl
      go false h r = rw (lt-ltb (squared a q) (squared a p) (leb-false (squared a p) (squared a q) h)) (ap (λ (rs : List Point). q ∷ rs) r)

  -- for points of the grid the source's order of split points is the definition's
  pub sort_by_length_lem : (ps : List Point) → All OnGrid ps → sort_by_length a ps ≡ sort a ps
  unfolding sort_by_length sort
  sort_by_length_lem [] P = refl
  sort_by_length_lem (p ∷ ps) P = ap (insert_by_length a p) (sort_by_length_lem ps P.1) ∙ insert_by_length_lem p (sort a ps) P.0 (sort_all OnGrid a ps P.1)
