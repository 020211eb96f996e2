-- The ends filed under a segment are its split points. Assumes nothing.
use mathlib.Core.Path.{◌≡◌, refl, ap, ◌∙◌}
use mathlib.Core.Bool.{Bool, true, false, ◌&&◌}
use mathlib.Core.List.{List, [], ◌∷◌, map}
use Prim.Native.Nat.{ℕ, suc}
use lib.Dec.{eqb}
use Rattle.drawing_spec.specs.Drawing.{Point, End, Link}
use Rattle.graph_spec.specs.Chain.{naming, splits}
use Rattle.graph_segment_ends.proofs.GatherLaws.{named}

-- the ends of links in their order, the first end of a link before its second
unfoldable pub ends_of : List Link → List End
ends_of [] = []
ends_of (k ∷ ks) = k.first ∷ k.second ∷ ends_of ks

-- The number of an end's segment is g exactly if the end names the segment s of the line l; and f gives the point of each end, the first of which has the number i.
unfoldable pub Filing : (End → ℕ) → (ℕ → Point) → ℕ → ℕ → ℕ → ℕ → List End → Type 0
Filing number f l s g i [] = Unit
Filing number f l s g i (e ∷ es) = (eqb (number e) g ≡ eqb e.line l && eqb e.segment s) × (f i ≡ e.point) × Filing number f l s g (suc i) es

naming_all : ℕ → ℕ → List End → List Point
naming_all l s [] = []
naming_all l s (e ∷ es) = naming l s e (naming_all l s es)

module _ (number : End → ℕ) (f : ℕ → Point) (l s g : ℕ) where
  named_ends : (i : ℕ) (es : List End) → Filing number f l s g i es → map f (named g i (map number es)) ≡ naming_all l s es
  unfolding Filing named naming naming_all
  named_ends i [] h = refl
  named_ends i (e ∷ es) h = go (eqb (number e) g) (eqb e.line l && eqb e.segment s) h.0 (named_ends (suc i) es h.2)
    where
      go : (t u : Bool) → t ≡ u → map f (named g (suc i) (map number es)) ≡ naming_all l s es
          → map f (elim t [ true ↦ i ∷ named g (suc i) (map number es) | false ↦ named g (suc i) (map number es) ])
          ≡ elim u [ true ↦ e.point ∷ naming_all l s es | false ↦ naming_all l s es ]
      go t true q r =
          ap (λ (b : Bool). map f (elim b [ true ↦ i ∷ named g (suc i) (map number es) | false ↦ named g (suc i) (map number es) ])) q
          ∙ ap (λ (p : Point). p ∷ map f (named g (suc i) (map number es))) h.1 ∙ ap (λ (ps : List Point). e.point ∷ ps) r
      go t false q r = ap (λ (b : Bool). map f (elim b [ true ↦ i ∷ named g (suc i) (map number es) | false ↦ named g (suc i) (map number es) ])) q ∙ r

splits_are : (ks : List Link) (l s : ℕ) → naming_all l s (ends_of ks) ≡ splits ks l s
unfolding naming_all ends_of splits
splits_are [] l s = refl
splits_are (k ∷ ks) l s = ap (λ (ps : List Point). naming l s k.first (naming l s k.second ps)) (splits_are ks l s)

-- The points of the ends that are filed under the segment, in link order, are its split points.
pub named_splits : (number : End → ℕ) (f : ℕ → Point) (l s g : ℕ) (ks : List Link) → Filing number f l s g 0 (ends_of ks) → map f (named g 0 (map number (ends_of ks))) ≡ splits ks l s
named_splits number f l s g ks h = named_ends number f l s g 0 (ends_of ks) h ∙ splits_are ks l s
