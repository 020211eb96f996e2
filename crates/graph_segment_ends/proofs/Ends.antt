-- Laws of specs/Ends.
use mathlib.Core.Path.{◌≡◌, refl, sym, ap, subst, ◌∙◌}
use mathlib.Core.Bool.{Bool, true, false}
use mathlib.Core.List.{List, [], ◌∷◌}
use Prim.Native.Nat.{ℕ, suc, ◌+◌, ◌≤◌, ◌<◌}
use native.Mathlib.Nat.{add-zero, zero-add, add-suc, suc-add}
use native.Mathlib.Omega.{arith}
use lib.ListN.{length, get_or, set, replicate, length-set, length-replicate, get_or-replicate}
use lib.Seq.{get_or-set_same, get_or-set_other}
use lib.Dec.{eqb}
use borrow.Author.Tests.{eqb-true, eqb-false}
use Rattle.limits.specs.Limits.{most_points, most_splits}
use Rattle.graph_segment_ends.specs.Ends.{Filed, file_end, filed}

abbrev pub no_ends : Filed
no_ends = filed (replicate most_points most_splits) (replicate most_splits most_splits)

-- with the ends whose segments are gs, the first of which has the number i
unfoldable pub filed_all : ℕ → List ℕ → Filed → Filed
unfolding file_end
filed_all i [] t = t
filed_all i (g ∷ gs) t = filed_all (suc i) gs (file_end i g t)

-- the ends of the segment g, the newest first, in front of those found before
unfoldable pub newest : ℕ → ℕ → List ℕ → List ℕ → List ℕ
newest g i [] found = found
newest g i (x ∷ gs) found = elim (eqb x g) [ true ↦ newest g (suc i) gs (i ∷ found) | false ↦ newest g (suc i) gs found ]

-- From the end e on, the ends rs are found, with numbers below m, each older than the one before, and then none.
unfoldable pub Chained : ℕ → List ℕ → ℕ → List ℕ → Type 0
Chained m ns e [] = most_splits ≤ e
Chained m ns e (r ∷ rs) = (e ≡ r) × (r < m) × Chained r ns (get_or ns r 0) rs

pub chained_length : (m : ℕ) (ns : List ℕ) (e : ℕ) (rs : List ℕ) → Chained m ns e rs → length rs ≤ m
unfolding Chained
chained_length m ns e [] c = omega arith
chained_length m ns e (r ∷ rs) c = omega (arith, c.1, chained_length r ns (get_or ns r 0) rs c.2)

chained_more : (m m' : ℕ) (ns : List ℕ) (e : ℕ) (rs : List ℕ) → m ≤ m' → Chained m ns e rs → Chained m' ns e rs
unfolding Chained
chained_more m m' ns e [] h c = c
chained_more m m' ns e (r ∷ rs) h c = (c.0, omega (arith, c.1), c.2)

-- a newer end leaves them
chained_set : (m i v : ℕ) (ns : List ℕ) (e : ℕ) (rs : List ℕ) → m ≤ i → Chained m ns e rs → Chained m (set ns i v) e rs
unfolding Chained
chained_set m i v ns e [] h c = c
chained_set m i v ns e (r ∷ rs) h c =
    let off : r ≡ i → ⊥ = omega (arith, c.1) in (
      c.0,
      c.1,
      subst (λ (k : ℕ). Chained r (set ns i v) k rs) (sym (get_or-set_other ns i r v 0 off)) (chained_set r i v ns (get_or ns r 0) rs (omega (arith, c.1)) c.2),
    )

unfoldable pub Below : List ℕ → Type 0
Below [] = Unit
Below (g ∷ gs) = (g < most_points) × Below gs

heads_long : (i x : ℕ) (t : Filed) → length (file_end i x t).heads ≡ length t.heads
unfolding file_end
heads_long i x t = length-set t.heads x i

next_long : (i x : ℕ) (t : Filed) → length (file_end i x t).next ≡ length t.next
unfolding file_end
next_long i x t = length-set t.next i (get_or t.heads x 0)

module _ (g : ℕ) where
  turn : (i x : ℕ) (t : Filed) (found : List ℕ) → i < most_splits → x < most_points → length t.heads ≡ most_points → length t.next ≡ most_splits → Chained i t.next (get_or t.heads g 0) found
      → (b : Bool) → eqb x g ≡ b → Chained (suc i) (file_end i x t).next (get_or (file_end i x t).heads g 0) (elim b [ true ↦ i ∷ found | false ↦ found ])
  unfolding file_end Chained
  turn i x t found hi hx lh ln c true b =
      let is = eqb-true x g b in
      let low : x < length t.heads = omega arith in
      let room : i < length t.next = omega arith in (
        ap (λ (k : ℕ). get_or (set t.heads x i) k 0) (sym is) ∙ get_or-set_same t.heads x i 0 low,
        omega arith,
        subst (λ (k : ℕ). Chained i (set t.next i (get_or t.heads x 0)) k found)
            (sym (get_or-set_same t.next i (get_or t.heads x 0) 0 room ∙ ap (λ (k : ℕ). get_or t.heads k 0) is))
            (chained_set i i (get_or t.heads x 0) t.next (get_or t.heads g 0) found (omega arith) c),
      )
  turn i x t found hi hx lh ln c false b =
      let no = eqb-false x g b in
      subst (λ (k : ℕ). Chained (suc i) (set t.next i (get_or t.heads x 0)) k found) (sym (get_or-set_other t.heads x g i 0 (λ z. no (sym z))))
      (chained_more i (suc i) _ _ found (omega arith) (chained_set i i (get_or t.heads x 0) t.next (get_or t.heads g 0) found (omega arith) c))

  newest_elim : (i x : ℕ) (gs found : List ℕ) (b : Bool) → newest g (suc i) gs (elim b [ true ↦ i ∷ found | false ↦ found ]) ≡ elim b [ true ↦ newest g (suc i) gs (i ∷ found) | false ↦ newest g (suc i) gs found ]
  newest_elim i x gs found true = refl
  newest_elim i x gs found false = refl

  chained_all : (i : ℕ) (gs : List ℕ) (t : Filed) (found : List ℕ) → i + length gs ≤ most_splits → Below gs → length t.heads ≡ most_points → length t.next ≡ most_splits
      → Chained i t.next (get_or t.heads g 0) found → Chained (i + length gs) (filed_all i gs t).next (get_or (filed_all i gs t).heads g 0) (newest g i gs found)
  unfolding filed_all newest Below
  chained_all i [] t found h b lh ln c = subst (λ (k : ℕ). Chained k t.next (get_or t.heads g 0) found) (sym (add-zero i)) c
  chained_all i (x ∷ gs) t found h b lh ln c =
      let t' = file_end i x t in
      let more = turn i x t found (omega arith) b.0 lh ln c (eqb x g) refl in
      let rest = chained_all (suc i) gs t' _ (omega arith) b.1 (heads_long i x t ∙ lh) (next_long i x t ∙ ln) more in
      let all = subst (λ (q : List ℕ). Chained (suc i + length gs) (filed_all (suc i) gs t').next (get_or (filed_all (suc i) gs t').heads g 0) q) (newest_elim i x gs found (eqb x g)) rest in
      subst (λ (k : ℕ). Chained k (filed_all (suc i) gs t').next (get_or (filed_all (suc i) gs t').heads g 0) (newest g i (x ∷ gs) found)) (suc-add i (length gs) ∙ sym (add-suc i (length gs))) all

-- Following the list of a segment gives its ends, the newest first.
pub filed_chained : (gs : List ℕ) (g : ℕ) → length gs ≤ most_splits → Below gs → g < most_points
    → Chained (length gs) (filed_all 0 gs no_ends).next (get_or (filed_all 0 gs no_ends).heads g 0) (newest g 0 gs [])
unfolding Chained
filed_chained gs g h b hg =
    let none : most_splits ≤ get_or no_ends.heads g 0 = omega (arith, get_or-replicate {A = ℕ} most_points g most_splits 0 hg) in
    subst (λ (k : ℕ). Chained k (filed_all 0 gs no_ends).next (get_or (filed_all 0 gs no_ends).heads g 0) (newest g 0 gs [])) (zero-add (length gs))
    (chained_all g 0 gs no_ends [] (omega arith) b (length-replicate {A = ℕ} most_points most_splits) (length-replicate {A = ℕ} most_splits most_splits) none)
