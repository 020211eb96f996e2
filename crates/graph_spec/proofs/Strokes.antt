-- Strokes and points of use: pieces are the steps of a chain between different points. The two ends of a stroke differ and are points of use, and a point of use is a point
-- of a line or an end of a link.
use mathlib.Core.Path.{◌≡◌, refl, sym, ap, ◌∙◌, subst}
use mathlib.Core.List.{List, [], ◌∷◌}
use mathlib.Core.Bool.{Bool, true, false, ◌&&◌, not, cond}
use Prim.Native.Nat.{ℕ, suc, ◌+◌}
use native.Mathlib.Omega.{arith}
use lib.Dec.{eqb, leb}
use Rattle.drawing_spec.specs.Drawing.{Point, same, End, Link, Drawing}
use Rattle.drawing_spec.proofs.Same.{same_true, differ}
use Rattle.lists.specs.Members.{All}
use Rattle.lists.proofs.Members.{either, all_append, all_front, all_back}
use Rattle.drawing_spec.specs.OnGrid.{AtEnds}
use Rattle.graph_spec.specs.Chain.{squared, naming, splits, insert, sort, inner, changes, distinct, chain}
use Rattle.graph_spec.specs.Pieces.{Stroke, stroke, pieces, line_pieces, line_uses, pieces_from, uses_from, pieces_of, link_strokes, links_of, strokes_of, link_uses, uses_of}
use Rattle.graph_spec.specs.Count.{sum_over, line_sum, lies, steps_between, strokes_between}

-- ---- wherever two different points follow each other in a chain, there is one piece between them, and between a point and itself there is none

not_both : (s t : Bool) → (s ≡ true → t ≡ true → ⊥) → s && t ≡ false
not_both true true h = absurd (h refl refl)
not_both true false h = refl
not_both false t h = refl

-- nothing from a point to itself lies between two different points
lies_still : (p q a : Point) → same p q ≡ false → lies p q a a ≡ 0
lies_still p q a d =
    let apart : same a p ≡ true → same a q ≡ true → ⊥ = λ e f. differ p q d (sym (same_true a p e) ∙ same_true a q f) in
    simp (not_both (same a p) (same a q) apart, not_both (same a q) (same a p) (λ f e. apart e f))

-- and nothing between different points lies between a point and itself
pub lies_own : (p a b : Point) → same a b ≡ false → lies p p a b ≡ 0
lies_own p a b d = simp (not_both (same a p) (same b p) (λ e f. differ a b d (same_true a p e ∙ sym (same_true b p f))))

pub pieces_steps : (p q a : Point) (bs : List Point) → strokes_between p q (pieces a bs) ≡ cond (same p q) 0 (steps_between p q (a ∷ bs))
unfolding pieces sum_over line_sum
pieces_steps p q a [] = none (same p q)
  where
    none : (t : Bool) → ◌≡◌ {A = ℕ} 0 (cond t 0 0)
    none true = refl
    none false = refl
pieces_steps p q a (b ∷ bs) = go (same a b) (same p q) refl refl (pieces_steps p q b bs)
  where
    go : (s t : Bool) → same a b ≡ s → same p q ≡ t → strokes_between p q (pieces b bs) ≡ cond t 0 (steps_between p q (b ∷ bs))
        → strokes_between p q (elim s [ true ↦ pieces b bs | false ↦ stroke a b ∷ pieces b bs ]) ≡ cond t 0 (steps_between p q (a ∷ b ∷ bs))
    go true true e f r = r
    go true false e f r = let z : lies p q a b ≡ 0 = subst (λ (c : Point). lies p q a c ≡ 0) (same_true a b e) (lies_still p q a f) in omega arith
    go false true e f r = let z : lies p q a b ≡ 0 = subst (λ (c : Point). lies p c a b ≡ 0) (same_true p q f) (lies_own p a b e) in omega arith
    go false false e f r = ap (λ (n : ℕ). lies p q a b + n) r

-- ---- what holds of every point of use holds of the ends of every stroke

-- both ends have the property P, and they differ
pub record Between (P : Point → Type 0) (s : Stroke) : Type 0 where
  pub from : P s.from
  pub to : P s.to
  pub apart : same s.from s.to ≡ false

module _ (P : Point → Type 0) where
  pieces_between : (p : Point) (qs : List Point) → P p → All P qs → All (Between P) (pieces p qs)
  unfolding pieces
  pieces_between p [] h a = tt
  pieces_between p (q ∷ qs) h a = go (same p q) refl (pieces_between q qs a.0 a.1)
    where
      go : (t : Bool) → same p q ≡ t → All (Between P) (pieces q qs) → All (Between P) (elim t [ true ↦ pieces q qs | false ↦ stroke p q ∷ pieces q qs ])
      go true e r = r
      go false e r = (record { from = h; to = a.0; apart = e }, r)

  chain_end : (ks : List Link) (l s : ℕ) (a b : Point) → All P (chain ks l s a b) → P b
  unfolding chain
  chain_end ks l s a b u = (all_back P (distinct (inner a b (sort a (splits ks l s)))) (b ∷ []) u).0

  line_between : (ks : List Link) (l s : ℕ) (a : Point) (ps : List Point) → P a → All P (line_uses ks l s a ps) → All (Between P) (line_pieces ks l s a ps)
  unfolding line_pieces line_uses
  line_between ks l s a [] h u = tt
  line_between ks l s a (b ∷ ps) h u =
      let c = chain ks l s a b in
      let own = all_front P c (line_uses ks l (suc s) b ps) u in
      all_append (Between P) (pieces a c) (line_pieces ks l (suc s) b ps)
      (pieces_between a c h own) (line_between ks l (suc s) b ps (chain_end ks l s a b own) (all_back P c (line_uses ks l (suc s) b ps) u))

  lines_between : (ks : List Link) (l : ℕ) (ls : List (List Point)) → All P (uses_from ks l ls) → All (Between P) (pieces_from ks l ls)
  unfolding pieces_from uses_from
  lines_between ks l [] u = tt
  lines_between ks l ([] ∷ ls) u = lines_between ks (suc l) ls u
  lines_between ks l ((a ∷ ps) ∷ ls) u =
      let own = all_front P (a ∷ line_uses ks l 0 a ps) (uses_from ks (suc l) ls) u in
      all_append (Between P) (line_pieces ks l 0 a ps) (pieces_from ks (suc l) ls)
      (line_between ks l 0 a ps own.0 own.1) (lines_between ks (suc l) ls (all_back P (a ∷ line_uses ks l 0 a ps) (uses_from ks (suc l) ls) u))

  links_between : (ks : List Link) → All P (link_uses ks) → All (Between P) (link_strokes ks)
  unfolding link_strokes link_uses
  links_between [] u = tt
  links_between (k ∷ ks) u =
      all_append (Between P) (pieces k.first.point (k.second.point ∷ [])) (link_strokes ks)
      (pieces_between k.first.point (k.second.point ∷ []) u.0 (u.1.0, tt)) (links_between ks u.1.1)

  pub strokes_between_lem : (d : Drawing) → All P (uses_of d) → All (Between P) (strokes_of d)
  unfolding uses_of pieces_of links_of
  strokes_between_lem d u =
      let lines = uses_from d.links 0 d.lines in
      all_append (Between P) (pieces_of d) (links_of d)
      (lines_between d.links 0 d.lines (all_front P lines (link_uses d.links) u)) (links_between d.links (all_back P lines (link_uses d.links) u))

-- ---- what holds of every point of a line and every end of a link holds of every point of use

module _ (P : Point → Type 0) where
  naming_all : (l s : ℕ) (e : End) (ps : List Point) → P e.point → All P ps → All P (naming l s e ps)
  unfolding naming
  naming_all l s e ps h a = either (All P) (e.point ∷ ps) ps (h, a) a (eqb e.line l && eqb e.segment s)

  splits_all : (ks : List Link) (l s : ℕ) → All (AtEnds P) ks → All P (splits ks l s)
  unfolding splits
  splits_all [] l s a = tt
  splits_all (k ∷ ks) l s a =
      naming_all l s k.first (naming l s k.second (splits ks l s)) a.0.0 (naming_all l s k.second (splits ks l s) a.0.1 (splits_all ks l s a.1))

  insert_all : (a p : Point) (ps : List Point) → P p → All P ps → All P (insert a p ps)
  unfolding insert
  insert_all a p [] h u = (h, tt)
  insert_all a p (q ∷ qs) h u = either (All P) (p ∷ q ∷ qs) (q ∷ insert a p qs) (h, u) (u.0, insert_all a p qs h u.1) (leb (squared a p) (squared a q))

  pub sort_all : (a : Point) (ps : List Point) → All P ps → All P (sort a ps)
  unfolding sort
  sort_all a [] u = tt
  sort_all a (p ∷ ps) u = insert_all a p (sort a ps) u.0 (sort_all a ps u.1)

  inner_all : (a b : Point) (ps : List Point) → All P ps → All P (inner a b ps)
  unfolding inner
  inner_all a b [] u = tt
  inner_all a b (p ∷ ps) u = let r = inner_all a b ps u.1 in either (All P) (p ∷ inner a b ps) (inner a b ps) (u.0, r) r (not (same p a) && not (same p b))

  changes_all : (p : Point) (qs : List Point) → All P qs → All P (changes p qs)
  unfolding changes
  changes_all p [] u = tt
  changes_all p (q ∷ qs) u = either (All P) (changes p qs) (q ∷ changes q qs) (changes_all p qs u.1) (u.0, changes_all q qs u.1) (same q p)

  distinct_all : (ps : List Point) → All P ps → All P (distinct ps)
  unfolding distinct
  distinct_all [] u = tt
  distinct_all (p ∷ ps) u = (u.0, changes_all p ps u.1)

  module _ (ks : List Link) (ends : All (AtEnds P) ks) where
    chain_all : (l s : ℕ) (a b : Point) → P b → All P (chain ks l s a b)
    unfolding chain
    chain_all l s a b h =
        let kept = distinct (inner a b (sort a (splits ks l s))) in
        all_append P kept (b ∷ []) (distinct_all (inner a b (sort a (splits ks l s))) (inner_all a b (sort a (splits ks l s)) (sort_all a (splits ks l s) (splits_all ks l s ends)))) (h, tt)

    line_all : (l s : ℕ) (a : Point) (ps : List Point) → All P ps → All P (line_uses ks l s a ps)
    unfolding line_uses
    line_all l s a [] u = tt
    line_all l s a (b ∷ ps) u = all_append P (chain ks l s a b) (line_uses ks l (suc s) b ps) (chain_all l s a b u.0) (line_all l (suc s) b ps u.1)

    lines_all : (l : ℕ) (ls : List (List Point)) → All (All P) ls → All P (uses_from ks l ls)
    unfolding uses_from
    lines_all l [] u = tt
    lines_all l ([] ∷ ls) u = lines_all (suc l) ls u.1
    lines_all l ((a ∷ ps) ∷ ls) u =
        all_append P (a ∷ line_uses ks l 0 a ps) (uses_from ks (suc l) ls) (u.0.0, line_all l 0 a ps u.0.1) (lines_all (suc l) ls u.1)

  links_all : (ks : List Link) → All (AtEnds P) ks → All P (link_uses ks)
  unfolding link_uses
  links_all [] a = tt
  links_all (k ∷ ks) a = (a.0.0, (a.0.1, links_all ks a.1))

  pub uses_of_all : (d : Drawing) → All (All P) d.lines → All (AtEnds P) d.links → All P (uses_of d)
  unfolding uses_of
  uses_of_all d u a = all_append P (uses_from d.links 0 d.lines) (link_uses d.links) (lines_all d.links a 0 d.lines u) (links_all d.links a)
