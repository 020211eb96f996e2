-- A made link ends where the segments that it names end, so no segment bends and no chain of the drawing changes: its pieces are those of the lines by themselves.
use mathlib.Core.Path.{◌≡◌, refl, sym, ap, ◌∙◌, subst}
use mathlib.Core.Logic.{◌⊎◌, inl, inr}
use mathlib.Core.List.{List, [], ◌∷◌, ◌++◌, map}
use mathlib.Core.Bool.{Bool, true, false, ◌&&◌, not, false≢true}
use Prim.Native.Nat.{ℕ, zero, suc, ◌+◌, ◌-◌, ◌<◌}
use native.Mathlib.Omega.{arith}
use lib.ListN.{length, get_or}
use lib.Dec.{eqb}
use borrow.Author.Tests.{eqb-true}
use Rattle.lists.specs.Members.{All}
use Rattle.drawing_spec.specs.Drawing.{Point, no_point, same, Link, Drawing}
use Rattle.drawing_spec.proofs.Same.{same_refl}
use Rattle.graph_spec.specs.Chain.{naming, splits, sort, inner, distinct, chain}
use Rattle.graph_spec.specs.Pieces.{pieces, line_pieces, pieces_from, pieces_of}
use Rattle.graph_spec.proofs.Strokes.{sort_all}
use Rattle.links_spec.specs.Candidates.{Candidate, line_at, end_point, end_segment}
use Rattle.links_spec.specs.Made.{made, as_link, made_links, linked}

module _ (ls : List (List Point)) where
  -- ---- no segment bends

  module _ (l s : ℕ) (inside : suc s < length (line_at ls l)) where
    abbrev from : Point
    from = get_or (line_at ls l) s no_point

    abbrev to : Point
    to = get_or (line_at ls l) (suc s) no_point

    abbrev AtEnd : Point → Type 0
    AtEnd p = (p ≡ from) ⊎ (p ≡ to)

    end_at : (e : ℕ) → end_segment (line_at ls l) e ≡ s → AtEnd (end_point (line_at ls l) e)
    unfolding end_segment end_point
    end_at zero q = inl (ap (λ (i : ℕ). get_or (line_at ls l) i no_point) q)
    end_at (suc e) q = let r : length (line_at ls l) - 1 ≡ suc s = omega (arith, q) in inr (ap (λ (i : ℕ). get_or (line_at ls l) i no_point) r)

    naming_at : (m e : ℕ) (ps : List Point) → All AtEnd ps → All AtEnd (naming l s (record { line = m; segment = end_segment (line_at ls m) e; point = end_point (line_at ls m) e }) ps)
    unfolding naming
    naming_at m e ps a = go (eqb m l) refl (eqb (end_segment (line_at ls m) e) s) refl
      where
        go : (t : Bool) → eqb m l ≡ t → (u : Bool) → eqb (end_segment (line_at ls m) e) s ≡ u → All AtEnd (elim (t && u) [ true ↦ end_point (line_at ls m) e ∷ ps | false ↦ ps ])
        go true p true q = (subst (λ (n : ℕ). end_segment (line_at ls n) e ≡ s → AtEnd (end_point (line_at ls n) e)) (sym (eqb-true m l p)) (end_at e) (eqb-true (end_segment (line_at ls m) e) s q), a)
        go true p false q = a
        go false p u q = a

    splits_at : (cs : List Candidate) → All AtEnd (splits (map (as_link ls) cs) l s)
    unfolding splits as_link
    splits_at [] = tt
    splits_at (k ∷ cs) = naming_at k.low k.low_end (naming l s (as_link ls k).second (splits (map (as_link ls) cs) l s)) (naming_at k.high k.high_end (splits (map (as_link ls) cs) l s) (splits_at cs))

    inner_none : (ps : List Point) → All AtEnd ps → inner from to ps ≡ []
    unfolding inner
    inner_none [] a = refl
    inner_none (p ∷ ps) a = go a.0 (inner_none ps a.1)
      where
        drop_one : (t : Bool) → t ≡ false → inner from to ps ≡ [] → ◌≡◌ {A = List Point} (elim t [ true ↦ p ∷ inner from to ps | false ↦ inner from to ps ]) []
        drop_one true e r = absurd (false≢true (sym e))
        drop_one false e r = r

        go : AtEnd p → inner from to ps ≡ [] → ◌≡◌ {A = List Point} (elim (not (same p from) && not (same p to)) [ true ↦ p ∷ inner from to ps | false ↦ inner from to ps ]) []
        go (inl e) r = drop_one (not (same p from) && not (same p to)) (ap (λ (t : Bool). not t && not (same p to)) (ap (λ (q : Point). same q from) e ∙ same_refl from)) r
        go (inr e) r = drop_one (not (same p from) && not (same p to)) (ap (λ (t : Bool). not (same p from) && not t) (ap (λ (q : Point). same q to) e ∙ same_refl to) ∙ right_false (not (same p from))) r
          where
            right_false : (t : Bool) → t && false ≡ false
            right_false true = refl
            right_false false = refl

    -- the chain of every segment is its two ends
    pub chain_whole : chain (made_links ls) l s from to ≡ to ∷ []
    unfolding chain made_links distinct
    chain_whole = ap (λ (ps : List Point). distinct ps ++ (to ∷ [])) (inner_none (sort from (splits (map (as_link ls) (made ls)) l s)) (sort_all AtEnd from (splits (map (as_link ls) (made ls)) l s) (splits_at (made ls))))

  -- as it is without links
  chain_bare : (l s : ℕ) (a b : Point) → chain [] l s a b ≡ b ∷ []
  unfolding chain splits sort inner distinct
  chain_bare l s a b = refl

  -- ---- of the line l from its segment s on

  line_kept : (l s : ℕ) (a : Point) (ps : List Point) → ((i : ℕ) → get_or (line_at ls l) (s + i) no_point ≡ get_or (a ∷ ps) i no_point) → s + suc (length ps) ≡ length (line_at ls l)
      → line_pieces (made_links ls) l s a ps ≡ line_pieces [] l s a ps
  unfolding line_pieces
  line_kept l s a [] at long = refl
  line_kept l s a (b ∷ ps) at long =
      let here : s + 0 ≡ s = omega arith in
      let next : s + 1 ≡ suc s = omega arith in
      let is_a : get_or (line_at ls l) s no_point ≡ a = ap (λ (i : ℕ). get_or (line_at ls l) i no_point) (sym here) ∙ at 0 in
      let is_b : get_or (line_at ls l) (suc s) no_point ≡ b = ap (λ (i : ℕ). get_or (line_at ls l) i no_point) (sym next) ∙ at 1 in
      let c : chain (made_links ls) l s a b ≡ chain [] l s a b = (rw (is_a, is_b) at (chain_whole l s (omega (arith, long)))) ∙ sym (chain_bare l s a b) in
      let r : line_pieces (made_links ls) l (suc s) b ps ≡ line_pieces [] l (suc s) b ps =
      line_kept l (suc s) b ps (λ i. let q : suc s + i ≡ s + suc i = omega arith in ap (λ (j : ℕ). get_or (line_at ls l) j no_point) q ∙ at (suc i)) (omega (arith, long)) in
      λ i. pieces a (c i) ++ r i

  -- ---- of the lines from the line l on

  lines_kept : (l : ℕ) (ms : List (List Point)) → ((i : ℕ) → line_at ls (l + i) ≡ get_or ms i []) → pieces_from (made_links ls) l ms ≡ pieces_from [] l ms
  unfolding pieces_from
  lines_kept l [] at = refl
  lines_kept l (m ∷ ms) at =
      go m (ap (line_at ls) (sym first) ∙ at 0) (lines_kept (suc l) ms (λ i. let q : suc l + i ≡ l + suc i = omega arith in ap (line_at ls) q ∙ at (suc i)))
    where
      first : l + 0 ≡ l
      first = omega arith

      go : (ps : List Point) → line_at ls l ≡ ps → pieces_from (made_links ls) (suc l) ms ≡ pieces_from [] (suc l) ms → pieces_from (made_links ls) l (ps ∷ ms) ≡ pieces_from [] l (ps ∷ ms)
      go [] e rest = rest
      go (a ∷ ps) e rest = let h = line_kept l 0 a ps (λ i. let q : 0 + i ≡ i = omega arith in ap (λ (j : ℕ). get_or (line_at ls l) j no_point) q ∙ ap (λ (qs : List Point). get_or qs i no_point) e) (omega (arith, ap length e)) in λ i. h i ++ rest i

-- The pieces of a drawing that has no links of its own are the same with the links made.
pub pieces_kept : (d : Drawing) → d.links ≡ [] → pieces_of (linked d) ≡ pieces_of d
unfolding pieces_of linked
pieces_kept d none = lines_kept d.lines 0 d.lines (λ i. let q : 0 + i ≡ i = omega arith in ap (line_at d.lines) q) ∙ ap (λ (ks : List Link). pieces_from ks 0 d.lines) (sym none)
