-- Laws of specs/Follow.
use mathlib.Core.Path.{◌≡◌, refl, sym, ap, subst, ◌∙◌}
use mathlib.Core.Bool.{Bool, true, false}
use mathlib.Core.List.{List, [], ◌∷◌, ◌++◌, map, append_assoc}
use Prim.Native.Nat.{ℕ, zero, suc, ◌+◌, ◌-◌, ◌≤◌, ◌<◌}
use native.Mathlib.Decide.{dec_le}
use native.Mathlib.Omega.{arith}
use lib.ListN.{length, get_or, length-append}
use lib.Seq.{get_or_at}
use borrow.Author.Tests.{lt-ltb, le-ltb}
use Rattle.limits.specs.Limits.{most_splits}
use Rattle.drawing_spec.specs.Drawing.{Point}
use Rattle.graph_spec.specs.Chain.{squared, insert, inner, changes}
use Rattle.graph_splits.specs.Buffer.{Buffer, inserted_split}
use Rattle.graph_splits.proofs.Sorted.{Holds, holds_none, insert_holds}
use Rattle.graph_splits.specs.Next.{at}
use Rattle.graph_splits.specs.Points.{Points, point_in}
use Rattle.graph_segment_ends.specs.Gather.{Gathered, gathered_as, gathered, insert_all}
use Rattle.graph_segment_ends.proofs.GatherLaws.{insert_length, gather_none, gather_end, gather_step}
use Rattle.file_drawing.specs.Back.{points_back}
use Rattle.graph_moves.specs.Moves.{draw_all}
use Rattle.graph_strokes.specs.Step.{Traced}
use Rattle.graph_chain.specs.Along.{traced_along, Traceable}
use Rattle.graph_chain.specs.Kept.{chain_in}
use Rattle.graph_line.specs.Follow.{Scratch, chain_from, follow, sorted_from}

pub follow_none : (fuel : ℕ) (ns : List ℕ) (e : ℕ) → most_splits ≤ e → follow fuel ns e ≡ []
unfolding follow
follow_none zero ns e h = refl
follow_none (suc fuel) ns e h = ap (λ (t : Bool). elim t [ true ↦ e ∷ follow fuel ns (get_or ns e 0) | false ↦ [] ]) (le-ltb e most_splits h)

pub follow_one : (fuel : ℕ) (ns : List ℕ) (e : ℕ) → e < most_splits → follow (suc fuel) ns e ≡ e ∷ follow fuel ns (get_or ns e 0)
unfolding follow
follow_one fuel ns e h = ap (λ (t : Bool). elim t [ true ↦ e ∷ follow fuel ns (get_or ns e 0) | false ↦ [] ]) (lt-ltb e most_splits h)

-- ---- what is gathered is what is followed

-- the answer holds ps and the ends rs
abbrev Sorted : Point → Points → Gathered → List ℕ → List Point → Type 0
Sorted a k g rs ps = (g.count ≡ length (insert_all a (point_in k) rs ps)) × Holds a g.splits (insert_all a (point_in k) rs ps)

module _ (a : Point) (k : Points) (ns : List ℕ) where
  gather_follow : (fuel e : ℕ) (ps : List Point) (b : Buffer) → length ps + fuel ≤ most_splits → Holds a b ps
      → Sorted a k (gathered a fuel k ns e (length ps) b) (follow fuel ns e) ps
  unfolding insert_all follow
  gather_follow zero e ps b f H = subst (λ (g : Gathered). Sorted a k g (follow 0 ns e) ps) (sym (gather_end a k ns 0 e (length ps) b refl)) none
    where
      none : Sorted a k (gathered_as (length ps) b) (follow 0 ns e) ps
      none = (refl, H)
  gather_follow (suc fuel) e ps b f H = elim (dec_le (suc e) most_splits) [ yes h ↦ some h (gather_follow fuel (get_or ns e 0) (insert a (point_in k e) ps)) | no h ↦ none (omega arith) ]
    where
      none : most_splits ≤ e → Sorted a k (gathered a (suc fuel) k ns e (length ps) b) (follow (suc fuel) ns e) ps
      none h =
          subst (λ (rs : List ℕ). Sorted a k (gathered a (suc fuel) k ns e (length ps) b) rs ps) (sym (follow_none (suc fuel) ns e h))
          (subst (λ (g : Gathered). Sorted a k g [] ps) (sym (gather_none a k ns (suc fuel) e (length ps) b h)) (refl, H))

      some : e < most_splits
          → ((b' : Buffer) → length (insert a (point_in k e) ps) + fuel ≤ most_splits → Holds a b' (insert a (point_in k e) ps)
          → Sorted a k (gathered a fuel k ns (get_or ns e 0) (length (insert a (point_in k e) ps)) b') (follow fuel ns (get_or ns e 0)) (insert a (point_in k e) ps))
          → Sorted a k (gathered a (suc fuel) k ns e (length ps) b) (follow (suc fuel) ns e) ps
      some h rest =
          let more : length (insert a (point_in k e) ps) ≡ suc (length ps) = insert_length a (point_in k e) ps in
          let one : length (insert a (point_in k e) ps) ≡ length ps + 1 = omega arith in
          let less : fuel ≡ suc fuel - 1 = omega arith in
          let b' = inserted_split (length ps) (squared a (point_in k e)) (get_or k.xs e 0) (get_or k.ys e 0) b in
          let H' : Holds a b' (insert a (point_in k e) ps) = insert_holds a (point_in k e) b ps H (omega arith) in
          subst (λ (rs : List ℕ). Sorted a k (gathered a (suc fuel) k ns e (length ps) b) rs ps) (sym (follow_one fuel ns e h))
          (subst (λ (g : Gathered). Sorted a k g (e ∷ follow fuel ns (get_or ns e 0)) ps) (sym (gather_step a k ns (suc fuel) e (length ps) b (omega arith) h))
          (subst (λ (m : ℕ). Sorted a k (gathered a m k ns (get_or ns e 0) (length ps + 1) b') (follow fuel ns (get_or ns e 0)) (insert a (point_in k e) ps)) less
          (subst (λ (m : ℕ). Sorted a k (gathered a fuel k ns (get_or ns e 0) m b') (follow fuel ns (get_or ns e 0)) (insert a (point_in k e) ps)) one
          (rest b' (omega arith) H'))))

-- ---- the buffer read back

abbrev px : Point → ℕ
px p = p.x

abbrev py : Point → ℕ
py p = p.y

points_read : (ps : List Point) (i : ℕ) (dx dy rx ry : List ℕ) → length dx ≡ i → length dy ≡ i
    → points_back (length ps) i (dx ++ (map px ps ++ rx)) (dy ++ (map py ps ++ ry)) ≡ ps
unfolding points_back
points_read [] i dx dy rx ry hx hy = refl
points_read (p ∷ ps) i dx dy rx ry hx hy =
    let xs = map px ps ++ rx in
    let ys = map py ps ++ ry in
    let lx : length (dx ++ (p.x ∷ [])) ≡ suc i = omega (arith, length-append dx (p.x ∷ [])) in
    let ly : length (dy ++ (p.y ∷ [])) ≡ suc i = omega (arith, length-append dy (p.y ∷ [])) in
    ap (λ (m : ℕ). at m (get_or (dy ++ (p.y ∷ ys)) i 0) ∷ points_back (length ps) (suc i) (dx ++ (p.x ∷ xs)) (dy ++ (p.y ∷ ys))) (get_or_at dx p.x xs 0 i hx)
    ∙ ap (λ (m : ℕ). at p.x m ∷ points_back (length ps) (suc i) (dx ++ (p.x ∷ xs)) (dy ++ (p.y ∷ ys))) (get_or_at dy p.y ys 0 i hy)
    ∙ ap (λ (m : List ℕ). p ∷ points_back (length ps) (suc i) m (dy ++ (p.y ∷ ys))) (sym (append_assoc dx (p.x ∷ []) xs))
    ∙ ap (λ (m : List ℕ). p ∷ points_back (length ps) (suc i) ((dx ++ (p.x ∷ [])) ++ xs) m) (sym (append_assoc dy (p.y ∷ []) ys))
    ∙ ap (λ (qs : List Point). p ∷ qs) (points_read ps (suc i) (dx ++ (p.x ∷ [])) (dy ++ (p.y ∷ [])) rx ry lx ly)

holds_read : (a : Point) (b : Buffer) (ps : List Point) → Holds a b ps → points_back (length ps) 0 b.xs b.ys ≡ ps
holds_read a b ps H =
    ap (λ (l : List ℕ). points_back (length ps) 0 l b.ys) H.xs.is ∙ ap (points_back (length ps) 0 (map px ps ++ H.xs.rest)) H.ys.is
    ∙ points_read ps 0 [] [] H.xs.rest H.ys.rest refl refl

module _ (a b : Point) (k : Points) (ns : List ℕ) (e n : ℕ) (d d' : Buffer) (S : Scratch d) (g : gathered_as n d' ≡ gathered a most_splits k ns e 0 d) where
  held : Sorted a k (gathered_as n d') (follow most_splits ns e) []
  held = subst (λ (z : Gathered). Sorted a k z (follow most_splits ns e) []) (sym g) (gather_follow a k ns most_splits e [] d (omega arith) (holds_none a d S.keys_long S.xs_long S.ys_long))

  gathered_chain : chain_from k ns e a b ≡ chain_in d'.xs d'.ys n a b
  gathered_chain =
      ap (λ (ps : List Point). changes a (inner a b ps) ++ (b ∷ []))
      (sym (holds_read a d' (sorted_from k ns e a) held.1)
      ∙ ap (λ (m : ℕ). points_back m 0 d'.xs d'.ys) (sym held.0))

  pub segment_ready : (s : Traced) → Traceable a (draw_all (chain_from k ns e a b)) s → Traceable a (draw_all (chain_in d'.xs d'.ys n a b)) s
  segment_ready s t = subst (λ (ps : List Point). Traceable a (draw_all ps) s) gathered_chain t

  pub segment_drawn : (s r : Traced) → r ≡ traced_along a (draw_all (chain_in d'.xs d'.ys n a b)) s → r ≡ traced_along a (draw_all (chain_from k ns e a b)) s
  segment_drawn s r h = h ∙ ap (λ (ps : List Point). traced_along a (draw_all ps) s) (sym gathered_chain)

  pub gathered_scratch : Scratch d'
  gathered_scratch = record { keys_long = held.1.keys.size; xs_long = held.1.xs.size; ys_long = held.1.ys.size }
