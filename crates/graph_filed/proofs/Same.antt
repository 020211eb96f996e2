-- The moves read from the arrays are the moves of the drawing. Assumes nothing.
use mathlib.Core.Path.{◌≡◌, refl, sym, ap, ◌∙◌}
use mathlib.Core.Bool.{Bool, true, false}
use mathlib.Core.List.{List, [], ◌∷◌, ◌++◌, map}
use Prim.Native.Nat.{ℕ, suc, ◌+◌, ◌-◌, ◌*◌, ◌≤◌, ◌<◌}
use native.Mathlib.Nat.{add-zero}
use native.Mathlib.Numerals.{add-one}
use native.Mathlib.Omega.{arith}
use lib.ListN.{length, get_or, drop, length-drop}
use borrow.Author.Tests.{lt-ltb, le-ltb}
use Rattle.drawing_spec.specs.Drawing.{Point, Link, line_points}
use Rattle.lists.proofs.Parts.{at_front, behind_front}
use Rattle.graph_spec.specs.Chain.{chain}
use Rattle.graph_splits.specs.Next.{at}
use Rattle.graph_splits.specs.Points.{Points, points, point_in}
use Rattle.graph_segment_ends.proofs.Splits.{ends_of}
use Rattle.file_drawing.specs.Stores.{xs_of, ys_of, ends_from}
use Rattle.file_drawing.specs.Back.{points_back}
use Rattle.file_drawing.proofs.Back.{points_back_lem, this_line, other_lines}
use Rattle.graph_moves.specs.Moves.{Move, start, on, draw_all, line_moves}
use Rattle.graph_moves.proofs.Moves.{lines_moves, link_moves}
use Rattle.graph_line.specs.Lines.{Filing, chains_of, segments_from, line_in}
use Rattle.graph_lines.specs.All.{lines_in, links_in}
use Rattle.graph_filed.proofs.Ends.{end_x, end_y}

-- ---- chains that are the same make the same moves

line_same : (c d : ℕ → Point → Point → List Point) (g s : ℕ) (a : Point) (ps : List Point) → ((j : ℕ) → j < length ps → (p q : Point) → c (g + j) p q ≡ d (s + j) p q) → line_moves c g a ps ≡ line_moves d s a ps
unfolding line_moves
line_same c d g s a [] h = refl
line_same c d g s a (b ∷ ps) h =
    let first : c g a b ≡ d s a b = ap (λ (k : ℕ). c k a b) (sym (add-zero g)) ∙ h 0 (omega arith) a b ∙ ap (λ (k : ℕ). d k a b) (add-zero s) in
    let next : (j : ℕ) → j < length ps → (p q : Point) → c (suc g + j) p q ≡ d (suc s + j) p q =
    λ j l p q. let hg : suc g + j ≡ g + suc j = omega arith in
    let hs : s + suc j ≡ suc s + j = omega arith in
    ap (λ (k : ℕ). c k p q) hg ∙ h (suc j) (omega arith) p q ∙ ap (λ (k : ℕ). d k p q) hs in
    ap (λ (qs : List Point). draw_all qs ++ line_moves c (suc g) b ps) first ∙ ap (λ (ms : List Move). draw_all (d s a b) ++ ms) (line_same c d (suc g) (suc s) b ps next)

-- ---- lines

-- the moves of one line
own_moves : List Link → ℕ → List Point → List Move
own_moves ks l [] = []
own_moves ks l (a ∷ ps) = start a ∷ line_moves (chain ks l) 0 a ps

module _ (ks : List Link) (f : Filing) (xs ys starts : List ℕ) (all : List (List Point))
    (same : (l s : ℕ) → l < length all → s < length (get_or all l []) → (a b : Point) → chains_of f (get_or starts l 0 + s) a b ≡ chain ks l s a b) where
  one_line : (l k stop : ℕ) (line : List Point) (r s : List ℕ) → get_or all l [] ≡ line → l < length all → get_or starts l 0 ≡ k → stop ≡ k + length line → drop k xs ≡ xs_of line ++ r → drop k ys ≡ ys_of line ++ s
      → line_in f (points xs ys) k stop ≡ own_moves ks l line
  unfolding line_in own_moves
  one_line l k stop [] r s el hl ek es ex ey =
      let none : stop ≤ k = omega arith in
      ap (λ (t : Bool). elim t [ true ↦ start (point_in (points xs ys) k) ∷ segments_from f (points xs ys) stop k | false ↦ [] ]) (le-ltb k stop none)
  one_line l k stop (a ∷ ps) r s el hl ek es ex ey =
      let some : k < stop = omega arith in
      let rest : stop - (k + 1) ≡ length ps = omega arith in
      let nx : drop (k + 1) xs ≡ xs_of ps ++ r = ap (λ (j : ℕ). drop j xs) (add-one k) ∙ behind_front xs k a.x 0 (xs_of ps ++ r) ex in
      let ny : drop (k + 1) ys ≡ ys_of ps ++ s = ap (λ (j : ℕ). drop j ys) (add-one k) ∙ behind_front ys k a.y 0 (ys_of ps ++ s) ey in
      let here : point_in (points xs ys) k ≡ a = ap (λ (m : ℕ). at m (get_or ys k 0)) (at_front xs k a.x 0 (xs_of ps ++ r) ex) ∙ ap (at a.x) (at_front ys k a.y 0 (ys_of ps ++ s) ey) in
      let chains : (j : ℕ) → j < length ps → (p q : Point) → chains_of f (k + j) p q ≡ chain ks l (0 + j) p q =
      λ j h p q. let z : j ≡ 0 + j = omega arith in
      ap (λ (m : ℕ). chains_of f (m + j) p q) (sym ek) ∙ same l j hl (omega (arith, ap length el)) p q ∙ ap (λ (m : ℕ). chain ks l m p q) z in
      ap (λ (t : Bool). elim t [ true ↦ start (point_in (points xs ys) k) ∷ segments_from f (points xs ys) stop k | false ↦ [] ]) (lt-ltb k stop some)
      ∙ ap (λ (p : Point). start p ∷ line_moves (chains_of f) k p (points_back (stop - (k + 1)) (k + 1) xs ys)) here
      ∙ ap (λ (m : ℕ). start a ∷ line_moves (chains_of f) k a (points_back m (k + 1) xs ys)) rest
      ∙ ap (λ (qs : List Point). start a ∷ line_moves (chains_of f) k a qs) (points_back_lem ps (k + 1) xs ys r s nx ny)
      ∙ ap (λ (ms : List Move). start a ∷ ms) (line_same (chains_of f) (chain ks l) k 0 a ps chains)

  own_first : (l : ℕ) (line : List Point) (ls : List (List Point)) → lines_moves ks l (line ∷ ls) ≡ own_moves ks l line ++ lines_moves ks (suc l) ls
  unfolding lines_moves own_moves
  own_first l [] ls = refl
  own_first l (a ∷ ps) ls = refl

  pub lines_same : (ls : List (List Point)) (l k : ℕ) (q r s : List ℕ) → drop l all ≡ ls → drop l starts ≡ k ∷ (ends_from k ls ++ q) → drop k xs ≡ xs_of (line_points ls) ++ r → drop k ys ≡ ys_of (line_points ls) ++ s
      → lines_in f (points xs ys) starts (length ls) l ≡ lines_moves ks l ls
  unfolding lines_in lines_moves ends_from
  lines_same [] l k q r s ea es ex ey = refl
  lines_same (line ∷ ls) l k q r s ea es ex ey =
      let n = k + length line in
      let here : get_or starts l 0 ≡ k = at_front starts l k 0 (n ∷ (ends_from n ls ++ q)) es in
      let next : drop (l + 1) starts ≡ n ∷ (ends_from n ls ++ q) = ap (λ (j : ℕ). drop j starts) (add-one l) ∙ behind_front starts l k 0 (n ∷ (ends_from n ls ++ q)) es in
      let there : get_or starts (l + 1) 0 ≡ n = at_front starts (l + 1) n 0 (ends_from n ls ++ q) next in
      let inside : l < length all = omega (arith, length-drop l all, ap length ea) in
      let rest : drop (l + 1) all ≡ ls = ap (λ (j : ℕ). drop j all) (add-one l) ∙ behind_front all l line [] ls ea in
      ap (λ (m : ℕ). line_in f (points xs ys) m (get_or starts (l + 1) 0) ++ lines_in f (points xs ys) starts (length ls) (l + 1)) here
      ∙ ap (λ (ms : List Move). ms ++ lines_in f (points xs ys) starts (length ls) (l + 1))
      (one_line l k (get_or starts (l + 1) 0) line (xs_of (line_points ls) ++ r) (ys_of (line_points ls) ++ s) (at_front all l line [] ls ea) inside here there (this_line (λ (p : Point). p.x) line ls k xs r ex) (this_line (λ (p : Point). p.y) line ls k ys s ey))
      ∙ ap (λ (ms : List Move). own_moves ks l line ++ ms)
      (lines_same ls (l + 1) n q r s rest next (other_lines (λ (p : Point). p.x) line ls k xs r ex) (other_lines (λ (p : Point). p.y) line ls k ys s ey)
      ∙ ap (λ (m : ℕ). lines_moves ks m ls) (add-one l))
      ∙ sym (own_first l line ls)

-- ---- links

pub links_same : (f : Points) (ks : List Link) (k : ℕ) (r s : List ℕ) → drop (2 * k) f.xs ≡ map end_x (ends_of ks) ++ r → drop (2 * k) f.ys ≡ map end_y (ends_of ks) ++ s → links_in f (length ks) k ≡ link_moves ks
unfolding links_in link_moves ends_of
links_same f [] k r s ex ey = refl
links_same f (l ∷ ks) k r s ex ey =
    let es = ends_of ks in
    let tx = map end_x es ++ r in
    let ty = map end_y es ++ s in
    let x₁ : drop (suc (2 * k)) f.xs ≡ end_x l.second ∷ tx = behind_front f.xs (2 * k) (end_x l.first) 0 (end_x l.second ∷ tx) ex in
    let y₁ : drop (suc (2 * k)) f.ys ≡ end_y l.second ∷ ty = behind_front f.ys (2 * k) (end_y l.first) 0 (end_y l.second ∷ ty) ey in
    let first : point_in f (2 * k) ≡ l.first.point =
    ap (λ (m : ℕ). at m (get_or f.ys (2 * k) 0)) (at_front f.xs (2 * k) (end_x l.first) 0 (end_x l.second ∷ tx) ex)
    ∙ ap (at (end_x l.first)) (at_front f.ys (2 * k) (end_y l.first) 0 (end_y l.second ∷ ty) ey) in
    let second : point_in f (2 * k + 1) ≡ l.second.point =
    ap (point_in f) (add-one (2 * k))
    ∙ ap (λ (m : ℕ). at m (get_or f.ys (suc (2 * k)) 0)) (at_front f.xs (suc (2 * k)) (end_x l.second) 0 tx x₁)
    ∙ ap (at (end_x l.second)) (at_front f.ys (suc (2 * k)) (end_y l.second) 0 ty y₁) in
    let two : 2 * (k + 1) ≡ suc (suc (2 * k)) = omega arith in
    let x₂ : drop (2 * (k + 1)) f.xs ≡ tx = ap (λ (j : ℕ). drop j f.xs) two ∙ behind_front f.xs (suc (2 * k)) (end_x l.second) 0 tx x₁ in
    let y₂ : drop (2 * (k + 1)) f.ys ≡ ty = ap (λ (j : ℕ). drop j f.ys) two ∙ behind_front f.ys (suc (2 * k)) (end_y l.second) 0 ty y₁ in
    ap (λ (p : Point). start p ∷ on (point_in f (2 * k + 1)) ∷ links_in f (length ks) (k + 1)) first
    ∙ ap (λ (p : Point). start l.first.point ∷ on p ∷ links_in f (length ks) (k + 1)) second
    ∙ ap (λ (ms : List Move). start l.first.point ∷ on l.second.point ∷ ms) (links_same f ks (k + 1) r s x₂ y₂)
