-- The chain that the filing of all ends gives for a segment is the chain of the definitions. Assumes nothing.
use mathlib.Core.Path.{◌≡◌, refl, sym, ap, ◌∙◌}
use mathlib.Core.Bool.{◌&&◌}
use mathlib.Core.List.{List, [], ◌∷◌, ◌++◌, map}
use Prim.Native.Nat.{ℕ, zero, suc, ◌-◌, ◌≤◌, ◌<◌}
use native.Mathlib.Omega.{arith}
use lib.ListN.{length, get_or, drop, replicate, length-map}
use lib.Dec.{eqb}
use Rattle.limits.specs.Limits.{most_points, most_splits}
use Rattle.drawing_spec.specs.Drawing.{Point, End, Link}
use Rattle.lists.proofs.Parts.{at_front, behind_front}
use Rattle.lists.specs.Members.{All}
use Rattle.graph_spec.specs.Chain.{sort, inner, changes, chain}
use Rattle.graph_splits.specs.Next.{at}
use Rattle.graph_splits.specs.Points.{Points, point_in}
use Rattle.graph_splits.proofs.Next.{chain_is}
use Rattle.graph_segment_ends.proofs.Ends.{newest, Chained, chained_length, Below, filed_all, no_ends, filed_chained}
use Rattle.graph_segment_ends.specs.Gather.{insert_all}
use Rattle.graph_segment_ends.proofs.GatherLaws.{newest_sorted}
use Rattle.graph_segment_ends.proofs.Splits.{ends_of, Filing, named_splits}
use Rattle.graph_line.specs.Follow.{follow}
use Rattle.graph_line.proofs.Follow.{follow_none, follow_one}
use Rattle.graph_line.specs.Lines.{chains_of}
use Rattle.graph_filed.proofs.Ends.{number, end_x, end_y, places_of, filing_of}

-- ---- the list of ends that is followed

follow_chained : (fuel m : ℕ) (ns : List ℕ) (e : ℕ) (rs : List ℕ) → Chained m ns e rs → m ≤ most_splits → length rs ≤ fuel → follow fuel ns e ≡ rs
unfolding Chained
follow_chained fuel m ns e [] c h f = follow_none fuel ns e c
follow_chained zero m ns e (r ∷ rs) c h f = absurd (omega arith)
follow_chained (suc fuel) m ns e (r ∷ rs) c h f =
    ap (follow (suc fuel) ns) c.0 ∙ follow_one fuel ns r (omega (arith, c.1)) ∙ ap (λ (l : List ℕ). r ∷ l) (follow_chained fuel r ns (get_or ns r 0) rs c.2 (omega (arith, c.1)) (omega arith))

-- the end is filed under g exactly if it names the segment s of the line l
abbrev pub Names : List ℕ → ℕ → ℕ → ℕ → End → Type 0
Names starts l s g x = eqb (number starts x) g ≡ eqb x.line l && eqb x.segment s

module _ (starts : List ℕ) (all : List End) where
  k : Points
  k = places_of all

  -- the end i is the first of es, and the others follow
  record Standing (i : ℕ) (es : List End) : Type 0 where
    rx : List ℕ
    ry : List ℕ
    xs_are : drop i k.xs ≡ map end_x es ++ rx
    ys_are : drop i k.ys ≡ map end_y es ++ ry

  standing_all : Standing 0 all
  unfolding k
  standing_all = record {
    rx = replicate (most_splits - length (map end_x all)) 0;
    ry = replicate (most_splits - length (map end_y all)) 0;
    xs_are = refl;
    ys_are = refl;
  }

  module _ (i : ℕ) (x : End) (es : List End) (s : Standing i (x ∷ es)) where
    standing_next : Standing (suc i) es
    standing_next = record {
      rx = s.rx;
      ry = s.ry;
      xs_are = behind_front k.xs i (end_x x) 0 (map end_x es ++ s.rx) s.xs_are;
      ys_are = behind_front k.ys i (end_y x) 0 (map end_y es ++ s.ry) s.ys_are;
    }

    point_here : point_in k i ≡ x.point
    point_here =
        ap (λ (m : ℕ). at m (get_or k.ys i 0)) (at_front k.xs i (end_x x) 0 (map end_x es ++ s.rx) s.xs_are)
        ∙ ap (at (end_x x)) (at_front k.ys i (end_y x) 0 (map end_y es ++ s.ry) s.ys_are)

  filing_holds : (l s g i : ℕ) (es : List End) → Standing i es → All (Names starts l s g) es → Filing (number starts) (point_in k) l s g i es
  unfolding Filing
  filing_holds l s g i [] t a = tt
  filing_holds l s g i (x ∷ es) t a = (a.0, point_here i x es t, filing_holds l s g (suc i) es (standing_next i x es t) a.1)

  module _ (few : length all ≤ most_splits) (low : Below (map (number starts) all)) where
    followed : (g : ℕ) → g < most_points → follow most_splits (filing_of starts all).next (get_or (filing_of starts all).newest g 0) ≡ newest g 0 (map (number starts) all) []
    followed g h =
        let gs = map (number starts) all in
        let size : length gs ≤ most_splits = omega (arith, length-map all (number starts)) in
        let c = filed_chained gs g size low h in
        follow_chained most_splits (length gs) (filed_all 0 gs no_ends).next (get_or (filed_all 0 gs no_ends).heads g 0) (newest g 0 gs []) c size (omega (arith, chained_length _ _ _ _ c))

-- the chain of the segment
pub chain_same : (starts : List ℕ) (ks : List Link) → length (ends_of ks) ≤ most_splits → Below (map (number starts) (ends_of ks)) → (l s g : ℕ) → g < most_points → All (Names starts l s g) (ends_of ks)
    → (a b : Point) → chains_of (filing_of starts (ends_of ks)) g a b ≡ chain ks l s a b
unfolding k insert_all
chain_same starts ks few low l s g h names a b =
    let es = ends_of ks in
    let f = point_in (places_of es) in
    ap (λ (rs : List ℕ). changes a (inner a b (insert_all a f rs [])) ++ (b ∷ [])) (followed starts es few low g h)
    ∙ ap (λ (qs : List Point). changes a (inner a b qs) ++ (b ∷ [])) (newest_sorted a f g 0 (map (number starts) es) []
    ∙ ap (sort a) (named_splits (number starts) f l s g ks (filing_holds starts es l s g 0 es (standing_all starts es) names)))
    ∙ sym (chain_is ks l s a b)
