-- Where lines start among the points; a line's start and a segment name one place. Assumes nothing.
use mathlib.Core.Path.{◌≡◌, refl, sym, ap, ◌∙◌}
use mathlib.Core.Bool.{Bool, true, false, ◌&&◌}
use mathlib.Core.List.{List, [], ◌∷◌, ◌++◌, map}
use Prim.Native.Nat.{ℕ, zero, suc, ◌+◌, ◌-◌, ◌≤◌, ◌<◌}
use native.Mathlib.Decide.{dec_le}
use native.Mathlib.Omega.{arith}
use lib.ListN.{length, get_or, replicate, get_or-eq_default}
use lib.Dec.{eqb, ltb, leb}
use borrow.Author.Tests.{ltb-true, leb-true, eq-eqb, ne_eqb, eqb-true, eqb-false}
use Rattle.limits.specs.Limits.{most_lines, most_points}
use Rattle.drawing_spec.specs.Drawing.{Point, End, Link, line_points}
use Rattle.drawing_spec.proofs.Same.{both}
use Rattle.lists.specs.Members.{All}
use Rattle.lists.proofs.Elements.{get_d_same}
use Rattle.drawing_spec.specs.OnGrid.{OnGrid, AtEnds}
use Rattle.drawing_spec.specs.Read.{total, end_fits, every}
use Rattle.drawing_spec.proofs.Accepted.{every_all}
use Rattle.graph_segment_ends.proofs.Ends.{Below}
use Rattle.graph_segment_ends.proofs.Splits.{ends_of}
use Rattle.file_records.specs.declared.MstEdge.{MstEdge}
use Rattle.file_records.specs.Body.{edge_from}
use Rattle.file_drawing.specs.Held.{past_end}
use Rattle.file_drawing.specs.Stores.{padded, xs_of, ys_of, ends_from}
use Rattle.graph_splits.specs.Points.{Points, points}
use Rattle.graph_lines.specs.All.{StartsInside}
use Rattle.graph_filing.specs.Stored.{EndFits, LinkFits, LinksFit}
use Rattle.graph_filed.proofs.Ends.{number}
use Rattle.graph_filed.proofs.Chains.{Names}

abbrev lengths : List (List Point) → List ℕ
lengths ls = map (λ (l : List Point). length l) ls

-- the places where the lines start, as the reader has them
abbrev pub starts_of : List (List Point) → List ℕ
starts_of ls = padded (most_lines + 1) 0 (0 ∷ ends_from 0 ls)

abbrev pub points_of : List (List Point) → Points
points_of ls = points (padded most_points 0 (xs_of (line_points ls))) (padded most_points 0 (ys_of (line_points ls)))

-- ---- starts

ends_at : (k : ℕ) (ls : List (List Point)) (rest : List ℕ) (i : ℕ) → i < length ls → get_or (k ∷ (ends_from k ls ++ rest)) (suc i) 0 ≡ get_or (k ∷ (ends_from k ls ++ rest)) i 0 + length (get_or ls i [])
unfolding ends_from
ends_at k [] rest i h = absurd (omega arith)
ends_at k (l ∷ ls) rest zero h = refl
ends_at k (l ∷ ls) rest (suc i) h = ends_at (k + length l) ls rest i (omega arith)

ends_low : (k : ℕ) (ls : List (List Point)) (n i : ℕ) → get_or (k ∷ (ends_from k ls ++ replicate n 0)) i 0 ≤ k + total (lengths ls)
unfolding ends_from total
ends_low k ls n zero = omega arith
ends_low k [] n (suc i) = omega (arith, get_d_same {A = ℕ} n i 0)
ends_low k (l ∷ ls) n (suc i) = omega (arith, ends_low (k + length l) ls n i)

-- the end's line is there, and its segment starts at one of the line's points
pub record Fitting (ls : List (List Point)) (x : End) : Type 0 where
  pub inside : x.line < length ls
  pub short : x.segment < length (get_or ls x.line [])

abbrev pub LinkOk : List (List Point) → Link → Type 0
LinkOk ls k = Fitting ls k.first × Fitting ls k.second

module _ (ls : List (List Point)) where
  S : ℕ → ℕ
  S i = get_or (starts_of ls) i 0

  pub starts_inside : total (lengths ls) ≤ most_points → StartsInside (starts_of ls)
  starts_inside h = record { low = λ i. omega (arith, ends_low 0 ls ((most_lines + 1) - length (0 ∷ ends_from 0 ls)) i) }

  step : (i : ℕ) → i < length ls → S (suc i) ≡ S i + length (get_or ls i [])
  unfolding S
  step i h = ends_at 0 ls (replicate ((most_lines + 1) - length (0 ∷ ends_from 0 ls)) 0) i h

  rise : (n i : ℕ) → i + n ≤ length ls → S i ≤ S (i + n)
  rise zero i h = let z : i + 0 ≡ i = omega arith in omega (arith, ap S z)
  rise (suc n) i h =
      let one : i + suc n ≡ suc (i + n) = omega arith in
      omega (arith, rise n i (omega arith), step (i + n) (omega arith), ap S one)

  later : (i j : ℕ) → i < j → j ≤ length ls → S i + length (get_or ls i []) ≤ S j
  later i j h k =
      let far : suc i + (j - suc i) ≡ j = omega arith in
      omega (arith, step i (omega arith), rise (j - suc i) (suc i) (omega arith), ap S far)

  -- ---- one end

  fitting : (x : End) → end_fits ls x ≡ true → Fitting ls x
  unfolding end_fits
  fitting x e =
      let n = length (get_or ls x.line []) in
      let t = both (ltb 0 n) (leb x.segment (n - 2)) e in
      let some : 0 < n = ltb-true 0 n t.0 in
      let most : x.segment ≤ n - 2 = leb-true x.segment (n - 2) t.1 in
      elim (dec_le (suc x.line) (length ls)) [
        | yes h ↦ record { inside = h; short = omega arith }
        | no h ↦ absurd (omega (arith, ap length (get_or-eq_default ls [] {n = x.line} (omega arith))))
      ]

  -- an end and a segment have one place exactly if the end names the segment
  one_place : (x : End) → Fitting ls x → (l s : ℕ) → l < length ls → s < length (get_or ls l []) → Names (starts_of ls) l s (get_or (starts_of ls) l 0 + s) x
  unfolding S
  one_place x f l s hl hs = go (eqb x.line l) (eqb x.segment s) refl refl
    where
      apart : (x.line ≡ l → x.segment ≡ s → ⊥) → number (starts_of ls) x ≡ get_or (starts_of ls) l 0 + s → ⊥
      apart not e =
          elim (dec_le (suc x.line) l) [
            | yes h ↦ omega (arith, later x.line l h (omega arith), f.short)
            | no h ↦ elim (dec_le (suc l) x.line) [
              | yes k ↦ omega (arith, later l x.line k (omega (arith, f.inside)), f.inside)
              | no k ↦ let same : x.line ≡ l = omega arith in not same (omega (arith, ap (λ (i : ℕ). get_or (starts_of ls) i 0) same))
            ]
          ]

      go : (t u : Bool) → eqb x.line l ≡ t → eqb x.segment s ≡ u → eqb (number (starts_of ls) x) (get_or (starts_of ls) l 0 + s) ≡ eqb x.line l && eqb x.segment s
      go true true p q =
          eq-eqb (number (starts_of ls) x) (get_or (starts_of ls) l 0 + s)
          (ap (λ (i : ℕ). get_or (starts_of ls) i 0 + x.segment) (eqb-true x.line l p) ∙ ap (λ (i : ℕ). get_or (starts_of ls) l 0 + i) (eqb-true x.segment s q))
          ∙ sym (rw (p, q))
      go true false p q = ne_eqb (number (starts_of ls) x) (get_or (starts_of ls) l 0 + s) (apart (λ _ r. eqb-false x.segment s q r)) ∙ sym (rw (p, q))
      go false u p q = ne_eqb (number (starts_of ls) x) (get_or (starts_of ls) l 0 + s) (apart (λ r _. eqb-false x.line l p r)) ∙ sym (rw p)

  place_below : total (lengths ls) ≤ most_points → (x : End) → Fitting ls x → number (starts_of ls) x < most_points
  unfolding S
  place_below h x f = omega (arith, later x.line (suc x.line) (omega arith) f.inside, f.short, (starts_inside h).low (suc x.line))

  pub segment_below : total (lengths ls) ≤ most_points → (l s : ℕ) → l < length ls → s < length (get_or ls l []) → get_or (starts_of ls) l 0 + s < most_points
  unfolding S
  segment_below h l s hl hs = omega (arith, later l (suc l) (omega arith) hl, (starts_inside h).low (suc l))

  -- ---- the ends of all links

  module _ (few : length ls ≤ most_lines) (h : total (lengths ls) ≤ most_points) where
    pub links_ok : (ks : List Link) → every (λ (l : Link). end_fits ls l.first && end_fits ls l.second) ks ≡ true → All (LinkOk ls) ks
    links_ok ks e = go ks (every_all (λ (l : Link). end_fits ls l.first && end_fits ls l.second) ks e)
      where
        go : (ks : List Link) → All (λ (l : Link). end_fits ls l.first && end_fits ls l.second ≡ true) ks → All (LinkOk ls) ks
        go [] a = tt
        go (k ∷ ks) a = let t = both (end_fits ls k.first) (end_fits ls k.second) a.0 in ((fitting k.first t.0, fitting k.second t.1), go ks a.1)

    pub ends_below : (ks : List Link) → All (LinkOk ls) ks → Below (map (number (starts_of ls)) (ends_of ks))
    unfolding ends_of Below
    ends_below [] a = tt
    ends_below (k ∷ ks) a = (place_below h k.first a.0.0, (place_below h k.second a.0.1, ends_below ks a.1))

    pub ends_named : (l s : ℕ) → l < length ls → s < length (get_or ls l []) → (ks : List Link) → All (LinkOk ls) ks → All (Names (starts_of ls) l s (get_or (starts_of ls) l 0 + s)) (ends_of ks)
    unfolding ends_of
    ends_named l s hl hs [] a = tt
    ends_named l s hl hs (k ∷ ks) a = (one_place k.first a.0.0 l s hl hs, (one_place k.second a.0.1 l s hl hs, ends_named l s hl hs ks a.1))

    end_fits_lem : (x : End) → Fitting ls x → EndFits (starts_of ls) x.line x.segment
    end_fits_lem x f = record { line_low = omega (arith, f.inside); place_low = place_below h x f }

    link_fits : (k : Link) → Fitting ls k.first → Fitting ls k.second → AtEnds OnGrid k → LinkFits (starts_of ls) (edge_from k)
    link_fits k a b g = record {
      first = end_fits_lem k.first a;
      second = end_fits_lem k.second b;
      first_x = record { place = k.first.point.x; low = g.0.0; is = refl };
      first_y = record { place = k.first.point.y; low = g.0.1; is = refl };
      second_x = record { place = k.second.point.x; low = g.1.0; is = refl };
      second_y = record { place = k.second.point.y; low = g.1.1; is = refl };
    }

    pub links_fit_known : (ks : List Link) (rest : List MstEdge) → All (LinkOk ls) ks → All (AtEnds OnGrid) ks → LinksFit (starts_of ls) (map edge_from ks ++ rest) (length ks)
    links_fit_known ks rest a g = record { each = go ks a g }
      where
        go : (ks : List Link) → All (LinkOk ls) ks → All (AtEnds OnGrid) ks → (i : ℕ) → i < length ks → LinkFits (starts_of ls) (get_or (map edge_from ks ++ rest) i past_end)
        go [] a g i l = absurd (omega arith)
        go (k ∷ ks) a g zero l = link_fits k a.0.0 a.0.1 g.0
        go (k ∷ ks) a g (suc i) l = go ks a.1 g.1 i (omega arith)
