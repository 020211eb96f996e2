-- Points put one behind the other.
use mathlib.Core.Path.{◌≡◌, refl, sym, ap, ◌∙◌}
use mathlib.Core.List.{List, [], ◌∷◌, ◌++◌, append_assoc, append-nil}
use Prim.Native.Nat.{ℕ, zero, suc, ◌+◌, ◌*◌, ◌≤◌, ◌<◌}
use native.Mathlib.Numerals.{add-one}
use native.Mathlib.Omega.{arith}
use lib.ListN.{drop}
use lib.Seq.{drop-drop}
use Rattle.drawing_spec.specs.Drawing.{Point}
use Rattle.drawing_spec.specs.Read.{point, points}
use Rattle.planner_text.specs.Text.{point_text, points_text}
use Rattle.planner_text.specs.Put.{Put}
use Rattle.planner_text.proofs.Put.{put_as, put_both, put_none}

-- ---- a point more

points_more : (i : ℕ) (bs : List ℕ) → points (suc i) bs ≡ points i bs ++ (point (drop (16 * i) bs) ∷ [])
unfolding points point
points_more zero bs = refl
points_more (suc i) bs =
    let e : 16 + 16 * i ≡ 16 * suc i = omega arith in
    ap (λ (ps : List Point). point bs ∷ ps)
    (points_more i (drop 16 bs) ∙ ap (λ (cs : List ℕ). points i (drop 16 bs) ++ (point cs ∷ [])) (drop-drop (16 * i) 16 bs ∙ ap (λ (k : ℕ). drop k bs) e))

text_more : (ps : List Point) (p : Point) → points_text (ps ++ (p ∷ [])) ≡ points_text ps ++ point_text p
unfolding points_text
text_more [] p = append-nil (point_text p)
text_more (q ∷ ps) p = ap (λ (t : List ℕ). point_text q ++ t) (text_more ps p) ∙ sym (append_assoc (point_text q) (points_text ps) (point_text p))

-- ---- the loop

-- the first i points have been put
pub record PointsPut (text₀ : List ℕ) (at : ℕ) (output : List ℕ) (count : ℕ) (text : List ℕ) (behind i : ℕ) : Type 0 where
  pub put : Put text₀ at (points_text (points i (drop 6 output))) text behind
  pub short : behind ≤ at + 22 * i
  pub few : i ≤ count

module _ (text₀ : List ℕ) (at : ℕ) (output : List ℕ) (count : ℕ) where
  pub points_put_none : PointsPut text₀ at output count text₀ at 0
  unfolding points points_text
  points_put_none = record { put = put_none text₀ at; short = omega arith; few = omega arith }

  pub points_put_more : (text text' : List ℕ) (behind behind' i : ℕ) → i < count → Put text behind (point_text (point (drop (6 + 16 * i) output))) text' behind' → behind' ≤ behind + 22
      → PointsPut text₀ at output count text behind i → PointsPut text₀ at output count text' behind' (i + 1)
  points_put_more text text' behind behind' i h p s w =
      let more : points (i + 1) (drop 6 output) ≡ points i (drop 6 output) ++ (point (drop (6 + 16 * i) output) ∷ []) =
      ap (λ (k : ℕ). points k (drop 6 output)) (add-one i) ∙ points_more i (drop 6 output) ∙ ap (λ (bs : List ℕ). points i (drop 6 output) ++ (point bs ∷ [])) (drop-drop (16 * i) 6 output) in
      record {
        put = put_as (sym (ap points_text more ∙ text_more (points i (drop 6 output)) (point (drop (6 + 16 * i) output)))) (put_both w.put p);
        short = omega (arith, w.short);
        few = omega arith;
      }

  pub points_put_all : (text : List ℕ) (behind i : ℕ) → count ≤ i → PointsPut text₀ at output count text behind i → Put text₀ at (points_text (points count (drop 6 output))) text behind
  points_put_all text behind i h w =
      let e : i ≡ count = omega (arith, w.few) in
      put_as (ap (λ (k : ℕ). points_text (points k (drop 6 output))) e) w.put
