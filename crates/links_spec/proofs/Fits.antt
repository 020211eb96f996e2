-- Made links are links that a file could hold: they pass checks 6 and 8, and lie on the grid where the lines do.
use mathlib.Core.Path.{◌≡◌, refl}
use mathlib.Core.List.{List, [], ◌∷◌, map}
use mathlib.Core.Bool.{Bool, true, false, ◌&&◌}
use Prim.Native.Nat.{ℕ, zero, suc, ◌-◌, ◌≤◌}
use native.Mathlib.Omega.{arith}
use lib.ListN.{length, get_or, length-map}
use borrow.Author.Tests.{ltb-true, le-leb}
use Rattle.limits.specs.Limits.{most_lines, most_points, most_links}
use Rattle.lists.specs.Members.{In, All}
use Rattle.lists.proofs.Members.{all_in, in_at, all_imp, all_map}
use Rattle.drawing_spec.specs.Drawing.{Point, no_point, Link, Drawing}
use Rattle.drawing_spec.specs.Read.{every, end_fits, links_fit, total}
use Rattle.drawing_spec.specs.OnGrid.{OnGrid, AtEnds}
use Rattle.drawing_spec.specs.Accepted.{InLimits}
use Rattle.drawing_spec.proofs.Accepted.{every_map}
use Rattle.spanning.proofs.Counts.{count_most}
use Rattle.links_spec.specs.Candidates.{Candidate, IsCandidate, line_at, has_points, end_point, end_segment, low_point, high_point}
use Rattle.links_spec.specs.Made.{made, as_link, made_links, linked}
use Rattle.links_spec.proofs.Made.{made_links_all}

module _ (ls : List (List Point)) where
  -- check 6
  pub made_few : length ls ≤ most_lines → length (made_links ls) ≤ most_links
  unfolding made_links
  made_few h = omega (arith, length-map (made ls) (as_link ls), (made_links_all ls).spans.size, count_most (has_points ls) (length ls))

  -- check 8
  end_fits_lem : (l e : ℕ) (p : Point) → has_points ls l ≡ true → end_fits ls (record { line = l; segment = end_segment (line_at ls l) e; point = p }) ≡ true
  unfolding has_points end_fits end_segment
  end_fits_lem l zero p h = rw h (le-leb 0 (length (line_at ls l) - 2) (omega arith))
  end_fits_lem l (suc e) p h = rw h (le-leb (length (line_at ls l) - 2) (length (line_at ls l) - 2) (omega arith))

  both_true : (s t : Bool) → s ≡ true → t ≡ true → s && t ≡ true
  both_true s t e f = rw (e, f)

  pub made_fit : every (λ (k : Link). end_fits ls k.first && end_fits ls k.second) (made_links ls) ≡ true
  unfolding made_links as_link
  made_fit = every_map (as_link ls) (λ (k : Link). end_fits ls k.first && end_fits ls k.second) (made ls)
      (all_imp (IsCandidate ls) (λ (k : Candidate). end_fits ls (as_link ls k).first && end_fits ls (as_link ls k).second ≡ true)
      (λ k C. both_true (end_fits ls (as_link ls k).first) (end_fits ls (as_link ls k).second) (end_fits_lem k.low k.low_end (low_point ls k) C.low_there) (end_fits_lem k.high k.high_end (high_point ls k) C.high_there))
      (made ls) (made_links_all ls).are)

  -- an end of a line is a point of it
  end_in : (l e : ℕ) → has_points ls l ≡ true → In (end_point (line_at ls l) e) (line_at ls l)
  unfolding has_points end_point
  end_in l zero h = in_at (line_at ls l) 0 no_point (ltb-true 0 (length (line_at ls l)) h)
  end_in l (suc e) h = in_at (line_at ls l) (length (line_at ls l) - 1) no_point (omega (arith, ltb-true 0 (length (line_at ls l)) h))

  all_line : (P : Point → Type 0) → All (All P) ls → (l : ℕ) → All P (line_at ls l)
  all_line P a l = go ls a l
    where
      go : (ms : List (List Point)) → All (All P) ms → (l : ℕ) → All P (get_or ms l [])
      go [] a l = tt
      go (m ∷ ms) a zero = a.0
      go (m ∷ ms) a (suc l) = go ms a.1 l

  -- what holds of the lines' points holds of the links'
  pub made_all : (P : Point → Type 0) → All (All P) ls → All (AtEnds P) (made_links ls)
  unfolding made_links as_link
  made_all P a = all_map (as_link ls) (AtEnds P) (made ls) (all_imp (IsCandidate ls) (λ (k : Candidate). AtEnds P (as_link ls k))
      (λ k C. (all_in P (line_at ls k.low) (all_line P a k.low) (low_point ls k) (end_in k.low k.low_end C.low_there), all_in P (line_at ls k.high) (all_line P a k.high) (high_point ls k) (end_in k.high k.high_end C.high_there)))
      (made ls) (made_links_all ls).are)

-- ---- of the whole drawing

-- whatever links the drawing had
pub linked_within : (d : Drawing) → length d.lines ≤ most_lines → total (map (λ (l : List Point). length l) d.lines) ≤ most_points → All (All OnGrid) d.lines → InLimits (linked d)
unfolding linked
linked_within d few points on = record {
  counts = record { lines = few; points = points; links = made_few d.lines few };
  lines_on = on;
  links_on = made_all d.lines OnGrid on;
}

pub linked_fit : (d : Drawing) → links_fit (linked d) ≡ true
unfolding links_fit linked
linked_fit d = made_fit d.lines
