-- The numbers of a sketch that the writer takes fit the widths that a file has for them.
use mathlib.Core.Path.{◌≡◌, refl, ap}
use mathlib.Core.List.{List, [], ◌∷◌}
use mathlib.Core.Bool.{Bool, true, false, ◌&&◌}
use Prim.Native.Nat.{ℕ, ◌-◌, ◌≤◌, ◌<◌}
use native.Mathlib.Omega.{arith}
use lib.ListN.{length, get_or, get_or-eq_default}
use lib.Dec.{leb, ltb}
use borrow.Author.Tests.{leb-true, ltb-true, ltb-false, not-false}
use Rattle.limits.specs.Limits.{most_side, most_pairing, most_flags, most_lines, most_points, refused_settings, refused_counts, refused_links}
use Rattle.lists.specs.Members.{All}
use Rattle.lists.proofs.Members.{all_at}
use Rattle.drawing_spec.specs.Drawing.{PointOf, Settings, EndOf, LinkOf, Pattern, Sketch}
use Rattle.drawing_spec.specs.Refusal.{accepted, verdict, holds}
use Rattle.drawing_spec.proofs.Refusal.{fails}
use Rattle.drawing_spec.proofs.Same.{both}
use Rattle.drawing_spec.proofs.Accepted.{counts_fit_lem}
use Rattle.drawing_spec.specs.Read.{every, total, settings_fit, counts_fit, end_fits, links_fit, sketch_conditions}
use Rattle.writer_spec.specs.OneFile.{SettingsHeld, PointHeld, EndHeld, LinkHeld, Held, Patterned}
use Rattle.writer_spec.proofs.Lengths.{points_in}

settings_held : (s : Settings) → settings_fit s ≡ true → SettingsHeld s
unfolding settings_fit
settings_held s e =
    let w = leb s.width most_side in
    let h = leb s.height most_side in
    let p = leb s.pairing most_pairing in
    let f = leb s.flags most_flags in
    let a = both ((w && h) && p) f e in
    let b = both (w && h) p a.0 in
    let c = both w h b.0 in
    let lw = leb-true s.width most_side c.0 in
    let lh = leb-true s.height most_side c.1 in
    let lp = leb-true s.pairing most_pairing b.1 in
    let lf = leb-true s.flags most_flags a.1 in
    record { width = omega arith; height = omega arith; pairing = omega arith; flags = omega arith }

-- no line has more points than all lines together
pub short_lines : (n : ℕ) (ls : List (List (PointOf Pattern))) → points_in ls ≤ n → All (λ (l : List (PointOf Pattern)). length l ≤ n) ls
unfolding total
short_lines n [] h = tt
short_lines n (l ∷ ls) h = (omega arith, short_lines n ls (omega arith))

module _ (ls : List (List (PointOf Pattern))) (fl : length ls ≤ most_lines) (fp : points_in ls ≤ most_points) where
  end_held : (e : EndOf Pattern) → end_fits ls e ≡ true → PointHeld e.point → EndHeld e
  unfolding end_fits
  end_held e h p = go (ltb e.line (length ls)) refl
    where
      n : ℕ
      n = length (get_or ls e.line [])

      go : (t : Bool) → ltb e.line (length ls) ≡ t → EndHeld e
      go true q =
          let i = ltb-true e.line (length ls) q in
          let t = both (ltb 0 n) (leb e.segment (n - 2)) h in
          let s = leb-true e.segment (n - 2) t.1 in
          let m : n ≤ most_points = all_at (λ (l : List (PointOf Pattern)). length l ≤ most_points) ls (short_lines most_points ls fp) e.line [] i in
          record { line = omega arith; segment = omega arith; point = p }
      go false q =
          let t = both (ltb 0 n) (leb e.segment (n - 2)) h in
          let z : 0 < n = ltb-true 0 n t.0 in
          let y : n ≡ 0 = ap length (get_or-eq_default ls [] {n = e.line} (ltb-false e.line (length ls) q)) in
          absurd (omega arith)

  links_held : (ks : List (LinkOf Pattern)) → every (λ (l : LinkOf Pattern). end_fits ls l.first && end_fits ls l.second) ks ≡ true
      → All (λ (l : LinkOf Pattern). PointHeld l.first.point × PointHeld l.second.point) ks → All LinkHeld ks
  unfolding every
  links_held [] h a = tt
  links_held (k ∷ ks) h a =
      let t = both (end_fits ls k.first && end_fits ls k.second) (every (λ (l : LinkOf Pattern). end_fits ls l.first && end_fits ls l.second) ks) h in
      let u = both (end_fits ls k.first) (end_fits ls k.second) t.0 in
      (record { first = end_held k.first u.0 a.0.0; second = end_held k.second u.1 a.0.1 }, links_held ks t.1 a.1)

module _ (s : Sketch) (e : verdict (sketch_conditions s) ≡ accepted) where
  pub taken_counts : counts_fit s ≡ true
  unfolding sketch_conditions holds
  taken_counts = not-false (counts_fit s) (fails (sketch_conditions s) e refused_counts)

  taken_settings : settings_fit s.settings ≡ true
  unfolding sketch_conditions holds
  taken_settings = not-false (settings_fit s.settings) (fails (sketch_conditions s) e refused_settings)

  taken_links : links_fit s ≡ true
  unfolding sketch_conditions holds
  taken_links = not-false (links_fit s) (fails (sketch_conditions s) e refused_links)

  pub taken_held : Patterned s → Held s
  unfolding links_fit
  taken_held p =
      let n = counts_fit_lem s taken_counts in
      record {
        settings = settings_held s.settings taken_settings;
        lines = p.lines;
        links = links_held s.lines n.lines n.points s.links taken_links p.links;
      }
