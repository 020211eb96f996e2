-- A whole drawing in flat arrays, with the links that are made for it.
use mathlib.Core.Path.{◌≡◌, refl, sym, ap, ◌∙◌}
use mathlib.Core.List.{List, [], ◌∷◌, map}
use mathlib.Core.Bool.{true}
use Prim.Native.Nat.{ℕ, zero, suc, ◌+◌, ◌-◌, ◌*◌, ◌≤◌}
use native.Mathlib.Omega.{arith}
use lib.ListN.{length, get_or, replicate, length-map}
use lib.Seq.{sets}
use Rattle.limits.specs.Limits.{most_lines, most_points, most_links}
use Rattle.grid.specs.Grid.{origin}
use Rattle.lists.specs.Members.{All}
use Rattle.lists.proofs.Members.{all_append, all_map, all_imp}
use Rattle.drawing_spec.specs.Drawing as drawn
use Rattle.drawing_spec.specs.Drawing.{line_points}
use Rattle.drawing_spec.specs.OnGrid.{OnGrid}
use Rattle.drawing_spec.specs.Accepted.{InLimits}
use Rattle.drawing_spec.specs.Read.{total, links_fit}
use Rattle.file_records.specs.Body.{edge_from}
use Rattle.file_records.specs.declared.MstEdge.{MstEdge}
use Rattle.file_drawing.specs.declared.Drawing.{Drawing}
use Rattle.file_drawing.specs.Held.{no_link, drawing_held}
use Rattle.file_drawing.specs.Stores.{padded, xs_of, ys_of, ends_from}
use Rattle.file_drawing.specs.Back.{lines_back, drawing_from}
use Rattle.file_drawing.proofs.Stores.{sets_padded}
use Rattle.file_drawing.proofs.Back.{drawing_back}
use Rattle.links_spec.specs.Made.{made_links, linked}
use Rattle.links_spec.proofs.Fits.{made_few, linked_fit, linked_within}
use Rattle.links_made.specs.Filled.{StartsIn, PlacesOn}
use Rattle.links_made.specs.Linkable.{Linkable}

-- ---- bounds of what the arrays hold

abbrev Low : ℕ → List ℕ → Type 0
Low b vs = All (λ (v : ℕ). v ≤ b) vs

low_at : (b : ℕ) (vs : List ℕ) → Low b vs → (i : ℕ) → get_or vs i 0 ≤ b
low_at b [] a i = omega arith
low_at b (v ∷ vs) a zero = a.0
low_at b (v ∷ vs) a (suc i) = low_at b vs a.1 i

low_zeros : (b n : ℕ) → Low b (replicate n 0)
low_zeros b zero = tt
low_zeros b (suc n) = (omega arith, low_zeros b n)

low_padded : (b n : ℕ) (vs : List ℕ) → Low b vs → (i : ℕ) → get_or (padded n 0 vs) i 0 ≤ b
low_padded b n vs a i = low_at b (padded n 0 vs) (all_append (λ (v : ℕ). v ≤ b) vs (replicate (n - length vs) 0) a (low_zeros b (n - length vs))) i

low_ends : (b k : ℕ) (ls : List (List drawn.Point)) → k + total (map (λ (l : List drawn.Point). length l) ls) ≤ b → Low b (ends_from k ls)
unfolding ends_from total
low_ends b k [] h = tt
low_ends b k (l ∷ ls) h = (omega arith, low_ends b (k + length l) ls (omega arith))

on_points : (ls : List (List drawn.Point)) → All (All OnGrid) ls → All OnGrid (line_points ls)
unfolding line_points
on_points [] a = tt
on_points (l ∷ ls) a = all_append OnGrid l (line_points ls) a.0 (on_points ls a.1)

module _ (d : Drawing) (L : Linkable d) where
  pub linkable_lines : d.lines ≤ most_lines
  unfolding drawing_held
  linkable_lines = omega (arith, ap (λ (e : Drawing). e.lines) L.held, L.counts.lines)

  pub linkable_starts : StartsIn d.starts
  unfolding drawing_held
  linkable_starts = record {
    low = λ i. rw (ap (λ (e : Drawing). e.starts) L.held)
        (low_padded most_points (most_lines + 1) (0 ∷ ends_from 0 (drawing_from d).lines) (omega arith, low_ends most_points 0 (drawing_from d).lines (omega (arith, L.counts.points))) i);
  }

  pub linkable_xs : PlacesOn d.xs
  unfolding drawing_held
  linkable_xs = record {
    on = λ i. rw (ap (λ (e : Drawing). e.xs) L.held)
        (low_padded (2 * origin) most_points (xs_of (line_points (drawing_from d).lines)) (all_map (λ (p : drawn.Point). p.x) (λ (v : ℕ). v ≤ 2 * origin) (line_points (drawing_from d).lines) (all_imp OnGrid (λ (p : drawn.Point). p.x ≤ 2 * origin) (λ p h. h.0) (line_points (drawing_from d).lines) (on_points (drawing_from d).lines L.lines_on))) i);
  }

  pub linkable_ys : PlacesOn d.ys
  unfolding drawing_held
  linkable_ys = record {
    on = λ i. rw (ap (λ (e : Drawing). e.ys) L.held)
        (low_padded (2 * origin) most_points (ys_of (line_points (drawing_from d).lines)) (all_map (λ (p : drawn.Point). p.y) (λ (v : ℕ). v ≤ 2 * origin) (line_points (drawing_from d).lines) (all_imp OnGrid (λ (p : drawn.Point). p.y ≤ 2 * origin) (λ p h. h.1) (line_points (drawing_from d).lines) (on_points (drawing_from d).lines L.lines_on))) i);
  }

  -- ---- the drawing with its links

  lines_are : (drawing_from d).lines ≡ lines_back d.lines 0 d.starts d.xs d.ys
  unfolding drawing_from
  lines_are = refl

  pub linked_held : (n : ℕ) (es : List MstEdge) → n ≡ length (made_links (lines_back d.lines 0 d.starts d.xs d.ys))
      → es ≡ sets (replicate most_links no_link) 0 (map edge_from (made_links (lines_back d.lines 0 d.starts d.xs d.ys)))
      → ◌≡◌ {A = Drawing} (record { settings = d.settings; lines = d.lines; starts = d.starts; points = d.points; xs = d.xs; ys = d.ys; link_count = n; links = es }) (drawing_held (linked (drawing_from d)))
  unfolding drawing_held linked
  linked_held n es en ee =
      let h = L.held in
      let ls : List (List drawn.Point) = (drawing_from d).lines in
      let few : length (map edge_from (made_links ls)) ≤ most_links = omega (arith, length-map (made_links ls) edge_from, made_few ls L.counts.lines) in
      let p : n ≡ length (made_links ls) = en ∙ ap (λ (m : List (List drawn.Point)). length (made_links m)) (sym lines_are) in
      let q : es ≡ padded most_links no_link (map edge_from (made_links ls)) =
      ee ∙ ap (λ (m : List (List drawn.Point)). sets (replicate most_links no_link) 0 (map edge_from (made_links m))) (sym lines_are) ∙ sets_padded most_links no_link (map edge_from (made_links ls)) few in
      λ i. record { settings = (h i).settings; lines = (h i).lines; starts = (h i).starts; points = (h i).points; xs = (h i).xs; ys = (h i).ys; link_count = p i; links = q i }

-- ---- and back from the arrays

module _ (d : Drawing) (L : Linkable d) where
  linked_in : InLimits (linked (drawing_from d))
  linked_in = linked_within (drawing_from d) L.counts.lines L.counts.points L.lines_on

  -- what `Sound` asks of the new arrays: they hold what they say, which passes checks 6 to 8
  pub linked_sound : (r : Drawing) → r ≡ drawing_held (linked (drawing_from d))
      → (r ≡ drawing_held (drawing_from r)) × (drawing_from r ≡ linked (drawing_from d)) × (links_fit (drawing_from r) ≡ true) × InLimits (drawing_from r)
  linked_sound r e =
      let same : drawing_from r ≡ linked (drawing_from d) = ap drawing_from e ∙ drawing_back (linked (drawing_from d)) linked_in.links_on in
      (e ∙ ap drawing_held (sym same), same, rw same (linked_fit (drawing_from d)), rw same linked_in)
