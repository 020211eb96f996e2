-- Laws of specs/MadeLinks: each way out of the code is one case of the definition.
use mathlib.Core.Path.{◌≡◌, refl, sym, ap, subst, ◌∙◌}
use mathlib.Core.List.{List, [], ◌∷◌, map}
use Prim.Native.Nat.{ℕ, zero, suc, ◌-◌, ◌≤◌, ◌<◌}
use native.Mathlib.Nat.{not-suc-le-zero}
use native.Mathlib.Omega.{arith}
use lib.ListN.{length, get_or, replicate, length-map, get_or-append, get_or-eq_default}
use Rattle.limits.specs.Limits.{most_links}
use Rattle.lists.specs.Members.{All}
use Rattle.drawing_spec.specs.Drawing as drawn
use Rattle.drawing_spec.specs.OnGrid.{OnGrid}
use Rattle.drawing_spec.proofs.OnGrid.{lines_on}
use Rattle.drawing_spec.specs.Accepted.{Counts}
use Rattle.drawing_spec.proofs.Accepted.{passed_counts}
use Rattle.drawing_spec.specs.Read.{records_of, drawing_of}
use Rattle.file_records.specs.declared.MstEdge.{MstEdge}
use Rattle.file_records.specs.Body.{edge_from}
use Rattle.file_drawing.specs.declared.Drawing.{Drawing}
use Rattle.file_drawing.specs.Held.{no_link, past_end, drawing_held}
use Rattle.file_drawing.specs.Back.{drawing_from}
use Rattle.limits.specs.Refused.{number_of}
use Rattle.limits.specs.declared.Refusal.{Refusal}
use Rattle.file.specs.Reading.{Accepted, Refused}
use Rattle.file.proofs.ReadingLaws.{taken, accepted_drawing}
use Rattle.links_spec.specs.Made.{to_plan}
use Rattle.links_made.specs.Linkable.{Linkable}
use Rattle.links_made.proofs.Planned.{planned_few}
use Rattle.links_c.specs.declared.MadeLink.{MadeLink}
use Rattle.links_c.specs.MadeLinks.{with_link, link_of, made_link_of}

-- ---- of a drawing

-- within a list it is all one what stands past its end
any_default : (es : List MstEdge) (j : ℕ) (a b : MstEdge) → j < length es → get_or es j a ≡ get_or es j b
any_default [] j a b h = absurd (not-suc-le-zero h)
any_default (e ∷ es) zero a b h = refl
any_default (e ∷ es) (suc j) a b h = any_default es j a b (omega arith)

module _ (d : Drawing) (L : Linkable d) (r : Drawing) (e : r ≡ drawing_held (to_plan (drawing_from d))) where
  abbrev edges : List MstEdge
  edges = map edge_from (to_plan (drawing_from d)).links

  count_is : r.link_count ≡ length (to_plan (drawing_from d)).links
  unfolding drawing_held
  count_is = ap (λ (x : Drawing). x.link_count) e

  pub links_few : r.link_count ≤ most_links
  links_few = omega (arith, count_is, planned_few d L)

  pub link_none : (j : ℕ) → r.link_count ≤ j → with_link 0 r.link_count no_link ≡ link_of (to_plan (drawing_from d)) j
  link_none j h =
      let past : get_or edges j no_link ≡ no_link = get_or-eq_default edges no_link (omega (arith, h, count_is, length-map (to_plan (drawing_from d)).links edge_from)) in
      λ i. with_link 0 (count_is i) (sym past i)

  pub link_there : (j : ℕ) → j < r.link_count → with_link 0 r.link_count (get_or r.links j past_end) ≡ link_of (to_plan (drawing_from d)) j
  unfolding drawing_held
  link_there j h =
      let inside : j < length edges = omega (arith, h, count_is, length-map (to_plan (drawing_from d)).links edge_from) in
      let at : get_or r.links j past_end ≡ get_or edges j no_link =
      ap (λ (x : Drawing). get_or x.links j past_end) e ∙ get_or-append edges (replicate (most_links - length edges) no_link) past_end j inside ∙ any_default edges j past_end no_link inside in
      λ i. with_link 0 (count_is i) (at i)

-- ---- of a file

module _ (file : List ℕ) (j : ℕ) where
  pub refused_link : (r : Refusal) → Refused file r → with_link (number_of r) 0 no_link ≡ made_link_of file j
  unfolding made_link_of
  refused_link r h = rw (h, made_link_of)

  module _ (d : Drawing) (a : Accepted file d) where
    drawing_is : drawing_from d ≡ drawing_of (records_of file)
    drawing_is = accepted_drawing file d a

    pub accepted_linkable : Linkable d
    accepted_linkable =
        let t = taken file d a in
        let back = sym drawing_is in
        record {
          held = t.drawing_is ∙ ap drawing_held back;
          counts = subst Counts back (passed_counts file t.passes);
          lines_on = subst (λ (d : drawn.Drawing). All (All OnGrid) d.lines) back (lines_on (records_of file) t.passes.on_grid);
        }

    pub accepted_link : (m : MadeLink) → m ≡ link_of (to_plan (drawing_from d)) j → m ≡ made_link_of file j
    unfolding made_link_of
    accepted_link m e = rw (a.verdict_is, made_link_of) (e ∙ ap (λ (d : drawn.Drawing). link_of (to_plan d) j) drawing_is)
