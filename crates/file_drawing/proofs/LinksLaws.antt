-- Laws of specs/Links.
use Prim.Native.Nat.{ℕ, suc, ◌+◌, ◌≤◌, ◌<◌}
use native.Mathlib.Numerals.{add-one}
use native.Mathlib.Omega.{arith}
use mathlib.Core.Path.{◌≡◌, refl, sym, ap, ◌∙◌, subst}
use mathlib.Core.List.{List, [], ◌∷◌, map}
use mathlib.Core.Bool.{true, false}
use lib.ListN.{length, take, drop, set, replicate}
use lib.Seq.{sets}
use borrow.Author.Tests.{le-leb}
use Rattle.limits.specs.Limits.{most_links}
use Rattle.drawing_spec.specs.Read.{link_of, bodies, lengths_fit, all_links}
use Rattle.file_records.specs.Kind.{kind_of}
use Rattle.file_records.specs.Walk.{size_at, kind_at, body_at, next_at, records_from, cut_from}
use Rattle.file_records.proofs.Walk.{record_at, room, still_whole, record_here}
use Rattle.file_records.specs.Body.{edge_from, record_read}
use Rattle.file_records.proofs.View.{link_front}
use Rattle.file_records.proofs.Made.{body_link, record_whole}
use Rattle.file_records.specs.declared.Body.TheVariants as body
use Rattle.file_records.specs.declared.MstEdge.{MstEdge}
use Rattle.file_reader.specs.Part.{behind_at}
use Rattle.file_reader.proofs.Part.{behind_is}
use Rattle.file_drawing.specs.Held.{link_in, no_link}
use Rattle.drawing_spec.proofs.Records.{bodies_here, links_cons}
use Rattle.file_checks.proofs.TallyLaws.{link_size}
use Rattle.file_checks.proofs.KindsLaws.{some_left}
use Rattle.file_checks.proofs.CoordinatesLaws.{length_here, lengths_after}
use Rattle.file_drawing.specs.Links.{AtLinks, links_from}

-- ---- the link at a place, where links are left

module _ (file : List ℕ) (at : ℕ) (w : cut_from file at ≡ false) (o : all_links (records_from file at) ≡ true) (l : lengths_fit (records_from file at) ≡ true) (some : 0 < length (bodies 3 (records_from file at))) where
  here : at < length file
  here = some_left 3 file at some

  next : (kind_at file at ≡ 3) × (all_links (records_from file (next_at file at)) ≡ true)
  next = links_cons (record_at file at) (records_from file (next_at file at)) (sym (ap all_links (record_here file at here w)) ∙ o)

  long : size_at file at ≡ 40
  long = link_size (kind_at file at) (size_at file at) (length_here file at here w l) next.0

  bodies_are : bodies 3 (records_from file at) ≡ body_at file at ∷ bodies 3 (records_from file (next_at file at))
  bodies_are = ap (bodies 3) (record_here file at here w) ∙ bodies_here 3 (record_at file at) (records_from file (next_at file at)) next.0

  edge_here : link_in (record_read file at).body ≡ edge_from (link_of (body_at file at))
  edge_here =
      let k = next.0 in
      let e = edge_from (link_of (drop (at + 6) file)) in
      let b = body_link file at (size_at file at) refl e (sym (ap kind_of k)) long refl in
      sym (ap (λ r. link_in r.body) (record_whole file at true (sym (le-leb (next_at file at) (length file) (room file at here w))) (body.Link e) refl b))
      ∙ ap edge_from (sym (ap (λ (n : ℕ). link_of (take n (drop (at + 6) file))) long ∙ link_front (drop (at + 6) file)))

-- ---- the loop over the links

pub record Linking (file : List ℕ) (start count at link : ℕ) (edges : List MstEdge) : Type 0 where
  pub inside : at ≤ length file
  pub is_whole : cut_from file at ≡ false
  pub only_links : all_links (records_from file at) ≡ true
  pub lengths_fit_known : lengths_fit (records_from file at) ≡ true
  pub left : link + length (bodies 3 (records_from file at)) ≡ count
  pub same : sets edges link (links_from file at) ≡ sets (replicate most_links no_link) 0 (links_from file start)

pub link_start : (file : List ℕ) (start count : ℕ) (e : MstEdge) → AtLinks file start count → e ≡ no_link → Linking file start count start 0 (replicate most_links e)
link_start file start count e a z =
    let n = a.counted in
    record {
      inside = a.inside;
      is_whole = a.is_whole;
      only_links = a.only_links;
      lengths_fit_known = a.lengths_fit_known;
      left = omega arith;
      same = ap (λ (e : MstEdge). sets (replicate most_links e) 0 (links_from file start)) z;
    }

module _ (file : List ℕ) (start count at link : ℕ) (edges : List MstEdge) (f : Linking file start count at link edges) where
  pub link_end : count ≤ link → edges ≡ sets (replicate most_links no_link) 0 (links_from file start)
  link_end h =
      let l = f.left in
      sym (ap (sets edges link) (none (bodies 3 (records_from file at)) (omega arith))) ∙ f.same
    where
      none : (bs : List (List ℕ)) → length bs ≡ 0 → map edge_from (map link_of bs) ≡ []
      none [] e = refl
      none (b ∷ bs) e = absurd (omega arith)

  some_link : link < count → 0 < length (bodies 3 (records_from file at))
  some_link h = let l = f.left in omega arith

  pub link_on : link < count → (e : MstEdge) → e ≡ link_in (record_read file at).body → (place : ℕ) → place ≡ behind_at file at → Linking file start count place (link + 1) (set edges link e)
  link_on h e z place P =
      let s = some_link h in
      let w = f.is_whole in
      let l = f.left in
      let t = some_left 3 file at s in
      let b = bodies_are file at w f.only_links f.lengths_fit_known s in
      let m = ap length b in
      let r = room file at t w in
      subst (λ (a : ℕ). Linking file start count a (link + 1) (set edges link e)) (sym (P ∙ behind_is file at t w))
      (record {
        inside = r;
        is_whole = still_whole file at t w;
        only_links = (next file at w f.only_links f.lengths_fit_known s).1;
        lengths_fit_known = lengths_after file at t w f.lengths_fit_known;
        left = omega arith;
        same =
            ap (λ (k : ℕ). sets (set edges link e) k (links_from file (next_at file at))) (add-one link)
            ∙ ap (λ (e : MstEdge). sets (set edges link e) (suc link) (links_from file (next_at file at))) (z ∙ edge_here file at w f.only_links f.lengths_fit_known s)
            ∙ sym (ap (λ (bs : List (List ℕ)). sets edges link (map edge_from (map link_of bs))) b)
            ∙ f.same;
      })
