-- The values that the code makes are those of `Body`. Assumes nothing.
use Prim.Native.Nat.{ℕ, ◌+◌, ◌/◌, ◌%◌}
use mathlib.Core.Path.{◌≡◌, refl, sym, ap, ◌∙◌}
use mathlib.Core.List.{List}
use mathlib.Core.Bool.{Bool, true, false}
use lib.ListN.{drop}
use lib.Ieee.{Float}
use borrow.Author.Tests.{eq-eqb, ne_eqb}
use Rattle.grid.specs.Grid.{read_place, coordinate, place_at}
use Rattle.drawing_spec.specs.Bytes.{number}
use Rattle.drawing_spec.specs.Read.{point, settings_of, link_of}
use Rattle.file_records.specs.declared.Settings.{Settings}
use Rattle.file_records.specs.declared.Point.{Point}
use Rattle.file_records.specs.declared.MstEdge.{MstEdge}
use Rattle.file_records.specs.declared.Body.{Body}
use Rattle.file_records.specs.declared.Body.TheVariants as body
use Rattle.file_records.specs.declared.Record.{Record}
use Rattle.file_records.specs.declared.Kind.TheVariants as kind
use Rattle.file_records.specs.Kind.{kind_of}
use Rattle.file_records.specs.Walk.{size_at, kind_at}
use Rattle.file_records.specs.Body.{settings_from, point_from, edge_from, body_read, whole_at, record_read}
use Rattle.file_records.proofs.KindsLaws.{settings_number, line_number, link_number, other_number}
use Rattle.file_records.proofs.View.{settings_at, point_at, link_at, settings_front, link_front}

module _ (at : ℕ) (file : List ℕ) where
  pub settings_made : (w h p f : ℕ) → w ≡ number 4 (drop at file) → h ≡ number 4 (drop (at + 4) file) → p ≡ number 1 (drop (at + 8) file) → f ≡ number 1 (drop (at + 9) file)
      → ◌≡◌ {A = Settings} (record { width = w; height = h; pairing = p; flags = f }) (settings_from (settings_of (drop at file)))
  settings_made w h p f ew eh ep ef = cc (settings_at at file)

  pub point_made : (x y : Float) (p q : ℕ) → x ≡ coordinate p → y ≡ coordinate q → p ≡ place_at (read_place (number 8 (drop at file))) → q ≡ place_at (read_place (number 8 (drop (at + 8) file)))
      → ◌≡◌ {A = Point} (record { x = x; y = y }) (point_from (point (drop at file)))
  point_made x y p q ex ey ep eq = cc (point_at at file)

  pub edge_made : (a b c d : ℕ) (p q : Point)
      → a ≡ number 2 (drop at file) → b ≡ number 2 (drop (at + 2) file) → c ≡ number 2 (drop (at + 4) file) → d ≡ number 2 (drop (at + 6) file)
      → p ≡ point_from (point (drop (at + 8) file)) → q ≡ point_from (point (drop (at + 24) file))
      → ◌≡◌ {A = MstEdge} (record { poly_a = a; seg_a = b; poly_b = c; seg_b = d; point_a = p; point_b = q }) (edge_from (link_of (drop at file)))
  edge_made a b c d p q ea eb ec ed ep eq = cc (link_at at file)

-- a body by its kind and its length n
module _ (file : List ℕ) (at n : ℕ) (N : n ≡ size_at file at) where
  pub body_settings : (s : Settings) → kind.Settings ≡ kind_of (kind_at file at) → n ≡ 10 → s ≡ settings_from (settings_of (drop (at + 6) file)) → body.Settings s ≡ body_read file at
  unfolding body_read
  body_settings s e l m =
      let z : size_at file at ≡ 10 = sym N ∙ l in
      rw (settings_number (kind_at file at) e, z) (ap body.Settings (m ∙ ap settings_from (sym (settings_front (drop (at + 6) file)))))

  pub no_settings : kind.Settings ≡ kind_of (kind_at file at) → (n ≡ 10 → ⊥) → body.Other ≡ body_read file at
  unfolding body_read
  no_settings e l = rw (settings_number (kind_at file at) e, ne_eqb (size_at file at) 10 (λ q. l (N ∙ q)))

  pub body_line : kind.Line ≡ kind_of (kind_at file at) → n % 16 ≡ 0 → body.Line (n / 16) ≡ body_read file at
  unfolding body_read
  body_line e l = rw (line_number (kind_at file at) e, eq-eqb (size_at file at % 16) 0 (ap (λ (m : ℕ). m % 16) (sym N) ∙ l)) (ap (λ (m : ℕ). body.Line (m / 16)) N)

  pub no_line : kind.Line ≡ kind_of (kind_at file at) → (n % 16 ≡ 0 → ⊥) → body.Other ≡ body_read file at
  unfolding body_read
  no_line e l = rw (line_number (kind_at file at) e, ne_eqb (size_at file at % 16) 0 (λ q. l (ap (λ (m : ℕ). m % 16) N ∙ q)))

  pub body_link : (s : MstEdge) → kind.Link ≡ kind_of (kind_at file at) → n ≡ 40 → s ≡ edge_from (link_of (drop (at + 6) file)) → body.Link s ≡ body_read file at
  unfolding body_read
  body_link s e l m =
      let z : size_at file at ≡ 40 = sym N ∙ l in
      rw (link_number (kind_at file at) e, z) (ap body.Link (m ∙ ap edge_from (sym (link_front (drop (at + 6) file)))))

  pub no_link : kind.Link ≡ kind_of (kind_at file at) → (n ≡ 40 → ⊥) → body.Other ≡ body_read file at
  unfolding body_read
  no_link e l = rw (link_number (kind_at file at) e, ne_eqb (size_at file at) 40 (λ q. l (N ∙ q)))

pub no_kind : (file : List ℕ) (at : ℕ) → kind.Other ≡ kind_of (kind_at file at) → body.Other ≡ body_read file at
unfolding body_read
no_kind file at e =
    let other = other_number (kind_at file at) e in
    rw (ne_eqb (kind_at file at) 1 other.0, ne_eqb (kind_at file at) 2 other.1, ne_eqb (kind_at file at) 3 other.2)

pub record_place : (file : List ℕ) (at : ℕ) → (record_read file at).at ≡ at
unfolding record_read
record_place file at = refl

module _ (file : List ℕ) (at : ℕ) (t : Bool) (W : t ≡ whole_at file at) where
  pub record_whole : (b : Body) → t ≡ true → b ≡ body_read file at → ◌≡◌ {A = Record} (record { at = at; body = b }) (record_read file at)
  unfolding record_read
  record_whole b e m = rw (sym W ∙ e) (ap (λ (x : Body). record { at = at; body = x }) m)

  pub record_none : t ≡ false → ◌≡◌ {A = Record} (record { at = at; body = body.Other }) (record_read file at)
  unfolding record_read
  record_none e = rw (sym W ∙ e)
