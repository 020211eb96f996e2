-- What is written is read back: records from their bytes, and a sketch from its records.
use mathlib.Core.Path.{◌≡◌, refl, sym, ap, ◌∙◌}
use mathlib.Core.List.{List, [], ◌∷◌, ◌++◌, append_assoc, append-nil, map}
use mathlib.Core.Bool.{false}
use Prim.Native.Nat.{ℕ, zero, suc, ◌+◌, ◌*◌, ◌/◌, ◌^◌, ◌≤◌, ◌<◌}
use native.Mathlib.Omega.{arith}
use lib.ListN.{length, take, drop, length-append}
use lib.Seq.{drop-drop, take_at, drop_at}
use Rattle.limits.specs.Limits.{kind_line, kind_link}
use Rattle.lists.specs.Members.{All}
use Rattle.lists.proofs.Parts.{drop_on}
use Rattle.drawing_spec.specs.Bytes.{number, bytes}
use Rattle.drawing_spec.proofs.Back.{bytes_length}
use Rattle.drawing_spec.specs.Drawing.{PointOf, Settings, LinkOf, Pattern, Sketch}
use Rattle.drawing_spec.specs.Read.{Record, whole, before, split, records_of, is_cut, spot, spots, settings_of, spots_of_line, sketched_link, bodies, sketch_of}
use Rattle.drawing_spec.proofs.Placed.{spot_parts, spots_one, link_parts_lem}
use Rattle.drawing_spec.proofs.Split.{front, split_nil, split_fits}
use Rattle.writer_spec.specs.File.{record_bytes, joined, settings_bytes, spot_bytes, line_bytes, link_bytes, line_as_record, link_as_record, records_for}
use Rattle.writer_spec.specs.OneFile.{SettingsHeld, PointHeld, LinkHeld, Held}
use Rattle.writer_spec.proofs.Parts.{At, read_at}

-- ---- records

pub record Whole (r : Record) : Type 0 where
  pub size : length r.body < 256 ^ 4
  pub kind : r.kind < 256 ^ 2

pub record_parts : (r : Record) → record_bytes r ≡ bytes 4 (length r.body) ++ (bytes 2 r.kind ++ r.body)
unfolding record_bytes
record_parts r = refl

pub joined_cons : (r : Record) (rs : List Record) → joined (r ∷ rs) ≡ record_bytes r ++ joined rs
unfolding joined
joined_cons r rs = refl

joined_one : (r : Record) (rs : List Record) → joined (r ∷ rs) ≡ bytes 4 (length r.body) ++ (bytes 2 r.kind ++ (r.body ++ joined rs))
unfolding joined record_bytes
joined_one r rs = simp append_assoc

pub joined_length : (r : Record) (rs : List Record) → length (joined (r ∷ rs)) ≡ 6 + length r.body + length (joined rs)
joined_length r rs =
    let a = bytes 4 (length r.body) in
    let b = bytes 2 r.kind in
    omega (
      arith,
      ap length (joined_one r rs),
      length-append a (b ++ (r.body ++ joined rs)),
      length-append b (r.body ++ joined rs),
      length-append r.body (joined rs),
      bytes_length 4 (length r.body),
      bytes_length 2 r.kind,
    )

module _ (r : Record) (rs : List Record) (w : Whole r) where
  abbrev size : ℕ
  size = length r.body

  one : At 0 4 size (joined (r ∷ rs)) (bytes 2 r.kind ++ (r.body ++ joined rs))
  one = read_at 0 4 size (joined (r ∷ rs)) (bytes 2 r.kind ++ (r.body ++ joined rs)) w.size (joined_one r rs)

  two : At 4 2 r.kind (joined (r ∷ rs)) (r.body ++ joined rs)
  two = read_at 4 2 r.kind (joined (r ∷ rs)) (r.body ++ joined rs) w.kind one.behind

  three : drop 6 (joined (r ∷ rs)) ≡ r.body ++ joined rs
  three = two.behind

  front_is : front (joined (r ∷ rs)) ≡ r
  front_is =
      let b : take (number 4 (joined (r ∷ rs))) (drop 6 (joined (r ∷ rs))) ≡ r.body =
      ap (λ (k : ℕ). take k (drop 6 (joined (r ∷ rs)))) one.is ∙ ap (take size) three ∙ take_at r.body (joined rs) size refl in
      λ i. record { kind = two.is i; body = b i }

  rest_is : drop (6 + number 4 (joined (r ∷ rs))) (joined (r ∷ rs)) ≡ joined rs
  rest_is = ap (λ (k : ℕ). drop (6 + k) (joined (r ∷ rs))) one.is ∙ drop_on 6 size (joined (r ∷ rs)) (r.body ++ joined rs) (joined rs) three (drop_at r.body (joined rs) size refl)

  size_fits : 6 + number 4 (joined (r ∷ rs)) ≤ length (joined (r ∷ rs))
  size_fits = let e = one.is in let l = joined_length r rs in omega arith

-- splitting the bytes of records gives these records
split_joined : (rs : List Record) → All Whole rs → (n : ℕ) → length (joined rs) ≤ n → split n (joined rs) ≡ whole rs
unfolding joined before
split_joined [] a n h = split_nil n
split_joined (r ∷ rs) a zero h = let l = joined_length r rs in absurd (omega arith)
split_joined (r ∷ rs) a (suc n) h =
    let w = a.0 in
    let l = joined_length r rs in
    split_fits n (joined (r ∷ rs)) (omega arith) (size_fits r rs w)
    ∙ ap (λ (x : Record). before x (split n (drop (6 + number 4 (joined (r ∷ rs))) (joined (r ∷ rs))))) (front_is r rs w)
    ∙ ap (λ (bs : List ℕ). before r (split n bs)) (rest_is r rs w)
    ∙ ap (before r) (split_joined rs a.1 n (omega arith))

pub records_joined : (rs : List Record) → All Whole rs → records_of (joined rs) ≡ rs
unfolding records_of
records_joined rs a = rw (split_joined rs a (length (joined rs)) (omega arith), records_of)

pub joined_uncut : (rs : List Record) → All Whole rs → is_cut (joined rs) ≡ false
unfolding is_cut
joined_uncut rs a = rw (split_joined rs a (length (joined rs)) (omega arith), is_cut)

-- ---- bodies

settings_parts : (bs : List ℕ) → settings_of bs ≡ record { width = number 4 bs; height = number 4 (drop 4 bs); pairing = number 1 (drop 8 bs); flags = number 1 (drop 9 bs) }
unfolding settings_of
settings_parts bs = refl

pub settings_bytes_lem : (s : Settings) → settings_bytes s ≡ bytes 4 s.width ++ (bytes 4 s.height ++ (bytes 1 s.pairing ++ bytes 1 s.flags))
unfolding settings_bytes
settings_bytes_lem s = refl

settings_back : (s : Settings) → SettingsHeld s → settings_of (settings_bytes s) ≡ s
settings_back s h =
    let bs = settings_bytes s in
    let f = bytes 1 s.flags in
    let p = bytes 1 s.pairing ++ f in
    let g = bytes 4 s.height ++ p in
    let a = read_at 0 4 s.width bs g h.width (settings_bytes_lem s) in
    let b = read_at 4 4 s.height bs p h.height a.behind in
    let c = read_at 8 1 s.pairing bs f h.pairing b.behind in
    let d = read_at 9 1 s.flags bs [] h.flags (c.behind ∙ sym (append-nil f)) in
    settings_parts bs ∙ λ i. record { width = a.is i; height = b.is i; pairing = c.is i; flags = d.is i }

-- a point at a place
spot_bytes_lem : (p : PointOf Pattern) (rest : List ℕ) → spot_bytes p ++ rest ≡ bytes 8 p.x.bits ++ (bytes 8 p.y.bits ++ rest)
unfolding spot_bytes
spot_bytes_lem p rest = simp append_assoc

record SpotAt (m : ℕ) (p : PointOf Pattern) (bs rest : List ℕ) : Type 0 where
  pub is : spot (drop m bs) ≡ p
  pub behind : drop (m + 16) bs ≡ rest

spot_at : (m : ℕ) (p : PointOf Pattern) (bs rest : List ℕ) → PointHeld p → drop m bs ≡ spot_bytes p ++ rest → SpotAt m p bs rest
spot_at m p bs rest h e =
    let y = bytes 8 p.y.bits ++ rest in
    let a = read_at m 8 p.x.bits bs y h.0 (e ∙ spot_bytes_lem p rest) in
    let b = read_at (m + 8) 8 p.y.bits bs rest h.1 a.behind in
    let n : (m + 8) + 8 ≡ m + 16 = omega arith in
    let is_y : number 8 (drop 8 (drop m bs)) ≡ p.y.bits = ap (number 8) (drop-drop 8 m bs) ∙ b.is in
    record {
      is = spot_parts (drop m bs) ∙ λ i. record { x = record { bits = a.is i }; y = record { bits = is_y i } };
      behind = ap (λ (k : ℕ). drop k bs) (sym n) ∙ b.behind;
    }

pub line_length : (l : List (PointOf Pattern)) → length (line_bytes l) ≡ 16 * length l
unfolding line_bytes spot_bytes
line_length [] = refl
line_length (p ∷ l) =
    omega (
      arith,
      length-append (bytes 8 p.x.bits ++ bytes 8 p.y.bits) (line_bytes l),
      length-append (bytes 8 p.x.bits) (bytes 8 p.y.bits),
      bytes_length 8 p.x.bits,
      bytes_length 8 p.y.bits,
      line_length l,
    )

pub line_bytes_lem : (p : PointOf Pattern) (l : List (PointOf Pattern)) → line_bytes (p ∷ l) ≡ spot_bytes p ++ line_bytes l
unfolding line_bytes
line_bytes_lem p l = refl

spots_back : (l : List (PointOf Pattern)) → All PointHeld l → spots (length l) (line_bytes l) ≡ l
unfolding spots
spots_back [] h = refl
spots_back (p ∷ l) h =
    let s = spot_at 0 p (line_bytes (p ∷ l)) (line_bytes l) h.0 (line_bytes_lem p l) in
    spots_one (length l) (line_bytes (p ∷ l)) ∙ λ i. s.is i ∷ (ap (spots (length l)) s.behind ∙ spots_back l h.1) i

pub line_back : (l : List (PointOf Pattern)) → All PointHeld l → spots_of_line (line_bytes l) ≡ l
unfolding spots_of_line
line_back l h =
    let n = line_length l in
    let e : length (line_bytes l) / 16 ≡ length l = omega arith in
    ap (λ (k : ℕ). spots k (line_bytes l)) e ∙ spots_back l h

pub link_bytes_lem : (l : LinkOf Pattern)
    → link_bytes l ≡ bytes 2 l.first.line ++ (bytes 2 l.first.segment ++ (bytes 2 l.second.line ++ (bytes 2 l.second.segment ++ (spot_bytes l.first.point ++ spot_bytes l.second.point))))
unfolding link_bytes
link_bytes_lem l = refl

pub link_back_lem : (l : LinkOf Pattern) → LinkHeld l → sketched_link (link_bytes l) ≡ l
link_back_lem l h =
    let bs = link_bytes l in
    let q = spot_bytes l.second.point in
    let p = spot_bytes l.first.point ++ q in
    let d = bytes 2 l.second.segment ++ p in
    let c = bytes 2 l.second.line ++ d in
    let b = bytes 2 l.first.segment ++ c in
    let r1 = read_at 0 2 l.first.line bs b h.first.line (link_bytes_lem l) in
    let r2 = read_at 2 2 l.first.segment bs c h.first.segment r1.behind in
    let r3 = read_at 4 2 l.second.line bs d h.second.line r2.behind in
    let r4 = read_at 6 2 l.second.segment bs p h.second.segment r3.behind in
    let r5 = spot_at 8 l.first.point bs q h.first.point r4.behind in
    let r6 = spot_at 24 l.second.point bs [] h.second.point (r5.behind ∙ sym (append-nil q)) in
    link_parts_lem bs ∙ λ i. record { first = record { line = r1.is i; segment = r2.is i; point = r5.is i }; second = record { line = r3.is i; segment = r4.is i; point = r6.is i } }

-- ---- the records of a sketch

lines_bodies : (ls : List (List (PointOf Pattern))) (rs : List Record) → bodies kind_line (map line_as_record ls ++ rs) ≡ map line_bytes ls ++ bodies kind_line rs
unfolding bodies
lines_bodies [] rs = refl
lines_bodies (l ∷ ls) rs = ap (λ (bs : List (List ℕ)). line_bytes l ∷ bs) (lines_bodies ls rs)

no_links_in_lines : (ls : List (List (PointOf Pattern))) (rs : List Record) → bodies kind_link (map line_as_record ls ++ rs) ≡ bodies kind_link rs
unfolding bodies
no_links_in_lines [] rs = refl
no_links_in_lines (l ∷ ls) rs = no_links_in_lines ls rs

links_bodies : (ks : List (LinkOf Pattern)) → bodies kind_link (map link_as_record ks) ≡ map link_bytes ks
unfolding bodies
links_bodies [] = refl
links_bodies (k ∷ ks) = ap (λ (bs : List (List ℕ)). link_bytes k ∷ bs) (links_bodies ks)

no_lines_in_links : (ks : List (LinkOf Pattern)) → bodies kind_line (map link_as_record ks) ≡ []
unfolding bodies
no_lines_in_links [] = refl
no_lines_in_links (k ∷ ks) = no_lines_in_links ks

module _ (s : Sketch) where
  pub bodies_lines : bodies kind_line (records_for s) ≡ map line_bytes s.lines
  unfolding records_for bodies
  bodies_lines = lines_bodies s.lines (map link_as_record s.links) ∙ ap (λ (bs : List (List ℕ)). map line_bytes s.lines ++ bs) (no_lines_in_links s.links) ∙ append-nil (map line_bytes s.lines)

  pub bodies_links : bodies kind_link (records_for s) ≡ map link_bytes s.links
  unfolding records_for bodies
  bodies_links = no_links_in_lines s.lines (map link_as_record s.links) ∙ links_bodies s.links

map_back : {A B : Type 0} (f : A → B) (g : B → A) (P : A → Type 0) → ((a : A) → P a → g (f a) ≡ a) → (xs : List A) → All P xs → map g (map f xs) ≡ xs
map_back f g P e [] a = refl
map_back f g P e (x ∷ xs) a = λ i. e x a.0 i ∷ map_back f g P e xs a.1 i

records_sketch : (s : Sketch) → sketch_of (records_for s) ≡ record { settings = settings_of (settings_bytes s.settings); lines = map spots_of_line (bodies kind_line (records_for s)); links = map sketched_link (bodies kind_link (records_for s)) }
unfolding sketch_of records_for bodies
records_sketch s = refl

-- the sketch of a sketch's records is that sketch
pub sketch_back : (s : Sketch) → Held s → sketch_of (records_for s) ≡ s
sketch_back s h = records_sketch s ∙ λ i. record { settings = settings_back s.settings h.settings i; lines = ls i; links = ks i }
  where
    ls : map spots_of_line (bodies kind_line (records_for s)) ≡ s.lines
    ls = ap (map spots_of_line) (bodies_lines s) ∙ map_back line_bytes spots_of_line (All PointHeld) line_back s.lines h.lines

    ks : map sketched_link (bodies kind_link (records_for s)) ≡ s.links
    ks = ap (map sketched_link) (bodies_links s) ∙ map_back link_bytes sketched_link LinkHeld link_back_lem s.links h.links
