-- What is stored record by record is the file that is saved for the sketch that was given.
use mathlib.Core.Path.{◌≡◌, refl, sym, ap, ◌∙◌}
use mathlib.Core.List.{List, [], ◌∷◌, ◌++◌, append_assoc, append-nil, map}
use Prim.Native.Nat.{ℕ, zero, suc, ◌+◌, ◌*◌, ◌/◌, ◌≤◌}
use native.Mathlib.Omega.{arith}
use lib.ListN.{length, take, drop, length-append, length-drop, length-map}
use lib.Seq.{drop-drop, sets, length-sets}
use Rattle.limits.specs.Limits.{kind_settings, kind_line, kind_link}
use Rattle.grid.specs.Grid.{clean}
use Rattle.drawing_spec.specs.Bytes.{bytes}
use Rattle.drawing_spec.proofs.Back.{bytes_length}
use Rattle.drawing_spec.specs.Drawing.{PointOf, Settings, LinkOf, Pattern}
use Rattle.drawing_spec.specs.Read.{Record, total}
use Rattle.writer_spec.specs.File.{record_bytes, joined, settings_bytes, line_bytes, link_bytes, settings_as_record, line_as_record, link_as_record, file_of}
use Rattle.writer_spec.specs.Save.{saved_file}
use Rattle.writer_spec.specs.Given.{Given, points_given, lines_given, link_given, links_given, sketch_given}
use Rattle.writer_spec.proofs.Back.{record_parts, joined_cons, settings_bytes_lem, line_length}
use Rattle.writer_spec.proofs.Lengths.{link_length, settings_length}
use Rattle.writer_spec.proofs.Given.{total_cons, points_long, cleaned_given, cleaned_given_lem}
use Rattle.writer_records.specs.Stored.{numbers_bytes, part, coordinates_stored, head_bytes, line_stored, link_stored, lines_stored, lines_size, links_stored, LinesRoom, LinesPut, LinksRoom, FileRoom}
use Rattle.writer_records.proofs.StoredLaws.{both_stored, head_length, lines_cons, line_stored_length, links_cons}

headed_record : (r : Record) → record_bytes r ≡ head_bytes (length r.body) r.kind ++ r.body
headed_record r = record_parts r ∙ sym (append_assoc (bytes 4 (length r.body)) (bytes 2 r.kind) r.body)

-- ---- a line

points_bytes : (n : ℕ) (ws : List ℕ) → 2 * n ≤ length ws → line_bytes (points_given n ws) ≡ numbers_bytes 8 (take (2 * n) ws)
unfolding points_given line_bytes numbers_bytes
points_bytes zero ws h = refl
points_bytes (suc n) [] h = absurd (omega arith)
points_bytes (suc n) (a ∷ []) h = absurd (omega arith)
points_bytes (suc n) (a ∷ b ∷ ws) h =
    let e : 2 * suc n ≡ suc (suc (2 * n)) = omega arith in
    append_assoc (bytes 8 a) (bytes 8 b) (line_bytes (points_given n ws))
    ∙ ap (λ (l : List ℕ). bytes 8 a ++ (bytes 8 b ++ l)) (points_bytes n ws (omega arith))
    ∙ ap (λ (k : ℕ). numbers_bytes 8 (take k (a ∷ b ∷ ws))) (sym e)

line_is : (words : List ℕ) (from n : ℕ) → from + 2 * n ≤ length words → record_bytes (line_as_record (points_given n (drop from (map clean words)))) ≡ line_stored words from n
unfolding line_stored
line_is words from n h =
    let same = length-map words clean in
    let l = points_given n (drop from (map clean words)) in
    let e : length (line_bytes l) ≡ 16 * n = line_length l ∙ ap (λ (k : ℕ). 16 * k) (points_long n (drop from (map clean words))) in
    headed_record (line_as_record l) ∙ λ i. head_bytes (e i) kind_line ++ points_bytes n (drop from (map clean words)) (rw length-drop (omega arith)) i

given_cons : (n : ℕ) (ns ws : List ℕ) → lines_given (n ∷ ns) ws ≡ points_given n ws ∷ lines_given ns (drop (2 * n) ws)
unfolding lines_given
given_cons n ns ws = refl

no_lines : (words : List ℕ) (from : ℕ) (rs : List Record) → joined (map line_as_record (lines_given [] (drop from (map clean words))) ++ rs) ≡ lines_stored [] words from ++ joined rs
unfolding lines_given lines_stored
no_lines words from rs = refl

pub lines_are : (ns words : List ℕ) (from : ℕ) (rs : List Record) → from + 2 * total ns ≤ length words → joined (map line_as_record (lines_given ns (drop from (map clean words))) ++ rs) ≡ lines_stored ns words from ++ joined rs
lines_are [] words from rs h = no_lines words from rs
lines_are (n ∷ ns) words from rs h =
    let t = total_cons n ns in
    let l = points_given n (drop from (map clean words)) in
    ap (λ (ls : List (List (PointOf Pattern))). joined (map line_as_record ls ++ rs)) (given_cons n ns (drop from (map clean words)) ∙ ap (λ (ws : List ℕ). l ∷ lines_given ns ws) (drop-drop (2 * n) from (map clean words)))
    ∙ joined_cons (line_as_record l) (map line_as_record (lines_given ns (drop (from + 2 * n) (map clean words))) ++ rs)
    ∙ (λ i. line_is words from n (omega arith) i ++ lines_are ns words (from + 2 * n) rs (omega arith) i)
    ∙ sym (append_assoc (line_stored words from n) (lines_stored ns words (from + 2 * n)) (joined rs))
    ∙ ap (λ (l : List ℕ). l ++ joined rs) (sym (lines_cons n ns words from))

-- ---- a link

link_bytes_lem : (es ws : List ℕ) → 4 ≤ length es → 4 ≤ length ws → link_bytes (link_given es ws) ≡ numbers_bytes 2 (take 4 es) ++ numbers_bytes 8 (take 4 ws)
unfolding link_bytes numbers_bytes
link_bytes_lem [] ws h k = absurd (omega arith)
link_bytes_lem (a ∷ []) ws h k = absurd (omega arith)
link_bytes_lem (a ∷ b ∷ []) ws h k = absurd (omega arith)
link_bytes_lem (a ∷ b ∷ c ∷ []) ws h k = absurd (omega arith)
link_bytes_lem (a ∷ b ∷ c ∷ d ∷ es) [] h k = absurd (omega arith)
link_bytes_lem (a ∷ b ∷ c ∷ d ∷ es) (x ∷ []) h k = absurd (omega arith)
link_bytes_lem (a ∷ b ∷ c ∷ d ∷ es) (x ∷ y ∷ []) h k = absurd (omega arith)
link_bytes_lem (a ∷ b ∷ c ∷ d ∷ es) (x ∷ y ∷ z ∷ []) h k = absurd (omega arith)
link_bytes_lem (a ∷ b ∷ c ∷ d ∷ es) (x ∷ y ∷ z ∷ w ∷ ws) h k = simp (append_assoc, append-nil)

link_is : (segments words : List ℕ) (from : ℕ) → from + 4 ≤ length segments → from + 4 ≤ length words → record_bytes (link_as_record (link_given (drop from segments) (drop from (map clean words)))) ≡ link_stored segments words from
unfolding link_stored
link_is segments words from h k =
    let same = length-map words clean in
    let l = link_given (drop from segments) (drop from (map clean words)) in
    headed_record (link_as_record l)
    ∙ (λ i. head_bytes (link_length l i) kind_link ++ link_bytes_lem (drop from segments) (drop from (map clean words)) (rw length-drop (omega arith)) (rw length-drop (omega arith)) i)
    ∙ sym (append_assoc (head_bytes 40 kind_link) (numbers_bytes 2 (part segments from 4)) (coordinates_stored words from 4))

given_link : (k : ℕ) (es ws : List ℕ) → links_given (suc k) es ws ≡ link_given es ws ∷ links_given k (drop 4 es) (drop 4 ws)
unfolding links_given
given_link k es ws = refl

no_links : (segments words : List ℕ) (from : ℕ) → joined (map link_as_record (links_given zero (drop from segments) (drop from (map clean words)))) ≡ links_stored zero segments words from
unfolding links_given links_stored joined
no_links segments words from = refl

pub links_are : (k : ℕ) (segments words : List ℕ) (from : ℕ) → from + 4 * k ≤ length segments → from + 4 * k ≤ length words → joined (map link_as_record (links_given k (drop from segments) (drop from (map clean words)))) ≡ links_stored k segments words from
links_are zero segments words from h i = no_links segments words from
links_are (suc k) segments words from h i =
    let l = link_given (drop from segments) (drop from (map clean words)) in
    ap (λ (ls : List (LinkOf Pattern)). joined (map link_as_record ls)) (given_link k (drop from segments) (drop from (map clean words)) ∙ λ z. l ∷ links_given k (drop-drop 4 from segments z) (drop-drop 4 from (map clean words) z))
    ∙ joined_cons (link_as_record l) (map link_as_record (links_given k (drop (from + 4) segments) (drop (from + 4) (map clean words))))
    ∙ (λ z. link_is segments words from (omega arith) (omega arith) z ++ links_are k segments words (from + 4) (omega arith) (omega arith) z)
    ∙ sym (links_cons k segments words from)

-- ---- the file

file_parts : (g : Given) → file_of (sketch_given (cleaned_given g)) ≡ joined (settings_as_record g.settings ∷ (map line_as_record (lines_given g.sizes (map clean g.coordinates)) ++ map link_as_record (links_given (length g.segments / 4) g.segments (map clean g.ends))))
unfolding file_of sketch_given
file_parts g = refl

saved_is : (g : Given) → saved_file (sketch_given g) ≡ file_of (sketch_given (cleaned_given g))
unfolding saved_file
saved_is g = ap file_of (cleaned_given_lem g)

pub file_is : (g : Given) → 2 * total g.sizes ≤ length g.coordinates → 4 * (length g.segments / 4) ≤ length g.ends
    → saved_file (sketch_given g) ≡ record_bytes (settings_as_record g.settings) ++ (lines_stored g.sizes g.coordinates 0 ++ links_stored (length g.segments / 4) g.segments g.ends 0)
file_is g h k =
    let ks = map link_as_record (links_given (length g.segments / 4) g.segments (map clean g.ends)) in
    saved_is g
    ∙ file_parts g
    ∙ joined_cons (settings_as_record g.settings) (map line_as_record (lines_given g.sizes (map clean g.coordinates)) ++ ks)
    ∙ ap (λ (l : List ℕ). record_bytes (settings_as_record g.settings) ++ l)
    (lines_are g.sizes g.coordinates 0 ks (omega arith) ∙ ap (λ (l : List ℕ). lines_stored g.sizes g.coordinates 0 ++ l) (links_are (length g.segments / 4) g.segments g.ends 0 (omega arith) (omega arith)))

-- ---- stored

pub settings_stored : (d headed d1 d2 d3 d4 : List ℕ) (s : Settings) → headed ≡ sets d 0 (head_bytes 10 kind_settings) → d1 ≡ sets headed 6 (bytes 4 s.width) → d2 ≡ sets d1 10 (bytes 4 s.height) → d3 ≡ sets d2 14 (bytes 1 s.pairing) → d4 ≡ sets d3 15 (bytes 1 s.flags)
    → d4 ≡ sets d 0 (record_bytes (settings_as_record s))
settings_stored d headed d1 d2 d3 d4 s e0 e1 e2 e3 e4 =
    let h = head_bytes 10 kind_settings in
    let w = bytes 4 s.width in
    let t = bytes 4 s.height in
    let p = bytes 1 s.pairing in
    let f = bytes 1 s.flags in
    let lh = head_length 10 kind_settings in
    let lw = bytes_length 4 s.width in
    let lt = bytes_length 4 s.height in
    let lp = bytes_length 1 s.pairing in
    let l1 : length (h ++ w) ≡ 10 = omega (arith, length-append h w) in
    let l2 : length (h ++ w ++ t) ≡ 14 = omega (arith, length-append (h ++ w) t) in
    let l3 : length (h ++ w ++ t ++ p) ≡ 15 = omega (arith, length-append (h ++ w ++ t) p) in
    let s1 = both_stored d headed d1 0 6 6 h w lh refl e0 e1 in
    let s2 = both_stored d d1 d2 0 10 10 (h ++ w) t l1 refl s1 e2 in
    let s3 = both_stored d d2 d3 0 14 14 (h ++ w ++ t) p l2 refl s2 e3 in
    let s4 = both_stored d d3 d4 0 15 15 (h ++ w ++ t ++ p) f l3 refl s3 e4 in
    let is : record_bytes (settings_as_record s) ≡ h ++ (w ++ (t ++ (p ++ f))) = headed_record (settings_as_record s) ∙ λ i. head_bytes (settings_length s i) kind_settings ++ settings_bytes_lem s i in
    let re : h ++ (w ++ (t ++ (p ++ f))) ≡ h ++ w ++ t ++ p ++ f = simp append_assoc in
    s4 ∙ ap (sets d 0) (sym (is ∙ re))

settings_record_length : (s : Settings) → length (record_bytes (settings_as_record s)) ≡ 16
settings_record_length s = omega (arith, ap length (headed_record (settings_as_record s)), length-append (head_bytes (length (settings_bytes s)) kind_settings) (settings_bytes s), head_length (length (settings_bytes s)) kind_settings, settings_length s)

lines_length : (ns words : List ℕ) (from : ℕ) → from + 2 * total ns ≤ length words → length (lines_stored ns words from) ≡ lines_size ns
unfolding lines_size lines_stored
lines_length [] words from h = refl
lines_length (n ∷ ns) words from h =
    let t = total_cons n ns in
    omega (arith, length-append (line_stored words from n) (lines_stored ns words (from + 2 * n)), line_stored_length words from n (omega arith), lines_length ns words (from + 2 * n) (omega arith))

module _ (d : List ℕ) (g : Given) (r : FileRoom d g) where
  pub lines_room : (d1 : List ℕ) → d1 ≡ sets d 0 (record_bytes (settings_as_record g.settings)) → LinesRoom d1 16 g.sizes g.coordinates
  lines_room d1 e =
      let l = ap length e ∙ length-sets d 0 (record_bytes (settings_as_record g.settings)) in
      let a = r.room in
      record { room = omega arith; inside = r.points_in_known }

  pub links_room : (d1 d2 : List ℕ) (end : ℕ) → d1 ≡ sets d 0 (record_bytes (settings_as_record g.settings)) → LinesPut d1 16 g.sizes g.coordinates d2 end → LinksRoom d2 end g.segments g.ends
  links_room d1 d2 end e p =
      let l = ap length e ∙ length-sets d 0 (record_bytes (settings_as_record g.settings)) in
      let m = ap length p.is ∙ length-sets d1 16 (lines_stored g.sizes g.coordinates 0) in
      let a = r.room in
      let b = p.behind in
      record { room = omega arith; inside = r.links_in_known }

  pub file_stored : (d1 d2 d3 : List ℕ) (end : ℕ) → d1 ≡ sets d 0 (record_bytes (settings_as_record g.settings)) → LinesPut d1 16 g.sizes g.coordinates d2 end → d3 ≡ sets d2 end (links_stored (length g.segments / 4) g.segments g.ends 0)
      → d3 ≡ sets d 0 (saved_file (sketch_given g))
  file_stored d1 d2 d3 end e1 e2 e3 =
      let a = record_bytes (settings_as_record g.settings) in
      let b = lines_stored g.sizes g.coordinates 0 in
      let c = links_stored (length g.segments / 4) g.segments g.ends 0 in
      let la = settings_record_length g.settings in
      let lb = lines_length g.sizes g.coordinates 0 (let p = r.points_in_known in omega arith) in
      let lab : length (a ++ b) ≡ 16 + lines_size g.sizes = omega (arith, length-append a b) in
      both_stored d d2 d3 0 (16 + lines_size g.sizes) end (a ++ b) c lab (e2.behind ∙ omega arith) (both_stored d d1 d2 0 16 16 a b la refl e1 e2.is) e3
      ∙ ap (sets d 0) (append_assoc a b c ∙ sym (file_is g r.points_in_known r.links_in_known))
