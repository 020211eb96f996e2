-- What is written is the one file without minus zero that reads back as the sketch.
use mathlib.Core.Path.{◌≡◌, refl, sym, ap, subst, ◌∙◌}
use mathlib.Core.List.{List, [], ◌∷◌, ◌++◌, map}
use mathlib.Core.Bool.{Bool, true, false, ◌&&◌, ◌||◌, true≢false}
use Prim.Native.Nat.{ℕ, zero, suc, ◌/◌, ◌%◌, ◌≤◌}
use native.Mathlib.Omega.{arith}
use lib.ListN.{length}
use lib.Dec.{eqb}
use borrow.Author.Tests.{eq-eqb, le-ltb, not-false}
use Rattle.limits.specs.Limits.{kind_settings, kind_line, kind_link, settings_size, point_size, link_size, most_bytes, refused_coordinates}
use Rattle.lists.specs.Members.{All}
use Rattle.lists.proofs.Members.{in_all, all_append, all_map, all_imp}
use Rattle.drawing_spec.specs.Bytes.{bytes}
use Rattle.drawing_spec.specs.Drawing.{PointOf, Settings, LinkOf, Pattern, Sketch, linking, over}
use Rattle.drawing_spec.specs.Refusal.{refused, accepted, verdict, holds}
use Rattle.drawing_spec.proofs.Refusal.{behind_accepted, both_accepted, fails}
use Rattle.drawing_spec.proofs.Accepted.{conditions_are, accepted_passes, every_map, sketch_no_links}
use Rattle.drawing_spec.specs.Cleaned.{cleaned, cleaned_file, Plain}
use Rattle.drawing_spec.proofs.Cleaned.{cleaned_drawing, cleaned_conditions, same_conditions, cleaned_plain}
use Rattle.drawing_spec.specs.Read.{Record, records_of, is_cut, bodies, sketch_of, placed, drawing_of, every, kinds_fit, lines_then_links, lengths_fit, coordinates_fit, sketch_conditions, record_conditions, read_conditions}
use Rattle.writer_spec.specs.File.{record_bytes, joined, settings_bytes, spot_bytes, line_bytes, link_bytes, settings_as_record, line_as_record, link_as_record, records_for, file_of}
use Rattle.writer_spec.specs.Save.{saved_file}
use Rattle.writer_spec.specs.OneFile.{Byte, ReadsAs, OneFile, Held, Patterned}
use Rattle.writer_spec.proofs.Back.{Whole, record_parts, settings_bytes_lem, link_bytes_lem, records_joined, joined_uncut, line_length, bodies_lines, bodies_links, sketch_back}
use Rattle.writer_spec.proofs.SameBits.{bits_at, same_bits}
use Rattle.writer_spec.proofs.Cleaned.{cleaned_patterned, cleaned_written, plain_written, drawing_bits}
use Rattle.writer_spec.proofs.Lengths.{points_in, settings_length, link_length, file_length, file_short, below_check_1}
use Rattle.writer_spec.proofs.Widths.{short_lines, taken_counts, taken_held}

-- ---- checks 2 to 4 of a sketch's file

settings_whole : (s : Settings) → Whole (settings_as_record s)
settings_whole s = let l = settings_length s in record { size = omega arith; kind = omega arith }

line_whole : (l : List (PointOf Pattern)) → length l ≤ most_bytes → Whole (line_as_record l)
line_whole l h = let n = line_length l in record { size = omega arith; kind = omega arith }

every_link : (ks : List (LinkOf Pattern)) → All Whole (map link_as_record ks)
every_link [] = tt
every_link (k ∷ ks) = let n = link_length k in (record { size = omega arith; kind = omega arith }, every_link ks)

all_whole : (s : Sketch) → points_in s.lines ≤ most_bytes → All Whole (records_for s)
unfolding records_for
all_whole s h = (
  settings_whole s.settings,
  all_append Whole (map line_as_record s.lines) (map link_as_record s.links)
      (all_map line_as_record Whole s.lines (all_imp (λ (l : List (PointOf Pattern)). length l ≤ most_bytes) (λ (l : List (PointOf Pattern)). Whole (line_as_record l)) line_whole s.lines (short_lines most_bytes s.lines h)))
      (every_link s.links),
)

links_in_order : (ks : List (LinkOf Pattern)) → every (λ (l : Record). eqb l.kind kind_link) (map link_as_record ks) ≡ true
unfolding every
links_in_order [] = refl
links_in_order (k ∷ ks) = links_in_order ks

lines_in_order : (ls : List (List (PointOf Pattern))) (ks : List (LinkOf Pattern)) → lines_then_links (map line_as_record ls ++ map link_as_record ks) ≡ true
unfolding lines_then_links
lines_in_order [] [] = refl
lines_in_order [] (k ∷ ks) = links_in_order (k ∷ ks)
lines_in_order (l ∷ ls) ks = ap (λ (t : Bool). t || every (λ (l : Record). eqb l.kind kind_link) (map line_as_record (l ∷ ls) ++ map link_as_record ks)) (lines_in_order ls ks)

kinds_fit_lem : (s : Sketch) → kinds_fit (records_for s) ≡ true
unfolding kinds_fit records_for
kinds_fit_lem s = lines_in_order s.lines s.links

links_no_settings : (ks : List (LinkOf Pattern)) → bodies kind_settings (map link_as_record ks) ≡ []
unfolding bodies
links_no_settings [] = refl
links_no_settings (k ∷ ks) = links_no_settings ks

lines_no_settings : (ls : List (List (PointOf Pattern))) (ks : List (LinkOf Pattern)) → bodies kind_settings (map line_as_record ls ++ map link_as_record ks) ≡ []
unfolding bodies
lines_no_settings [] ks = links_no_settings ks
lines_no_settings (l ∷ ls) ks = lines_no_settings ls ks

settings_bodies : (s : Sketch) → bodies kind_settings (records_for s) ≡ settings_bytes s.settings ∷ []
unfolding records_for bodies
settings_bodies s = ap (λ (bs : List (List ℕ)). settings_bytes s.settings ∷ bs) (lines_no_settings s.lines s.links)

every_one : (f : List ℕ → Bool) (b : List ℕ) → f b ≡ true → every f (b ∷ []) ≡ true
unfolding every
every_one f b h = λ i. h i && true

lengths_fit_known : (s : Sketch) → lengths_fit (records_for s) ≡ true
unfolding lengths_fit
lengths_fit_known s =
    let one : every (λ (b : List ℕ). eqb (length b) settings_size) (bodies kind_settings (records_for s)) ≡ true =
    ap (every (λ (b : List ℕ). eqb (length b) settings_size)) (settings_bodies s) ∙ every_one (λ (b : List ℕ). eqb (length b) settings_size) (settings_bytes s.settings) (eq-eqb _ settings_size (settings_length s.settings)) in
    let two : every (λ (b : List ℕ). eqb (length b % point_size) 0) (bodies kind_line (records_for s)) ≡ true =
    ap (every (λ (b : List ℕ). eqb (length b % point_size) 0)) (bodies_lines s)
    ∙ every_map line_bytes (λ (b : List ℕ). eqb (length b % point_size) 0) s.lines (in_all (λ (l : List (PointOf Pattern)). eqb (length (line_bytes l) % point_size) 0 ≡ true) s.lines (λ l i. let n = line_length l in eq-eqb (length (line_bytes l) % point_size) 0 (omega arith))) in
    let three : every (λ (b : List ℕ). eqb (length b) link_size) (bodies kind_link (records_for s)) ≡ true =
    ap (every (λ (b : List ℕ). eqb (length b) link_size)) (bodies_links s) ∙ every_map link_bytes (λ (b : List ℕ). eqb (length b) link_size) s.links (in_all (λ (k : LinkOf Pattern). eqb (length (link_bytes k)) link_size ≡ true) s.links (λ k i. eq-eqb (length (link_bytes k)) link_size (link_length k))) in
    λ i. (one i && two i) && three i

-- ---- what the reader says of a sketch's file

file_is : (s : Sketch) → file_of s ≡ joined (records_for s)
unfolding file_of
file_is s = refl

records_pass : (file : List ℕ) → length file ≤ most_bytes → is_cut file ≡ false → kinds_fit (records_of file) ≡ true → lengths_fit (records_of file) ≡ true → verdict (record_conditions file) ≡ accepted
unfolding record_conditions verdict
records_pass file s w k l = rw (le-ltb most_bytes (length file) s, w, k, l)

-- a sketch, right or wrong, whose numbers fit the widths of a file and whose file passes check 1
module _ (s : Sketch) (h : Held s) (short : length (file_of s) ≤ most_bytes) where
  whole_records : All Whole (records_for s)
  whole_records = let l = file_length s in all_whole s (omega arith)

  records_back : records_of (file_of s) ≡ records_for s
  records_back = ap records_of (file_is s) ∙ records_joined (records_for s) whole_records

  sketch_read : sketch_of (records_of (file_of s)) ≡ s
  sketch_read = ap sketch_of records_back ∙ sketch_back s h

  passes_records : verdict (record_conditions (file_of s)) ≡ accepted
  passes_records = records_pass (file_of s) short (ap is_cut (file_is s) ∙ joined_uncut (records_for s) whole_records) (ap kinds_fit records_back ∙ kinds_fit_lem s) (ap lengths_fit records_back ∙ lengths_fit_known s)

  -- The reader says of its file what the writer says of the sketch, its refusals among it: the same number, or that it is taken.
  pub same_verdict : verdict (read_conditions (file_of s)) ≡ verdict (sketch_conditions s)
  same_verdict =
      ap verdict (conditions_are (file_of s))
      ∙ behind_accepted (record_conditions (file_of s)) (sketch_conditions (sketch_of (records_of (file_of s)))) passes_records
      ∙ ap (λ (t : Sketch). verdict (sketch_conditions t)) sketch_read

-- Where the planner makes the links, none stand in what was read, so a drawing that was planned is saved without links.
pub flagged_no_links : (file : List ℕ) → verdict (read_conditions file) ≡ accepted → linking (sketch_of (records_of file)).settings ≡ true → (sketch_of (records_of file)).links ≡ []
flagged_no_links file e h = sketch_no_links file (accepted_passes file e) h

-- ---- what is written is made of bytes

byte_low : (v : ℕ) → Byte (v % 256)
byte_low v = omega arith

bytes_bytes : (n v : ℕ) → All Byte (bytes n v)
unfolding bytes
bytes_bytes zero v = tt
bytes_bytes (suc n) v = (byte_low v, bytes_bytes n (v / 256))

spot_in_bytes : (p : PointOf Pattern) → All Byte (spot_bytes p)
unfolding spot_bytes
spot_in_bytes p = all_append Byte (bytes 8 p.x.bits) (bytes 8 p.y.bits) (bytes_bytes 8 p.x.bits) (bytes_bytes 8 p.y.bits)

-- two parts, one behind the other
module _ (xs ys : List ℕ) (a : All Byte xs) (b : All Byte ys) where
  both_bytes : All Byte (xs ++ ys)
  both_bytes = all_append Byte xs ys a b

settings_in_bytes : (s : Settings) → All Byte (settings_bytes s)
settings_in_bytes s =
    let w = bytes 4 s.width in
    let h = bytes 4 s.height in
    let p = bytes 1 s.pairing in
    let f = bytes 1 s.flags in
    subst (All Byte) (sym (settings_bytes_lem s))
    (both_bytes w (h ++ (p ++ f)) (bytes_bytes 4 s.width) (both_bytes h (p ++ f) (bytes_bytes 4 s.height) (both_bytes p f (bytes_bytes 1 s.pairing) (bytes_bytes 1 s.flags))))

line_in_bytes : (l : List (PointOf Pattern)) → All Byte (line_bytes l)
unfolding line_bytes
line_in_bytes [] = tt
line_in_bytes (p ∷ l) = all_append Byte (spot_bytes p) (line_bytes l) (spot_in_bytes p) (line_in_bytes l)

link_in_bytes : (l : LinkOf Pattern) → All Byte (link_bytes l)
link_in_bytes l =
    let a = bytes 2 l.first.line in
    let b = bytes 2 l.first.segment in
    let c = bytes 2 l.second.line in
    let d = bytes 2 l.second.segment in
    let p = spot_bytes l.first.point in
    let q = spot_bytes l.second.point in
    subst (All Byte) (sym (link_bytes_lem l))
    (both_bytes a (b ++ (c ++ (d ++ (p ++ q)))) (bytes_bytes 2 l.first.line)
    (both_bytes b (c ++ (d ++ (p ++ q))) (bytes_bytes 2 l.first.segment)
    (both_bytes c (d ++ (p ++ q)) (bytes_bytes 2 l.second.line)
    (both_bytes d (p ++ q) (bytes_bytes 2 l.second.segment)
    (both_bytes p q (spot_in_bytes l.first.point) (spot_in_bytes l.second.point))))))

record_in_bytes : (r : Record) → All Byte r.body → All Byte (record_bytes r)
record_in_bytes r b =
    let size = bytes 4 (length r.body) in
    let kind = bytes 2 r.kind in
    subst (All Byte) (sym (record_parts r)) (both_bytes size (kind ++ r.body) (bytes_bytes 4 (length r.body)) (both_bytes kind r.body (bytes_bytes 2 r.kind) b))

joined_in_bytes : (rs : List Record) → All (λ (r : Record). All Byte r.body) rs → All Byte (joined rs)
unfolding joined
joined_in_bytes [] a = tt
joined_in_bytes (r ∷ rs) a = all_append Byte (record_bytes r) (joined rs) (record_in_bytes r a.0) (joined_in_bytes rs a.1)

links_in_bytes : (ks : List (LinkOf Pattern)) → All (λ (r : Record). All Byte r.body) (map link_as_record ks)
links_in_bytes [] = tt
links_in_bytes (k ∷ ks) = (link_in_bytes k, links_in_bytes ks)

lines_in_bytes : (ls : List (List (PointOf Pattern))) (ks : List (LinkOf Pattern)) → All (λ (r : Record). All Byte r.body) (map line_as_record ls ++ map link_as_record ks)
lines_in_bytes [] ks = links_in_bytes ks
lines_in_bytes (l ∷ ls) ks = (line_in_bytes l, lines_in_bytes ls ks)

file_in_bytes : (s : Sketch) → All Byte (file_of s)
unfolding file_of records_for
file_in_bytes s = joined_in_bytes (records_for s) (settings_in_bytes s.settings, lines_in_bytes s.lines s.links)

-- ---- the one file

drawing_is : (file : List ℕ) → drawing_of (records_of file) ≡ over placed (sketch_of (records_of file))
unfolding drawing_of
drawing_is file = refl

module _ (s : Sketch) (p : Patterned s) (e : verdict (sketch_conditions s) ≡ accepted) where
  cleaned_taken : verdict (sketch_conditions (cleaned s)) ≡ accepted
  cleaned_taken = ap verdict (cleaned_conditions s) ∙ e

  cleaned_held : Held (cleaned s)
  cleaned_held = taken_held (cleaned s) cleaned_taken (cleaned_patterned s p)

  cleaned_short : length (file_of (cleaned s)) ≤ most_bytes
  cleaned_short = let f = file_short (cleaned s) (taken_counts (cleaned s) cleaned_taken) in let b = below_check_1 in omega arith

  saved_bits : sketch_of (records_of (saved_file s)) ≡ cleaned s
  unfolding saved_file
  saved_bits = sketch_read (cleaned s) cleaned_held cleaned_short

  saved_reads : ReadsAs s (saved_file s)
  unfolding saved_file
  saved_reads = record {
    in_bytes = file_in_bytes (cleaned s);
    taken = same_verdict (cleaned s) cleaned_held cleaned_short ∙ cleaned_taken;
    same = drawing_is (saved_file s) ∙ ap (over placed) saved_bits ∙ cleaned_drawing s;
  }

  on_grid : coordinates_fit s ≡ true
  unfolding sketch_conditions holds
  on_grid = not-false (coordinates_fit s) (fails (sketch_conditions s) e refused_coordinates)

  -- what reads as the sketch has its bits, both cleaned
  others_cleaned : (other : List ℕ) → ReadsAs s other → cleaned_file other ≡ saved_file s
  unfolding saved_file
  others_cleaned other r =
      sym (cleaned_written other r.in_bytes r.taken)
      ∙ ap file_of (sym (drawing_bits other r.in_bytes r.taken) ∙ ap (over bits_at) r.same ∙ same_bits s p on_grid)

  -- For every sketch that the writer takes, and whose coordinates have 64 bits each, what is saved is that one file.
  pub one_file : OneFile s (saved_file s)
  one_file = record {
    reads = saved_reads;
    plain = subst Plain (sym saved_bits) (cleaned_plain s);
    only = λ other w r. sym (plain_written other r.in_bytes r.taken w) ∙ others_cleaned other r;
    only_cleaned = others_cleaned;
    bits = saved_bits;
  }

-- And of a sketch that the writer refuses there is no such file: nothing is refused that could have been saved.
pub refused_unread : (s : Sketch) (n : ℕ) → verdict (sketch_conditions s) ≡ refused n → (file : List ℕ) → ReadsAs s file → ⊥
refused_unread s n e file r =
    let taken = (both_accepted (record_conditions file) (sketch_conditions (sketch_of (records_of file))) (ap verdict (sym (conditions_are file)) ∙ r.taken)).1 in
    let alike = same_conditions (sketch_of (records_of file)) s (sym (drawing_is file) ∙ r.same) in
    let z : accepted ≡ refused n = sym (sym (ap verdict alike) ∙ taken) ∙ e in
    true≢false (cc)
