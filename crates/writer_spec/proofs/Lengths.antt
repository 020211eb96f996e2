-- How long a record is, and a file.
use mathlib.Core.Path.{◌≡◌, refl, sym, ap, ◌∙◌}
use mathlib.Core.List.{List, [], ◌∷◌, ◌++◌, map}
use mathlib.Core.Bool.{true}
use Prim.Native.Nat.{ℕ, ◌+◌, ◌*◌, ◌≤◌}
use native.Mathlib.Omega.{arith}
use lib.ListN.{length, length-append, length-map}
use Rattle.limits.specs.Limits.{settings_size, point_size, link_size, file_size, most_file, most_bytes}
use Rattle.drawing_spec.specs.Bytes.{bytes}
use Rattle.drawing_spec.proofs.Back.{bytes_length}
use Rattle.drawing_spec.proofs.Accepted.{counts_fit_lem}
use Rattle.drawing_spec.proofs.Placed.{lengths_over}
use Rattle.drawing_spec.specs.Drawing.{PointOf, Settings, LinkOf, Pattern, Sketch, over_point, over_link, over}
use Rattle.drawing_spec.specs.Cleaned.{clean_pattern, cleaned}
use Rattle.drawing_spec.specs.Read.{total, counts_fit}
use Rattle.writer_spec.specs.File.{joined, settings_bytes, spot_bytes, link_bytes, settings_as_record, line_as_record, link_as_record, file_of}
use Rattle.writer_spec.specs.Save.{saved_file}
use Rattle.writer_spec.proofs.Back.{joined_length, line_length, link_bytes_lem}

pub settings_length : (s : Settings) → length (settings_bytes s) ≡ settings_size
unfolding settings_bytes
settings_length s =
    omega (
      arith,
      length-append (bytes 4 s.width) (bytes 4 s.height ++ (bytes 1 s.pairing ++ bytes 1 s.flags)),
      length-append (bytes 4 s.height) (bytes 1 s.pairing ++ bytes 1 s.flags),
      length-append (bytes 1 s.pairing) (bytes 1 s.flags),
      bytes_length 4 s.width,
      bytes_length 4 s.height,
      bytes_length 1 s.pairing,
      bytes_length 1 s.flags,
    )

spot_length : (p : PointOf Pattern) → length (spot_bytes p) ≡ point_size
unfolding spot_bytes
spot_length p = omega (arith, length-append (bytes 8 p.x.bits) (bytes 8 p.y.bits), bytes_length 8 p.x.bits, bytes_length 8 p.y.bits)

pub link_length : (l : LinkOf Pattern) → length (link_bytes l) ≡ link_size
link_length l =
    let q = spot_bytes l.second.point in
    let p = spot_bytes l.first.point in
    let d = bytes 2 l.second.segment in
    let c = bytes 2 l.second.line in
    let b = bytes 2 l.first.segment in
    omega (
      arith,
      ap length (link_bytes_lem l),
      length-append (bytes 2 l.first.line) (b ++ (c ++ (d ++ (p ++ q)))),
      length-append b (c ++ (d ++ (p ++ q))),
      length-append c (d ++ (p ++ q)),
      length-append d (p ++ q),
      length-append p q,
      bytes_length 2 l.first.line,
      bytes_length 2 l.first.segment,
      bytes_length 2 l.second.line,
      bytes_length 2 l.second.segment,
      spot_length l.first.point,
      spot_length l.second.point,
    )

-- the points of lines, in all
abbrev pub points_in : List (List (PointOf Pattern)) → ℕ
points_in ls = total (map (λ (l : List (PointOf Pattern)). length l) ls)

none_joined : length (joined []) ≡ 0
unfolding joined
none_joined = refl

links_length : (ks : List (LinkOf Pattern)) → length (joined (map link_as_record ks)) ≡ 46 * length ks
links_length [] = none_joined
links_length (k ∷ ks) = omega (arith, joined_length (link_as_record k) (map link_as_record ks), link_length k, links_length ks)

lines_length : (ls : List (List (PointOf Pattern))) (ks : List (LinkOf Pattern)) → length (joined (map line_as_record ls ++ map link_as_record ks)) ≡ 6 * length ls + 16 * points_in ls + 46 * length ks
unfolding total
lines_length [] ks = omega (arith, links_length ks)
lines_length (l ∷ ls) ks = omega (arith, joined_length (line_as_record l) (map line_as_record ls ++ map link_as_record ks), line_length l, lines_length ls ks)

file_parts : (s : Sketch) → file_of s ≡ joined (settings_as_record s.settings ∷ (map line_as_record s.lines ++ map link_as_record s.links))
unfolding file_of
file_parts s = refl

pub file_length : (s : Sketch) → length (file_of s) ≡ file_size (length s.lines) (points_in s.lines) (length s.links)
file_length s =
    omega (
      arith,
      ap length (file_parts s),
      joined_length (settings_as_record s.settings) (map line_as_record s.lines ++ map link_as_record s.links),
      settings_length s.settings,
      lines_length s.lines s.links,
    )

-- So a file within check 6 has at most 29,666 bytes, far below check 1's 65,536: the writer needs no number 1.
pub file_short : (s : Sketch) → counts_fit s ≡ true → length (file_of s) ≤ most_file
file_short s e =
    let n = counts_fit_lem s e in
    let a = n.lines in
    let b = n.points in
    let c = n.links in
    let l = file_length s in
    omega arith

-- What is saved is as long.
pub saved_length : (s : Sketch) → length (saved_file s) ≡ length (file_of s)
unfolding saved_file cleaned over
saved_length s =
    file_length (cleaned s)
    ∙ (λ i. file_size (length-map s.lines (map (over_point clean_pattern)) i) (total (lengths_over clean_pattern s.lines i)) (length-map s.links (over_link clean_pattern) i))
    ∙ sym (file_length s)

pub saved_short : (s : Sketch) → counts_fit s ≡ true → length (saved_file s) ≤ most_file
saved_short s e = let l = saved_length s in let f = file_short s e in omega arith

pub below_check_1 : most_file ≤ most_bytes
below_check_1 = omega arith

most_file_lem : most_file ≡ 29666
most_file_lem = refl
