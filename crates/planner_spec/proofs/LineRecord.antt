-- The line written is the line: what the kind 4 record holds is read back point by point.
use mathlib.Core.Path.{◌≡◌, refl, sym, ap, ◌∙◌, subst}
use mathlib.Core.List.{List, [], ◌∷◌, ◌++◌, append_assoc}
use mathlib.Core.Bool.{Bool, true, false}
use lib.Dec.{lit<}
use borrow.Author.Tests.{eq-eqb}
use Prim.Native.Nat.{ℕ, ◌+◌, ◌*◌, ◌/◌, ◌^◌, ◌≤◌, ◌<◌}
use native.Mathlib.Omega.{arith}
use lib.ListN.{length, drop, length-append}
use lib.Ieee.{binary64}
use lib.Ieee.Bits.{to_bits-lt}
use lib.Ieee.Fits.{round-fits}
use Rattle.grid.specs.Grid.{origin, grid_exponent, read_place, write_place, place_at}
use Rattle.grid.proofs.Back.{read_write, write_is, coordinate_is}
use Rattle.drawing_spec.specs.Bytes.{number, bytes}
use Rattle.drawing_spec.proofs.Back.{number_bytes, bytes_length, drop_bytes}
use Rattle.drawing_spec.specs.Drawing.{Point}
use Rattle.lists.specs.Members.{All}
use Rattle.lists.proofs.Parts.{drop_on}
use Rattle.drawing_spec.specs.OnGrid.{OnGrid}
use Rattle.drawing_spec.specs.Read.{points}
use Rattle.drawing_spec.proofs.Placed.{point_is, points_one, no_points}
use Rattle.planner_spec.specs.LineRecord.{point_bytes, line_record, line_written}

-- a coordinate's pattern has 64 bits
pub written_below : (p : ℕ) → write_place p < 256 ^ 8
written_below p = rw (write_is grid_exponent p, coordinate_is grid_exponent p) (to_bits-lt binary64 _ (round-fits binary64 _ _ _))

-- one coordinate, written in 8 bytes and read
coordinate_back : (p : ℕ) (rest : List ℕ) → p ≤ 2 * origin → place_at (read_place (number 8 (bytes 8 (write_place p) ++ rest))) ≡ p
coordinate_back p rest h = rw (number_bytes 8 (write_place p) rest (written_below p), read_write p h)

pub point_bytes_lem : (p : Point) (ps : List Point) (rest : List ℕ) → point_bytes (p ∷ ps) ++ rest ≡ bytes 8 (write_place p.x) ++ (bytes 8 (write_place p.y) ++ (point_bytes ps ++ rest))
unfolding point_bytes
point_bytes_lem p ps rest = simp append_assoc

points_back_lem : (ps : List Point) (rest : List ℕ) → All OnGrid ps → points (length ps) (point_bytes ps ++ rest) ≡ ps
points_back_lem [] rest a = no_points (point_bytes [] ++ rest)
points_back_lem (p ∷ ps) rest a =
    let tail = point_bytes ps ++ rest in
    let y = bytes 8 (write_place p.y) ++ tail in
    let x = bytes 8 (write_place p.x) ++ y in
    let dx : drop 8 x ≡ y = drop_bytes 8 (write_place p.x) y in
    let dy : drop 16 x ≡ tail = drop_on 8 8 x y tail dx (drop_bytes 8 (write_place p.y) tail) in
    let px : place_at (read_place (number 8 x)) ≡ p.x = coordinate_back p.x y a.0.0 in
    let py : place_at (read_place (number 8 (drop 8 x))) ≡ p.y = rw dx (coordinate_back p.y tail a.0.1) in
    let others : points (length ps) (drop 16 x) ≡ ps = rw dy (points_back_lem ps rest a.1) in
    rw (point_bytes_lem p ps rest) (points_one (length ps) x ∙ ap (λ (q : Point). q ∷ points (length ps) (drop 16 x)) (point_is x) ∙ λ i. record { x = px i; y = py i } ∷ others i)

pub line_record_lem : (line : List Point) (rest : List ℕ) → line_record line ++ rest ≡ bytes 4 (16 * length line) ++ (bytes 2 4 ++ (point_bytes line ++ rest))
unfolding line_record
line_record_lem line rest = simp append_assoc

-- a record of kind 4 is a line
kind_4 : (output : List ℕ) → number 2 (drop 4 output) ≡ 4 → line_written output ≡ points (number 4 output / 16) (drop 6 output)
unfolding line_written
kind_4 output h = subst (λ (t : Bool). elim t [ true ↦ points (number 4 output / 16) (drop 6 output) | false ↦ [] ] ≡ points (number 4 output / 16) (drop 6 output)) (sym (eq-eqb _ 4 h)) refl

pub line_back : (line : List Point) (rest : List ℕ) → All OnGrid line → 16 * length line < 2 ^ 32 → line_written (line_record line ++ rest) ≡ line
line_back line rest a h =
    let body = point_bytes line ++ rest in
    let kind = bytes 2 4 ++ body in
    let head = bytes 4 (16 * length line) ++ kind in
    let size : number 4 head ≡ 16 * length line = number_bytes 4 (16 * length line) kind h in
    let count : number 4 head / 16 ≡ length line = omega arith in
    let four : number 2 (drop 4 head) ≡ 4 = rw (drop_bytes 4 (16 * length line) kind) (number_bytes 2 4 body (lit< tt)) in
    let behind : drop 6 head ≡ body = drop_on 4 2 head kind body (drop_bytes 4 (16 * length line) kind) (drop_bytes 2 4 body) in
    rw (line_record_lem line rest) (kind_4 head four ∙ rw (count, behind) (points_back_lem line rest a))

-- ---- the record's length

points_length : (ps : List Point) → length (point_bytes ps) ≡ 16 * length ps
unfolding point_bytes
points_length [] = refl
points_length (p ∷ ps) =
    let x = bytes 8 (write_place p.x) in
    let y = bytes 8 (write_place p.y) in
    omega (
      arith,
      length-append x (y ++ point_bytes ps),
      length-append y (point_bytes ps),
      bytes_length 8 (write_place p.x),
      bytes_length 8 (write_place p.y),
      points_length ps,
    )

pub record_length : (line : List Point) → length (line_record line) ≡ 6 + 16 * length line
unfolding line_record
record_length line =
    let size = bytes 4 (16 * length line) in
    omega (
      arith,
      length-append size (bytes 2 4 ++ point_bytes line),
      length-append (bytes 2 4) (point_bytes line),
      bytes_length 4 (16 * length line),
      bytes_length 2 4,
      points_length line,
    )
