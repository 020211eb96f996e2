-- The coordinates in a file of bytes are 64 bits each.
use mathlib.Core.List.{List, [], ◌∷◌}
use mathlib.Core.Bool.{Bool, true, false}
use Prim.Native.Nat.{ℕ, zero, suc, ◌/◌, ◌^◌, ◌<◌}
use native.Mathlib.Nat.{pow-suc}
use native.Mathlib.Omega.{arith}
use lib.ListN.{length, get_or, drop}
use lib.Dec.{eqb}
use Rattle.limits.specs.Limits.{kind_line, kind_link, point_size}
use Rattle.lists.specs.Members.{All}
use Rattle.lists.proofs.Members.{all_drop, all_map, all_imp}
use Rattle.drawing_spec.specs.Bytes.{number}
use Rattle.drawing_spec.specs.Drawing.{LinkOf, Pattern}
use Rattle.drawing_spec.specs.Read.{Record, spot, spots, spots_of_line, sketched_link, bodies, sketch_of}
use Rattle.writer_spec.specs.OneFile.{Byte, PointHeld, Patterned}

byte_at : (bs : List ℕ) → All Byte bs → get_or bs 0 0 < 256
byte_at [] a = omega arith
byte_at (b ∷ bs) a = a.0

number_below : (n : ℕ) (bs : List ℕ) → All Byte bs → number n bs < 256 ^ n
unfolding number
number_below zero bs a = omega arith
number_below (suc n) bs a = rw pow-suc (omega (arith, byte_at bs a, number_below n (drop 1 bs) (all_drop Byte 1 bs a)))

spot_held : (bs : List ℕ) → All Byte bs → PointHeld (spot bs)
unfolding spot
spot_held bs a = (number_below 8 bs a, number_below 8 (drop 8 bs) (all_drop Byte 8 bs a))

spots_held : (n : ℕ) (bs : List ℕ) → All Byte bs → All PointHeld (spots n bs)
unfolding spots
spots_held zero bs a = tt
spots_held (suc n) bs a = (spot_held bs a, spots_held n (drop point_size bs) (all_drop Byte point_size bs a))

line_held : (bs : List ℕ) → All Byte bs → All PointHeld (spots_of_line bs)
unfolding spots_of_line
line_held bs a = spots_held (length bs / point_size) bs a

link_held : (bs : List ℕ) → All Byte bs → PointHeld (sketched_link bs).first.point × PointHeld (sketched_link bs).second.point
unfolding sketched_link
link_held bs a = (spot_held (drop 8 bs) (all_drop Byte 8 bs a), spot_held (drop 24 bs) (all_drop Byte 24 bs a))

bodies_held : (k : ℕ) (rs : List Record) → All (λ (r : Record). All Byte r.body) rs → All (All Byte) (bodies k rs)
unfolding bodies
bodies_held k [] a = tt
bodies_held k (r ∷ rs) a = go (eqb r.kind k) (bodies_held k rs a.1)
  where
    go : (t : Bool) → All (All Byte) (bodies k rs) → All (All Byte) (elim t [ true ↦ r.body ∷ bodies k rs | false ↦ bodies k rs ])
    go true later = (a.0, later)
    go false later = later

pub file_patterned : (rs : List Record) → All (λ (r : Record). All Byte r.body) rs → Patterned (sketch_of rs)
unfolding sketch_of
file_patterned rs a = record {
  lines = all_map spots_of_line (All PointHeld) (bodies kind_line rs) (all_imp (All Byte) (λ (bs : List ℕ). All PointHeld (spots_of_line bs)) line_held (bodies kind_line rs) (bodies_held kind_line rs a));
  links =
      all_map sketched_link (λ (l : LinkOf Pattern). PointHeld l.first.point × PointHeld l.second.point) (bodies kind_link rs)
      (all_imp (All Byte) (λ (bs : List ℕ). PointHeld (sketched_link bs).first.point × PointHeld (sketched_link bs).second.point) link_held (bodies kind_link rs) (bodies_held kind_link rs a));
}
