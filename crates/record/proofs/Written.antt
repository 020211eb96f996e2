-- The kind 4 record, point by point.
use mathlib.Core.Path.{◌≡◌, refl, sym, ap, ap₂, ◌∙◌}
use mathlib.Core.List.{List, [], ◌∷◌, ◌++◌, map, append_assoc}
use Prim.Native.Nat.{ℕ, ◌+◌, ◌*◌, ◌≤◌, ◌<◌}
use native.Mathlib.Nat.{zero-add}
use native.Mathlib.Numerals.{add-one}
use native.Mathlib.Omega.{arith}
use lib.ListN.{length, get_or, take, drop, length-append, length-map, drop_of_length-le}
use lib.Seq.{sets, sets-eq, length-sets, slice, slice-cons, length-take-le}
use Rattle.limits.specs.Limits.{most_nodes, line_room}
use Rattle.grid.specs.Grid.{write_place}
use Rattle.drawing_spec.specs.Drawing.{Point}
use Rattle.drawing_spec.specs.Bytes.{bytes, in_front}
use Rattle.planner_spec.specs.LineRecord.{point_bytes, line_record}
use Rattle.graph_arrays.specs.Arrays.{point_in}
use Rattle.graph_arrays.specs.NodeList.{NodeList}
use Rattle.lists.proofs.Parts.{sets_append}
use Rattle.drawing_spec.proofs.Back.{bytes_length}
use Rattle.record.specs.Written.{place_bytes, points_in}

place_bytes_length : (x y : ℕ) → length (place_bytes x y) ≡ 16
place_bytes_length x y = omega (arith, length-append (bytes 8 (write_place x)) (bytes 8 (write_place y)), bytes_length 8 (write_place x), bytes_length 8 (write_place y))

points_cons : (p : Point) (ps : List Point) → point_bytes (p ∷ ps) ≡ place_bytes p.x p.y ++ point_bytes ps
unfolding point_bytes
points_cons p ps = sym (append_assoc (bytes 8 (write_place p.x)) (bytes 8 (write_place p.y)) (point_bytes ps))

points_nil : point_bytes [] ≡ []
unfolding point_bytes
points_nil = refl

points_length : (ps : List Point) → length (point_bytes ps) ≡ 16 * length ps
points_length [] = ap length points_nil
points_length (p ∷ ps) =
    omega (arith, ap length (points_cons p ps), length-append (place_bytes p.x p.y) (point_bytes ps), place_bytes_length p.x p.y, points_length ps)

-- two numbers of 8 bytes, one behind the other
pub point_stored : (output out out' : List ℕ) (at x y m n : ℕ) → m ≡ write_place x → n ≡ write_place y → out ≡ sets output at (bytes 8 m) → out' ≡ sets out (at + 8) (bytes 8 n) → out' ≡ sets output at (place_bytes x y)
point_stored output out out' at x y m n hm hn e f =
    f ∙ ap₂ (λ (l : List ℕ) (k : ℕ). sets l (at + 8) (bytes 8 k)) (e ∙ ap (λ (k : ℕ). sets output at (bytes 8 k)) hm) hn
    ∙ ap (λ (k : ℕ). sets (sets output at (bytes 8 (write_place x))) (at + k) (bytes 8 (write_place y))) (sym (bytes_length 8 (write_place x)))
    ∙ sym (sets_append output at (bytes 8 (write_place x)) (bytes 8 (write_place y)))

-- the points that are left from the place i on
abbrev pub points_from : List ℕ → List ℕ → List ℕ → ℕ → ℕ → List Point
points_from xs ys nodes count i = map (point_in xs ys) (slice i count nodes)

-- The points that are left, stored from here on, give all points behind the head.
pub record Writing (xs ys nodes : List ℕ) (count : ℕ) (headed output : List ℕ) (i : ℕ) : Type 0 where
  pub is : sets output (6 + 16 * i) (point_bytes (points_from xs ys nodes count i)) ≡ sets headed 6 (point_bytes (points_in xs ys nodes count))
  pub long : length output ≡ length headed

module _ (xs ys nodes : List ℕ) (count : ℕ) where
  pub writing_none : (headed : List ℕ) → Writing xs ys nodes count headed headed 0
  writing_none headed = record { is = refl; long = refl }

  module _ (n : NodeList most_nodes line_room nodes count) where
    pub writing_more : (headed output out : List ℕ) (i v : ℕ) → i < count → v ≡ get_or nodes i 0 → out ≡ sets output (6 + 16 * i) (place_bytes (get_or xs v 0) (get_or ys v 0))
        → Writing xs ys nodes count headed output i → Writing xs ys nodes count headed out (i + 1)
    writing_more headed output out i v h hv e w =
        let rest = points_from xs ys nodes count (i + 1) in
        let next : points_from xs ys nodes count i ≡ point_in xs ys v ∷ rest =
        ap (map (point_in xs ys)) (slice-cons i count nodes 0 h n.long) ∙ rw (add-one, hv) in
        let on : 6 + 16 * (i + 1) ≡ 6 + 16 * i + length (place_bytes (get_or xs v 0) (get_or ys v 0)) = omega (arith, place_bytes_length (get_or xs v 0) (get_or ys v 0)) in
        record {
          is =
              ap₂ (λ (l : List ℕ) (k : ℕ). sets l k (point_bytes rest)) e on ∙ sym (sets_append output (6 + 16 * i) (place_bytes (get_or xs v 0) (get_or ys v 0)) (point_bytes rest))
              ∙ ap (sets output (6 + 16 * i)) (sym (points_cons (point_in xs ys v) rest) ∙ ap point_bytes (sym next)) ∙ w.is;
          long = ap length e ∙ length-sets output (6 + 16 * i) (place_bytes (get_or xs v 0) (get_or ys v 0)) ∙ w.long;
        }

    module _ (output₀ one headed : List ℕ) (e : one ≡ sets output₀ 0 (bytes 4 (16 * count))) (f : headed ≡ sets one 4 (bytes 2 4)) where
      ps : List Point
      ps = points_in xs ys nodes count

      count_is : length ps ≡ count
      unfolding ps
      count_is = length-map (take count nodes) (point_in xs ys) ∙ length-take-le count nodes n.long

      -- the head, and all points behind it
      whole : sets headed 6 (point_bytes ps) ≡ sets output₀ 0 (line_record ps)
      unfolding line_record
      whole =
          let size = bytes 4 (16 * length ps) in
          let sized : bytes 4 (16 * count) ≡ size = ap (λ (k : ℕ). bytes 4 (16 * k)) (sym count_is) in
          let four : length size ≡ 4 = bytes_length 4 (16 * length ps) in
          let two : length (bytes 2 4) ≡ 2 = bytes_length 2 4 in
          let six : length (size ++ bytes 2 4) ≡ 6 = omega (arith, length-append size (bytes 2 4)) in
          let head : headed ≡ sets output₀ 0 (size ++ bytes 2 4) =
          f ∙ ap₂ (λ (l : List ℕ) (k : ℕ). sets l k (bytes 2 4)) (e ∙ ap (sets output₀ 0) sized) (sym four) ∙ sym (sets_append output₀ 0 size (bytes 2 4)) in
          ap₂ (λ (l : List ℕ) (k : ℕ). sets l k (point_bytes ps)) head (sym six) ∙ sym (sets_append output₀ 0 (size ++ bytes 2 4) (point_bytes ps))
          ∙ ap (sets output₀ 0) (append_assoc size (bytes 2 4) (point_bytes ps))

      record_length : length (line_record ps) ≡ 6 + 16 * count
      unfolding line_record
      record_length =
          omega (arith, count_is, length-append (bytes 4 (16 * length ps)) (bytes 2 4 ++ point_bytes ps), length-append (bytes 2 4) (point_bytes ps), bytes_length 4 (16 * length ps), bytes_length 2 4, points_length ps)

      pub writing_all : (output : List ℕ) (i : ℕ) → count ≤ i → 6 + 16 * count ≤ length output₀ → Writing xs ys nodes count headed output i → output ≡ in_front (line_record (points_in xs ys nodes count)) output₀
      unfolding ps
      writing_all output i h room w =
          let short : length (take count nodes) ≤ i = omega (arith, length-take-le count nodes n.long) in
          let none : point_bytes (points_from xs ys nodes count i) ≡ [] = ap (λ (l : List ℕ). point_bytes (map (point_in xs ys) l)) (drop_of_length-le (take count nodes) short) ∙ points_nil in
          let bs = line_record (points_in xs ys nodes count) in
          let fits : 0 + length bs ≤ length output₀ = omega (arith, record_length) in
          ap (sets output (6 + 16 * i)) (sym none) ∙ w.is ∙ whole ∙ sets-eq bs output₀ 0 fits ∙ ap (λ (k : ℕ). bs ++ drop k output₀) (zero-add (length bs))
