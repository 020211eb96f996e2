-- Laws of specs/Stored: numbers stored one behind the other, and records.
use mathlib.Core.Path.{◌≡◌, refl, sym, ap, ◌∙◌}
use mathlib.Core.List.{List, [], ◌∷◌, ◌++◌, map, append_assoc, append-nil}
use Prim.Native.Nat.{ℕ, suc, ◌+◌, ◌-◌, ◌*◌, ◌/◌, ◌≤◌, ◌<◌}
use native.Mathlib.Nat.{add-zero, sub-zero, mul-zero, mul-suc, add_comm}
use native.Mathlib.Numerals.{add-one}
use native.Mathlib.Omega.{arith}
use lib.ListN.{length, get_or, take, drop, length-append, length-drop, length-map, drop_of_length-le, get_or-map}
use lib.Seq.{sets, length-sets, drop-cons, length-take-le}
use Rattle.std.proofs.lemmas.List.{take-map, take_more, take_all}
use Rattle.lists.proofs.Parts.{sets_append, drop_map}
use Rattle.limits.specs.Limits.{kind_line, kind_link}
use Rattle.grid.specs.Grid.{clean}
use Rattle.drawing_spec.specs.Bytes.{bytes}
use Rattle.drawing_spec.proofs.Back.{bytes_length}
use Rattle.drawing_spec.specs.Read.{total}
use Rattle.writer_spec.proofs.Given.{total_cons}
use Rattle.writer_records.specs.Stored.{numbers_bytes, part, coordinates_stored, head_bytes, line_stored, link_stored, lines_stored, lines_size, LinesRoom, LinesPut, LinksRoom, links_stored}

-- ---- numbers of w bytes

numbers_nil : (w : ℕ) → numbers_bytes w [] ≡ []
unfolding numbers_bytes
numbers_nil w = refl

numbers_cons : (w v : ℕ) (vs : List ℕ) → numbers_bytes w (v ∷ vs) ≡ bytes w v ++ numbers_bytes w vs
unfolding numbers_bytes
numbers_cons w v vs = refl

numbers_length : (w : ℕ) (vs : List ℕ) → length (numbers_bytes w vs) ≡ w * length vs
numbers_length w [] = ap length (numbers_nil w) ∙ sym (mul-zero w)
numbers_length w (v ∷ vs) =
    let here = bytes_length w v in
    let later = numbers_length w vs in
    let all : w * suc (length vs) ≡ w + w * length vs = mul-suc w (length vs) ∙ add_comm (w * length vs) w in
    ap length (numbers_cons w v vs) ∙ length-append (bytes w v) (numbers_bytes w vs) ∙ (λ i. here i + later i) ∙ sym all

numbers_append : (w : ℕ) (us vs : List ℕ) → numbers_bytes w (us ++ vs) ≡ numbers_bytes w us ++ numbers_bytes w vs
unfolding numbers_bytes
numbers_append w [] vs = refl
numbers_append w (u ∷ us) vs = ap (λ (l : List ℕ). bytes w u ++ l) (numbers_append w us vs) ∙ sym (append_assoc (bytes w u) (numbers_bytes w us) (numbers_bytes w vs))

numbers_one : (w v : ℕ) → numbers_bytes w (v ∷ []) ≡ bytes w v
numbers_one w v = numbers_cons w v [] ∙ ap (λ (l : List ℕ). bytes w v ++ l) (numbers_nil w) ∙ append-nil (bytes w v)

-- ---- one part behind another

pub both_stored : (d d' d'' : List ℕ) (at n k : ℕ) (a b : List ℕ) → length a ≡ n → k ≡ at + n → d' ≡ sets d at a → d'' ≡ sets d' k b → d'' ≡ sets d at (a ++ b)
both_stored d d' d'' at n k a b l m e f =
    f ∙ ap (λ (x : List ℕ). sets x k b) e ∙ ap (λ (j : ℕ). sets (sets d at a) j b) (m ∙ ap (λ (j : ℕ). at + j) (sym l)) ∙ sym (sets_append d at a b)

-- ---- the first numbers of a list are stored, and then one more

module _ (w : ℕ) (d₀ : List ℕ) (at : ℕ) (vs : List ℕ) where
  abbrev pub Putting : List ℕ → ℕ → Type 0
  Putting d k = d ≡ sets d₀ at (numbers_bytes w (take k vs))

  pub put_none : Putting d₀ 0
  put_none = sym (ap (sets d₀ at) (numbers_nil w))

  pub put_more : (d d' : List ℕ) (k v : ℕ) → k < length vs → v ≡ get_or vs k 0 → d' ≡ sets d (at + w * k) (bytes w v) → Putting d k → Putting d' (k + 1)
  put_more d d' k v h e f p =
      let l = numbers_length w (take k vs) ∙ ap (λ (j : ℕ). w * j) (length-take-le k vs (omega arith)) in
      both_stored d₀ d d' at (w * k) (at + w * k) (numbers_bytes w (take k vs)) (bytes w v) l refl p f
      ∙ ap (sets d₀ at)
      ((λ i. numbers_bytes w (take k vs) ++ sym (numbers_one w v) i)
      ∙ sym (numbers_append w (take k vs) (v ∷ []))
      ∙ ap (λ (x : ℕ). numbers_bytes w (take k vs ++ (x ∷ []))) e
      ∙ ap (numbers_bytes w) (sym (take_more vs k 0 h)))

  pub put_all : (d : List ℕ) (k : ℕ) → length vs ≤ k → Putting d k → d ≡ sets d₀ at (numbers_bytes w vs)
  put_all d k h p = p ∙ ap (λ (l : List ℕ). sets d₀ at (numbers_bytes w l)) (take_all k vs h)

-- a coordinate that is stored is the cleaned one; past the end 0 is clean
pub clean_at : (ws : List ℕ) (i v : ℕ) → v ≡ clean (get_or ws i 0) → v ≡ get_or (map clean ws) i 0
unfolding clean
clean_at ws i v e = e ∙ sym (get_or-map clean ws i 0)

-- a part of the coordinates, cleaned
clean_part : (ws : List ℕ) (from count : ℕ) → map clean (part ws from (from + count - from)) ≡ part (map clean ws) from count
clean_part ws from count =
    let e : from + count - from ≡ count = omega arith in
    ap (λ (k : ℕ). map clean (part ws from k)) e ∙ sym (ap (take count) (drop_map clean from ws) ∙ take-map clean count (drop from ws))

pub head_stored : (d d' d'' : List ℕ) (at size kind : ℕ) → d' ≡ sets d at (bytes 4 size) → d'' ≡ sets d' (at + 4) (bytes 2 kind) → d'' ≡ sets d at (head_bytes size kind)
head_stored d d' d'' at size kind e f = both_stored d d' d'' at 4 (at + 4) (bytes 4 size) (bytes 2 kind) (bytes_length 4 size) refl e f

pub head_length : (size kind : ℕ) → length (head_bytes size kind) ≡ 6
head_length size kind = omega (arith, length-append (bytes 4 size) (bytes 2 kind), bytes_length 4 size, bytes_length 2 kind)

pub line_stored_lem : (d d' d'' words : List ℕ) (at from points : ℕ) → d' ≡ sets d at (head_bytes (16 * points) kind_line) → d'' ≡ sets d' (at + 6) (numbers_bytes 8 (map clean (part words from (from + 2 * points - from)))) → d'' ≡ sets d at (line_stored words from points)
unfolding line_stored
line_stored_lem d d' d'' words at from points e f =
    both_stored d d' d'' at 6 (at + 6) (head_bytes (16 * points) kind_line) (coordinates_stored words from (2 * points)) (head_length (16 * points) kind_line) refl e
    (f ∙ ap (λ (l : List ℕ). sets d' (at + 6) (numbers_bytes 8 l)) (clean_part words from (2 * points)))

pub link_stored_lem : (d headed ended d' segments words : List ℕ) (at from : ℕ) → from + 4 ≤ length segments → headed ≡ sets d at (head_bytes 40 kind_link) → ended ≡ sets headed (at + 6) (numbers_bytes 2 (part segments from (from + 4 - from))) → d' ≡ sets ended (at + 14) (numbers_bytes 8 (map clean (part words from (from + 4 - from))))
    → d' ≡ sets d at (link_stored segments words from)
unfolding link_stored
link_stored_lem d headed ended d' segments words at from h e f g =
    let whole : from + 4 - from ≡ 4 = omega arith in
    let a = head_bytes 40 kind_link in
    let b = numbers_bytes 2 (part segments from 4) in
    let c = coordinates_stored words from 4 in
    let four : length (part segments from 4) ≡ 4 = length-take-le 4 (drop from segments) (rw length-drop (omega arith)) in
    let lb : length b ≡ 8 = let n = numbers_length 2 (part segments from 4) in omega arith in
    let la = head_length 40 kind_link in
    let lab : length (a ++ b) ≡ 14 = omega (arith, length-append a b) in
    both_stored d ended d' at 14 (at + 14) (a ++ b) c lab refl (both_stored d headed ended at 6 (at + 6) a b la refl e (f ∙ ap (λ (k : ℕ). sets headed (at + 6) (numbers_bytes 2 (part segments from k))) whole))
    (g ∙ ap (λ (l : List ℕ). sets ended (at + 14) (numbers_bytes 8 l)) (clean_part words from 4))

-- ---- all lines

pub line_stored_length : (words : List ℕ) (from n : ℕ) → from + 2 * n ≤ length words → length (line_stored words from n) ≡ 6 + 16 * n
unfolding line_stored
line_stored_length words from n h =
    let same = length-map words clean in
    let p : length (part (map clean words) from (2 * n)) ≡ 2 * n = length-take-le (2 * n) (drop from (map clean words)) (rw length-drop (omega arith)) in
    omega (arith, head_length (16 * n) kind_line, length-append (head_bytes (16 * n) kind_line) (coordinates_stored words from (2 * n)), numbers_length 8 (part (map clean words) from (2 * n)))

pub lines_cons : (n : ℕ) (ns words : List ℕ) (from : ℕ) → lines_stored (n ∷ ns) words from ≡ line_stored words from n ++ lines_stored ns words (from + 2 * n)
unfolding lines_stored
lines_cons n ns words from = refl

size_cons : (n : ℕ) (ns : List ℕ) → lines_size (n ∷ ns) ≡ (6 + 16 * n) + lines_size ns
unfolding lines_size
size_cons n ns = refl

-- the lines that are left, stored from here on, give all
pub record Lining (d₀ : List ℕ) (at : ℕ) (sizes words d : List ℕ) (place from line : ℕ) : Type 0 where
  pub is : sets d place (lines_stored (drop line sizes) words from) ≡ sets d₀ at (lines_stored sizes words 0)
  pub room : place + lines_size (drop line sizes) ≡ at + lines_size sizes
  pub inside : from + 2 * total (drop line sizes) ≡ 2 * total sizes
  pub long : length d ≡ length d₀

module _ (d₀ : List ℕ) (at : ℕ) (sizes words : List ℕ) where
  pub lining_none : Lining d₀ at sizes words d₀ at 0 0
  lining_none = record { is = refl; room = refl; inside = omega arith; long = refl }

  module _ (d : List ℕ) (place from line n : ℕ) (h : line < length sizes) (v : n ≡ get_or sizes line 0) (p : Lining d₀ at sizes words d place from line) (r : LinesRoom d₀ at sizes words) where
    rest : List ℕ
    rest = drop (line + 1) sizes

    here : drop line sizes ≡ n ∷ rest
    unfolding rest
    here = drop-cons sizes line 0 h ∙ λ z. sym v z ∷ drop (sym (add-one line) z) sizes

    pub line_within : (place + (6 + 16 * n) ≤ length d₀) × (from + 2 * n ≤ length words)
    line_within =
        let a = p.room in
        let b = p.inside in
        let e = ap lines_size here ∙ size_cons n rest in
        let f = ap total here ∙ total_cons n rest in
        let g = r.room in
        let i = r.inside in
        (omega arith, omega arith)

    pub lining_more : (d' : List ℕ) → d' ≡ sets d place (line_stored words from n) → Lining d₀ at sizes words d' (place + (6 + 16 * n)) (from + 2 * n) (line + 1)
    unfolding rest
    lining_more d' e =
        let a = p.room in
        let b = p.inside in
        let s = ap lines_size here ∙ size_cons n rest in
        let t = ap total here ∙ total_cons n rest in
        let l = line_stored_length words from n line_within.1 in
        let more = lines_stored rest words (from + 2 * n) in
        record {
          is =
              ap (λ (x : List ℕ). sets x (place + (6 + 16 * n)) more) e
              ∙ ap (λ (k : ℕ). sets (sets d place (line_stored words from n)) (place + k) more) (sym l)
              ∙ sym (sets_append d place (line_stored words from n) more)
              ∙ ap (sets d place) (sym (ap (λ (ns : List ℕ). lines_stored ns words from) here ∙ lines_cons n rest words from))
              ∙ p.is;
          room = omega arith;
          inside = omega arith;
          long = ap length e ∙ length-sets d place (line_stored words from n) ∙ p.long;
        }

  pub lining_all : (d : List ℕ) (place from line : ℕ) → length sizes ≤ line → Lining d₀ at sizes words d place from line → LinesPut d₀ at sizes words d place
  unfolding lines_stored lines_size
  lining_all d place from line h p =
      let none : drop line sizes ≡ [] = drop_of_length-le sizes {i = line} h in
      let a = p.room in
      let z : lines_size (drop line sizes) ≡ 0 = ap lines_size none in
      record { is = sym (ap (λ (ns : List ℕ). sets d place (lines_stored ns words from)) none) ∙ p.is; behind = omega arith }

-- ---- all links

link_stored_length : (segments words : List ℕ) (from : ℕ) → from + 4 ≤ length segments → from + 4 ≤ length words → length (link_stored segments words from) ≡ 46
unfolding link_stored
link_stored_length segments words from h k =
    let a = head_bytes 40 kind_link in
    let b = numbers_bytes 2 (part segments from 4) in
    let c = coordinates_stored words from 4 in
    let p : length (part segments from 4) ≡ 4 = length-take-le 4 (drop from segments) (rw length-drop (omega arith)) in
    let same = length-map words clean in
    let q : length (part (map clean words) from 4) ≡ 4 = length-take-le 4 (drop from (map clean words)) (rw length-drop (omega arith)) in
    omega (arith, head_length 40 kind_link, length-append (a ++ b) c, length-append a b, numbers_length 2 (part segments from 4), numbers_length 8 (part (map clean words) from 4))

pub links_cons : (k : ℕ) (segments words : List ℕ) (from : ℕ) → links_stored (suc k) segments words from ≡ link_stored segments words from ++ links_stored k segments words (from + 4)
unfolding links_stored
links_cons k segments words from = refl

module _ (d₀ : List ℕ) (at : ℕ) (segments words : List ℕ) where
  -- the links that are left, stored from here on, give all
  pub record Linking (d : List ℕ) (k : ℕ) : Type 0 where
    pub is : sets d (at + 46 * k) (links_stored (length segments / 4 - k) segments words (4 * k)) ≡ sets d₀ at (links_stored (length segments / 4) segments words 0)

  pub linking_none : Linking d₀ 0
  linking_none = let n = length segments / 4 in record { is = simp (add-zero, mul-zero, sub-zero) }

  pub linking_more : (d d' : List ℕ) (k : ℕ) → LinksRoom d₀ at segments words → k < length segments / 4 → d' ≡ sets d (at + 46 * k) (link_stored segments words (4 * k)) → Linking d k → Linking d' (k + 1)
  linking_more d d' k r h e p =
      let place = at + 46 * k in
      let from = 4 * k in
      let left = length segments / 4 - (k + 1) in
      let i = r.inside in
      let n : length segments / 4 - k ≡ suc left = omega arith in
      let l = link_stored_length segments words from (omega arith) (omega arith) in
      let behind : at + 46 * (k + 1) ≡ place + length (link_stored segments words from) = omega arith in
      let next : 4 * (k + 1) ≡ from + 4 = omega arith in
      record {
        is =
            (λ z. sets (e z) (behind z) (links_stored left segments words (next z)))
            ∙ sym (sets_append d place (link_stored segments words from) (links_stored left segments words (from + 4)))
            ∙ ap (sets d place) (sym (ap (λ (j : ℕ). links_stored j segments words from) n ∙ links_cons left segments words from))
            ∙ p.is;
      }

  pub linking_all : (d : List ℕ) (k : ℕ) → length segments / 4 ≤ k → Linking d k → d ≡ sets d₀ at (links_stored (length segments / 4) segments words 0)
  unfolding links_stored
  linking_all d k h p =
      let z : length segments / 4 - k ≡ 0 = omega arith in
      sym (ap (λ (j : ℕ). sets d (at + 46 * k) (links_stored j segments words (4 * k))) z) ∙ p.is
