-- What was read and is written again is the file: bytes from the numbers read in them, records from what their bodies hold.
use mathlib.Core.Path.{◌≡◌, refl, sym, ap, subst, ◌∙◌}
use mathlib.Core.List.{List, [], ◌∷◌, ◌++◌, append_assoc, map}
use mathlib.Core.Bool.{Bool, true, false, ◌&&◌, ◌||◌, true≢false}
use Prim.Native.Nat.{ℕ, zero, suc, ◌+◌, ◌*◌, ◌/◌, ◌%◌, ◌≤◌, ◌<◌}
use native.Mathlib.Omega.{arith}
use lib.ListN.{length, get_or, take, drop, length-drop, take-append-drop}
use lib.Seq.{drop-drop, take_all, take-add, length-take-le}
use lib.Dec.{eqb, leb}
use borrow.Author.Tests.{eqb-true, leb-true, leb-false}
use Rattle.limits.specs.Limits.{kind_settings, kind_line, kind_link, settings_size, point_size, link_size}
use Rattle.lists.specs.Members.{All}
use Rattle.lists.proofs.Members.{all_take, all_drop}
use Rattle.drawing_spec.specs.Bytes.{number, bytes}
use Rattle.drawing_spec.specs.Drawing.{Sketch}
use Rattle.drawing_spec.specs.Refusal.{accepted, verdict}
use Rattle.drawing_spec.specs.Read.{Record, records_of, is_cut, spot, spots, settings_of, spots_of_line, sketched_link, bodies, sketch_of, every, all_links, kinds_fit, lines_then_links, lengths_fit, read_conditions}
use Rattle.drawing_spec.proofs.Same.{both}
use Rattle.drawing_spec.proofs.Accepted.{accepted_passes}
use Rattle.drawing_spec.proofs.Placed.{spots_one, sketch_parts}
use Rattle.drawing_spec.proofs.Records.{lines_long, links_long, lengths_parts, bodies_here, bodies_other, links_cons, links_no_lines, settings_next}
use Rattle.drawing_spec.proofs.Split.{front, is_cut_cut, is_cut_step, records_step}
use Rattle.writer_spec.specs.File.{record_bytes, joined, settings_bytes, spot_bytes, line_bytes, link_bytes, settings_as_record, line_as_record, link_as_record, records_for, file_of}
use Rattle.writer_spec.specs.OneFile.{Byte}
use Rattle.writer_spec.proofs.Back.{record_parts, joined_cons, line_bytes_lem}

-- ---- numbers

bytes_number : (n : ℕ) (bs : List ℕ) → n ≤ length bs → All Byte bs → bytes n (number n bs) ≡ take n bs
unfolding bytes number
bytes_number zero bs h a = refl
bytes_number (suc n) [] h a = absurd (omega arith)
bytes_number (suc n) (b ∷ bs) h a =
    let l = a.0 in
    let low : (b + 256 * number n bs) % 256 ≡ b = omega arith in
    let high : (b + 256 * number n bs) / 256 ≡ number n bs = omega arith in
    λ i. low i ∷ (ap (bytes n) high ∙ bytes_number n bs (omega arith) a.1) i

-- the number at a place, written again
again_at : (m n : ℕ) (bs : List ℕ) → m + n ≤ length bs → All Byte bs → bytes n (number n (drop m bs)) ≡ take n (drop m bs)
again_at m n bs h a = bytes_number n (drop m bs) (rw length-drop (omega arith)) (all_drop Byte m bs a)

-- ---- records

module _ (bs : List ℕ) (some : 0 < length bs) (w : is_cut bs ≡ false) where
  -- the first record lies within the bytes
  front_within : 6 + number 4 bs ≤ length bs
  front_within = go (leb (6 + number 4 bs) (length bs)) refl
    where
      go : (t : Bool) → leb (6 + number 4 bs) (length bs) ≡ t → 6 + number 4 bs ≤ length bs
      go true e = leb-true (6 + number 4 bs) (length bs) e
      go false e = absurd (true≢false (sym (is_cut_cut bs some (leb-false (6 + number 4 bs) (length bs) e)) ∙ w))

  -- and is written as it stands there
  front_again : All Byte bs → record_bytes (front bs) ≡ take (6 + number 4 bs) bs
  front_again a =
      let n = number 4 bs in
      let f = front_within in
      let size : length (take n (drop 6 bs)) ≡ n = length-take-le n (drop 6 bs) (rw length-drop (omega arith)) in
      let head : bytes 4 (length (take n (drop 6 bs))) ≡ take 4 bs = ap (bytes 4) size ∙ bytes_number 4 bs (omega arith) a in
      let kind : bytes 2 (number 2 (drop 4 bs)) ≡ take 2 (drop 4 bs) = again_at 4 2 bs (omega arith) a in
      record_parts (front bs)
      ∙ (λ i. head i ++ (kind i ++ take n (drop 6 bs)))
      ∙ sym (append_assoc (take 4 bs) (take 2 (drop 4 bs)) (take n (drop 6 bs)))
      ∙ ap (λ (l : List ℕ). l ++ take n (drop 6 bs)) (sym (take-add 4 2 bs))
      ∙ sym (take-add 6 n bs)

nothing_left : (bs : List ℕ) → length bs ≤ 0 → (records_of bs ≡ []) × (bs ≡ [])
unfolding records_of
nothing_left [] h = (refl, refl)
nothing_left (b ∷ bs) h = absurd (omega arith)

-- what is known of the records of a file that is not cut, whose bytes are bytes: joined they are the file, and their bodies are bytes
pub record Again (bs : List ℕ) : Type 0 where
  pub is : joined (records_of bs) ≡ bs
  pub bodies_are : All (λ (r : Record). All Byte r.body) (records_of bs)

again : (n : ℕ) (bs : List ℕ) → length bs ≤ n → is_cut bs ≡ false → All Byte bs → Again bs
unfolding joined
again zero bs h w a =
    let e = nothing_left bs h in
    record { is = ap joined e.0 ∙ sym e.1; bodies_are = subst (All (λ (r : Record). All Byte r.body)) (sym e.0) tt }
again (suc n) bs h w a = go (leb (length bs) 0) refl (λ l. again n (drop (6 + number 4 bs) bs) l)
  where
    go : (t : Bool) → leb (length bs) 0 ≡ t
        → (length (drop (6 + number 4 bs) bs) ≤ n → is_cut (drop (6 + number 4 bs) bs) ≡ false → All Byte (drop (6 + number 4 bs) bs) → Again (drop (6 + number 4 bs) bs))
        → Again bs
    go true e later =
        let q = nothing_left bs (leb-true (length bs) 0 e) in
        record { is = ap joined q.0 ∙ sym q.1; bodies_are = subst (All (λ (r : Record). All Byte r.body)) (sym q.0) tt }
    go false e later =
        let some = leb-false (length bs) 0 e in
        let rest = drop (6 + number 4 bs) bs in
        let f = front_within bs some w in
        let l = length-drop (6 + number 4 bs) bs in
        let r = later (omega arith) (sym (is_cut_step bs some f) ∙ w) (all_drop Byte (6 + number 4 bs) bs a) in
        let e = records_step bs some f w in
        record {
          is = ap joined e ∙ joined_cons (front bs) (records_of rest) ∙ (λ i. front_again bs some w a i ++ r.is i) ∙ take-append-drop (6 + number 4 bs) bs;
          bodies_are = subst (All (λ (r : Record). All Byte r.body)) (sym e) (all_take Byte (number 4 bs) (drop 6 bs) (all_drop Byte 6 bs a), r.bodies_are);
        }

pub records_again : (file : List ℕ) → is_cut file ≡ false → All Byte file → Again file
records_again file w a = again (length file) file (omega arith) w a

-- ---- bodies

spot_again : (m : ℕ) (bs : List ℕ) → m + 16 ≤ length bs → All Byte bs → spot_bytes (spot (drop m bs)) ≡ take 16 (drop m bs)
unfolding spot spot_bytes
spot_again m bs h a =
    let e : drop (m + 8) bs ≡ drop 8 (drop m bs) = sym (drop-drop 8 m bs) in
    let x : bytes 8 (number 8 (drop m bs)) ≡ take 8 (drop m bs) = again_at m 8 bs (omega arith) a in
    let y : bytes 8 (number 8 (drop 8 (drop m bs))) ≡ take 8 (drop 8 (drop m bs)) = subst (λ (l : List ℕ). bytes 8 (number 8 l) ≡ take 8 l) e (again_at (m + 8) 8 bs (omega arith) a) in
    (λ i. x i ++ y i) ∙ sym (take-add 8 8 (drop m bs))

no_bytes : (bs : List ℕ) → line_bytes (spots zero bs) ≡ []
unfolding line_bytes spots
no_bytes bs = refl

spots_again : (n : ℕ) (bs : List ℕ) → 16 * n ≤ length bs → All Byte bs → line_bytes (spots n bs) ≡ take (16 * n) bs
spots_again zero bs h a = no_bytes bs
spots_again (suc n) bs h a =
    let e : 16 + 16 * n ≡ 16 * suc n = omega arith in
    ap line_bytes (spots_one n bs)
    ∙ line_bytes_lem (spot bs) (spots n (drop 16 bs))
    ∙ (λ i. spot_again 0 bs (omega arith) a i ++ spots_again n (drop 16 bs) (rw length-drop (omega arith)) (all_drop Byte 16 bs a) i)
    ∙ sym (take-add 16 (16 * n) bs)
    ∙ ap (λ (k : ℕ). take k bs) e

line_again : (bs : List ℕ) → length bs % 16 ≡ 0 → All Byte bs → line_bytes (spots_of_line bs) ≡ bs
unfolding spots_of_line
line_again bs h a = spots_again (length bs / 16) bs (omega arith) a ∙ take_all (16 * (length bs / 16)) bs (omega arith)

settings_again : (bs : List ℕ) → length bs ≡ 10 → All Byte bs → settings_bytes (settings_of bs) ≡ bs
unfolding settings_of settings_bytes
settings_again bs h a =
    (λ i. again_at 0 4 bs (omega arith) a i ++ (again_at 4 4 bs (omega arith) a i ++ (again_at 8 1 bs (omega arith) a i ++ again_at 9 1 bs (omega arith) a i)))
    ∙ pieces
    ∙ take_all 10 bs (omega arith)
  where
    pieces : take 4 bs ++ (take 4 (drop 4 bs) ++ (take 1 (drop 8 bs) ++ take 1 (drop 9 bs))) ≡ take 10 bs
    pieces =
        ap (λ (l : List ℕ). take 4 bs ++ (take 4 (drop 4 bs) ++ l)) (sym (ap (λ (l : List ℕ). take 1 (drop 8 bs) ++ take 1 l) (drop-drop 1 8 bs)) ∙ sym (take-add 1 1 (drop 8 bs)))
        ∙ ap (λ (l : List ℕ). take 4 bs ++ l) (sym (ap (λ (l : List ℕ). take 4 (drop 4 bs) ++ take 2 l) (drop-drop 4 4 bs)) ∙ sym (take-add 4 2 (drop 4 bs)))
        ∙ sym (take-add 4 6 bs)

link_again : (bs : List ℕ) → length bs ≡ 40 → All Byte bs → link_bytes (sketched_link bs) ≡ bs
unfolding sketched_link link_bytes
link_again bs h a =
    (λ i. again_at 0 2 bs (omega arith) a i ++ (again_at 2 2 bs (omega arith) a i ++ (again_at 4 2 bs (omega arith) a i ++ (again_at 6 2 bs (omega arith) a i ++ (spot_again 8 bs (omega arith) a i ++ spot_again 24 bs (omega arith) a i)))))
    ∙ pieces
    ∙ take_all 40 bs (omega arith)
  where
    join : (m n k : ℕ) → take n (drop m bs) ++ take k (drop (m + n) bs) ≡ take (n + k) (drop m bs)
    join m n k = sym (ap (λ (l : List ℕ). take n (drop m bs) ++ take k l) (drop-drop n m bs)) ∙ sym (take-add n k (drop m bs))

    pieces : take 2 bs ++ (take 2 (drop 2 bs) ++ (take 2 (drop 4 bs) ++ (take 2 (drop 6 bs) ++ (take 16 (drop 8 bs) ++ take 16 (drop 24 bs))))) ≡ take 40 bs
    pieces =
        ap (λ (l : List ℕ). take 2 bs ++ (take 2 (drop 2 bs) ++ (take 2 (drop 4 bs) ++ (take 2 (drop 6 bs) ++ l)))) (join 8 16 16)
        ∙ ap (λ (l : List ℕ). take 2 bs ++ (take 2 (drop 2 bs) ++ (take 2 (drop 4 bs) ++ l))) (join 6 2 32)
        ∙ ap (λ (l : List ℕ). take 2 bs ++ (take 2 (drop 2 bs) ++ l)) (join 4 2 34)
        ∙ ap (λ (l : List ℕ). take 2 bs ++ l) (join 2 2 36)
        ∙ join 0 2 38

-- ---- the records of a file in order

same_record : (r s : Record) → r.kind ≡ s.kind → r.body ≡ s.body → r ≡ s
same_record r s k b = λ i. record { kind = k i; body = b i }

abbrev in_bytes : Record → Type 0
in_bytes r = All Byte r.body

every_cons : (f : List ℕ → Bool) (b : List ℕ) (bs : List (List ℕ)) → every f (b ∷ bs) ≡ true → (f b ≡ true) × (every f bs ≡ true)
unfolding every
every_cons f b bs h = both (f b) (every f bs) h

links_again : (rs : List Record) → all_links rs ≡ true → links_long rs ≡ true → All (λ (r : Record). in_bytes r) rs → map link_as_record (map sketched_link (bodies kind_link rs)) ≡ rs
unfolding bodies
links_again [] h l a = refl
links_again (r ∷ rs) h l a =
    let t = links_cons r rs h in
    let e = bodies_here kind_link r rs t.0 in
    let u = every_cons (λ (b : List ℕ). eqb (length b) link_size) r.body (bodies kind_link rs) (sym (ap (every (λ (b : List ℕ). eqb (length b) link_size)) e) ∙ l) in
    let here : link_as_record (sketched_link r.body) ≡ r = same_record (link_as_record (sketched_link r.body)) r (sym t.0) (link_again r.body (eqb-true (length r.body) link_size u.0) a.0) in
    ap (λ (bs : List (List ℕ)). map link_as_record (map sketched_link bs)) e ∙ λ i. here i ∷ links_again rs t.1 u.1 a.1 i

-- lines and then links
lines_cons : (r : Record) (rs : List Record) → lines_then_links (r ∷ rs) ≡ true → r.kind ≡ kind_line → lines_then_links rs ≡ true
unfolding lines_then_links every
lines_cons r rs h e = go (lines_then_links rs) (subst (λ (k : ℕ). (eqb k kind_line && lines_then_links rs) || (eqb k kind_link && all_links rs) ≡ true) e h)
  where
    go : (t : Bool) → (true && t) || false ≡ true → t ≡ true
    go true h = refl
    go false h = h

only_links : (r : Record) (rs : List Record) → lines_then_links (r ∷ rs) ≡ true → eqb r.kind kind_line ≡ false → all_links (r ∷ rs) ≡ true
unfolding lines_then_links
only_links r rs h e = subst (λ (t : Bool). (t && lines_then_links rs) || all_links (r ∷ rs) ≡ true) e h

behind_again : (rs : List Record) → lines_then_links rs ≡ true → lines_long rs ≡ true → links_long rs ≡ true → All (λ (r : Record). in_bytes r) rs
    → map line_as_record (map spots_of_line (bodies kind_line rs)) ++ map link_as_record (map sketched_link (bodies kind_link rs)) ≡ rs
unfolding bodies
behind_again [] h l k a = refl
behind_again (r ∷ rs) h l k a = go (behind_again rs) (eqb r.kind kind_line) refl
  where
    go : (lines_then_links rs ≡ true → lines_long rs ≡ true → links_long rs ≡ true → All (λ (r : Record). in_bytes r) rs → map line_as_record (map spots_of_line (bodies kind_line rs)) ++ map link_as_record (map sketched_link (bodies kind_link rs)) ≡ rs)
        → (t : Bool) → eqb r.kind kind_line ≡ t → map line_as_record (map spots_of_line (bodies kind_line (r ∷ rs))) ++ map link_as_record (map sketched_link (bodies kind_link (r ∷ rs))) ≡ r ∷ rs
    go later true q =
        let two = eqb-true r.kind kind_line q in
        let e = bodies_here kind_line r rs two in
        let f = bodies_other kind_link r rs (λ z. omega arith) in
        let u = every_cons (λ (b : List ℕ). eqb (length b % point_size) 0) r.body (bodies kind_line rs) (sym (ap (every (λ (b : List ℕ). eqb (length b % point_size) 0)) e) ∙ l) in
        let here : line_as_record (spots_of_line r.body) ≡ r = same_record (line_as_record (spots_of_line r.body)) r (sym two) (line_again r.body (eqb-true (length r.body % point_size) 0 u.0) a.0) in
        (λ i. map line_as_record (map spots_of_line (e i)) ++ map link_as_record (map sketched_link (f i)))
        ∙ λ i. here i ∷ later (lines_cons r rs h two) u.1 (sym (ap (every (λ (b : List ℕ). eqb (length b) link_size)) f) ∙ k) a.1 i
    go later false q =
        let o = only_links r rs h q in
        ap (λ (bs : List (List ℕ)). map line_as_record (map spots_of_line bs) ++ map link_as_record (map sketched_link (bodies kind_link (r ∷ rs)))) (links_no_lines (r ∷ rs) o) ∙ links_again (r ∷ rs) o k a

-- ---- the whole file

records_parts : (s : Sketch) → records_for s ≡ settings_as_record s.settings ∷ (map line_as_record s.lines ++ map link_as_record s.links)
unfolding records_for
records_parts s = refl

sketch_again : (rs : List Record) → kinds_fit rs ≡ true → lengths_fit rs ≡ true → All (λ (r : Record). in_bytes r) rs → records_for (sketch_of rs) ≡ rs
unfolding kinds_fit
sketch_again [] h l a = absurd (true≢false (sym h))
sketch_again (r ∷ rs) h l a =
    let k = settings_next r rs h in
    let one = k.0 in
    let p = lengths_parts (r ∷ rs) l in
    let e1 = bodies_here kind_settings r rs one in
    let e2 = bodies_other kind_line r rs (λ q. omega arith) in
    let e3 = bodies_other kind_link r rs (λ q. omega arith) in
    let u = every_cons (λ (b : List ℕ). eqb (length b) settings_size) r.body (bodies kind_settings rs) (sym (ap (every (λ (b : List ℕ). eqb (length b) settings_size)) e1) ∙ p.0) in
    let long2 : lines_long rs ≡ true = sym (ap (every (λ (b : List ℕ). eqb (length b % point_size) 0)) e2) ∙ p.1 in
    let long3 : links_long rs ≡ true = sym (ap (every (λ (b : List ℕ). eqb (length b) link_size)) e3) ∙ p.2 in
    let here : settings_as_record (settings_of r.body) ≡ r = same_record (settings_as_record (settings_of r.body)) r (sym one) (settings_again r.body (eqb-true (length r.body) settings_size u.0) a.0) in
    ap records_for (sketch_parts (r ∷ rs))
    ∙ records_parts (record { settings = settings_of (get_or (bodies kind_settings (r ∷ rs)) 0 []); lines = map spots_of_line (bodies kind_line (r ∷ rs)); links = map sketched_link (bodies kind_link (r ∷ rs)) })
    ∙ (λ i. settings_as_record (settings_of (get_or (e1 i) 0 [])) ∷ (map line_as_record (map spots_of_line (e2 i)) ++ map link_as_record (map sketched_link (e3 i))))
    ∙ λ i. here i ∷ behind_again rs k.1 long2 long3 a.1 i

-- For every file that passes checks 2, 3 and 4: what was read from it, written again, is the file, byte for byte.
pub file_again : (file : List ℕ) → All Byte file → is_cut file ≡ false → kinds_fit (records_of file) ≡ true → lengths_fit (records_of file) ≡ true → file_of (sketch_of (records_of file)) ≡ file
unfolding file_of
file_again file a w k l =
    let r = records_again file w a in
    ap joined (sketch_again (records_of file) k l r.bodies_are) ∙ r.is

-- And so of every file that the reader takes.
pub read_written : (file : List ℕ) → All Byte file → verdict (read_conditions file) ≡ accepted → file_of (sketch_of (records_of file)) ≡ file
read_written file b e = let p = accepted_passes file e in file_again file b p.is_whole p.in_order p.long
