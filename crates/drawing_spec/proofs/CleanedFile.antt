-- A file's bytes cleaned: its records are the file's, each cleaned, and so the reader says of it what it says of the file, and reads the same drawing.
use mathlib.Core.Path.{◌≡◌, refl, sym, ap, ◌∙◌, subst}
use mathlib.Core.List.{List, [], ◌∷◌, ◌++◌, append_assoc, map}
use mathlib.Core.Bool.{Bool, true, false, not, ◌&&◌, ◌||◌}
use Prim.Native.Nat.{ℕ, zero, suc, ◌+◌, ◌*◌, ◌/◌, ◌%◌, ◌≤◌, ◌<◌}
use native.Mathlib.Omega.{arith}
use lib.ListN.{length, get_or, take, drop, replicate, length-append, length-drop, take-append-drop}
use lib.Seq.{take_at, drop_at, drop-drop, length-take-le}
use lib.Dec.{eqb, leb, ltb}
use borrow.Author.Tests.{eqb-true, eqb-false, leb-true, leb-false, not-false}
use Rattle.limits.specs.Limits.{kind_settings, kind_line, kind_link, settings_size, point_size, link_size, most_bytes, refused_bytes, refused_cut, refused_kinds, refused_lengths}
use Rattle.lists.proofs.Parts.{drop_on}
use Rattle.grid.specs.Grid.{minus_zero, clean}
use Rattle.grid.proofs.Back.{clean_true, clean_false}
use Rattle.drawing_spec.specs.Bytes.{number}
use Rattle.drawing_spec.specs.Drawing.{over_point, over_link, over}
use Rattle.drawing_spec.specs.Refusal.{Condition, condition, Verdict, refused, accepted, verdict, holds}
use Rattle.drawing_spec.specs.Read.{Record, Split, whole, cut, before, split, records_of, is_cut, spot, spots, settings_of, spots_of_line, sketched_link, bodies, sketch_of, placed, drawing_of, every, kinds_fit, lines_then_links, lengths_fit, record_conditions, sketch_conditions, read_conditions}
use Rattle.drawing_spec.specs.Cleaned.{clean_pattern, cleaned, cleaned_word, cleaned_words, cleaned_body, cleaned_records, cleaned_file, Plain, WithoutMinusZero}
use Rattle.drawing_spec.proofs.Refusal.{refused_front, both_accepted, fails}
use Rattle.drawing_spec.proofs.Records.{bodies_here, bodies_other, lengths_parts}
use Rattle.drawing_spec.proofs.Same.{both}
use Rattle.drawing_spec.proofs.Placed.{spot_parts, spots_one, no_spots, link_parts_lem, sketch_parts}
use Rattle.drawing_spec.proofs.Accepted.{conditions_are}
use Rattle.drawing_spec.proofs.Split.{front, split_nil, split_cut, split_fits}
use Rattle.drawing_spec.proofs.Cleaned.{cleaned_drawing, cleaned_conditions, cleaned_plain}

-- ---- a number that stands in front of other bytes

number_ahead : (n m : ℕ) (bs rest : List ℕ) → n ≤ m → m ≤ length bs → number n (take m bs ++ rest) ≡ number n bs
unfolding number
number_ahead zero m bs rest h k = refl
number_ahead (suc n) zero bs rest h k = absurd (omega arith)
number_ahead (suc n) (suc m) [] rest h k = absurd (omega arith)
number_ahead (suc n) (suc m) (b ∷ bs) rest h k = ap (λ (v : ℕ). b + 256 * v) (number_ahead n m bs rest (omega arith) (omega arith))

number_within : (n k m : ℕ) (bs rest : List ℕ) → k + n ≤ m → m ≤ length bs → number n (drop k (take m bs ++ rest)) ≡ number n (drop k bs)
number_within n zero m bs rest h l = number_ahead n m bs rest (omega arith) l
number_within n (suc k) zero bs rest h l = absurd (omega arith)
number_within n (suc k) (suc m) [] rest h l = absurd (omega arith)
number_within n (suc k) (suc m) (b ∷ bs) rest h l = number_within n k m bs rest (omega arith) (omega arith)

-- ---- one coordinate

module _ (bs : List ℕ) (h : 8 ≤ length bs) where
  word_length : length (cleaned_word bs) ≡ 8
  unfolding cleaned_word
  word_length = go (eqb (number 8 bs) minus_zero)
    where
      go : (t : Bool) → length {A = ℕ} (elim t [ true ↦ replicate 8 0 | false ↦ take 8 bs ]) ≡ 8
      go true = refl
      go false = length-take-le 8 bs h

  word_number : (rest : List ℕ) → number 8 (cleaned_word bs ++ rest) ≡ clean (number 8 bs)
  unfolding cleaned_word number
  word_number rest = go (eqb (number 8 bs) minus_zero) refl
    where
      go : (t : Bool) → eqb (number 8 bs) minus_zero ≡ t → number 8 (elim t [ true ↦ replicate 8 0 | false ↦ take 8 bs ] ++ rest) ≡ clean (number 8 bs)
      go true e = sym (clean_true (number 8 bs) e)
      go false e = number_ahead 8 8 bs rest (omega arith) h ∙ sym (clean_false (number 8 bs) e)

-- ---- a row of them

words_one : (n : ℕ) (bs : List ℕ) → cleaned_words (suc n) bs ≡ cleaned_word bs ++ cleaned_words n (drop 8 bs)
unfolding cleaned_words
words_one n bs = refl

words_none : (bs : List ℕ) → cleaned_words zero bs ≡ bs
unfolding cleaned_words
words_none bs = refl

words_length : (n : ℕ) (bs : List ℕ) → 8 * n ≤ length bs → length (cleaned_words n bs) ≡ length bs
words_length zero bs h = ap length (words_none bs)
words_length (suc n) bs h =
    let d = length-drop 8 bs in
    omega (arith, ap length (words_one n bs), length-append (cleaned_word bs) (cleaned_words n (drop 8 bs)), word_length bs (omega arith), words_length n (drop 8 bs) (omega arith))

word_at : (j n : ℕ) (bs : List ℕ) → j < n → 8 * n ≤ length bs → number 8 (drop (8 * j) (cleaned_words n bs)) ≡ clean (number 8 (drop (8 * j) bs))
word_at j zero bs h l = absurd (omega arith)
word_at zero (suc n) bs h l = ap (number 8) (words_one n bs) ∙ word_number bs (omega arith) (cleaned_words n (drop 8 bs))
word_at (suc j) (suc n) bs h l =
    let d = length-drop 8 bs in
    let e : 8 + 8 * j ≡ 8 * suc j = omega arith in
    let rest = cleaned_words n (drop 8 bs) in
    let on : drop (8 * suc j) (cleaned_words (suc n) bs) ≡ drop (8 * j) rest =
    ap (drop (8 * suc j)) (words_one n bs) ∙ ap (λ (k : ℕ). drop k (cleaned_word bs ++ rest)) (sym e) ∙ sym (drop-drop (8 * j) 8 (cleaned_word bs ++ rest)) ∙ ap (drop (8 * j)) (drop_at (cleaned_word bs) rest 8 (word_length bs (omega arith))) in
    ap (number 8) on ∙ word_at j n (drop 8 bs) (omega arith) (omega arith) ∙ ap (λ (l : List ℕ). clean (number 8 l)) (drop-drop (8 * j) 8 bs ∙ ap (λ (k : ℕ). drop k bs) e)

spot_at : (j n : ℕ) (bs : List ℕ) → suc j < n → 8 * n ≤ length bs → spot (drop (8 * j) (cleaned_words n bs)) ≡ over_point clean_pattern (spot (drop (8 * j) bs))
spot_at j n bs h l =
    let next : 8 * j + 8 ≡ 8 * suc j = omega arith in
    let after : (l : List ℕ) → drop 8 (drop (8 * j) l) ≡ drop (8 * suc j) l = λ l. drop-drop 8 (8 * j) l ∙ ap (λ (k : ℕ). drop k l) next in
    let x = word_at j n bs (omega arith) l in
    let y = ap (number 8) (after (cleaned_words n bs)) ∙ word_at (suc j) n bs h l ∙ ap (λ (l : List ℕ). clean (number 8 l)) (sym (after bs)) in
    spot_parts (drop (8 * j) (cleaned_words n bs)) ∙ (λ i. record { x = record { bits = x i }; y = record { bits = y i } }) ∙ sym (ap (over_point clean_pattern) (spot_parts (drop (8 * j) bs)))

spots_at : (m j n : ℕ) (bs : List ℕ) → j + 2 * m ≤ n → 8 * n ≤ length bs → spots m (drop (8 * j) (cleaned_words n bs)) ≡ map (over_point clean_pattern) (spots m (drop (8 * j) bs))
spots_at zero j n bs h l = no_spots (drop (8 * j) (cleaned_words n bs)) ∙ sym (ap (map (over_point clean_pattern)) (no_spots (drop (8 * j) bs)))
spots_at (suc m) j n bs h l =
    let two : 8 * j + 16 ≡ 8 * (j + 2) = omega arith in
    let after : (l : List ℕ) → drop 16 (drop (8 * j) l) ≡ drop (8 * (j + 2)) l = λ l. drop-drop 16 (8 * j) l ∙ ap (λ (k : ℕ). drop k l) two in
    let here = spot_at j n bs (omega arith) l in
    let later = ap (spots m) (after (cleaned_words n bs)) ∙ spots_at m (j + 2) n bs (omega arith) l ∙ ap (λ (l : List ℕ). map (over_point clean_pattern) (spots m l)) (sym (after bs)) in
    spots_one m (drop (8 * j) (cleaned_words n bs)) ∙ (λ i. here i ∷ later i) ∙ sym (ap (map (over_point clean_pattern)) (spots_one m (drop (8 * j) bs)))

-- ---- bodies

line_body : (bs : List ℕ) → cleaned_body kind_line bs ≡ cleaned_words (length bs / 8) bs
unfolding cleaned_body
line_body bs = refl

link_body : (bs : List ℕ) → cleaned_body kind_link bs ≡ take 8 bs ++ cleaned_words (length (drop 8 bs) / 8) (drop 8 bs)
unfolding cleaned_body
link_body bs = refl

settings_body : (bs : List ℕ) → cleaned_body kind_settings bs ≡ bs
unfolding cleaned_body
settings_body bs = refl

row_length : (bs : List ℕ) → length (cleaned_words (length bs / 8) bs) ≡ length bs
row_length bs = words_length (length bs / 8) bs (omega arith)

body_length : (kind : ℕ) (bs : List ℕ) → length (cleaned_body kind bs) ≡ length bs
unfolding cleaned_body
body_length kind bs = go (eqb kind kind_line) (eqb kind kind_link)
  where
    go : (t u : Bool) → length {A = ℕ} (elim t [ true ↦ cleaned_words (length bs / 8) bs | false ↦ elim u [ true ↦ take 8 bs ++ cleaned_words (length (drop 8 bs) / 8) (drop 8 bs) | false ↦ bs ] ]) ≡ length bs
    go true u = row_length bs
    go false true =
        length-append (take 8 bs) (cleaned_words (length (drop 8 bs) / 8) (drop 8 bs))
        ∙ ap (λ (k : ℕ). length (take 8 bs) + k) (row_length (drop 8 bs))
        ∙ sym (length-append (take 8 bs) (drop 8 bs))
        ∙ ap length (take-append-drop 8 bs)
    go false false = refl

line_cleaned : (bs : List ℕ) → length bs % 16 ≡ 0 → spots_of_line (cleaned_body kind_line bs) ≡ map (over_point clean_pattern) (spots_of_line bs)
unfolding spots_of_line
line_cleaned bs h =
    ap (λ (k : ℕ). spots (k / 16) (cleaned_body kind_line bs)) (body_length kind_line bs)
    ∙ ap (spots (length bs / 16)) (line_body bs)
    ∙ spots_at (length bs / 16) 0 (length bs / 8) bs (omega arith) (omega arith)

link_cleaned : (bs : List ℕ) → length bs ≡ 40 → sketched_link (cleaned_body kind_link bs) ≡ over_link clean_pattern (sketched_link bs)
link_cleaned bs h =
    let d = length-drop 8 bs in
    let four : length (drop 8 bs) / 8 ≡ 4 = omega arith in
    let row = cleaned_words 4 (drop 8 bs) in
    let out = take 8 bs ++ row in
    let is : cleaned_body kind_link bs ≡ out = link_body bs ∙ ap (λ (n : ℕ). take 8 bs ++ cleaned_words n (drop 8 bs)) four in
    let eight = length-take-le 8 bs (omega arith) in
    let at : drop 8 out ≡ row = drop_at (take 8 bs) row 8 eight in
    let n1 = number_within 2 0 8 bs row (omega arith) (omega arith) in
    let n2 = number_within 2 2 8 bs row (omega arith) (omega arith) in
    let n3 = number_within 2 4 8 bs row (omega arith) (omega arith) in
    let n4 = number_within 2 6 8 bs row (omega arith) (omega arith) in
    let p1 : spot (drop 8 out) ≡ over_point clean_pattern (spot (drop 8 bs)) = ap spot at ∙ spot_at 0 4 (drop 8 bs) (omega arith) (omega arith) in
    let p2 : spot (drop 24 out) ≡ over_point clean_pattern (spot (drop 24 bs)) =
    ap spot (sym (drop-drop 16 8 out) ∙ ap (drop 16) at) ∙ spot_at 2 4 (drop 8 bs) (omega arith) (omega arith) ∙ ap (λ (l : List ℕ). over_point clean_pattern (spot l)) (drop-drop 16 8 bs) in
    ap sketched_link is
    ∙ link_parts_lem out
    ∙ (λ i. record { first = record { line = n1 i; segment = n2 i; point = p1 i }; second = record { line = n3 i; segment = n4 i; point = p2 i } })
    ∙ sym (ap (over_link clean_pattern) (link_parts_lem bs))

-- ---- records

abbrev cleaned_record : Record → Record
cleaned_record r = record { kind = r.kind; body = cleaned_body r.kind r.body }

cleaned_split : Split → Split
cleaned_split (whole rs) = whole (map cleaned_record rs)
cleaned_split cut = cut

before_cleaned : (r : Record) (s : Split) → before (cleaned_record r) (cleaned_split s) ≡ cleaned_split (before r s)
unfolding before cleaned_split
before_cleaned r (whole rs) = refl
before_cleaned r cut = refl

records_zero : (bs : List ℕ) → cleaned_records zero bs ≡ bs
unfolding cleaned_records
records_zero bs = refl

split_zero : (bs : List ℕ) → split zero bs ≡ whole []
unfolding split
split_zero bs = refl

records_nil : (n : ℕ) → cleaned_records n [] ≡ []
unfolding cleaned_records
records_nil zero = refl
records_nil (suc n) = refl

records_cut : (n : ℕ) (bs : List ℕ) → leb (6 + number 4 bs) (length bs) ≡ false → cleaned_records (suc n) bs ≡ bs
unfolding cleaned_records
records_cut n [] e = refl
records_cut n (b ∷ bs) e = rw (e, cleaned_records)

records_fits : (n : ℕ) (bs : List ℕ) → 0 < length bs → leb (6 + number 4 bs) (length bs) ≡ true
    → cleaned_records (suc n) bs ≡ take 6 bs ++ (cleaned_body (number 2 (drop 4 bs)) (take (number 4 bs) (drop 6 bs)) ++ cleaned_records n (drop (6 + number 4 bs) bs))
unfolding cleaned_records
records_fits n [] p e = absurd (omega arith)
records_fits n (b ∷ bs) p e =
    let file : List ℕ = b ∷ bs in
    rw (e, cleaned_records) (append_assoc (take 6 file) (cleaned_body (number 2 (drop 4 file)) (take (number 4 file) (drop 6 file))) (cleaned_records n (drop (6 + number 4 file) file)))

-- one record, cleaned, in front of others
module _ (n : ℕ) (bs later : List ℕ) (fits : 6 + number 4 bs ≤ length bs) where
  abbrev out : List ℕ
  out = take 6 bs ++ (cleaned_body (number 2 (drop 4 bs)) (take (number 4 bs) (drop 6 bs)) ++ later)

  size_same : number 4 out ≡ number 4 bs
  size_same = number_within 4 0 6 bs (cleaned_body (number 2 (drop 4 bs)) (take (number 4 bs) (drop 6 bs)) ++ later) (omega arith) (omega arith)

  body_size : length (cleaned_body (number 2 (drop 4 bs)) (take (number 4 bs) (drop 6 bs))) ≡ number 4 bs
  body_size = body_length (number 2 (drop 4 bs)) (take (number 4 bs) (drop 6 bs)) ∙ length-take-le (number 4 bs) (drop 6 bs) (rw length-drop (omega arith))

  behind_head : drop 6 out ≡ cleaned_body (number 2 (drop 4 bs)) (take (number 4 bs) (drop 6 bs)) ++ later
  behind_head = drop_at (take 6 bs) (cleaned_body (number 2 (drop 4 bs)) (take (number 4 bs) (drop 6 bs)) ++ later) 6 (length-take-le 6 bs (omega arith))

  front_cleaned : front out ≡ cleaned_record (front bs)
  front_cleaned =
      let kind = number_within 2 4 6 bs (cleaned_body (number 2 (drop 4 bs)) (take (number 4 bs) (drop 6 bs)) ++ later) (omega arith) (omega arith) in
      let body : take (number 4 out) (drop 6 out) ≡ cleaned_body (number 2 (drop 4 bs)) (take (number 4 bs) (drop 6 bs)) =
      (λ i. take (size_same i) (behind_head i)) ∙ take_at (cleaned_body (number 2 (drop 4 bs)) (take (number 4 bs) (drop 6 bs))) later (number 4 bs) body_size in
      λ i. record { kind = kind i; body = body i }

  behind_record : drop (6 + number 4 out) out ≡ later
  behind_record =
      ap (λ (k : ℕ). drop (6 + k) out) size_same
      ∙ drop_on 6 (number 4 bs) out (cleaned_body (number 2 (drop 4 bs)) (take (number 4 bs) (drop 6 bs)) ++ later) later behind_head (drop_at (cleaned_body (number 2 (drop 4 bs)) (take (number 4 bs) (drop 6 bs))) later (number 4 bs) body_size)

  out_length : length out ≡ 6 + number 4 bs + length later
  out_length =
      let b = cleaned_body (number 2 (drop 4 bs)) (take (number 4 bs) (drop 6 bs)) in
      omega (arith, length-append (take 6 bs) (b ++ later), length-append b later, body_size, length-take-le 6 bs (omega arith))

records_length : (n : ℕ) (bs : List ℕ) → length (cleaned_records n bs) ≡ length bs
records_length zero bs = ap length (records_zero bs)
records_length (suc n) [] = ap length (records_nil (suc n))
records_length (suc n) (b ∷ bs) = go (leb (6 + number 4 (b ∷ bs)) (length (b ∷ bs))) refl (records_length n (drop (6 + number 4 (b ∷ bs)) (b ∷ bs)))
  where
    file : List ℕ
    file = b ∷ bs

    go : (t : Bool) → leb (6 + number 4 file) (length file) ≡ t → length (cleaned_records n (drop (6 + number 4 file) file)) ≡ length (drop (6 + number 4 file) file) → length (cleaned_records (suc n) file) ≡ length file
    go true e later =
        let h = leb-true (6 + number 4 file) (length file) e in
        let d = length-drop (6 + number 4 file) file in
        omega (arith, ap length (records_fits n file (omega arith) e), out_length n file (cleaned_records n (drop (6 + number 4 file) file)) h)
    go false e later = ap length (records_cut n file e)

-- split, the cleaned bytes are the records, each cleaned
split_cleaned : (n : ℕ) (bs : List ℕ) → split n (cleaned_records n bs) ≡ cleaned_split (split n bs)
unfolding cleaned_split
split_cleaned zero bs = split_zero (cleaned_records zero bs) ∙ sym (ap cleaned_split (split_zero bs))
split_cleaned (suc n) [] = ap (split (suc n)) (records_nil (suc n)) ∙ split_nil (suc n) ∙ sym (ap cleaned_split (split_nil (suc n)))
split_cleaned (suc n) (b ∷ bs) = go (leb (6 + number 4 (b ∷ bs)) (length (b ∷ bs))) refl (split_cleaned n (drop (6 + number 4 (b ∷ bs)) (b ∷ bs)))
  where
    file : List ℕ
    file = b ∷ bs

    rest : List ℕ
    rest = drop (6 + number 4 file) file

    go : (t : Bool) → leb (6 + number 4 file) (length file) ≡ t → split n (cleaned_records n rest) ≡ cleaned_split (split n rest) → split (suc n) (cleaned_records (suc n) file) ≡ cleaned_split (split (suc n) file)
    go true e later =
        let h = leb-true (6 + number 4 file) (length file) e in
        let after = cleaned_records n rest in
        let s = size_same n file after h in
        let l = out_length n file after h in
        ap (split (suc n)) (records_fits n file (omega arith) e)
        ∙ split_fits n (out n file after h) (omega arith) (omega arith)
        ∙ (λ i. before (front_cleaned n file after h i) (split n (behind_record n file after h i)))
        ∙ ap (before (cleaned_record (front file))) later
        ∙ before_cleaned (front file) (split n rest)
        ∙ sym (ap cleaned_split (split_fits n file (omega arith) h))
    go false e later =
        let h = leb-false (6 + number 4 file) (length file) e in
        ap (split (suc n)) (records_cut n file e) ∙ split_cut n file (omega arith) h ∙ sym (ap cleaned_split (split_cut n file (omega arith) h))

-- ---- the file

module _ (file : List ℕ) where
  pub cleaned_length : length (cleaned_file file) ≡ length file
  unfolding cleaned_file
  cleaned_length = records_length (length file) file

  split_file : split (length (cleaned_file file)) (cleaned_file file) ≡ cleaned_split (split (length file) file)
  unfolding cleaned_file
  split_file = ap (λ (n : ℕ). split n (cleaned_file file)) cleaned_length ∙ split_cleaned (length file) file

  cut_same : is_cut (cleaned_file file) ≡ is_cut file
  unfolding is_cut cleaned_split
  cut_same = go (split (length file) file) refl
    where
      go : (s : Split) → split (length file) file ≡ s → is_cut (cleaned_file file) ≡ is_cut file
      go (whole rs) e = rw (split_file, e, is_cut, cleaned_split)
      go cut e = rw (split_file, e, is_cut, cleaned_split)

  records_cleaned : records_of (cleaned_file file) ≡ map cleaned_record (records_of file)
  unfolding records_of cleaned_split
  records_cleaned = go (split (length file) file) refl
    where
      go : (s : Split) → split (length file) file ≡ s → records_of (cleaned_file file) ≡ map cleaned_record (records_of file)
      go (whole rs) e = rw (split_file, e, records_of, cleaned_split)
      go cut e = rw (split_file, e, records_of, cleaned_split)

-- ---- checks 3 and 4

all_links_same : (rs : List Record) → every (λ (l : Record). eqb l.kind kind_link) (map cleaned_record rs) ≡ every (λ (l : Record). eqb l.kind kind_link) rs
unfolding every
all_links_same [] = refl
all_links_same (r ∷ rs) = ap (λ (t : Bool). eqb r.kind kind_link && t) (all_links_same rs)

order_same : (rs : List Record) → lines_then_links (map cleaned_record rs) ≡ lines_then_links rs
unfolding lines_then_links
order_same [] = refl
order_same (r ∷ rs) = λ i. (eqb r.kind kind_line && order_same rs i) || all_links_same (r ∷ rs) i

kinds_same : (rs : List Record) → kinds_fit (map cleaned_record rs) ≡ kinds_fit rs
unfolding kinds_fit
kinds_same [] = refl
kinds_same (r ∷ rs) = ap (λ (t : Bool). eqb r.kind kind_settings && t) (order_same rs)

bodies_cleaned : (k : ℕ) (rs : List Record) → bodies k (map cleaned_record rs) ≡ map (cleaned_body k) (bodies k rs)
unfolding bodies
bodies_cleaned k [] = refl
bodies_cleaned k (r ∷ rs) = go (eqb r.kind k) refl (bodies_cleaned k rs)
  where
    go : (t : Bool) → eqb r.kind k ≡ t → bodies k (map cleaned_record rs) ≡ map (cleaned_body k) (bodies k rs) → bodies k (map cleaned_record (r ∷ rs)) ≡ map (cleaned_body k) (bodies k (r ∷ rs))
    go true e later =
        let same = eqb-true r.kind k e in
        bodies_here k (cleaned_record r) (map cleaned_record rs) same ∙ (λ i. cleaned_body (same i) r.body ∷ later i) ∙ sym (ap (map (cleaned_body k)) (bodies_here k r rs same))
    go false e later =
        let other = eqb-false r.kind k e in
        bodies_other k (cleaned_record r) (map cleaned_record rs) other ∙ later ∙ sym (ap (map (cleaned_body k)) (bodies_other k r rs other))

-- a test of lengths does not see it
long_same : (k : ℕ) (f : ℕ → Bool) (bs : List (List ℕ)) → every (λ (b : List ℕ). f (length b)) (map (cleaned_body k) bs) ≡ every (λ (b : List ℕ). f (length b)) bs
unfolding every
long_same k f [] = refl
long_same k f (b ∷ bs) = λ i. f (body_length k b i) && long_same k f bs i

lengths_same : (rs : List Record) → lengths_fit (map cleaned_record rs) ≡ lengths_fit rs
unfolding lengths_fit
lengths_same rs =
    let one = ap (every (λ (b : List ℕ). eqb (length b) settings_size)) (bodies_cleaned kind_settings rs) ∙ long_same kind_settings (λ (n : ℕ). eqb n settings_size) (bodies kind_settings rs) in
    let two = ap (every (λ (b : List ℕ). eqb (length b % point_size) 0)) (bodies_cleaned kind_line rs) ∙ long_same kind_line (λ (n : ℕ). eqb (n % point_size) 0) (bodies kind_line rs) in
    let three = ap (every (λ (b : List ℕ). eqb (length b) link_size)) (bodies_cleaned kind_link rs) ∙ long_same kind_link (λ (n : ℕ). eqb n link_size) (bodies kind_link rs) in
    λ i. (one i && two i) && three i

records_conditions : (file : List ℕ) → record_conditions (cleaned_file file) ≡ record_conditions file
unfolding record_conditions
records_conditions file =
    let short = cleaned_length file in
    let is = cut_same file in
    let kinds = ap kinds_fit (records_cleaned file) ∙ kinds_same (records_of file) in
    let lengths = ap lengths_fit (records_cleaned file) ∙ lengths_same (records_of file) in
    λ i. condition refused_bytes (ltb most_bytes (short i)) ∷ condition refused_cut (is i) ∷ condition refused_kinds (not (kinds i)) ∷ condition refused_lengths (not (lengths i)) ∷ []

-- ---- what is read

map_cleaned : {A : Type 0} (f : List ℕ → A) (g : A → A) (k : ℕ) (test : List ℕ → Bool) → ((b : List ℕ) → test b ≡ true → f (cleaned_body k b) ≡ g (f b))
    → (bs : List (List ℕ)) → every test bs ≡ true → map f (map (cleaned_body k) bs) ≡ map g (map f bs)
unfolding every
map_cleaned f g k test h [] e = refl
map_cleaned f g k test h (b ∷ bs) e = let t = both (test b) (every test bs) e in λ i. h b t.0 i ∷ map_cleaned f g k test h bs t.1 i

settings_cleaned : (bs : List (List ℕ)) → get_or (map (cleaned_body kind_settings) bs) 0 [] ≡ get_or bs 0 []
settings_cleaned [] = refl
settings_cleaned (b ∷ bs) = settings_body b

sketch_cleaned : (rs : List Record) → lengths_fit rs ≡ true → sketch_of (map cleaned_record rs) ≡ cleaned (sketch_of rs)
unfolding cleaned
sketch_cleaned rs e =
    let p = lengths_parts rs e in
    let settings = ap (λ (bs : List (List ℕ)). settings_of (get_or bs 0 [])) (bodies_cleaned kind_settings rs) ∙ ap settings_of (settings_cleaned (bodies kind_settings rs)) in
    let lines = ap (map spots_of_line) (bodies_cleaned kind_line rs)
    ∙ map_cleaned spots_of_line (map (over_point clean_pattern)) kind_line (λ (b : List ℕ). eqb (length b % point_size) 0) (λ b h. line_cleaned b (eqb-true (length b % point_size) 0 h)) (bodies kind_line rs) p.1 in
    let links = ap (map sketched_link) (bodies_cleaned kind_link rs)
    ∙ map_cleaned sketched_link (over_link clean_pattern) kind_link (λ (b : List ℕ). eqb (length b) link_size) (λ b h. link_cleaned b (eqb-true (length b) link_size h)) (bodies kind_link rs) p.2 in
    sketch_parts (map cleaned_record rs) ∙ (λ i. record { settings = settings i; lines = lines i; links = links i }) ∙ sym (ap cleaned (sketch_parts rs))

-- ---- what the reader says, and the drawing that it reads

module _ (file : List ℕ) where
  long_taken : verdict (record_conditions file) ≡ accepted → lengths_fit (records_of file) ≡ true
  unfolding record_conditions holds
  long_taken e = not-false (lengths_fit (records_of file)) (fails (record_conditions file) e refused_lengths)

  pub records_taken : verdict (read_conditions file) ≡ accepted → verdict (record_conditions file) ≡ accepted
  unfolding read_conditions
  records_taken e = (both_accepted (record_conditions file) (sketch_conditions (sketch_of (records_of file))) e).0

  -- past checks 1 to 4 its sketch is that of the file, cleaned
  pub cleaned_sketch : verdict (record_conditions file) ≡ accepted → sketch_of (records_of (cleaned_file file)) ≡ cleaned (sketch_of (records_of file))
  cleaned_sketch e = ap sketch_of (records_cleaned file) ∙ sketch_cleaned (records_of file) (long_taken e)

  -- which has no minus zero
  pub cleaned_without : verdict (record_conditions file) ≡ accepted → WithoutMinusZero (cleaned_file file)
  cleaned_without e = subst Plain (sym (cleaned_sketch e)) (cleaned_plain (sketch_of (records_of file)))

  -- and the drawing is the same
  pub drawing_cleaned : verdict (record_conditions file) ≡ accepted → drawing_of (records_of (cleaned_file file)) ≡ drawing_of (records_of file)
  unfolding drawing_of
  drawing_cleaned e = ap (over placed) (cleaned_sketch e) ∙ cleaned_drawing (sketch_of (records_of file))

  -- whatever the file is, it is refused with the same number, or taken
  pub cleaned_verdict : verdict (read_conditions (cleaned_file file)) ≡ verdict (read_conditions file)
  cleaned_verdict = ap verdict (conditions_are (cleaned_file file)) ∙ go (verdict (record_conditions file)) refl ∙ sym (ap verdict (conditions_are file))
    where
      theirs : List Condition
      theirs = sketch_conditions (sketch_of (records_of (cleaned_file file)))

      own : List Condition
      own = sketch_conditions (sketch_of (records_of file))

      go : (v : Verdict) → verdict (record_conditions file) ≡ v → verdict (record_conditions (cleaned_file file) ++ theirs) ≡ verdict (record_conditions file ++ own)
      go (refused n) e = ap (λ (cs : List Condition). verdict (cs ++ theirs)) (records_conditions file) ∙ refused_front n (record_conditions file) theirs e ∙ sym (refused_front n (record_conditions file) own e)
      go accepted e =
          ap (λ (cs : List Condition). verdict (cs ++ theirs)) (records_conditions file)
          ∙ ap (λ (cs : List Condition). verdict (record_conditions file ++ cs)) (ap sketch_conditions (cleaned_sketch e) ∙ cleaned_conditions (sketch_of (records_of file)))
