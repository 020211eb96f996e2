-- What a call of the writer answers and leaves: of a drawing that is handed in, and of a file that is read and saved again.
use mathlib.Core.Path.{◌≡◌, refl, sym, ap, subst, ◌∙◌}
use mathlib.Core.List.{List, [], ◌∷◌, ◌++◌, map}
use mathlib.Core.Bool.{Bool, true, false, not, true≢false}
use Prim.Native.Nat.{ℕ, zero, suc, ◌*◌, ◌/◌, ◌≤◌, ◌<◌}
use native.Mathlib.Omega.{arith}
use lib.ListN.{length, get_or, take, drop, length-map}
use lib.Seq.{take_at}
use lib.Dec.{ltb}
use borrow.Author.Tests.{lt-ltb, le-ltb, ltb-true, ltb-false}
use Rattle.limits.specs.Limits.{most_file, refused_lengths, refused_destination}
use Rattle.lists.specs.Members.{All}
use Rattle.lists.proofs.Members.{all_drop}
use Rattle.drawing_spec.specs.Bytes.{in_front}
use Rattle.drawing_spec.specs.Drawing.{LinkOf, Pattern, Sketch}
use Rattle.drawing_spec.specs.Refusal.{Condition, condition, Verdict, refused, accepted, verdict}
use Rattle.drawing_spec.proofs.Refusal.{both_accepted, behind_accepted, refused_front, Numbered, refused_numbered}
use Rattle.drawing_spec.specs.Cleaned.{cleaned, cleaned_file, WithoutMinusZero}
use Rattle.drawing_spec.proofs.Cleaned.{cleaned_twice, cleaned_conditions}
use Rattle.drawing_spec.proofs.CleanedFile.{cleaned_length}
use Rattle.drawing_spec.specs.Read.{every, records_of, sketch_of, record_conditions, sketch_conditions, read_conditions}
use Rattle.writer_spec.specs.File.{file_of}
use Rattle.writer_spec.specs.Save.{saved_file, Saved, refusal, written, answered, write_conditions, save, save_again}
use Rattle.writer_spec.specs.Given.{Given, fitting, points_given, lines_given, links_given, sketch_given, given_conditions, save_given}
use Rattle.writer_spec.specs.OneFile.{Byte, Word, OneFile, PointHeld, Patterned}
use Rattle.grid.specs.Grid.{clean}
use Rattle.writer_spec.proofs.Given.{cleaned_given, cleaned_given_lem}
use Rattle.writer_spec.proofs.Lengths.{saved_short}
use Rattle.writer_spec.proofs.Widths.{taken_counts}
use Rattle.writer_spec.proofs.Cleaned.{cleaned_written, plain_written}
use Rattle.writer_spec.proofs.OneFile.{one_file}

-- ---- what `answered` says of each verdict

pub answered_refused : (s : Sketch) (d : List ℕ) (n : ℕ) → answered s d (refused n) ≡ record { answer = refusal n; destination = d }
unfolding answered
answered_refused s d n = refl

pub answered_accepted : (s : Sketch) (d : List ℕ) → answered s d accepted ≡ record { answer = written (length (saved_file s)); destination = in_front (saved_file s) d }
unfolding answered
answered_accepted s d = refl

-- ---- lists whose coordinates have 64 bits are such a sketch

word_at : (cs : List ℕ) (i : ℕ) → All Word cs → Word (get_or cs i 0)
word_at [] i a = omega arith
word_at (c ∷ cs) zero a = a.0
word_at (c ∷ cs) (suc i) a = word_at cs i a.1

points_patterned : (n : ℕ) (cs : List ℕ) → All Word cs → All PointHeld (points_given n cs)
unfolding points_given
points_patterned zero cs a = tt
points_patterned (suc n) cs a = ((word_at cs 0 a, word_at cs 1 a), points_patterned n (drop 2 cs) (all_drop Word 2 cs a))

lines_patterned : (ns cs : List ℕ) → All Word cs → All (All PointHeld) (lines_given ns cs)
unfolding lines_given
lines_patterned [] cs a = tt
lines_patterned (n ∷ ns) cs a = (points_patterned n cs a, lines_patterned ns (drop (2 * n) cs) (all_drop Word (2 * n) cs a))

links_patterned : (k : ℕ) (ss cs : List ℕ) → All Word cs → All (λ (l : LinkOf Pattern). PointHeld l.first.point × PointHeld l.second.point) (links_given k ss cs)
unfolding links_given
links_patterned zero ss cs a = tt
links_patterned (suc k) ss cs a = (((word_at cs 0 a, word_at cs 1 a), (word_at cs 2 a, word_at cs 3 a)), links_patterned k (drop 4 ss) (drop 4 cs) (all_drop Word 4 cs a))

given_patterned : (g : Given) → All Word g.coordinates → All Word g.ends → Patterned (sketch_given g)
unfolding sketch_given
given_patterned g a b = record { lines = lines_patterned g.sizes g.coordinates a; links = links_patterned (length g.segments / 4) g.segments g.ends b }

-- ---- a drawing that is handed in

-- no refusal has the number 0, so a caller in another language can tell a refusal by it
pub given_numbered : (g : Given) (room : ℕ) → Numbered (given_conditions g room)
unfolding given_conditions every
given_numbered g room = refl

pub saved_numbered : (g : Given) (d : List ℕ) (k : ℕ) → refusal k ≡ (save_given g d).answer → 0 < k
unfolding save_given
saved_numbered g d k h = go (verdict (given_conditions g (length d))) refl h
  where
    go : (v : Verdict) → verdict (given_conditions g (length d)) ≡ v → refusal k ≡ (answered (sketch_given g) d v).answer → 0 < k
    go (refused n) e i = let same : n ≡ k = cc in subst (λ (j : ℕ). 0 < j) same (refused_numbered (given_conditions g (length d)) (given_numbered g (length d)) n e)
    go accepted e i = absurd (true≢false (cc))

module _ (g : Given) (d : List ℕ) (e : verdict (given_conditions g (length d)) ≡ accepted) where
  sketch_taken : verdict (sketch_conditions (sketch_given g)) ≡ accepted
  unfolding given_conditions write_conditions
  sketch_taken =
      (both_accepted (sketch_conditions (sketch_given g)) (condition refused_destination (ltb (length d) (length (saved_file (sketch_given g)))) ∷ [])
      (both_accepted (condition refused_lengths (not (fitting g.sizes g.coordinates g.segments g.ends)) ∷ []) (write_conditions (sketch_given g) (length d)) e).1
      ).0

  saved_is : save_given g d ≡ record { answer = written (length (saved_file (sketch_given g))); destination = in_front (saved_file (sketch_given g)) d }
  unfolding save_given
  saved_is = ap (answered (sketch_given g) d) e ∙ answered_accepted (sketch_given g) d

  saved_front : take (length (saved_file (sketch_given g))) (save_given g d).destination ≡ saved_file (sketch_given g)
  saved_front = let bs = saved_file (sketch_given g) in ap (λ (s : Saved). take (length bs) s.destination) saved_is ∙ take_at bs (drop (length bs) d) (length bs) refl

  -- what stands at the front of the destination is the one file without minus zero that reads back as what was handed in
  pub saved_one_file : All Word g.coordinates → All Word g.ends → (n : ℕ) → written n ≡ (save_given g d).answer → OneFile (sketch_given g) (take n (save_given g d).destination)
  saved_one_file a b n w =
      let bs = saved_file (sketch_given g) in
      let long : n ≡ length bs = same (w ∙ ap (λ (s : Saved). s.answer) saved_is) in
      subst (OneFile (sketch_given g)) (sym (ap (λ (k : ℕ). take k (save_given g d).destination) long ∙ saved_front)) (one_file (sketch_given g) (given_patterned g a b) sketch_taken)
    where
      same : {m k : ℕ} → written m ≡ written k → m ≡ k
      same h = cc

-- ---- lists that fit one another are saved as their sketch is

save_is : (s : Sketch) (d : List ℕ) → save s d ≡ answered s d (verdict (write_conditions s (length d)))
unfolding save
save_is s d = refl

-- a cleaned sketch is saved as the sketch is
module _ (s : Sketch) (d : List ℕ) where
  file_same : saved_file (cleaned s) ≡ saved_file s
  unfolding saved_file
  file_same = ap file_of (cleaned_twice s)

  conditions_same : (room : ℕ) → write_conditions (cleaned s) room ≡ write_conditions s room
  unfolding write_conditions
  conditions_same room = λ i. cleaned_conditions s i ++ condition refused_destination (ltb room (length (file_same i))) ∷ []

  answered_same : (v : Verdict) → answered (cleaned s) d v ≡ answered s d v
  answered_same (refused n) = answered_refused (cleaned s) d n ∙ sym (answered_refused s d n)
  answered_same accepted = answered_accepted (cleaned s) d ∙ ap (λ (l : List ℕ). record { answer = written (length l); destination = in_front l d }) file_same ∙ sym (answered_accepted s d)

  pub save_cleaned : save (cleaned s) d ≡ save s d
  save_cleaned =
      save_is (cleaned s) d
      ∙ ap (λ (cs : List Condition). answered (cleaned s) d (verdict cs)) (conditions_same (length d))
      ∙ answered_same (verdict (write_conditions s (length d)))
      ∙ sym (save_is s d)

-- and lists with minus zeros as the cleaned ones: the whole call, refused or not
fitting_same : (g : Given) → fitting g.sizes (map clean g.coordinates) g.segments (map clean g.ends) ≡ fitting g.sizes g.coordinates g.segments g.ends
unfolding fitting
fitting_same g = rw (length-map g.coordinates clean, length-map g.ends clean)

pub given_cleaned : (g : Given) (d : List ℕ) → save_given (cleaned_given g) d ≡ save_given g d
unfolding save_given given_conditions
given_cleaned g d =
    let s = sketch_given g in
    let room = length d in
    let fits = fitting_same g in
    ap (λ (t : Sketch). answered t d (verdict (condition refused_lengths (not (fitting g.sizes (map clean g.coordinates) g.segments (map clean g.ends))) ∷ write_conditions t room))) (sym (cleaned_given_lem g))
    ∙ (λ i. answered (cleaned s) d (verdict (condition refused_lengths (not (fits i)) ∷ conditions_same s d room i)))
    ∙ answered_same s d (verdict (given_conditions g room))

pub given_saved : (g : Given) (d : List ℕ) → fitting g.sizes g.coordinates g.segments g.ends ≡ true → save_given g d ≡ save (sketch_given g) d
unfolding save_given given_conditions verdict
given_saved g d f =
    let first = condition refused_lengths (not (fitting g.sizes g.coordinates g.segments g.ends)) ∷ [] in
    ap (answered (sketch_given g) d) (behind_accepted first (write_conditions (sketch_given g) (length d)) (ap (λ (t : Bool). verdict (condition refused_lengths (not t) ∷ [])) f))
    ∙ sym (save_is (sketch_given g) d)

-- ---- a destination that has room for the largest file

room_last : (s : Sketch) (room : ℕ) → most_file ≤ room → (v : Verdict) → verdict (sketch_conditions s) ≡ v → verdict (sketch_conditions s ++ (condition refused_destination (ltb room (length (saved_file s))) ∷ [])) ≡ v
unfolding verdict
room_last s room h (refused n) e = refused_front n (sketch_conditions s) (condition refused_destination (ltb room (length (saved_file s))) ∷ []) e
room_last s room h accepted e =
    let f = saved_short s (taken_counts s e) in
    behind_accepted (sketch_conditions s) (condition refused_destination (ltb room (length (saved_file s))) ∷ []) e
    ∙ ap (λ (t : Bool). verdict (condition refused_destination t ∷ [])) (le-ltb room (length (saved_file s)) (omega arith))

-- 16 is never given there: the writer says what the reader would
pub room_enough : (s : Sketch) (room : ℕ) → most_file ≤ room → verdict (write_conditions s room) ≡ verdict (sketch_conditions s)
unfolding write_conditions
room_enough s room h = room_last s room h (verdict (sketch_conditions s)) refl

-- ---- a file that is read and saved again

module _ (file d : List ℕ) where
  again_by : save_again file d ≡ answered (sketch_of (records_of file)) d (verdict (record_conditions file ++ write_conditions (sketch_of (records_of file)) (length d)))
  unfolding save_again
  again_by = refl

  conditions_again : record_conditions file ++ write_conditions (sketch_of (records_of file)) (length d)
      ≡ read_conditions file ++ (condition refused_destination (ltb (length d) (length (saved_file (sketch_of (records_of file))))) ∷ [])
  unfolding read_conditions write_conditions record_conditions sketch_conditions
  conditions_again = refl

  -- refused as the reader would
  pub again_refused : (n : ℕ) → verdict (read_conditions file) ≡ refused n → save_again file d ≡ record { answer = refusal n; destination = d }
  again_refused n e =
      let s = sketch_of (records_of file) in
      again_by
      ∙ ap (λ (cs : List Condition). answered s d (verdict cs)) conditions_again
      ∙ ap (answered s d) (refused_front n (read_conditions file) (condition refused_destination (ltb (length d) (length (saved_file s))) ∷ []) e)
      ∙ answered_refused s d n

  module _ (e : verdict (read_conditions file) ≡ accepted) where
    taken_by : (verdict (record_conditions file) ≡ accepted) × (verdict (sketch_conditions (sketch_of (records_of file))) ≡ accepted)
    unfolding read_conditions
    taken_by = both_accepted (record_conditions file) (sketch_conditions (sketch_of (records_of file))) e

    -- and otherwise what was read is saved
    pub again_saved : save_again file d ≡ save (sketch_of (records_of file)) d
    again_saved =
        let s = sketch_of (records_of file) in
        again_by ∙ ap (answered s d) (behind_accepted (record_conditions file) (write_conditions s (length d)) taken_by.0) ∙ sym (save_is s d)

    module _ (b : All Byte file) (t : Bool) (h : ltb (length d) (length file) ≡ t) where
      last_told : verdict (write_conditions (sketch_of (records_of file)) (length d)) ≡ verdict (condition refused_destination t ∷ [])
      unfolding write_conditions
      last_told =
          let s = sketch_of (records_of file) in
          behind_accepted (sketch_conditions s) (condition refused_destination (ltb (length d) (length (saved_file s))) ∷ []) taken_by.1
          ∙ ap (λ (u : Bool). verdict (condition refused_destination u ∷ [])) (ap (λ (n : ℕ). ltb (length d) n) (ap length (cleaned_written file b e) ∙ cleaned_length file) ∙ h)

      again_told : save_again file d ≡ answered (sketch_of (records_of file)) d (verdict (condition refused_destination t ∷ []))
      again_told = let s = sketch_of (records_of file) in again_saved ∙ save_is s d ∙ ap (answered s d) last_told

    -- 16 where the destination is too short for the file
    pub again_short : All Byte file → length d < length file → save_again file d ≡ record { answer = refusal refused_destination; destination = d }
    unfolding verdict
    again_short b h = again_told b true (lt-ltb (length d) (length file) h) ∙ answered_refused (sketch_of (records_of file)) d refused_destination

    -- and otherwise the cleaned file, which is as long,
    pub again_cleaned : All Byte file → length file ≤ length d → save_again file d ≡ record { answer = written (length file); destination = in_front (cleaned_file file) d }
    unfolding verdict
    again_cleaned b h =
        again_told b false (le-ltb (length d) (length file) h)
        ∙ answered_accepted (sketch_of (records_of file)) d
        ∙ ap (λ (l : List ℕ). record { answer = written (length l); destination = in_front l d }) (cleaned_written file b e)
        ∙ ap (λ (n : ℕ). record { answer = written n; destination = in_front (cleaned_file file) d }) (cleaned_length file)

    -- and so the file itself, byte for byte, where it has no minus zero
    pub again_itself : All Byte file → WithoutMinusZero file → length file ≤ length d → save_again file d ≡ record { answer = written (length file); destination = in_front file d }
    again_itself b p h = again_cleaned b h ∙ ap (λ (l : List ℕ). record { answer = written (length file); destination = in_front l d }) (plain_written file b e p)

    -- always into a destination that has room for the largest file
    pub again_enough : All Byte file → most_file ≤ length d → save_again file d ≡ record { answer = written (length file); destination = in_front (cleaned_file file) d }
    again_enough b h =
        let s = sketch_of (records_of file) in
        let short = saved_short s (taken_counts s taken_by.1) in
        let same : length (saved_file s) ≡ length file = ap length (cleaned_written file b e) ∙ cleaned_length file in
        again_cleaned b (omega arith)

-- So whatever is written for a file is the cleaned file, and the file itself where it has no minus zero.
pub again_only : (file d : List ℕ) → All Byte file → (n : ℕ) → (save_again file d).answer ≡ written n
    → (n ≡ length file) × ((save_again file d).destination ≡ in_front (cleaned_file file) d) × (WithoutMinusZero file → cleaned_file file ≡ file)
again_only file d b n w = by (verdict (read_conditions file)) refl
  where
    never : {m : ℕ} → refusal m ≡ written n → ⊥
    never h = true≢false (cc)

    room : verdict (read_conditions file) ≡ accepted → (t : Bool) → ltb (length d) (length file) ≡ t
        → (n ≡ length file) × ((save_again file d).destination ≡ in_front (cleaned_file file) d) × (WithoutMinusZero file → cleaned_file file ≡ file)
    room e true t = absurd (never (sym (ap (λ (s : Saved). s.answer) (again_short file d e b (ltb-true (length d) (length file) t))) ∙ w))
    room e false t =
        let is = again_cleaned file d e b (ltb-false (length d) (length file) t) in
        let long : written n ≡ written (length file) = sym w ∙ ap (λ (s : Saved). s.answer) is in
        (cc, ap (λ (s : Saved). s.destination) is, plain_written file b e)

    by : (v : Verdict) → verdict (read_conditions file) ≡ v → (n ≡ length file) × ((save_again file d).destination ≡ in_front (cleaned_file file) d) × (WithoutMinusZero file → cleaned_file file ≡ file)
    by (refused m) e = absurd (never (sym (ap (λ (s : Saved). s.answer) (again_refused file d m e)) ∙ w))
    by accepted e = room e (ltb (length d) (length file)) refl
