-- The whole answer of the writer.
use mathlib.Core.Path.{◌≡◌, refl, sym, ap, subst, ◌∙◌}
use mathlib.Core.List.{List, [], ◌∷◌, ◌++◌}
use mathlib.Core.Bool.{true}
use Prim.Native.Nat.{ℕ, ◌+◌, ◌*◌, ◌/◌, ◌^◌, ◌≤◌, ◌<◌}
use native.Mathlib.Nat.{zero-add}
use native.Mathlib.Omega.{arith}
use lib.ListN.{length, get_or, take, drop}
use lib.Seq.{sets, sets-eq}
use borrow.Author.Tests.{ltb-false, not-false}
use Rattle.limits.specs.Limits.{refused_lengths, refused_counts, refused_destination, most_lines, most_points, most_links}
use Rattle.limits.specs.declared.Refusal.{Refusal}
use Rattle.limits.specs.declared.Refusal.TheVariants.{Bytes, Cut, Kinds, Lengths, Settings, Counts, OwnLinks, Coordinates, Links, Apart, Tables, Path, Edges, Output, Destination}
use Rattle.limits.specs.Refused.{number_of}
use Rattle.lists.proofs.Members.{all_by_place}
use Rattle.drawing_spec.specs.Bytes.{in_front}
use Rattle.drawing_spec.specs.Refusal.{accepted, refusal_of, verdict, holds}
use Rattle.drawing_spec.proofs.Refusal.{fails, above_zero, number_refused}
use Rattle.drawing_spec.specs.Read.{total, counts_fit}
use Rattle.writer_spec.specs.Save.{saved_file, Saved, refusal, written, answered}
use Rattle.writer_spec.specs.Given.{Given, fitting, sketch_given, given_conditions, save_given}
use Rattle.writer_spec.specs.OneFile.{Word, OneFile}
use Rattle.writer_spec.proofs.Given.{Fitting, fits}
use Rattle.writer_spec.proofs.Saved.{answered_refused, answered_accepted, given_numbered, saved_one_file}
use Rattle.writer_records.specs.Stored.{lines_size, FileRoom}
use Rattle.writer_checks.proofs.CheckedLaws.{counts_few, size_in, counts_are, size_is}

-- ---- a refusal has a number

pub numbered : (r : Refusal) → number_of r ≡ 0 → ⊥
numbered r = elim r as (λ (x : Refusal). number_of x ≡ 0 → ⊥) [
  | Bytes ↦ λ e. omega arith
  | Cut ↦ λ e. omega arith
  | Kinds ↦ λ e. omega arith
  | Lengths ↦ λ e. omega arith
  | Settings ↦ λ e. omega arith
  | Counts ↦ λ e. omega arith
  | OwnLinks ↦ λ e. omega arith
  | Coordinates ↦ λ e. omega arith
  | Links ↦ λ e. omega arith
  | Apart ↦ λ e. omega arith
  | Tables ↦ λ e. omega arith
  | Path ↦ λ e. omega arith
  | Edges ↦ λ e. omega arith
  | Output ↦ λ e. omega arith
  | Destination ↦ λ e. omega arith
]

-- ---- the whole answer

lines_size_lem : (ns : List ℕ) → lines_size ns ≡ 6 * length ns + 16 * total ns
unfolding lines_size total
lines_size_lem [] = refl
lines_size_lem (n ∷ ns) = omega (arith, lines_size_lem ns)

module _ (g : Given) (d : List ℕ) where
  saved_by : save_given g d ≡ answered (sketch_given g) d (verdict (given_conditions g (length d)))
  unfolding save_given
  saved_by = refl

  pub saved_refused : (n : ℕ) → n ≡ refusal_of (verdict (given_conditions g (length d))) → (n ≡ 0 → ⊥) → ◌≡◌ {A = Saved} (record { answer = refusal n; destination = d }) (save_given g d)
  saved_refused n e z = sym (saved_by ∙ ap (answered (sketch_given g) d) (number_refused (verdict (given_conditions g (length d))) n e z) ∙ answered_refused (sketch_given g) d n)

  module _ (n : ℕ) (e : n ≡ refusal_of (verdict (given_conditions g (length d)))) (z : n ≡ 0) where
    taken : verdict (given_conditions g (length d)) ≡ accepted
    taken = above_zero (given_conditions g (length d)) (given_numbered g (length d)) (sym e ∙ z)

    fitting_taken : Fitting g
    unfolding given_conditions holds
    fitting_taken = fits g (not-false (fitting g.sizes g.coordinates g.segments g.ends) (fails (given_conditions g (length d)) taken refused_lengths))

    counts_taken : counts_fit (sketch_given g) ≡ true
    unfolding given_conditions holds
    counts_taken = not-false (counts_fit (sketch_given g)) (fails (given_conditions g (length d)) taken refused_counts)

    room_taken : length (saved_file (sketch_given g)) ≤ length d
    unfolding given_conditions holds
    room_taken = ltb-false (length d) (length (saved_file (sketch_given g))) (fails (given_conditions g (length d)) taken refused_destination)

    pub saved_few : (length g.sizes ≤ most_lines) × (length g.coordinates / 2 ≤ most_points) × (length g.segments / 4 ≤ most_links)
    saved_few = counts_few g (sym (counts_are g fitting_taken) ∙ counts_taken)

    pub saved_room : FileRoom d g
    saved_room =
        let f = fitting_taken in
        let p = f.points in
        let q = f.fours in
        let t = f.alike in
        let s = size_is g f in
        let l = lines_size_lem g.sizes in
        let r = room_taken in
        record { room = omega arith; points_in_known = omega arith; links_in_known = omega arith }

    module _ (d' : List ℕ) (size : ℕ) (i : d' ≡ sets d 0 (saved_file (sketch_given g))) (l : size ≡ size_in g) where
      pub saved_written : ◌≡◌ {A = Saved} (record { answer = written size; destination = d' }) (save_given g d)
      saved_written =
          let bs = saved_file (sketch_given g) in
          let r = room_taken in
          let is : d' ≡ in_front bs d = i ∙ sets-eq bs d 0 (omega arith) ∙ ap (λ (k : ℕ). bs ++ drop k d) (zero-add (length bs)) in
          (λ v. record { answer = written ((l ∙ sym (size_is g fitting_taken)) v); destination = is v }) ∙ sym (saved_by ∙ ap (answered (sketch_given g) d) taken ∙ answered_accepted (sketch_given g) d)

      -- each coordinate has 64 bits, which the code knows of its slices
      pub saved_one : ((j : ℕ) → get_or g.coordinates j 0 < 2 ^ 64) → ((j : ℕ) → get_or g.ends j 0 < 2 ^ 64) → OneFile (sketch_given g) (take size d')
      saved_one a b =
          let s = saved_written in
          subst (λ (x : List ℕ). OneFile (sketch_given g) (take size x)) (sym (ap (λ (t : Saved). t.destination) s)) (saved_one_file g d taken (all_by_place Word 0 g.coordinates a) (all_by_place Word 0 g.ends b) size (ap (λ (t : Saved). t.answer) s))
