-- What a body holds is read at its places in the file. Assumes nothing.
use Prim.Native.Nat.{ℕ, ◌+◌, ◌≤◌}
use native.Mathlib.Omega.{arith}
use mathlib.Core.Path.{◌≡◌, sym, ◌∙◌}
use mathlib.Core.List.{List}
use lib.ListN.{take, drop}
use lib.Seq.{drop-drop}
use Rattle.grid.specs.Grid.{read_place, place_at}
use Rattle.drawing_spec.specs.Bytes.{number}
use Rattle.drawing_spec.specs.Read.{point, settings_of, link_of}
use Rattle.drawing_spec.proofs.Placed.{point_is, link_is}
use Rattle.file_records.proofs.Numbers.{number_front_at}

-- ---- at places of the file

pub settings_at : (at : ℕ) (file : List ℕ)
    → settings_of (drop at file)
    ≡ record { width = number 4 (drop at file); height = number 4 (drop (at + 4) file); pairing = number 1 (drop (at + 8) file); flags = number 1 (drop (at + 9) file) }
unfolding settings_of
settings_at at file = rw (drop-drop 4 at file, drop-drop 8 at file, drop-drop 9 at file)

pub point_at : (at : ℕ) (file : List ℕ) → point (drop at file) ≡ record { x = place_at (read_place (number 8 (drop at file))); y = place_at (read_place (number 8 (drop (at + 8) file))) }
point_at at file = point_is (drop at file) ∙ rw (drop-drop 8 at file)

pub link_at : (at : ℕ) (file : List ℕ)
    → link_of (drop at file)
    ≡ record {
      first = record { line = number 2 (drop at file); segment = number 2 (drop (at + 2) file); point = point (drop (at + 8) file) };
      second = record { line = number 2 (drop (at + 4) file); segment = number 2 (drop (at + 6) file); point = point (drop (at + 24) file) };
    }
link_at at file = link_is (drop at file) ∙ rw (drop-drop 2 at file, drop-drop 8 at file, drop-drop 4 at file, drop-drop 6 at file, drop-drop 24 at file)

-- ---- a body of the length that its kind asks holds what stands at its place

pub settings_front : (bs : List ℕ) → settings_of (take 10 bs) ≡ settings_of bs
unfolding settings_of
settings_front bs = rw (number_front_at 4 0 10 bs (omega arith), number_front_at 4 4 10 bs (omega arith), number_front_at 1 8 10 bs (omega arith), number_front_at 1 9 10 bs (omega arith))

point_front : (k m : ℕ) (bs : List ℕ) → k + 16 ≤ m → point (drop k (take m bs)) ≡ point (drop k bs)
point_front k m bs h =
    point_at k (take m bs) ∙ rw (number_front_at 8 k m bs (omega arith), number_front_at 8 (k + 8) m bs (omega arith)) (sym (point_at k bs))

pub link_front : (bs : List ℕ) → link_of (take 40 bs) ≡ link_of bs
link_front bs =
    link_is (take 40 bs)
    ∙ rw (number_front_at 2 0 40 bs (omega arith), number_front_at 2 2 40 bs (omega arith), number_front_at 2 4 40 bs (omega arith), number_front_at 2 6 40 bs (omega arith), point_front 8 40 bs (omega arith), point_front 24 40 bs (omega arith))
    (sym (link_is bs))
