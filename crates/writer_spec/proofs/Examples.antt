-- The file of document 01's example, the order of the writer's conditions, and what a call answers and leaves, worked out.
use Prim.Native.Nat.{ℕ}
use mathlib.Core.Path.{◌≡◌, refl}
use mathlib.Core.List.{List, [], ◌∷◌, ◌++◌, map}
use lib.ListN.{take, drop, replicate}
use Rattle.grid.specs.Grid.{minus_zero}
use Rattle.drawing_spec.specs.Drawing.{Settings, Sketch}
use Rattle.drawing_spec.specs.Refusal.{number_of}
use Rattle.writer_spec.specs.File.{file_of}
use Rattle.writer_spec.specs.Save.{Answer, refusal, written, write_conditions, save_again}
use Rattle.writer_spec.specs.Given.{Given, given, sketch_given, given_conditions, save_given}

abbrev flagged : ℕ → Settings
flagged flags = record { width = 10; height = 10; pairing = 0; flags = flags }

-- (0,0) (3,4)
abbrev segment : List ℕ → Given
segment coordinates = given (flagged 0) (2 ∷ []) coordinates [] []

abbrev corners : List ℕ
corners = 0 ∷ 0 ∷ 0x4008000000000000 ∷ 0x4010000000000000 ∷ []

abbrev in_bytes : List ℕ
in_bytes =
    (10 ∷ 0 ∷ 0 ∷ 0 ∷ 1 ∷ 0 ∷ 10 ∷ 0 ∷ 0 ∷ 0 ∷ 10 ∷ 0 ∷ 0 ∷ 0 ∷ 0 ∷ 0 ∷ 32 ∷ 0 ∷ 0 ∷ 0 ∷ 2 ∷ 0 ∷ [])
    ++ replicate 22 0
    ++ (8 ∷ 64 ∷ [])
    ++ replicate 6 0
    ++ (16 ∷ 64 ∷ [])

file_written : file_of (sketch_given (segment corners)) ≡ in_bytes
unfolding file_of sketch_given
file_written = refl

-- whatever is handed in
in_order : (s : Sketch) (room : ℕ) → map number_of (write_conditions s room) ≡ 5 ∷ 6 ∷ 15 ∷ 7 ∷ 8 ∷ 16 ∷ []
unfolding write_conditions
in_order s room = refl

given_in_order : (g : Given) (room : ℕ) → map number_of (given_conditions g room) ≡ 4 ∷ 5 ∷ 6 ∷ 15 ∷ 7 ∷ 8 ∷ 16 ∷ []
unfolding given_conditions
given_in_order g room = refl

-- ---- a destination of 56 sevens: room to spare; a coordinate too few; half a step

answers : map (λ (g : Given). save_given g (replicate 56 7)) (segment corners ∷ segment (0 ∷ 0 ∷ 0 ∷ []) ∷ segment (0 ∷ 0 ∷ 0 ∷ 0x3F40000000000000 ∷ []) ∷ [])
    ≡ record { answer = written 54; destination = in_bytes ++ (7 ∷ 7 ∷ []) } ∷ record { answer = refusal 4; destination = replicate 56 7 } ∷ record { answer = refusal 7; destination = replicate 56 7 } ∷ []
unfolding save_given
answers = refl

-- (-0,0) (3,4): the same file as for (0,0) (3,4)
minus_zero_handed : save_given (segment (minus_zero ∷ 0 ∷ 0x4008000000000000 ∷ 0x4010000000000000 ∷ [])) (replicate 56 7) ≡ record { answer = written 54; destination = in_bytes ++ (7 ∷ 7 ∷ []) }
unfolding save_given
minus_zero_handed = refl

-- just enough, and a byte too few
rooms : map (λ (n : ℕ). save_given (segment corners) (replicate n 7)) (54 ∷ 53 ∷ []) ≡ record { answer = written 54; destination = in_bytes } ∷ record { answer = refusal 16; destination = replicate 53 7 } ∷ []
unfolding save_given
rooms = refl

-- ---- a dot and a link: a link's record, and two faults at once

-- from (0,0), of line 0, to the dot (3,4), of line 1
abbrev linked_dot : ℕ → List ℕ → Given
linked_dot flags segments = given (flagged flags) (1 ∷ 1 ∷ []) corners segments corners

abbrev link_in : List ℕ
link_in = (40 ∷ 0 ∷ 0 ∷ 0 ∷ 3 ∷ 0 ∷ 0 ∷ 0 ∷ 0 ∷ 0 ∷ 1 ∷ 0 ∷ 0 ∷ 0 ∷ []) ++ replicate 22 0 ++ (8 ∷ 64 ∷ []) ++ replicate 6 0 ++ (16 ∷ 64 ∷ [])

abbrev dots_in : List ℕ
dots_in =
    (10 ∷ 0 ∷ 0 ∷ 0 ∷ 1 ∷ 0 ∷ 10 ∷ 0 ∷ 0 ∷ 0 ∷ 10 ∷ 0 ∷ 0 ∷ 0 ∷ 0 ∷ 0 ∷ 16 ∷ 0 ∷ 0 ∷ 0 ∷ 2 ∷ 0 ∷ [])
    ++ replicate 16 0
    ++ (16 ∷ 0 ∷ 0 ∷ 0 ∷ 2 ∷ 0 ∷ [])
    ++ replicate 6 0
    ++ (8 ∷ 64 ∷ [])
    ++ replicate 6 0
    ++ (16 ∷ 64 ∷ [])

link_written : file_of (sketch_given (linked_dot 0 (0 ∷ 0 ∷ 1 ∷ 0 ∷ []))) ≡ dots_in ++ link_in
unfolding file_of sketch_given
link_written = refl

abbrev answer_of : Given → Answer
answer_of g = (save_given g []).answer

-- flags 12 and a link: 5, not 15; flag 4, a link and a link astray: 15, not 8; a line number that a file has no room for: 8; all right: 16, since the destination is empty
two_faults : map answer_of (linked_dot 12 (0 ∷ 0 ∷ 1 ∷ 0 ∷ []) ∷ linked_dot 4 (0 ∷ 1 ∷ 1 ∷ 0 ∷ []) ∷ linked_dot 0 (65536 ∷ 0 ∷ 1 ∷ 0 ∷ []) ∷ linked_dot 0 (0 ∷ 0 ∷ 1 ∷ 0 ∷ []) ∷ [])
    ≡ refusal 5 ∷ refusal 15 ∷ refusal 8 ∷ refusal 16 ∷ []
unfolding save_given
two_faults = refl

-- the link's ends at (-0,-0) and (3,4): saved as at (0,0) and (3,4)
link_minus_zero : save_given (given (flagged 0) (1 ∷ 1 ∷ []) corners (0 ∷ 0 ∷ 1 ∷ 0 ∷ []) (minus_zero ∷ minus_zero ∷ 0x4008000000000000 ∷ 0x4010000000000000 ∷ [])) (replicate 106 7)
    ≡ record { answer = written 106; destination = dots_in ++ link_in }
unfolding save_given
link_minus_zero = refl

-- ---- lists that do not fit one another: a coordinate of an end too few, half a link, and a point more than there are coordinates

unfitted : map answer_of (given (flagged 0) (1 ∷ 1 ∷ []) corners (0 ∷ 0 ∷ 1 ∷ 0 ∷ []) (0 ∷ 0 ∷ 0 ∷ []) ∷ given (flagged 0) (1 ∷ 1 ∷ []) corners (0 ∷ 0 ∷ []) (0 ∷ 0 ∷ []) ∷ given (flagged 12) (2 ∷ 1 ∷ []) corners [] [] ∷ []) ≡ refusal 4 ∷ refusal 4 ∷ refusal 4 ∷ []
unfolding save_given
unfitted = refl

-- ---- read and saved again: the file; bytes behind the last record, 2

again : map (λ (file : List ℕ). save_again file (replicate 56 7)) (in_bytes ∷ (in_bytes ++ (0 ∷ [])) ∷ []) ≡ record { answer = written 54; destination = in_bytes ++ (7 ∷ 7 ∷ []) } ∷ record { answer = refusal 2; destination = replicate 56 7 } ∷ []
unfolding save_again
again = refl

-- with a minus zero: the cleaned file
again_minus_zero : save_again (take 29 in_bytes ++ (128 ∷ drop 30 in_bytes)) (replicate 54 7) ≡ record { answer = written 54; destination = in_bytes }
unfolding save_again
again_minus_zero = refl
