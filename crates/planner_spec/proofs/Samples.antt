-- The starred drawings of document 01, as one table, and one theorem that computes the planner's whole answer to each: retrace, counts, every point and every byte.
use Prim.Native.Nat.{ℕ, ◌+◌, ◌*◌, ◌^◌}
use mathlib.Core.Path.{◌≡◌, refl}
use mathlib.Core.List.{List, [], ◌∷◌, ◌++◌, map}
use lib.ListN.{length, replicate}
use Rattle.grid.specs.Grid.{origin, grid_exponent}
use Rattle.drawing_spec.specs.Bytes.{bytes}
use Rattle.drawing_spec.specs.Drawing.{Point}
use Rattle.drawing_spec.specs.Refusal.{accepted, verdict}
use Rattle.drawing_spec.specs.Read.{records_of, drawing_of, read_conditions}
use Rattle.links_spec.specs.Made.{held}
use Rattle.planner_spec.specs.LineRecord.{point_bytes, line_record}
use Rattle.planner_spec.specs.Plan.{refusal, planned, Outcome, plan}

-- ---- files. Coordinates are in pixels; the canvas is 10 by 10.

abbrev at : ℕ → ℕ → Point
at x y = record { x = origin + x * 2 ^ grid_exponent; y = origin + y * 2 ^ grid_exponent }

file_record : ℕ → List ℕ → List ℕ
unfolding bytes
file_record kind body = bytes 4 (length body) ++ bytes 2 kind ++ body

settings : ℕ → ℕ → List ℕ
unfolding file_record
settings pairing flags = file_record 1 (bytes 4 10 ++ bytes 4 10 ++ pairing ∷ flags ∷ [])

line : List Point → List ℕ
unfolding file_record point_bytes
line ps = file_record 2 (point_bytes ps)

-- a link from segment 0 of line 0 to segment 0 of line 1
link : Point → Point → List ℕ
unfolding file_record point_bytes
link p q = file_record 3 (bytes 2 0 ++ bytes 2 0 ++ bytes 2 1 ++ bytes 2 0 ++ point_bytes (p ∷ q ∷ []))

segment : List ℕ
unfolding line
segment = line (at 0 0 ∷ at 3 4 ∷ [])

cross : List ℕ
unfolding line
cross = line (at 0 4 ∷ at 4 4 ∷ at 8 4 ∷ []) ++ line (at 4 0 ∷ at 4 4 ∷ at 4 8 ∷ [])

line_and_dot : List ℕ
unfolding line
line_and_dot = line (at 0 0 ∷ at 8 0 ∷ []) ++ line (at 4 4 ∷ [])

-- ---- cases

record Case : Type 0 where
  file : List ℕ
  floats : ℕ
  output : List ℕ
  want : Outcome

-- An accepted drawing is lent an output two bytes longer than its record, and those keep their value. The retrace is given by its f64's bits.
drawn : List ℕ → ℕ → ℕ → ℕ → ℕ → List Point → Case
unfolding line_record
drawn file floats retrace before after points = record {
  file = file;
  floats = floats;
  output = replicate (6 + 16 * length points + 2) 7;
  want = record {
    answer = planned (record { retrace = retrace; before = before; after = after; points = length points });
    output = line_record points ++ 7 ∷ 7 ∷ [];
  };
}

-- a refused one keeps all of the output's bytes
not_drawn : List ℕ → ℕ → ℕ → Case
not_drawn file floats number = record { file = file; floats = floats; output = replicate 200 7; want = record { answer = refusal number; output = replicate 200 7 } }

-- 0.0, 4.0, 5.0, 8.0 and 16.0
table : List Case
unfolding drawn not_drawn settings line link segment cross line_and_dot
table =
    drawn (settings 0 0) 0 0 0 0 []
    ∷ drawn (settings 0 0 ++ line (at 2 3 ∷ [])) 0 0 0 0 (at 2 3 ∷ [])
    ∷ drawn (settings 0 0 ++ line (at 2 3 ∷ at 2 3 ∷ [])) 0 0 0 0 (at 2 3 ∷ [])
    ∷ drawn (settings 0 0 ++ segment) 0 0 2 2 (at 0 0 ∷ at 3 4 ∷ [])
    ∷ drawn (settings 0 2 ++ segment) 0 0 2 2 (at 3 4 ∷ at 0 0 ∷ [])
    ∷ drawn (settings 0 1 ++ segment) 0 0x4014000000000000 2 0 (at 0 0 ∷ at 3 4 ∷ at 0 0 ∷ [])
    ∷ drawn (settings 0 0 ++ cross) 0 0x4020000000000000 4 2 (at 4 8 ∷ at 4 4 ∷ at 4 0 ∷ at 4 4 ∷ at 0 4 ∷ at 4 4 ∷ at 8 4 ∷ [])
    ∷ drawn (settings 0 1 ++ cross) 0 0x4030000000000000 4 0 (at 0 4 ∷ at 4 4 ∷ at 4 8 ∷ at 4 4 ∷ at 4 0 ∷ at 4 4 ∷ at 8 4 ∷ at 4 4 ∷ at 0 4 ∷ [])
    ∷ drawn (settings 1 0 ++ cross) 32 0x4020000000000000 4 2 (at 0 4 ∷ at 4 4 ∷ at 4 0 ∷ at 4 4 ∷ at 4 8 ∷ at 4 4 ∷ at 8 4 ∷ [])
    ∷ not_drawn (settings 1 0 ++ cross) 31 11
    ∷ drawn (settings 0 0 ++ line_and_dot ++ link (at 4 0) (at 4 4)) 0 0x4010000000000000 4 2 (at 8 0 ∷ at 4 0 ∷ at 0 0 ∷ at 4 0 ∷ at 4 4 ∷ [])
    ∷ not_drawn (settings 0 0 ++ line_and_dot) 0 9
    ∷ drawn (settings 0 0 ++ line (at 4096 4096 ∷ [])) 0 0 0 0 (at 4096 4096 ∷ [])
    ∷ not_drawn (settings 0 0 ++ line (record { x = 2 * origin + 1; y = origin } ∷ [])) 0 7
    ∷ []

-- Optimal's table of 2 ^ 4 bytes is lent; 2 ^ 4 + 4² entries of f64 are just enough
given : Case → Outcome
unfolding plan
given c = plan c.file (record { floats = c.floats; bytes = 16; output = c.output })

starred : map given table ≡ map (λ (c : Case). c.want) table
unfolding given table
starred = refl

-- The bytes of a file and of its answer as they stand, those of document 01's example: so the cases above are of the files that they seem to be. The record has 38 bytes:
-- they fit an output of 38, and not one of 37.
example_file : List ℕ
example_file =
    10 ∷ 0 ∷ 0 ∷ 0 ∷ 1 ∷ 0
    ∷ 10 ∷ 0 ∷ 0 ∷ 0 ∷ 10 ∷ 0 ∷ 0 ∷ 0 ∷ 0 ∷ 0
    ∷ 32 ∷ 0 ∷ 0 ∷ 0 ∷ 2 ∷ 0
    ∷ 0 ∷ 0 ∷ 0 ∷ 0 ∷ 0 ∷ 0 ∷ 0 ∷ 0 ∷ 0 ∷ 0 ∷ 0 ∷ 0 ∷ 0 ∷ 0 ∷ 0 ∷ 0
    ∷ 0 ∷ 0 ∷ 0 ∷ 0 ∷ 0 ∷ 0 ∷ 8 ∷ 64 ∷ 0 ∷ 0 ∷ 0 ∷ 0 ∷ 0 ∷ 0 ∷ 16 ∷ 64 ∷ []

example_record : List ℕ
example_record =
    32 ∷ 0 ∷ 0 ∷ 0 ∷ 4 ∷ 0
    ∷ 0 ∷ 0 ∷ 0 ∷ 0 ∷ 0 ∷ 0 ∷ 0 ∷ 0 ∷ 0 ∷ 0 ∷ 0 ∷ 0 ∷ 0 ∷ 0 ∷ 0 ∷ 0
    ∷ 0 ∷ 0 ∷ 0 ∷ 0 ∷ 0 ∷ 0 ∷ 8 ∷ 64 ∷ 0 ∷ 0 ∷ 0 ∷ 0 ∷ 0 ∷ 0 ∷ 16 ∷ 64 ∷ []

example : plan example_file (record { floats = 0; bytes = 0; output = replicate 38 7 })
    ≡ record { answer = planned (record { retrace = 0; before = 2; after = 2; points = 2 }); output = example_record }
unfolding plan example_file example_record
example = refl

example_short : plan example_file (record { floats = 0; bytes = 0; output = replicate 37 7 }) ≡ record { answer = refusal 14; output = replicate 37 7 }
unfolding plan example_file
example_short = refl

-- ---- minus zero: a dot at (-0,0); a line (0,0) (-0,0); (0,0) (1,0) and (-0,0) (0,1), which meet in one point. No line that is written has the sign

minus_zero_bytes : List ℕ
minus_zero_bytes = replicate 7 0 ++ 128 ∷ []

signed_table : List Case
unfolding drawn settings line file_record minus_zero_bytes
signed_table =
    drawn (settings 0 0 ++ file_record 2 (minus_zero_bytes ++ replicate 8 0)) 0 0 0 0 (at 0 0 ∷ [])
    ∷ drawn (settings 0 0 ++ file_record 2 (replicate 16 0 ++ minus_zero_bytes ++ replicate 8 0)) 0 0 0 0 (at 0 0 ∷ [])
    ∷ drawn (settings 0 0 ++ line (at 0 0 ∷ at 1 0 ∷ []) ++ file_record 2 (minus_zero_bytes ++ replicate 8 0 ++ replicate 14 0 ++ 240 ∷ 63 ∷ [])) 0 0 2 2 (at 0 1 ∷ at 0 0 ∷ at 1 0 ∷ [])
    ∷ []

signed : map given signed_table ≡ map (λ (c : Case). c.want) signed_table
unfolding given signed_table
signed = refl

-- ---- flag 4: the line and the dot without their link, which is made from the line's start, since both its ends are as far

flagged_file : List ℕ
unfolding settings line_and_dot
flagged_file = settings 0 4 ++ line_and_dot

held_file : List ℕ
unfolding settings line_and_dot link
held_file = settings 0 0 ++ line_and_dot ++ link (at 0 0) (at 4 4)

link_table : List Case
unfolding drawn not_drawn settings line link line_and_dot flagged_file held_file
link_table =
    drawn flagged_file 0 0 2 2 (at 8 0 ∷ at 0 0 ∷ at 4 4 ∷ [])
    ∷ drawn held_file 0 0 2 2 (at 8 0 ∷ at 0 0 ∷ at 4 4 ∷ [])
    ∷ drawn (settings 0 6 ++ line_and_dot) 0 0 2 2 (at 4 4 ∷ at 0 0 ∷ at 8 0 ∷ [])
    ∷ drawn (settings 0 4) 0 0 0 0 []
    ∷ drawn (settings 0 4 ++ line [] ++ line (at 2 3 ∷ [])) 0 0 0 0 (at 2 3 ∷ [])
    ∷ not_drawn (settings 0 4 ++ line_and_dot ++ link (at 0 0) (at 4 4)) 0 15
    ∷ not_drawn (settings 0 8 ++ line_and_dot) 0 5
    ∷ []

flagged : map given link_table ≡ map (λ (c : Case). c.want) link_table
unfolding given link_table
flagged = refl

-- the second file is taken, and holds what is planned for the first (proofs/AsIfHeld: `as_if_held`)
held_taken : verdict (read_conditions held_file) ≡ accepted
unfolding verdict read_conditions held_file
held_taken = refl

held_holds : drawing_of (records_of held_file) ≡ held (drawing_of (records_of flagged_file))
unfolding drawing_of records_of held_file flagged_file held
held_holds = refl
