-- What the program `plan` prints of an answer, as bytes of ASCII, in document 01's words.
use Rattle.std.specs.Prelude.{ℕ, zero, suc, ◌-◌, ◌/◌, ◌%◌, List, [], ◌∷◌, ◌++◌, true, false, drop, ltb}
use Rattle.io.specs.Digits.{hex_digit_ascii, last_digits}
use Rattle.grid.specs.Grid.{origin}
use Rattle.drawing_spec.specs.Drawing.{Point}
use Rattle.drawing_spec.specs.Read.{points}
use Rattle.planner_spec.specs.Plan.{Answer, refusal, planned}

abbrev pub blank : ℕ
blank = 32

abbrev pub line_end : ℕ
line_end = 10

abbrev pub minus : ℕ
minus = 45

-- `refused ` and `ok `
abbrev pub refused_word : List ℕ
refused_word = 114 ∷ 101 ∷ 102 ∷ 117 ∷ 115 ∷ 101 ∷ 100 ∷ blank ∷ []

abbrev pub ok_word : List ℕ
ok_word = 111 ∷ 107 ∷ blank ∷ []

-- a number in decimal; k is at least its number of digits
unfoldable pub decimal_in : ℕ → ℕ → List ℕ
decimal_in zero n = []
decimal_in (suc k) n = elim (ltb n 10) [ true ↦ hex_digit_ascii n ∷ [] | false ↦ decimal_in k (n / 10) ++ (hex_digit_ascii (n % 10) ∷ []) ]

-- 64 bits have at most 20
unfoldable pub decimal : ℕ → List ℕ
unfolding decimal_in
decimal n = decimal_in 20 n

-- 64 bits in 16 lower-case hex digits
unfoldable pub hex : ℕ → List ℕ
hex n = last_digits 16 16 n

-- the coordinate whose grid place is `place`, in signed grid steps from 0
unfoldable pub steps_text : ℕ → List ℕ
unfolding decimal
steps_text place = elim (ltb place origin) [ true ↦ minus ∷ decimal (origin - place) | false ↦ decimal (place - origin) ]

-- a point on a line of its own, x then y
unfoldable pub point_text : Point → List ℕ
unfolding steps_text
point_text p = (steps_text p.x ++ (blank ∷ [])) ++ (steps_text p.y ++ (line_end ∷ []))

unfoldable pub points_text : List Point → List ℕ
unfolding point_text
points_text [] = []
points_text (p ∷ ps) = point_text p ++ points_text ps

-- a number, and the byte that parts it from what comes next
unfoldable pub field : ℕ → ℕ → List ℕ
unfolding decimal
field n end = decimal n ++ (end ∷ [])

-- `ok`, the retrace's bits, odd before, odd after and the number of points, one blank between them
unfoldable pub first_line : ℕ → ℕ → ℕ → ℕ → List ℕ
unfolding field hex
first_line retrace before after count = (((ok_word ++ (hex retrace ++ (blank ∷ []))) ++ field before blank) ++ field after blank) ++ field count line_end

-- `refused N`; or the first line and then the points of the record in the output
unfoldable pub printed : Answer → List ℕ → List ℕ
unfolding field first_line points_text points
printed (refusal n) output = refused_word ++ field n line_end
printed (planned a) output = first_line a.retrace a.before a.after a.points ++ points_text (points a.points (drop 6 output))
