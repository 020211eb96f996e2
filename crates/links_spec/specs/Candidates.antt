-- Candidates for a link that is made: each lies between an end of one line and an end of another, four for each two lines with points. Lines have the numbers that they have in the file.
use Rattle.std.specs.Prelude.{◌≡◌, Bool, ◌&&◌, ◌||◌, length, get_or, eqb, ltb}
use mathlib.Core.List.{List, [], ◌∷◌, ◌++◌}
use Rattle.std.proofs.Math.Bool.{true, false}
use Prim.Native.Nat.{ℕ, zero, suc, ◌-◌, ◌<◌}
use Rattle.drawing_spec.specs.Drawing.{Point, no_point}
use Rattle.graph_spec.specs.Chain.{squared}

-- ---- the ends of a line: 0 is its start, 1 its end; of a dot, and of a line that closes, both are one place and still two ends

unfoldable pub end_point : List Point → ℕ → Point
end_point ps zero = get_or ps 0 no_point
end_point ps (suc e) = get_or ps (length ps - 1) no_point

-- the segment that a link names there: 0 at the start, the line's last one at its end, and 0 for a dot
unfoldable pub end_segment : List Point → ℕ → ℕ
end_segment ps zero = 0
end_segment ps (suc e) = length ps - 2

-- ---- candidates

-- the lower line and the higher, and which end of each
pub record Candidate : Type 0 where
  pub low : ℕ
  pub high : ℕ
  pub low_end : ℕ
  pub high_end : ℕ

abbrev pub candidate : ℕ → ℕ → ℕ → ℕ → Candidate
candidate l h a b = record { low = l; high = h; low_end = a; high_end = b }

abbrev pub low_of : Candidate → ℕ
low_of k = k.low

abbrev pub high_of : Candidate → ℕ
high_of k = k.high

module _ (ls : List (List Point)) where
  abbrev pub line_at : ℕ → List Point
  line_at l = get_or ls l []

  -- the line l is there and has points
  unfoldable pub has_points : ℕ → Bool
  has_points l = ltb 0 (length (line_at l))

  abbrev pub low_point : Candidate → Point
  low_point k = end_point (line_at k.low) k.low_end

  abbrev pub high_point : Candidate → Point
  high_point k = end_point (line_at k.high) k.high_end

  -- the squared length, in grid steps
  abbrev pub squared_length : Candidate → ℕ
  squared_length k = squared (low_point k) (high_point k)

  -- k is a candidate of these lines
  pub record IsCandidate (k : Candidate) : Type 0 where
    pub ordered : k.low < k.high
    pub low_there : has_points k.low ≡ true
    pub high_there : has_points k.high ≡ true
    pub low_end : k.low_end < 2
    pub high_end : k.high_end < 2

  -- ---- all of them

  -- the four between two lines
  abbrev pub between : ℕ → ℕ → List Candidate
  between l h = candidate l h 0 0 ∷ candidate l h 0 1 ∷ candidate l h 1 0 ∷ candidate l h 1 1 ∷ []

  -- between the line l and n lines from h on
  unfoldable pub to_higher : ℕ → ℕ → ℕ → List Candidate
  unfolding has_points
  to_higher l zero h = []
  to_higher l (suc n) h = elim (has_points h) [ true ↦ between l h ++ to_higher l n (suc h) | false ↦ to_higher l n (suc h) ]

  -- among n lines from l on
  unfoldable pub among : ℕ → ℕ → List Candidate
  unfolding has_points to_higher
  among zero l = []
  among (suc n) l = elim (has_points l) [ true ↦ to_higher l n (suc l) ++ among n (suc l) | false ↦ among n (suc l) ]

  unfoldable pub candidates : List Candidate
  unfolding among
  candidates = among (length ls) 0

-- ---- rank

-- numbers compared from the front
unfoldable pub less : List ℕ → List ℕ → Bool
less [] ys = false
less (x ∷ xs) [] = false
less (x ∷ xs) (y ∷ ys) = ltb x y || eqb x y && less xs ys

-- by squared length, then lower line, then higher, then end of the lower line, then end of the higher
abbrev pub rank : List (List Point) → Candidate → List ℕ
rank ls k = squared_length ls k ∷ k.low ∷ k.high ∷ k.low_end ∷ k.high_end ∷ []

abbrev pub ranks_before : List (List Point) → Candidate → Candidate → Bool
ranks_before ls j k = less (rank ls j) (rank ls k)
