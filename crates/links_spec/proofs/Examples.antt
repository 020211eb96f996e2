-- Made links worked out, and sets that may not be made.
use mathlib.Core.Path.{◌≡◌, refl}
use mathlib.Core.Logic.{inl, inr}
use mathlib.Core.List.{List, [], ◌∷◌, map}
use Prim.Native.Nat.{ℕ, ◌<◌}
use native.Mathlib.Omega.{arith}
use Rattle.drawing_spec.specs.Drawing.{Point, End, Link, Drawing}
use Rattle.graph_spec.specs.Count.{sum_over}
use Rattle.spanning.specs.Edges.{count, Leads, here, on}
use Rattle.links_spec.specs.Candidates.{Candidate, candidate, low_of, high_of, has_points, end_point, candidates}
use Rattle.links_spec.specs.Allowed.{LinksAll, Allowed}
use Rattle.links_spec.specs.Made.{made, made_links, to_plan}
use Rattle.links_spec.proofs.Made.{made_links_all}

abbrev at : ℕ → ℕ → Point
at x y = record { x = x; y = y }

abbrev dot : ℕ → ℕ → List Point
dot x y = at x y ∷ []

-- ---- four for each two lines with points

candidates_four : candidates (dot 0 0 ∷ [] ∷ dot 1 0 ∷ []) ≡ candidate 0 2 0 0 ∷ candidate 0 2 0 1 ∷ candidate 0 2 1 0 ∷ candidate 0 2 1 1 ∷ []
unfolding candidates
candidates_four = refl

-- ---- an empty line counts in the numbering and gets no link; a dot is linked by its start; the line's end names its last segment

abbrev four : List (List Point)
four = (at 0 0 ∷ at 5 5 ∷ at 10 0 ∷ []) ∷ [] ∷ (at 20 0 ∷ at 11 0 ∷ []) ∷ (at 10 1 ∷ []) ∷ []

four_made : made four ≡ candidate 0 2 1 1 ∷ candidate 0 3 1 0 ∷ []
unfolding made
four_made = refl

abbrev end : ℕ → ℕ → Point → End
end l s p = record { line = l; segment = s; point = p }

four_links : made_links four
    ≡ record { first = end 0 1 (at 10 0); second = end 2 0 (at 11 0) } ∷ record { first = end 0 1 (at 10 0); second = end 3 0 (at 10 1) } ∷ []
unfolding made_links
four_links = refl

-- the line's start names its segment 0
start_link : made_links ((at 0 0 ∷ at 5 5 ∷ at 9 9 ∷ []) ∷ dot 0 1 ∷ []) ≡ record { first = end 0 0 (at 0 0); second = end 1 0 (at 0 1) } ∷ []
unfolding made_links
start_link = refl

-- ---- the shorter is taken, at whichever end; of equal ones the first by the lines' numbers

shorter : made ((at 0 0 ∷ at 9 0 ∷ []) ∷ (at 20 0 ∷ at 10 0 ∷ []) ∷ []) ≡ candidate 0 1 1 1 ∷ []
unfolding made
shorter = refl

square : made (dot 0 0 ∷ dot 0 1 ∷ dot 1 1 ∷ dot 1 0 ∷ []) ≡ candidate 0 1 0 0 ∷ candidate 0 3 0 0 ∷ candidate 1 2 0 0 ∷ []
unfolding made
square = refl

-- ---- lines that touch are not joined yet, so a link of length 0 is made; nor are lines that cross, or lie on one another

touching : made ((at 0 0 ∷ at 4 0 ∷ []) ∷ (at 4 0 ∷ at 4 4 ∷ at 0 0 ∷ []) ∷ []) ≡ candidate 0 1 0 1 ∷ []
unfolding made
touching = refl

touching_twice : made ((at 0 0 ∷ at 4 0 ∷ []) ∷ (at 0 0 ∷ at 4 0 ∷ []) ∷ (at 0 0 ∷ at 4 0 ∷ []) ∷ []) ≡ candidate 0 1 0 0 ∷ candidate 0 2 0 0 ∷ []
unfolding made
touching_twice = refl

crossing : made ((at 0 4 ∷ at 9 4 ∷ []) ∷ (at 4 0 ∷ at 4 8 ∷ []) ∷ []) ≡ candidate 0 1 0 0 ∷ []
unfolding made
crossing = refl

-- ---- no line, one line

none : made ([] ∷ [] ∷ []) ≡ []
unfolding made
none = refl

one : made ([] ∷ dot 3 4 ∷ []) ≡ []
unfolding made
one = refl

-- ---- only where flag 4 asks for them

abbrev two : ℕ → List Link → Drawing
two f ks = record { settings = record { width = 10; height = 10; pairing = 0; flags = f }; lines = dot 0 0 ∷ dot 1 0 ∷ []; links = ks }

abbrev across : Link
across = record { first = end 0 0 (at 0 0); second = end 1 0 (at 1 0) }

asked : map (λ (f : ℕ). to_plan (two f [])) (0 ∷ 1 ∷ 2 ∷ 3 ∷ 4 ∷ 5 ∷ 6 ∷ 7 ∷ [])
    ≡ two 0 [] ∷ two 1 [] ∷ two 2 [] ∷ two 3 [] ∷ two 4 (across ∷ []) ∷ two 5 (across ∷ []) ∷ two 6 (across ∷ []) ∷ two 7 (across ∷ []) ∷ []
unfolding to_plan
asked = refl

-- ---- what may not be made, of three dots in a row at 0, 1 and 3

abbrev row : List (List Point)
row = dot 0 0 ∷ dot 1 0 ∷ dot 3 0 ∷ []

-- one link fewer
too_few : LinksAll row (candidate 0 1 0 0 ∷ []) → ⊥
unfolding count has_points
too_few L = let z : ◌≡◌ {A = ℕ} 1 2 = L.spans.size in absurd (omega (arith, z))

-- two links between the same two lines: nothing leads to the third
abbrev pair : List Candidate
pair = candidate 0 1 0 0 ∷ candidate 0 1 1 1 ∷ []

within : (v : ℕ) → Leads low_of high_of pair 0 v → v < 2
within v here = omega arith
within v (on k l (inl e) (inl p)) = let q : 1 ≡ v = rw e at p.1 in omega (arith, q)
within v (on k l (inl e) (inr p)) = let q : 0 ≡ v = rw e at p.0 in omega (arith, q)
within v (on k l (inr (inl e)) (inl p)) = let q : 1 ≡ v = rw e at p.1 in omega (arith, q)
within v (on k l (inr (inl e)) (inr p)) = let q : 0 ≡ v = rw e at p.0 in omega (arith, q)
within v (on k l (inr (inr i)) j) = absurd i

third_left_out : LinksAll row pair → ⊥
unfolding has_points
third_left_out L = absurd (omega (arith, within 2 (L.spans.leads 0 2 refl refl)))

-- the longer way round: 1 and 9 where 1 and 4 would do
longer : Allowed row (candidate 0 1 0 0 ∷ candidate 0 2 0 0 ∷ []) → ⊥
unfolding made sum_over end_point
longer A = absurd (omega (arith, A.least (made row) (made_links_all row)))

-- even by a grid step: of three dots, 1 and 1,000,001 where 1 and 1,000,000 would do
abbrev corner : List (List Point)
corner = dot 0 0 ∷ dot 1 0 ∷ dot 0 1000 ∷ []

a_step_longer : Allowed corner (candidate 0 1 0 0 ∷ candidate 1 2 0 0 ∷ []) → ⊥
unfolding made sum_over end_point
a_step_longer A = absurd (omega (arith, A.least (made corner) (made_links_all corner)))

-- the farther ends of two lines
abbrev facing : List (List Point)
facing = (at 0 0 ∷ at 9 0 ∷ []) ∷ (at 20 0 ∷ at 10 0 ∷ []) ∷ []

farther_ends : Allowed facing (candidate 0 1 0 0 ∷ []) → ⊥
unfolding made sum_over end_point
farther_ends A = absurd (omega (arith, A.least (made facing) (made_links_all facing)))
