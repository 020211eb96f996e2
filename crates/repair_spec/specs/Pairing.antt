-- Which odd nodes are paired.
use Rattle.std.specs.Prelude.{ℕ, zero, suc, ◌-◌, List, [], ◌∷◌, Bool, true, false, length, get_or, take, set, eqb, ltb, Float}
use Rattle.std.specs.Float.{binary64}
use Rattle.std.specs.Float.Ieee.{add, lt, le}
use Rattle.drawing_spec.specs.Drawing.{Point, no_point}
use Rattle.graph_spec.specs.Chain.{squared}
use Rattle.repair_spec.specs.Distance.{zero_length}

-- a retrace goes from the first to the second
pub record Pair : Type 0 where
  pub from : ℕ
  pub to : ℕ

abbrev pub pair : ℕ → ℕ → Pair
pair u v = record { from = u; to = v }

-- both nodes of every pair
unfoldable pub ends : List Pair → List ℕ
ends [] = []
ends (p ∷ ps) = p.from ∷ p.to ∷ ends ps

-- ---- the nearest two nodes of a working list, first on ties. What two nodes cost, and which of two costs is less, is the caller's. The cost runs from the node that stands first in the list.

pub data Closest (A : Type 0) : Type 0 where
  nothing : Closest A
  between : ℕ → ℕ → A → Closest A

-- the places i and j at the cost d, where that is less
unfoldable pub closer : {A : Type 0} → (A → A → Bool) → Closest A → ℕ → ℕ → A → Closest A
closer less nothing i j d = between i j d
closer less (between i' j' d') i j d = elim (less d d') [ true ↦ between i j d | false ↦ between i' j' d' ]

-- the node u at the place i with each of those from the place j on
unfoldable pub closest_to : {A : Type 0} → (A → A → Bool) → (ℕ → ℕ → A) → ℕ → ℕ → List ℕ → ℕ → Closest A → Closest A
unfolding closer
closest_to less cost u i [] j best = best
closest_to less cost u i (v ∷ vs) j best = closest_to less cost u i vs (suc j) (closer less best i j (cost u v))

-- each node from the place i on with those after it
unfoldable pub closest : {A : Type 0} → (A → A → Bool) → (ℕ → ℕ → A) → List ℕ → ℕ → Closest A → Closest A
unfolding closest_to
closest less cost [] i best = best
closest less cost (u ∷ vs) i best = closest less cost vs (suc i) (closest_to less cost u i vs (suc i) best)

-- the list without the first v in it, the others in order
unfoldable pub without : ℕ → List ℕ → List ℕ
without v [] = []
without v (u ∷ us) = elim (eqb u v) [ true ↦ us | false ↦ u ∷ without v us ]

-- the last element takes the place of the one at i
unfoldable pub swap_remove : List ℕ → ℕ → List ℕ
swap_remove vs i = let n = length vs - 1 in take n (set vs i (get_or vs n 0))

-- pairs until two nodes are left; k is at least the number of nodes
unfoldable pub nearest_pairs : {A : Type 0} → (A → A → Bool) → ℕ → (ℕ → ℕ → A) → List ℕ → List Pair
unfolding closest swap_remove
nearest_pairs less zero cost vs = []
nearest_pairs less (suc k) cost vs =
    elim (ltb 2 (length vs)) [
      | false ↦ []
      | true ↦ elim (closest less cost vs 0 nothing) [
        | nothing ↦ []
        | between i j d ↦ pair (get_or vs i 0) (get_or vs j 0) ∷ nearest_pairs less k cost (swap_remove (swap_remove vs j) i)
      ]
    ]

-- ---- Greedy: by squared distances. On the grid their order is the order of lengths (Rattle.length).

abbrev pub apart : List Point → ℕ → ℕ → ℕ
apart ns u v = squared (get_or ns u no_point) (get_or ns v no_point)

unfoldable pub greedy_pairs : ℕ → List Point → List ℕ → List Pair
unfolding nearest_pairs
greedy_pairs k ns vs = nearest_pairs ltb k (apart ns) vs

-- ---- Optimal: each two nodes are left out in turn, and of the others the first is paired with each other one in turn; a choice is kept until a later one costs less, by rounded sums

pub record Matching : Type 0 where
  pub cost : Float
  pub pairs : List Pair

abbrev pub matching : Float → List Pair → Matching
matching c ps = record { cost = c; pairs = ps }

pub data Choice : Type 0 where
  none : Choice
  chosen : Matching → Choice

-- m where it is the first choice, or costs less than the one in hand
unfoldable pub cheaper : Choice → Matching → Choice
unfolding lt
cheaper none m = chosen m
cheaper (chosen b) m = elim (lt m.cost b.cost) [ true ↦ chosen m | false ↦ chosen b ]

-- the choice, or the empty pairing where there was nothing to choose from
abbrev pub choice_of : Choice → Matching
choice_of none = matching zero_length []
choice_of (chosen m) = m

-- u paired with each candidate in turn, the others of vs matched by `others`; `from` are the distances from u
unfoldable pub partner : (List ℕ → Matching) → (ℕ → Float) → ℕ → List ℕ → List ℕ → Choice → Choice
unfolding cheaper without add
partner others from u vs [] best = best
partner others from u vs (v ∷ candidates) best =
    let m = others (without v vs) in
    partner others from u vs candidates (cheaper best (matching (add binary64 m.cost (from v)) (pair u v ∷ m.pairs)))

-- all of the nodes, the first of them with each other in turn; k is at least the number of nodes
unfoldable pub match_all : ℕ → (ℕ → ℕ → Float) → List ℕ → Matching
unfolding partner
match_all zero d vs = matching zero_length []
match_all (suc k) d [] = matching zero_length []
match_all (suc k) d (u ∷ vs) = choice_of (partner (λ (l : List ℕ). match_all k d l) (d u) u vs vs none)

-- one node left out together with each of `later` in turn; vs are all nodes but that one
unfoldable pub leave_with : ℕ → (ℕ → ℕ → Float) → List ℕ → List ℕ → Choice → Choice
unfolding match_all cheaper without
leave_with k d vs [] best = best
leave_with k d vs (v ∷ later) best = leave_with k d vs later (cheaper best (match_all k d (without v vs)))

-- each node left out together with each later one
unfoldable pub leave_two : ℕ → (ℕ → ℕ → Float) → List ℕ → List ℕ → Choice → Choice
unfolding leave_with
leave_two k d all [] best = best
leave_two k d all (u ∷ later) best = leave_two k d all later (leave_with k d (without u all) later best)

unfoldable pub optimal_pairs : (ℕ → ℕ → Float) → List ℕ → List Pair
unfolding leave_two
optimal_pairs d vs = (choice_of (leave_two (length vs) d vs vs none)).pairs

-- ---- Optimal for more nodes than it compares all choices of: Greedy's pairs, or the nearest two by graph distance again and again; Greedy's where they cost no more

unfoldable pub graph_pairs : (ℕ → ℕ → Float) → List ℕ → List Pair
unfolding nearest_pairs lt
graph_pairs d vs = nearest_pairs lt (length vs) d vs

-- x and then the distance of each pair, from its first node to its second, each sum rounded
unfoldable pub add_pairs : (ℕ → ℕ → Float) → List Pair → Float → Float
unfolding add
add_pairs d [] x = x
add_pairs d (p ∷ ps) x = add_pairs d ps (add binary64 x (d p.from p.to))

unfoldable pub cost_of : (ℕ → ℕ → Float) → List Pair → Float
unfolding add_pairs
cost_of d ps = add_pairs d ps zero_length

-- ps where they cost no more than qs
unfoldable pub less_costly : (ℕ → ℕ → Float) → List Pair → List Pair → List Pair
unfolding cost_of le
less_costly d ps qs = elim (le (cost_of d ps) (cost_of d qs)) [ true ↦ ps | false ↦ qs ]

unfoldable pub busy_pairs : List Point → (ℕ → ℕ → Float) → List ℕ → List Pair
unfolding greedy_pairs graph_pairs less_costly
busy_pairs ns d vs = less_costly d (greedy_pairs (length vs) ns vs) (graph_pairs d vs)
