-- Euler lines of small graphs, step by step; and what is none.
use Prim.Native.Nat.{ℕ, zero, suc, ◌<◌}
use native.Mathlib.Omega.{arith}
use mathlib.Core.Path.{◌≡◌, refl}
use mathlib.Core.Logic.{inl, inr}
use mathlib.Core.List.{List, [], ◌∷◌}
use mathlib.Core.Bool.{true≢false}
use lib.Dec.{lit<}
use Rattle.graph_spec.specs.Graph.{Edge, edge}
use Rattle.graph_spec.specs.Odd.{odd_from}
use Rattle.graph_spec.specs.Count.{sum_over}
use Rattle.repair_spec.specs.Distance.{zero_length}
use Rattle.walk_spec.specs.EulerLine.{Step, Leads, times, EulerLine}

abbrev joined : ℕ → ℕ → Edge
joined u v = edge u v zero_length

-- along the edge i to the node v
abbrev by : ℕ → ℕ → Step
by i v = record { number = i; to = v }

-- ---- lines

abbrev triangle : List Edge
triangle = joined 0 1 ∷ joined 1 2 ∷ joined 2 0 ∷ []

-- once round a triangle
round : EulerLine 3 triangle (0 ∷ 1 ∷ 2 ∷ 0 ∷ [])
unfolding sum_over odd_from
round = record {
  first = 0;
  steps = by 0 1 ∷ by 1 2 ∷ by 2 0 ∷ [];
  last = 0;
  is = refl;
  is_node = lit< tt;
  leads = (
    record { is_edge = lit< tt; joins = inl (refl, refl) },
    (record { is_edge = lit< tt; joins = inl (refl, refl) }, (record { is_edge = lit< tt; joins = inl (refl, refl) }, refl)),
  );
  once = each;
  ends = inl (refl, refl);
}
  where
    each : (i : ℕ) → i < 3 → times i (by 0 1 ∷ by 1 2 ∷ by 2 0 ∷ []) ≡ 1
    each zero l = refl
    each (suc zero) l = refl
    each (suc (suc zero)) l = refl
    each (suc (suc (suc i))) l = absurd (omega (arith, l))

-- the one segment, from its second end
segment : EulerLine 2 (joined 0 1 ∷ []) (1 ∷ 0 ∷ [])
unfolding sum_over odd_from
segment = record {
  first = 1;
  steps = by 0 0 ∷ [];
  last = 0;
  is = refl;
  is_node = lit< tt;
  leads = (record { is_edge = lit< tt; joins = inr (refl, refl) }, refl);
  once = each;
  ends = inr (inr refl);
}
  where
    each : (i : ℕ) → i < 1 → times i (by 0 0 ∷ []) ≡ 1
    each zero l = refl
    each (suc i) l = absurd (omega (arith, l))

abbrev double : List Edge
double = joined 0 1 ∷ joined 0 1 ∷ []

-- two edges between the same nodes: there by the second and back by the first
there_and_back : EulerLine 2 double (0 ∷ 1 ∷ 0 ∷ [])
unfolding sum_over odd_from
there_and_back = record {
  first = 0;
  steps = by 1 1 ∷ by 0 0 ∷ [];
  last = 0;
  is = refl;
  is_node = lit< tt;
  leads = (record { is_edge = lit< tt; joins = inl (refl, refl) }, (record { is_edge = lit< tt; joins = inr (refl, refl) }, refl));
  once = each;
  ends = inl (refl, refl);
}
  where
    each : (i : ℕ) → i < 2 → times i (by 1 1 ∷ by 0 0 ∷ []) ≡ 1
    each zero l = refl
    each (suc zero) l = refl
    each (suc (suc i)) l = absurd (omega (arith, l))

-- ---- none

-- the same nodes, but there and back by the same edge
same_edge : (E : EulerLine 2 double (0 ∷ 1 ∷ 0 ∷ [])) → E.steps ≡ by 0 1 ∷ by 0 0 ∷ [] → ⊥
unfolding sum_over
same_edge E e = omega (arith, rw e at (E.once 1 (lit< tt)))

-- an edge is left out
left_out : (line : List ℕ) (E : EulerLine 3 triangle line) → E.steps ≡ by 0 1 ∷ by 1 2 ∷ [] → ⊥
unfolding sum_over
left_out line E e = omega (arith, rw e at (E.once 2 (lit< tt)))

-- from 0 to 1, and on from 0 to 2
jump : (v : ℕ) → Leads (joined 0 1 ∷ joined 0 2 ∷ []) 0 (by 0 1 ∷ by 1 2 ∷ []) v → ⊥
jump v l = elim l.1.0.joins [ inl j ↦ omega (arith, j.0) | inr j ↦ omega (arith, j.0) ]

-- of three edges that meet in one node every node is odd, so there is no line at all
star : (line : List ℕ) → EulerLine 4 (joined 0 1 ∷ joined 0 2 ∷ joined 0 3 ∷ []) line → ⊥
unfolding odd_from
star line E = elim E.ends [
  | inl c ↦ let z = c.0 in true≢false (cc)
  | inr o ↦ elim o [ inl z ↦ true≢false (cc) | inr z ↦ true≢false (cc) ]
]
