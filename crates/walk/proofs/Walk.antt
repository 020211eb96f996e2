-- The walk from the start that lies best, in flat arrays, is document 01's.
use mathlib.Core.Path.{◌≡◌, refl, sym, ap, ◌∙◌}
use mathlib.Core.Logic.{inl}
use mathlib.Core.List.{List, [], ◌∷◌, map}
use Prim.Native.Nat.{ℕ, ◌≤◌, ◌<◌}
use native.Mathlib.Nat.{zero-add}
use native.Mathlib.Omega.{arith}
use lib.ListN.{length, get_or, take}
use Rattle.limits.specs.Limits.{most_nodes, line_room}
use Rattle.drawing_spec.specs.Drawing.{Point, Settings}
use Rattle.lists.proofs.Members.{in_all}
use Rattle.graph_spec.specs.Graph.{Edge, point_at}
use Rattle.graph_spec.specs.Odd.{odd_nodes}
use Rattle.graph_spec.specs.Ways.{Inside}
use Rattle.graph_spec.proofs.Odd.{odd_nodes_member, odd_nodes_ascends}
use Rattle.graph_spec.proofs.Handshake.{handshake}
use Rattle.walk_spec.specs.Start.{best, with_edges}
use Rattle.walk_spec.specs.Line.{euler, hierholzer, line_of}
use Rattle.walk_spec.specs.Orient.{orient}
use Rattle.walk_spec.proofs.Start.{with_edges_within}
use Rattle.graph_arrays.specs.Arrays.{Front, nodes_in}
use Rattle.graph_arrays.specs.NodeList.{NodeList}
use Rattle.graph_arrays.proofs.Arrays.{front_at}
use Rattle.graph_arrays.proofs.NodeList.{front_list, nodes_count}
use Rattle.graph_odd.proofs.Listed.{odd_few}
use Rattle.walk_start.proofs.Listed.{with_few}
use Rattle.walk_euler.specs.Euler.{closed_line, open_line}
use Rattle.walk_euler.proofs.Euler.{euler_closed, euler_open}

-- ---- the definition by cases

hierholzer_none : (s : Settings) (ns : List Point) (es : List Edge) → length ns ≡ 0 → hierholzer s ns es ≡ []
unfolding hierholzer
hierholzer_none s [] es h = refl
hierholzer_none s (p ∷ ns) es h = absurd (omega arith)

hierholzer_some : (s : Settings) (ns : List Point) (es : List Edge) → 0 < length ns → euler s ns es ≡ hierholzer s ns es
unfolding hierholzer
hierholzer_some s [] es h = absurd (omega arith)
hierholzer_some s (p ∷ ns) es h = refl

no_length : (vs : List ℕ) → length vs ≡ 0 → vs ≡ []
no_length [] h = refl
no_length (v ∷ vs) h = absurd (omega arith)

-- no node
pub walk_none : (s : Settings) (n : ℕ) (xs ys : List ℕ) (es : List Edge) → n ≡ 0 → [] ≡ hierholzer s (nodes_in n xs ys) es
walk_none s n xs ys es z = sym (hierholzer_none s (nodes_in n xs ys) es (nodes_count n xs ys ∙ z))

pub none_listed : (n : ℕ) (line : List ℕ) → NodeList n line_room line 0
none_listed n line = record { fits = omega arith; long = omega arith; nodes_in_known = λ j h. absurd (omega (arith, h)) }

-- ---- the candidates

module _ (n : ℕ) (es : List Edge) (few : n ≤ most_nodes) (odd : List ℕ) (r : ℕ) (f : Front (odd_nodes n es) odd r) where
  pub odd_nodes_lem : NodeList n most_nodes odd r
  odd_nodes_lem = front_list (odd_nodes n es) odd r f n most_nodes (omega (arith, odd_few es n)) (in_all _ (odd_nodes n es) (λ v i. ((odd_nodes_member n es v).0 i).0))

  -- the first of them is below the second
  pub odd_ascend : 1 < r → get_or odd 0 0 < get_or odd 1 0
  odd_ascend two = rw (front_at (odd_nodes n es) odd r f 0 (omega arith), front_at (odd_nodes n es) odd r f 1 two) (go (odd_nodes n es) refl)
    where
      go : (os : List ℕ) → odd_nodes n es ≡ os → get_or os 0 0 < get_or os 1 0
      go [] e = absurd (omega (arith, two, f.counts, ap length e))
      go (u ∷ []) e = absurd (omega (arith, two, f.counts, ap length e))
      go (u ∷ v ∷ us) e = odd_nodes_ascends n es u (v ∷ us) e v (inl refl)

  -- one alone is never odd
  pub odd_two : Inside n es → (r ≡ 0 → ⊥) → 1 < r
  odd_two inside some = omega (arith, some, f.counts, handshake n es inside)

pub with_nodes : (n : ℕ) (es : List Edge) (with : List ℕ) (count : ℕ) → n ≤ most_nodes → Front (with_edges es n 0) with count → NodeList n most_nodes with count
with_nodes n es with count few f = front_list (with_edges es n 0) with count f n most_nodes (omega (arith, with_few es n)) (with_edges_within es n 0 n (zero-add n))

-- ---- the two lines

module _ (s : Settings) (n : ℕ) (xs ys : List ℕ) (es : List Edge) (some : 0 < n) (odd : List ℕ) (r : ℕ) (f : Front (odd_nodes n es) odd r) where
  ns : List Point
  ns = nodes_in n xs ys

  odd_of : (os : List ℕ) → odd_nodes n es ≡ os → odd_nodes (length ns) es ≡ os
  unfolding ns
  odd_of os e = ap (λ (k : ℕ). odd_nodes k es) (nodes_count n xs ys) ∙ e

  is_hierholzer : euler s ns es ≡ hierholzer s ns es
  unfolding ns
  is_hierholzer = hierholzer_some s (nodes_in n xs ys) es (omega (arith, nodes_count n xs ys))

  -- where no node is odd
  pub walk_closed : r ≡ 0 → (with : List ℕ) (count start : ℕ) → Front (with_edges es n 0) with count → start ≡ best s (nodes_in n xs ys) (take count with)
      → closed_line start es ≡ hierholzer s (nodes_in n xs ys) es
  unfolding ns
  walk_closed z with count start w b =
      ap (λ (q : ℕ). closed_line q es) (b ∙ ap (best s (nodes_in n xs ys)) (w.are ∙ ap (λ (k : ℕ). with_edges es k 0) (sym (nodes_count n xs ys))))
      ∙ euler_closed s (nodes_in n xs ys) es (odd_of [] (no_length (odd_nodes n es) (sym f.counts ∙ z))) ∙ is_hierholzer

  -- where two are
  pub walk_open : 1 < r → (u v start : ℕ) → u ≡ get_or odd 0 0 → v ≡ get_or odd 1 0 → start ≡ best s (nodes_in n xs ys) (take r odd)
      → open_line u v start es ≡ hierholzer s (nodes_in n xs ys) es
  unfolding ns
  walk_open two u v start hu hv b =
      go (odd_nodes n es) refl (hu ∙ front_at (odd_nodes n es) odd r f 0 (omega arith)) (hv ∙ front_at (odd_nodes n es) odd r f 1 two) (b ∙ ap (best s (nodes_in n xs ys)) f.are) ∙ is_hierholzer
    where
      go : (os : List ℕ) → odd_nodes n es ≡ os → u ≡ get_or os 0 0 → v ≡ get_or os 1 0 → start ≡ best s (nodes_in n xs ys) os → open_line u v start es ≡ euler s (nodes_in n xs ys) es
      go [] e pu pv ps = absurd (omega (arith, two, f.counts, ap length e))
      go (x ∷ os) e pu pv ps = rw (pu, pv, ps) (euler_open s (nodes_in n xs ys) es x os (odd_of (x ∷ os) e))

-- ---- the line

pub line_turned : (s : Settings) (n : ℕ) (xs ys : List ℕ) (es : List Edge) (vs : List ℕ) → vs ≡ hierholzer s (nodes_in n xs ys) es
    → orient s (map (point_at (nodes_in n xs ys)) vs) ≡ line_of s (nodes_in n xs ys) es
unfolding line_of
line_turned s n xs ys es vs e = ap (λ (l : List ℕ). orient s (map (point_at (nodes_in n xs ys)) l)) e
