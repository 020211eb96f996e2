-- Laws of specs/Ends: each way out of the code is one case of the definition.
use mathlib.Core.Path.{◌≡◌, refl, sym, ap, subst, ◌∙◌}
use mathlib.Core.List.{List, [], ◌∷◌, map}
use mathlib.Core.Bool.{Bool, true, false}
use Prim.Native.Nat.{ℕ, zero, suc, ◌+◌, ◌-◌, ◌<◌, ◌≤◌}
use native.Mathlib.Omega.{arith}
use lib.ListN.{length, get_or, take, length-map}
use lib.Seq.{get_or-take, length-take-le}
use lib.Dec.{eqb}
use lib.Ieee.{Float, binary64, add}
use borrow.Author.Tests.{eq-eqb, ne_eqb}
use Rattle.limits.specs.Limits.{most_edges, refused_edges, line_room}
use Rattle.drawing_spec.specs.Drawing as drawn
use Rattle.drawing_spec.specs.Drawing.{Point, no_point}
use Rattle.graph_spec.specs.Graph.{Edge, Graph, point_at}
use Rattle.graph_spec.specs.Odd.{odd_nodes}
use Rattle.graph_adjacency.specs.Lists.{Adjacency}
use Rattle.graph_arrays.specs.Arrays.{point_in, edge_in, nodes_in, edges_in, graph_in, EdgesHeld, Front}
use Rattle.graph_arrays.specs.NodeList.{NodeList, points_along}
use Rattle.lists.proofs.Tabulate.{tabulate_length}
use Rattle.graph_arrays.proofs.Arrays.{front_at}
use Rattle.graph_arrays.proofs.NodeList.{point_at_lem}
use Rattle.repair_spec.specs.Distance.{zero_length, distance_at, distances}
use Rattle.repair_spec.specs.PairsIn.{PairList, pairs_in, listed}
use Rattle.repair_spec.proofs.PairsIn.{pairs_count}
use Rattle.repair_pairs.specs.Pairs.{pairs_for}
use Rattle.repair_pairs.specs.Pairs as found
use Rattle.repair_pairs.proofs.Usable.{Usable}
use Rattle.repair.proofs.ParityLaws.{found_usable}
use Rattle.repair.specs.Parity.{parity_for}
use Rattle.repair.specs.Meaning.{case_in, case_held, parity_in, HeldWith}
use Rattle.repair.specs.declared.Parity.{Parity}
use Rattle.repair.specs.declared.Parity.TheVariants as fixed
use Rattle.repair.specs.declared.Repair.{Repair}
use Rattle.walk_spec.specs.Line.{line_of}
use Rattle.phases.specs.declared.Phase.{Phase}
use Rattle.phases.specs.Ends.{refused_with, made, odd_end, searched, found_end, pairs_end, line_made, value_end, repair_end}

-- an element of a mapped list, whatever stands past the ends
get_d_map_in : {A B : Type 0} (f : A → B) (xs : List A) (i : ℕ) (d : A) (e : B) → i < length xs → get_or (map f xs) i e ≡ f (get_or xs i d)
get_d_map_in f [] i d e h = absurd (omega arith)
get_d_map_in f (x ∷ xs) zero d e h = refl
get_d_map_in f (x ∷ xs) (suc i) d e h = get_d_map_in f xs i d e (omega arith)

-- ---- the end of each phase

module _ (n : ℕ) (es : List Edge) (listed : List ℕ) (count : ℕ) (F : Front (odd_nodes n es) listed count) where
  pub odd_none : count ≡ 0 → made 0 0 zero_length ≡ odd_end n es
  unfolding odd_end
  odd_none h = go (odd_nodes n es) (omega (arith, F.counts, h))
    where
      go : (vs : List ℕ) → length vs ≡ 0 → made 0 0 zero_length ≡ made (length vs) (get_or vs (length vs - 1) 0) zero_length
      go [] e = refl
      go (v ∷ vs) e = absurd (omega arith)

  pub odd_some : 0 < count → (v : ℕ) → v ≡ get_or listed (count - 1) 0 → made count v zero_length ≡ odd_end n es
  unfolding odd_end
  odd_some h v e =
      let at : v ≡ get_or (odd_nodes n es) (length (odd_nodes n es) - 1) 0 =
      e ∙ front_at (odd_nodes n es) listed count F (count - 1) (omega (arith, h)) ∙ ap (λ (k : ℕ). get_or (odd_nodes n es) (k - 1) 0) F.counts in
      λ i. made (F.counts i) (at i) zero_length

module _ (n m : ℕ) (xs ys : List ℕ) (a : Adjacency) (s : drawn.Settings) (floats bytes last : ℕ) where
  abbrev g : Graph
  g = graph_in n m xs ys a

  found_by : (f : found.Found) → f ≡ pairs_for g s floats bytes → (b : Bool) → eqb last 3 ≡ b → found_end g b f ≡ pairs_end g s floats bytes last
  unfolding pairs_end
  found_by f is b e = ap (λ (t : Bool). found_end g t f) (sym e) ∙ ap (found_end g (eqb last 3)) is

  pub pairs_refused : (k : ℕ) → found.refusal k ≡ pairs_for g s floats bytes → refused_with k ≡ pairs_end g s floats bytes last
  pairs_refused k is = found_by (found.refusal k) is (eqb last 3) refl

  module _ (odd : ℕ) (p : PairList) (is : found.pairs odd (listed p) ≡ pairs_for g s floats bytes) where
    counted : length (listed p) ≡ p.count
    counted = pairs_count p.firsts p.seconds 0 p.count

    pub pairs_found : last ≡ 3 → made odd p.count zero_length ≡ pairs_end g s floats bytes last
    pairs_found h = ap (λ (k : ℕ). made odd k zero_length) (sym counted) ∙ found_by (found.pairs odd (listed p)) is true (eq-eqb last 3 h)

    pub pairs_searched : (last ≡ 3 → ⊥) → (x : Float) → x ≡ searched n (edges_in m a) (listed p) zero_length → made odd p.count x ≡ pairs_end g s floats bytes last
    pairs_searched z x sum =
        let same : x ≡ searched (length (nodes_in n xs ys)) (edges_in m a) (listed p) zero_length =
        sum ∙ ap (λ (k : ℕ). searched k (edges_in m a) (listed p) zero_length) (sym (tabulate_length (point_in xs ys) n 0)) in
        (λ i. made odd (sym counted i) (same i)) ∙ found_by (found.pairs odd (listed p)) is false (ne_eqb last 3 z)

    pub usable : EdgesHeld n m a → Usable n p.count p.firsts p.seconds
    usable E = found_usable 0 0 n m xs ys a E s floats bytes odd p is

-- ---- one search after the other

-- what is left, from the pair i on, gives the whole sum
pub record Searching (n : ℕ) (es : List Edge) (fs ss : List ℕ) (pairs : ℕ) (whole : Float) (i : ℕ) (sum : Float) : Type 0 where
  pub same : searched n es (pairs_in fs ss i (pairs - i)) sum ≡ whole

pub searching_begin : (n : ℕ) (es : List Edge) (fs ss : List ℕ) (pairs : ℕ) → Searching n es fs ss pairs (searched n es (pairs_in fs ss 0 pairs) zero_length) 0 zero_length
searching_begin n es fs ss pairs =
    let all : pairs - 0 ≡ pairs = omega arith in
    record { same = ap (λ (k : ℕ). searched n es (pairs_in fs ss 0 k) zero_length) all }

module _ (n : ℕ) (es : List Edge) (fs ss : List ℕ) (pairs : ℕ) (whole : Float) (i : ℕ) (sum : Float) (S : Searching n es fs ss pairs whole i sum) where
  pub searching_step : i < pairs → (u v : ℕ) → u ≡ get_or fs i 0 → v ≡ get_or ss i 0 → (x : Float) → x ≡ add binary64 sum (distance_at (distances n es u) v) → Searching n es fs ss pairs whole (i + 1) x
  unfolding searched pairs_in
  searching_step h u v eu ev x ex =
      let left : pairs - i ≡ suc (pairs - (i + 1)) = omega (arith, h) in
      let one : i + 1 ≡ suc i = omega arith in
      let nodes : distance_at (distances n es u) v ≡ distance_at (distances n es (get_or fs i 0)) (get_or ss i 0) =
      ap (λ (w : ℕ). distance_at (distances n es w) v) eu ∙ ap (λ (w : ℕ). distance_at (distances n es (get_or fs i 0)) w) ev in
      record {
        same =
            ap (λ (k : ℕ). searched n es (pairs_in fs ss k (pairs - (i + 1))) x) one
            ∙ ap (λ (y : Float). searched n es (pairs_in fs ss (suc i) (pairs - (i + 1))) y) (ex ∙ ap (add binary64 sum) nodes)
            ∙ ap (λ (k : ℕ). searched n es (pairs_in fs ss i k) sum) (sym left)
            ∙ S.same;
      }

  pub searching_end : pairs ≤ i → sum ≡ whole
  unfolding searched pairs_in
  searching_end h = let none : pairs - i ≡ 0 = omega (arith, h) in ap (λ (k : ℕ). searched n es (pairs_in fs ss i k) sum) (sym none) ∙ S.same

module _ (n : ℕ) (xs ys line : List ℕ) (count : ℕ) (points : List Point) (l : NodeList n line_room line count) (is : points_along n xs ys line count ≡ points) (retrace : Float) where
  points_count : length points ≡ count
  points_count = ap length (sym is) ∙ length-map (take count line) (point_at (nodes_in n xs ys)) ∙ length-take-le count line l.long

  pub line_none : count ≡ 0 → made 0 0 retrace ≡ line_made points retrace
  line_none h = go points (points_count ∙ h)
    where
      go : (ps : List Point) → length ps ≡ 0 → made 0 0 retrace ≡ line_made ps retrace
      go [] e = refl
      go (p ∷ ps) e = absurd (omega arith)

  pub line_some : 0 < count → (v x : ℕ) → v ≡ get_or line (count - 1) 0 → x ≡ get_or xs v 0 → made count x retrace ≡ line_made points retrace
  line_some h v x e f =
      let below : v < n = omega (arith, e, l.nodes_in_known (count - 1) (omega (arith, h))) in
      let node : get_or (take count line) (count - 1) 0 ≡ v = get_or-take count line (count - 1) 0 (omega (arith, h)) ∙ sym e in
      let long : count - 1 < length (take count line) = omega (arith, h, length-take-le count line l.long) in
      let at : point_at points (count - 1) ≡ point_in xs ys v =
      ap (λ (ps : List Point). point_at ps (count - 1)) (sym is) ∙ get_d_map_in (point_at (nodes_in n xs ys)) (take count line) (count - 1) 0 no_point long ∙ ap (point_at (nodes_in n xs ys)) node ∙ point_at_lem n xs ys v below in
      let same : x ≡ (point_at points (length points - 1)).x =
      f ∙ ap (λ (p : Point). p.x) (sym at) ∙ ap (λ (k : ℕ). (point_at points (k - 1)).x) (sym points_count) in
      λ i. made (sym points_count i) (same i) retrace

module _ (g : Graph) (s : drawn.Settings) (floats bytes last : ℕ) (r : Repair) (a : Adjacency) (is : parity_in r a ≡ parity_for most_edges refused_edges g s floats bytes) where
  by_last : (b : Bool) → eqb last 5 ≡ b → value_end g s b (parity_in r a) ≡ repair_end g s floats bytes last
  unfolding repair_end
  by_last b e = ap (λ (t : Bool). value_end g s t (parity_in r a)) (sym e) ∙ ap (value_end g s (eqb last 5)) is

  pub repair_refused : (k : ℕ) → r.parity ≡ fixed.Refused k → refused_with k ≡ repair_end g s floats bytes last
  repair_refused k e = ap (λ (p : Parity). value_end g s (eqb last 5) (case_in p r.edges a)) (sym e) ∙ by_last (eqb last 5) refl

  module _ (x : Float) (before after : ℕ) (e : r.parity ≡ fixed.Repaired x before after) where
    pub repair_done : last ≡ 5 → made after r.edges x ≡ repair_end g s floats bytes last
    repair_done h =
        ap (λ (k : ℕ). made after k x) (sym (tabulate_length (edge_in a) r.edges 0)) ∙ ap (λ (p : Parity). value_end g s true (case_in p r.edges a)) (sym e)
        ∙ by_last true (eq-eqb last 5 h)

    pub line_done : (last ≡ 5 → ⊥) → (p : Phase) → p ≡ line_made (line_of s g.nodes (edges_in r.edges a)) x → p ≡ repair_end g s floats bytes last
    line_done z p is_line = is_line ∙ ap (λ (q : Parity). value_end g s false (case_in q r.edges a)) (sym e) ∙ by_last false (ne_eqb last 5 z)

    pub held : (n : ℕ) → HeldWith n r a → EdgesHeld n r.edges a
    held n H = subst (λ (p : Parity). case_held n p r.edges a) e H
