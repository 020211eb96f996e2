-- The distances of every search that repair makes are the least, and finite, once check 9 has passed: copies have the ends and the lengths of edges that were there, so each graph
-- that is searched can be searched like the drawn one, and is in one piece like it. Assumes nothing.
use mathlib.Core.Path.{◌≡◌, refl, sym, subst}
use mathlib.Core.List.{List}
use mathlib.Core.Bool.{Bool, true, false}
use Prim.Native.Nat.{ℕ, ◌<◌}
use native.Mathlib.Nat.{lt_of_lt_of_le}
use native.Mathlib.Omega.{arith}
use lib.ListN.{length, get_or}
use lib.Dec.{leb, lit≤}
use borrow.Author.Tests.{leb-false}
use Rattle.limits.specs.Limits.{most_edges, refused_edges}
use Rattle.drawing_spec.specs.Drawing.{Settings, closing}
use Rattle.drawing_spec.specs.Accepted.{Passed}
use Rattle.drawing_spec.proofs.Accepted.{accepted_passes}
use Rattle.graph_spec.specs.Graph.{Edge, Graph, build_graph}
use Rattle.graph_spec.specs.Odd.{odd_nodes}
use Rattle.graph_spec.specs.Reach.{all_reached}
use Rattle.graph_spec.specs.Weights.{Searchable}
use Rattle.graph_spec.proofs.Handshake.{handshake}
use Rattle.graph_spec.proofs.Occurs.{count}
use Rattle.graph_spec.proofs.Sums.{hit_same}
use Rattle.repair_spec.specs.Distance.{distance_at, distances}
use Rattle.repair_spec.specs.Copies.{Laid}
use Rattle.repair_spec.specs.Pairing.{Pair, ends}
use Rattle.repair_spec.specs.Repair.{Repair, Repairing, repaired, apply_matching, rows, distance_in, pairs_of, close_if, drawn, fix_parity}
use Rattle.repair_spec.proofs.Least.{least_distance}
use Rattle.repair_spec.proofs.Repair.{row_known}
use Rattle.repair_spec.proofs.Repaired.{pairs_of_lem, pair_of, odd_below, odd_at, fixed}
use Rattle.repair_early_exit.proofs.Laid.{retrace_searchable}
use Rattle.repair_early_exit.proofs.Found.{reached_near}
use Rattle.repair_early_exit.proofs.Never.{OnePiece, Sound, reached_one_piece, retrace_one_piece, apply_sound}
use Rattle.planner_spec.specs.Plan.{Lent, Planned, planned, drawing_in, repair_of, plan}
use Rattle.planner_spec.proofs.Plan.{drawn as drawn_plan, file_planned, drawing_graph}
use Rattle.planner_searches.specs.Searches as searches
use Rattle.planner_searches.specs.Searches.{odd_list_of, PairSearch, first, later, before_closing, RepairSearch, LeastFinite, Searches}
use Rattle.planner_searches.proofs.Files.{graph_searchable}

-- a graph that can be searched, in one piece
least_finite : (n : ℕ) (es : List Edge) → Searchable n es → OnePiece n es → (u : ℕ) → u < n → (v : ℕ) → v < n → LeastFinite es u v (distance_at (distances n es u) v)
least_finite n es G C u hu v hv = record {
  least = least_distance n es G.weights G.inside u hu v;
  finite = lt_of_lt_of_le (reached_near n es G u hu (C u v hu hv)) (lit≤ tt);
}

-- what a search of `apply_matching` is made on
module _ (n : ℕ) where
  pair_search : {ps : List Pair} {r : Repair} {es : List Edge} {p : Pair} → PairSearch n ps r es p → Searchable n r.edges → OnePiece n r.edges → ((v : ℕ) → 0 < count v (ends ps) → v < n)
      → Searchable n es × OnePiece n es × (p.from < n)
  unfolding count ends
  pair_search (first {p = p}) G C below = (G, C, below p.from (omega (arith, hit_same p.from)))
  pair_search (later {p = p} {r = r} {path = path} is h) G C below =
      let l : Laid = record { edges = r.edges; sum = r.sum } in
      pair_search h (retrace_searchable n l p.from p.to path is G) (retrace_one_piece n path l C) (λ v k. below v (omega arith))

-- `fix_parity` goes on with what is said to be before closing
pub fix_is : (most number : ℕ) (g : Graph) (s : Settings) → fix_parity most number g s ≡ close_if (closing s) most number (searches.count g) (before_closing most number g s)
unfolding fix_parity
fix_is most number g s = go (leb (length (odd_list_of g)) 2)
  where
    n : ℕ
    n = searches.count g

    go : (b : Bool) → ◌≡◌ {A = Repairing} (elim b [ true ↦ close_if (closing s) most number n (repaired (drawn g)) | false ↦ close_if (closing s) most number n (apply_matching most number n (pairs_of g s (odd_list_of g)) (drawn g)) ])
        (close_if (closing s) most number n (elim b [ true ↦ repaired (drawn g) | false ↦ apply_matching most number n (pairs_of g s (odd_list_of g)) (drawn g) ]))
    go true = refl
    go false = refl

module _ (most number : ℕ) (g : Graph) (s : Settings) (G : Searchable (searches.count g) g.edges) (C : OnePiece (searches.count g) g.edges) where
  abbrev n : ℕ
  n = searches.count g

  below : 2 < length (odd_list_of g) → (v : ℕ) → 0 < count v (ends (pairs_of g s (odd_list_of g))) → v < n
  below many v k = odd_below n g.edges v (let a = pairs_of_lem g s (odd_list_of g) many (handshake n g.edges G.inside) in omega (arith, a.counts v))

  before_sound : (r : Repair) → before_closing most number g s ≡ repaired r → Searchable n r.edges × OnePiece n r.edges
  before_sound r e = subst (Sound number n) e (go (leb (length (odd_list_of g)) 2) refl)
    where
      go : (b : Bool) → leb (length (odd_list_of g)) 2 ≡ b → Sound number n (elim b [ true ↦ repaired (drawn g) | false ↦ apply_matching most number n (pairs_of g s (odd_list_of g)) (drawn g) ])
      go true t = (G, C)
      go false t = apply_sound most number n (pairs_of g s (odd_list_of g)) (drawn g) G C (below (leb-false (length (odd_list_of g)) 2 t))

  pub repair_searches : {es : List Edge} {p : Pair} → RepairSearch most number g s es p → (v : ℕ) → v < n → LeastFinite es p.from v (distance_at (distances n es p.from) v)
  unfolding count ends
  repair_searches {es = es} {p} (RepairSearch.retrace many h) v hv =
      let a = pair_search n h G C (below many) in
      least_finite n es a.0 a.1 p.from a.2 v hv
  repair_searches (RepairSearch.close {r = r} c e two) v hv =
      let a = before_sound r e in
      let odd = odd_nodes n r.edges in
      let u = get_or odd 0 0 in
      let hu : u < n = odd_below n r.edges u (omega (arith, pair_of odd two u, hit_same u)) in
      least_finite n r.edges a.0 a.1 u hu v hv

  pub pairing_searches : (i : ℕ) → i < length (odd_list_of g) → (v : ℕ) → v < n → LeastFinite g.edges (get_or (odd_list_of g) i 0) v (distance_in (rows n g.edges (odd_list_of g)) (get_or (odd_list_of g) i 0) v)
  pairing_searches i h v hv =
      let u = get_or (odd_list_of g) i 0 in
      subst (LeastFinite g.edges u v) (sym (row_known n g.edges (odd_list_of g) i v h)) (least_finite n g.edges G C u (odd_at n g.edges i h) v hv)

-- For every file that passes checks 1 to 7, 15 and 9
pub file_searches : (file : List ℕ) → Passed file → all_reached (length (build_graph (drawing_in file)).nodes) (build_graph (drawing_in file)).edges ≡ true → Searches file
unfolding repair_of
file_searches file passes reached =
    let g = build_graph (drawing_in file) in
    let s = (drawing_in file).settings in
    let G = graph_searchable file passes in
    let C = reached_one_piece (length g.nodes) g.edges reached in
    record {
      of_repair = repair_searches most_edges refused_edges g s G C;
      of_pairing = pairing_searches most_edges refused_edges g s G C;
      copies = λ r e. (fixed most_edges refused_edges g s G.inside r e).copied.length_is;
    }

-- so for every file that is accepted, whatever is lent
pub accepted_searches : (file : List ℕ) (lent : Lent) (answer : Planned) → (plan file lent).answer ≡ planned answer → Searches file
accepted_searches file lent answer e =
    let a = file_planned file lent answer e in
    let d = rw (drawing_graph (drawing_in file) lent) at (rw a.1 at e) in
    file_searches file (accepted_passes file a.0) (drawn_plan (build_graph (drawing_in file)) (drawing_in file).settings lent answer d).reached
